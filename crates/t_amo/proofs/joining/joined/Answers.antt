use Rattle.std.proofs.Common.{◌∙◌, arith}
use Rattle.t_amo.proofs.Joins.{fresh-is, join-fits, join-is}
use Rattle.t_amo.proofs.joining.joined.Goals as goal

pub overflow_mul-result : goal.overflow_mul-result
overflow_mul-result c =
    let fresh = fresh-is c.args.store.now c.new-fresh.result (c.new-fresh.ensures.variable ∙ c.in_ok-next_variable.ensures) c.new-fresh.ensures.sign in
    let below = join-fits c.args.store.now c.args.chosen.now c.args.least c.new-fresh.result c.in_ok-top.top c.vars.ensures.sound c.requires.each_two c.requires.two c.requires.room c.requires.least fresh c.in_ok-top.ensures.rising c.in_ok-top.ensures.same in
    omega (arith, below)

pub returns : goal.returns
returns c =
    let fresh = fresh-is c.args.store.now c.new-fresh.result (c.new-fresh.ensures.variable ∙ c.in_ok-next_variable.ensures) c.new-fresh.ensures.sign in
    join-is c.args.store.now c.args.chosen.now c.args.least c.new-fresh.result c.in_ok-top.top c.new.result c.in_ok-added.added c.in_ok-costs.costs c.new-2.result c.vars.ensures.sound c.requires.each_two c.requires.two c.requires.room c.requires.least fresh
    c.in_ok-top.ensures.rising c.in_ok-top.ensures.same c.new.ensures c.in_ok-added.ensures c.in_ok-costs.ensures c.new-2.ensures
