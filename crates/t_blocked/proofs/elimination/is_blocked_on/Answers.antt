use Rattle.std.proofs.Common.{ap, sym, ◌∙◌}
use Rattle.std.specs.Prelude.{is_none}
use Rattle.mp_logic.specs.Literal.{Literal, negation}
use Rattle.mp_store.proofs.Clashes.{ids-live}
use Rattle.t_blocked.proofs.Stopped.{stopped-by, walked}
use Rattle.t_blocked.proofs.elimination.is_blocked_on.Goals as goal

pub returns-then-is_stop : goal.returns-then-is_stop
returns-then-is_stop c = sym (stopped-by c.args.lit.variable c.args.hand.now c.args.store.now.slots (negation c.args.lit) c.last.result (rw c.negated-negated.ensures at (sym c.is_stop.ensures ∙ c.if-is_stop.true)))

pub find_stop-requires : goal.find_stop-requires
find_stop-requires c = rw (c.occurrences.ensures.rising, c.negated-negated.ensures) (ids-live (negation c.args.lit) c.args.store.now.slots)

pub returns-in-Some : goal.returns-in-Some
returns-in-Some c =
    let own = ap (λ (l : Literal). l.variable) c.lit.view_is in
    sym (ap is_none c.in-Some.is) ∙ walked c.args.lit c.args.hand.now c.args.store.now.slots c.negated-negated.result c.lit.inside.variable c.occurrences.result.now c.find_stop.result c.negated-negated.ensures own c.occurrences.ensures.rising c.find_stop.ensures

pub returns-in-None : goal.returns-in-None
returns-in-None c =
    let own = ap (λ (l : Literal). l.variable) c.lit.view_is in
    sym (ap is_none c.in-None.is) ∙ walked c.args.lit c.args.hand.now c.args.store.now.slots c.negated-negated.result c.lit.inside.variable c.occurrences.result.now c.find_stop.result c.negated-negated.ensures own c.occurrences.ensures.rising c.find_stop.ensures
