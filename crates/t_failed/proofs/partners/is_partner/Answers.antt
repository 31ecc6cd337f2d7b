use Rattle.t_failed.proofs.Searching.{partner-beside, partner-single, partner-weightless, partner-itself, partner-made, set-has, set-lacks}
use Rattle.t_failed.proofs.partners.is_partner.Goals as goal

pub returns-then-weight-eq0 : goal.returns-then-weight-eq0
returns-then-weight-eq0 c = partner-weightless c.args.store.now c.args.lit c.args.other c.weight.result c.weight.ensures c.if-weight-eq0.true

pub returns-then-are_same : goal.returns-then-are_same
returns-then-are_same c = partner-itself c.args.store.now c.args.lit c.args.other c.are_same.result c.are_same.ensures c.if-are_same.true

pub returns-then-has : goal.returns-then-has
returns-then-has c = partner-beside c.args.store.now c.args.lit c.args.other c.args.beside.now (c.requires.beside c.args.other) (set-has c.args.beside.now c.args.other c.has.result c.has.ensures c.if-has.true)

pub returns-then-has-2 : goal.returns-then-has-2
returns-then-has-2 c = partner-single c.args.store.now c.args.lit c.args.other (c.requires.units.some c.args.other (set-has c.args.units.now c.args.other c.has-2.result c.has-2.ensures c.if-has-2.true))

pub returns : goal.returns
returns c =
    partner-made c.args.store.now c.args.lit c.args.other c.args.beside.now c.weight.result c.are_same.result c.vars.ensures.sound c.requires.unrefuted (c.requires.beside c.args.other) c.requires.alone
    (λ m. set-lacks c.args.units.now c.args.other c.has-2.result c.has-2.ensures c.if-has-2.false (c.requires.units.all c.args.other m))
    (set-lacks c.args.beside.now c.args.other c.has.result c.has.ensures c.if-has.false) c.weight.ensures c.if-weight-eq0.false c.are_same.ensures c.if-are_same.false
