use Rattle.std.proofs.Common.{◌∙◌, refl, sym, ap, arith}
use Rattle.mp_logic.specs.Literal.{Literal, negation}
use Rattle.t_equiv.proofs.Adding.{IsPair, paired, twice, steps-none, steps-more, dead-none, other-length}
use Rattle.t_equiv.proofs.numbering.add_clause.Goals as goal

pub returns-then-not-live : goal.returns-then-not-live
returns-then-not-live c = steps-none c.args.store.now.vars c.args.store.now.slots c.args.id c.args.from.now.items c.args.to.now.items (dead-none c.args.store.now.slots c.args.id (sym c.live.ensures ∙ c.if-not-live.true)) c.requires.steps

pub returns-then-clause-ne2 : goal.returns-then-clause-ne2
returns-then-clause-ne2 c = steps-none c.args.store.now.vars c.args.store.now.slots c.args.id c.args.from.now.items c.args.to.now.items (other-length c.args.store.now.slots c.args.id c.clause-clause.result.now c.clause-clause.ensures c.if-clause-ne2.true) c.requires.steps

pub add_step-requires-clause-small : goal.add_step-requires-clause-small
add_step-requires-clause-small c =
    let w : IsPair c.args.store.now c.args.id c.index-clause-0.result c.index-clause-1.result = paired c.args.store.now c.args.id c.clause-clause.result.now c.index-clause-0.result c.index-clause-1.result c.requires.sound c.clause-clause.ensures c.if-clause-ne2.false c.index-clause-0.is c.index-clause-1.is in
    omega (arith, w.first.1, ap (λ (l : Literal). l.variable) c.negated.ensures, c.requires.small)

pub add_step-requires-clause-small_too : goal.add_step-requires-clause-small_too
add_step-requires-clause-small_too c =
    let w : IsPair c.args.store.now c.args.id c.index-clause-0.result c.index-clause-1.result = paired c.args.store.now c.args.id c.clause-clause.result.now c.index-clause-0.result c.index-clause-1.result c.requires.sound c.clause-clause.ensures c.if-clause-ne2.false c.index-clause-0.is c.index-clause-1.is in
    omega (arith, w.second.1, c.requires.small)

pub add_step-requires-2-clause-small : goal.add_step-requires-2-clause-small
add_step-requires-2-clause-small c =
    let w : IsPair c.args.store.now c.args.id c.index-clause-0.result c.index-clause-1.result = paired c.args.store.now c.args.id c.clause-clause.result.now c.index-clause-0.result c.index-clause-1.result c.requires.sound c.clause-clause.ensures c.if-clause-ne2.false c.index-clause-0.is c.index-clause-1.is in
    omega (arith, w.second.1, ap (λ (l : Literal). l.variable) c.negated-2.ensures, c.requires.small)

pub add_step-requires-2-clause-small_too : goal.add_step-requires-2-clause-small_too
add_step-requires-2-clause-small_too c =
    let w : IsPair c.args.store.now c.args.id c.index-clause-0.result c.index-clause-1.result = paired c.args.store.now c.args.id c.clause-clause.result.now c.index-clause-0.result c.index-clause-1.result c.requires.sound c.clause-clause.ensures c.if-clause-ne2.false c.index-clause-0.is c.index-clause-1.is in
    omega (arith, w.first.1, c.requires.small)

pub returns : goal.returns
returns c =
    let w : IsPair c.args.store.now c.args.id c.index-clause-0.result c.index-clause-1.result = paired c.args.store.now c.args.id c.clause-clause.result.now c.index-clause-0.result c.index-clause-1.result c.requires.sound c.clause-clause.ensures c.if-clause-ne2.false c.index-clause-0.is c.index-clause-1.is in
    steps-more c.args.store.now.vars c.args.store.now.slots c.args.id c.args.from.now.items c.args.to.now.items c.add_step-2.new.from.items c.add_step-2.new.to.items c.index-clause-0.result c.index-clause-1.result w.clause w.first w.second
    (twice c.args.from.now.items c.add_step.new.from.items c.add_step-2.new.from.items c.negated.result c.negated-2.result (negation c.index-clause-0.result) (negation c.index-clause-1.result) c.in_ok-add_step.ensures.starts c.in_ok-add_step-2.ensures.starts c.negated.ensures c.negated-2.ensures)
    (twice c.args.to.now.items c.add_step.new.to.items c.add_step-2.new.to.items c.index-clause-1.result c.index-clause-0.result c.index-clause-1.result c.index-clause-0.result c.in_ok-add_step.ensures.ends c.in_ok-add_step-2.ensures.ends refl refl)
    c.requires.steps
