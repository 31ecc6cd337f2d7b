use Rattle.std.proofs.Common.{refl}
use Rattle.mp_clauses.specs.Slots.{live_clauses}
use Rattle.t_failed.proofs.Roots.{below-settled, below-refuted, followed, followed-mentioned}
use Rattle.t_failed.proofs.root.follow.Goals as goal

pub returns-then-root-clause-root : goal.returns-then-root-clause-root
returns-then-root-clause-root c = below-refuted c.args.store.now c.args.first _ _ c.requires c.if-root.true

pub absorb-requires-clause-within : goal.absorb-requires-clause-within
absorb-requires-clause-within c = c.requires.within

pub absorb-requires-clause-settled : goal.absorb-requires-clause-settled
absorb-requires-clause-settled c = below-settled c.args.store.now c.args.first _ _ c.requires c.if-root.false

pub returns-clause-root : goal.returns-clause-root
returns-clause-root c = followed c.args.store.now c.args.first _ _ _ _ _ c.requires c.in_ok-rests.ensures.extended c.in_ok-rests.ensures.answer refl

pub returns-clause-mentioned : goal.returns-clause-mentioned
returns-clause-mentioned c = followed-mentioned c.args.store.now.vars (live_clauses c.args.store.now.slots) _ _ c.in_ok-rests.ensures.extended
