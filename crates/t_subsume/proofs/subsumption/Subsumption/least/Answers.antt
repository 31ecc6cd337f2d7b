use Rattle.std.proofs.Common.{sym, subst}
use Rattle.mp_clauses.specs.Slots.{clause_of}
use Rattle.t_subsume.specs.Containment.{HasNoHolderBelow}
use Rattle.t_subsume.proofs.Subsuming.{clause-normal, no-holder, same_some}
use Rattle.t_subsume.proofs.subsumption.Subsumption.least.Goals as goal

pub least_holder-requires-clause-normal : goal.least_holder-requires-clause-normal
least_holder-requires-clause-normal c = clause-normal c.args.store.now c.args.id c.clause-clause.result.now c.vars.ensures.sound (sym c.clause-clause.ensures)

pub least_holder-requires-clause-rested : goal.least_holder-requires-clause-rested
least_holder-requires-clause-rested c = no-holder c.args.id c.args.self.now.mark c.least_for-known.result c.args.store.now.slots c.clause-clause.result.now c.requires.rested (sym c.clause-clause.ensures) c.least_for-known.ensures.within c.least_for-known.ensures.old

pub returns : goal.returns
returns c d e = subst (λ x. HasNoHolderBelow c.least_holder.result c.args.store.now.slots x c.args.id) (same_some (clause_of c.args.store.now.slots c.args.id) c.clause-clause.result.now d (sym c.clause-clause.ensures) e) c.least_holder.ensures
