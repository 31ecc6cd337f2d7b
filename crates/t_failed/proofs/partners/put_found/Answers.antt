use Rattle.mp_clauses.specs.Slots.{live_clauses}
use Rattle.t_failed.proofs.FailedTurns.{negated-up}
use Rattle.t_failed.proofs.Searching.{derived-by, failed-by, negated-named}
use Rattle.t_failed.proofs.partners.put_found.Goals as goal

pub probe-requires-clause-lit : goal.probe-requires-clause-lit
probe-requires-clause-lit c = negated-up c.args.store.now.vars c.args.lit c.negated.result c.negated.ensures c.requires.lit

pub probe-requires-clause-occurs : goal.probe-requires-clause-occurs
probe-requires-clause-occurs c = negated-named (live_clauses c.args.store.now.slots) _ c.negated.result c.requires.mentioned

pub returns-then-branch-clause-found : goal.returns-then-branch-clause-found
returns-then-branch-clause-found c = derived-by c.args.store.now c.args.lit c.negated.result _ _ c.literals.result.now _ _ c.negated.ensures c.if-branch.true c.in_ok-probe.ensures.answer c.requires.mentioned c.literals.ensures.literals c.in_ok-put_partners.ensures

pub returns-clause-found : goal.returns-clause-found
returns-clause-found c = failed-by c.args.store.now c.args.lit c.negated.result _ _ c.args.labels.now _ _ c.negated.ensures c.if-branch.false c.in_ok-probe.ensures.answer c.requires.labels c.in_ok-put_partners-2.ensures
