use Rattle.std.proofs.Common.{refl}
use Rattle.t_failed.proofs.FailedTurns.{repairs-within, untouched-run}
use Rattle.t_failed.proofs.failing.failed.Goals as goal

pub returns-clause-turns : goal.returns-clause-turns
returns-clause-turns c = repairs-within c.args.budget c.args.store.now c.take_each.new.store c.take_each.ensures.stays

pub returns-in_err-new-clause-run : goal.returns-in_err-new-clause-run
returns-in_err-new-clause-run c = untouched-run c.args.store.now c.args.store.now refl
