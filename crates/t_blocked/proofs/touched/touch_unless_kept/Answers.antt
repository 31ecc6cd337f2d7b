use Rattle.std.proofs.Common.{inr}
use Rattle.t_blocked.proofs.touched.touch_unless_kept.Goals as goal

pub returns-clause-own : goal.returns-clause-own
returns-clause-own c = inr (λ id d e m. c.touch.ensures.own id ((c.occurrences.ensures.exact.each id).1 (d, e, m)))
