use Rattle.std.proofs.Common.{◌≢◌, ◌<◌, ◌+◌, ◌*◌, ℕ, get_or}
use Rattle.t_equiv.proofs.images.has_opposites.Given as goal

abbrev pub invariant-loop-variable : goal.invariant-loop-variable
invariant-loop-variable l = (v : ℕ) → v < l.variable → get_or l.numbers (2 * v) 0 ≢ get_or l.numbers (2 * v + 1) 0
