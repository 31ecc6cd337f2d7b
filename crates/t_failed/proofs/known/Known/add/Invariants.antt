use Rattle.std.proofs.Common.{◌≡◌, ℕ, take}
use Rattle.std.specs.Prelude.{◌||◌}
use Rattle.mp_clauses.specs.Places.{has}
use Rattle.t_failed.proofs.known.Known.add.Given as goal

abbrev pub invariant-loop-lit : goal.invariant-loop-lit
invariant-loop-lit l = (p : ℕ) → has p l.self ≡ (has p l.initial.self || has p (take l.lit-index l.lits))
