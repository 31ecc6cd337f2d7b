use Rattle.std.proofs.Common.{◌≡◌, ℕ, take, not}
use Rattle.std.specs.Prelude.{◌&&◌}
use Rattle.mp_clauses.specs.Places.{has}
use Rattle.mp_clauses.specs.Tables.{marked}
use Rattle.mp_resting.proofs.kept.unmark.Given as goal

abbrev pub invariant-loop-lit : goal.invariant-loop-lit
invariant-loop-lit l = (p : ℕ) → marked l.marks.items p ≡ (marked l.initial.marks.items p && not (has p (take l.lit-index l.lits)))
