use Rattle.std.proofs.Common.{◌≡◌, ◌+◌, ◌*◌, ℕ, min, take, length, get_or}
use Rattle.std.specs.Prelude.{count_by}
use Rattle.mp_clauses.specs.Places.{has}
use Rattle.mp_merging.proofs.mergeable.uses_of.Given as goal

abbrev pub invariant-loop-clause : goal.invariant-loop-clause
invariant-loop-clause l = record {
  len : length l.uses.items ≡ 2 * l.vars + 2;
  each : (p : ℕ) → get_or l.uses.items p 0 ≡ min 2 (count_by (has p) (take l.clause-index l.clause-items));
}
