use Rattle.std.proofs.Common.{◌≡◌, ◌+◌, ℕ, [], ◌∷◌, ◌++◌, length, take, cond}
use Rattle.mp_clauses.specs.Places.{has}
use Rattle.mp_clauses.specs.Tables.{at, spare_at}
use Rattle.mp_clauses.proofs.links.link.Given as goal

abbrev pub invariant-loop-lit : goal.invariant-loop-lit
invariant-loop-lit l = record {
  len : length l.lists.items ≡ length l.initial.lists.items;
  each : (p : ℕ) → (at l.lists.items p ≡ at l.initial.lists.items p ++ cond (has p (take l.lit-index l.clause)) (l.id ∷ []) [])
      × (spare_at l.lists.items p + cond (has p (take l.lit-index l.clause)) 1 0 ≡ spare_at l.initial.lists.items p);
}
