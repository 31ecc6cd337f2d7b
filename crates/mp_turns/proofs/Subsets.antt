-- Rising lists within other lists.
use Rattle.std.proofs.Common.{ℕ, ◌≤◌, List, length, get_or, arith, Contains}
use Rattle.std.specs.Prelude.{eqb}
use Rattle.std.specs.Cmp.{nat_eq_equiv}
use Rattle.std.specs.List.Sorted.{IsStrictlyIncreasing}
use Rattle.std.proofs.lemmas.Bool.{ne_eqb}
use Rattle.std.proofs.lemmas.List.Kept.{AllPairs-from_increasing}
use Rattle.std.proofs.lemmas.Map.Keys.{IsDistinct-from_apart}
use Rattle.std.proofs.lemmas.Map.Made.{length-le_from_is_member}
use Rattle.mp_clauses.proofs.Found.{any-by, any-found}

-- different numbers that a list has are no more than it is long
pub rising-few : (xs ys : List ℕ) → IsStrictlyIncreasing xs → ((i : ℕ) → Contains xs i → Contains ys i) → length xs ≤ length ys
rising-few xs ys h sub =
    length-le_from_is_member nat_eq_equiv xs ys
    (IsDistinct-from_apart eqb xs (λ i j d lt within. let below = AllPairs-from_increasing xs h i j d lt within in ne_eqb (get_or xs i d) (get_or xs j d) (λ e. absurd (omega arith))))
    (λ q m. let w = any-found (eqb q) xs m in any-by (eqb q) ys w.0 (sub w.0 w.1) w.2)
