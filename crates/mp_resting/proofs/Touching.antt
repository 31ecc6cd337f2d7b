-- Marks that stay, and come.
use Rattle.std.proofs.Common.{◌≡◌, ℕ, ◌+◌, ◌<◌, ◌≤◌, Bool, true, false, List, length, get_or, set, sym, ◌∙◌, subst, arith, inl, inr, Contains}
use Rattle.std.proofs.lemmas.Bool.{cases_eq, cases_lt, true≢false}
use Rattle.std.proofs.lemmas.List.{get_or_default, get_or_past, length-set, get_or-set_same, get_or-set_other}
use Rattle.mp_resting.specs.Resting.{is_touched}

pub marked-before : (marks : List Bool) (at i : ℕ) → is_touched marks i ≡ true → is_touched (set marks at true) i ≡ true
marked-before marks at i h =
    elim (cases_lt i (length marks)) [
      | inl lt ↦ elim (cases_eq i at) [
        | inl e ↦ rw (e) (get_or-set_same marks at true true (omega (arith, lt, e)))
        | inr n ↦ get_or-set_other marks at i true true n ∙ h
      ]
      | inr ge ↦ let long = length-set marks at true in get_or_past (set marks at true) i true (omega (arith, ge, long))
    ]

pub marked-own : (marks : List Bool) (at : ℕ) → at < length marks → is_touched (set marks at true) at ≡ true
marked-own marks at lt = get_or-set_same marks at true true lt

-- of one id more, and of all
pub ids-more : (ids : List ℕ) (n : ℕ) (old new : List Bool) → ((i : ℕ) → is_touched old i ≡ true → is_touched new i ≡ true) → ((k : ℕ) → k < n → is_touched old (get_or ids k 0) ≡ true) → is_touched new (get_or ids n 0) ≡ true → (k : ℕ) → k < n + 1 → is_touched new (get_or ids k 0) ≡ true
ids-more ids n old new stays before own k lt =
    elim (cases_eq k n) [
      | inl e ↦ subst (λ i. is_touched new (get_or ids i 0) ≡ true) (sym e) own
      | inr other ↦ stays (get_or ids k 0) (before k (omega (arith, lt, other)))
    ]

pub ids-each : (ids : List ℕ) (n : ℕ) (marks : List Bool) → length ids ≤ n → ((k : ℕ) → k < n → is_touched marks (get_or ids k 0) ≡ true) → (i : ℕ) → Contains ids i → is_touched marks i ≡ true
ids-each ids n marks le each i m =
    let at : get_or ids m.0 0 ≡ i = get_or_default ids m.0 0 i m.1 ∙ m.2 in
    let lt = m.1 in
    subst (λ k. is_touched marks k ≡ true) at (each m.0 (omega (arith, le, lt)))

-- an id that is not touched is below the mark
pub untouched-old : (marks : List Bool) (id : ℕ) → is_touched marks id ≡ false → id < length marks
untouched-old marks id f =
    elim (cases_lt id (length marks)) [
      | inl lt ↦ lt
      | inr ge ↦ absurd (true≢false (sym (get_or_past marks id true ge) ∙ f))
    ]
