-- A table of variables with one more mark.
use Rattle.std.proofs.Common.{◌≡◌, ◌<◌, ◌≤◌, ◌+◌, ◌-◌, ◌||◌, ℕ, zero, suc, Bool, true, false, cond, List, [], ◌∷◌, ◌++◌, Contains, get_or, set, length, take, filter, replicate, refl, ap, sym, ◌∙◌, arith, inl, inr}
use Rattle.std.specs.Prelude.{nat_eq}
use Rattle.std.specs.List.{list_any, range_with_len}
use Rattle.std.proofs.Math.Bool.{or-true, or-false, or_assoc}
use Rattle.std.proofs.lemmas.Bool.{cases_eq, eq-eqb, ne_eqb}
use Rattle.std.proofs.lemmas.List.{get_or-set_same, get_or-set_other}
use Rattle.std.proofs.lemmas.List.Folds.{list_any_more}
use Rattle.std.proofs.lemmas.List.Elements.{filter-append}
use Rattle.mp_logic.specs.Truth.{value_of}
use Rattle.mp_logic.specs.Keeping.{State}
use Rattle.mp_labels.specs.UnitForm.{is_used, names_of}
use Rattle.mp_labels.proofs.Lists.{range_with_len_more, filter_agree_at, Contains-from_range}

pub value_of-marked : (used : List Bool) (u v : ℕ) → 1 ≤ u → u ≤ length used → 1 ≤ v → value_of (set used (u - 1) true) v ≡ (value_of used v || nat_eq u v)
value_of-marked used u v a b c =
    elim (cases_eq u v) [
      | inl e ↦
          let same : get_or (set used (u - 1) true) (v - 1) false ≡ true = ap (λ w. get_or (set used (u - 1) true) (w - 1) false) (sym e) ∙ get_or-set_same used (u - 1) true false (omega arith) in
          same ∙ sym (ap (λ t. value_of used v || t) (eq-eqb u v e) ∙ or-true (value_of used v))
      | inr n ↦
          get_or-set_other used (u - 1) (v - 1) true false (λ e. n (omega arith)) ∙ sym (ap (λ t. value_of used v || t) (ne_eqb u v n) ∙ or-false (value_of used v))
    ]

-- one more of the list: what was marked before or by the front, or is by the next one
pub marked_more : {X : Type 0} (p : X → Bool) (xs : List X) (i : ℕ) (d : X) → i < length xs → (old now next : Bool) → now ≡ (old || list_any p (take i xs)) → next ≡ (now || p (get_or xs i d))
    → next ≡ (old || list_any p (take (i + 1) xs))
marked_more p xs i d l old now next e f =
    f ∙ (ap (λ t. t || p (get_or xs i d)) e ∙ (or_assoc old (list_any p (take i xs)) (p (get_or xs i d)) ∙ ap (λ t. old || t) (sym (list_any_more p xs i d l))))

pub none_marked : (b : Bool) → b ≡ (b || false)
none_marked b = sym (or-false b)

pub filter-range_more : (p : ℕ → Bool) (a n : ℕ) → filter p (range_with_len a (n + 1)) ≡ filter p (range_with_len a n) ++ filter p ((a + n) ∷ [])
filter-range_more p a n = ap (filter p) (range_with_len_more a n) ∙ filter-append p (range_with_len a n) ((a + n) ∷ [])

-- one more place of the table: its variable is kept where it is marked
pub marked_range : (used : List Bool) (i : ℕ) (b : Bool) (names names' : List ℕ) → get_or used i false ≡ b → names ≡ filter (value_of used) (range_with_len 1 i) → names' ≡ names ++ cond b ((i + 1) ∷ []) []
    → names' ≡ filter (value_of used) (range_with_len 1 (i + 1))
marked_range used i b names names' at e f =
    let place : value_of used (1 + i) ≡ b = ap (λ k. get_or used k false) (omega arith) ∙ at in
    let last : cond b ((i + 1) ∷ []) [] ≡ filter (value_of used) ((1 + i) ∷ []) = ap (λ t. cond t ((i + 1) ∷ []) []) (sym place) ∙ ap (λ k. cond (value_of used (1 + i)) (k ∷ []) []) (omega arith) in
    f ∙ (ap (λ t. names ++ t) last ∙ (ap (λ t. t ++ filter (value_of used) ((1 + i) ∷ [])) e ∙ sym (filter-range_more (value_of used) 1 i)))

none_there : (n i : ℕ) → get_or (replicate n false) i false ≡ false
none_there zero i = refl
none_there (suc n) zero = refl
none_there (suc n) (suc i) = none_there n i

-- the marked variables are the names
pub names_from_marks : (s : State) (used : List Bool) → length used ≡ s.vars → ((v : ℕ) → 1 ≤ v → value_of used v ≡ (value_of (replicate s.vars false) v || is_used s v))
    → filter (value_of used) (range_with_len 1 (length used)) ≡ names_of s
names_from_marks s used e h =
    let agree : (v : ℕ) → Contains (range_with_len 1 (length used)) v → value_of used v ≡ is_used s v =
    λ v i. h v (Contains-from_range 1 (length used) v i).0 ∙ ap (λ b. b || is_used s v) (none_there s.vars (v - 1)) in
    filter_agree_at (value_of used) (is_used s) (range_with_len 1 (length used)) agree ∙ ap (λ n. filter (is_used s) (range_with_len 1 n)) e
