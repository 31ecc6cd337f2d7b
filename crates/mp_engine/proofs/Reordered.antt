-- What a test leaves of clauses in another order is what it leaves of them, in another order.
use Rattle.std.proofs.Common.{◌≡◌, ◌≤◌, ◌+◌, ℕ, Bool, true, false, ◌&&◌, cond, List, [], ◌∷◌, Contains, filter, sum_by, refl, ap, sym, ◌∙◌, subst, arith}
use Rattle.std.specs.Prelude.{◌==◌}
use Rattle.std.specs.List.{remove}
use Rattle.std.specs.List.Sorted.{IsPermutation}
use Rattle.std.proofs.lemmas.Bool.{and_parts, and_from, eq-eqb, eqb-true, false≢true}
use Rattle.std.proofs.lemmas.List.Sorted.{IsPermutation-refl, IsPermutation-sym, IsPermutation-trans, IsPermutation-cons, IsPermutation-remove, sum_by-IsPermutation}
use Rattle.std.proofs.lemmas.List.Sums.{sum_by-cons}
use Rattle.mp_logic.specs.Literal.{Literal}
use Rattle.mp_logic.proofs.Members.{Contains-first, Contains-later}
use Rattle.mp_clauses.specs.Places.{place_of}
use Rattle.mp_clauses.proofs.Pricing.{same-place}
use Rattle.mp_labels.proofs.Lists.{sum_by-filter}

-- two clauses have the same literals in the same order
abbrev is_same : List Literal → List Literal → Bool
is_same [] [] = true
is_same [] (l ∷ d) = false
is_same (k ∷ c) [] = false
is_same (k ∷ c) (l ∷ d) = (place_of k == place_of l) && is_same c d

same_itself : (c : List Literal) → is_same c c ≡ true
same_itself [] = refl
same_itself (k ∷ c) = and_from (place_of k == place_of k) (is_same c c) (eq-eqb (place_of k) (place_of k) refl) (same_itself c)

same_equal : (c d : List Literal) → is_same c d ≡ true → c ≡ d
same_equal [] [] h = refl
same_equal [] (l ∷ d) h = absurd (false≢true h)
same_equal (k ∷ c) [] h = absurd (false≢true h)
same_equal (k ∷ c) (l ∷ d) h =
    let parts = and_parts (place_of k == place_of l) (is_same c d) h in
    ap (λ (x : Literal). x ∷ c) (same-place k l (eqb-true (place_of k) (place_of l) parts.0)) ∙ ap (λ (x : List Literal). l ∷ x) (same_equal c d parts.1)

-- how often a clause is there
abbrev times : List Literal → List (List Literal) → ℕ
times c cs = sum_by (λ d. cond (is_same c d) 1 0) cs

times-some : (c : List Literal) (cs : List (List Literal)) → 1 ≤ times c cs → Contains cs c
times-some c [] h = absurd (omega arith)
times-some c (d ∷ cs) h =
    let all = sum_by-cons (λ x. cond (is_same c x) 1 0) d cs in
    let step : (b : Bool) → is_same c d ≡ b → 1 ≤ cond b 1 0 + times c cs → Contains (d ∷ cs) c =
    λ (b : Bool). elim b as (λ b. is_same c d ≡ b → 1 ≤ cond b 1 0 + times c cs → Contains (d ∷ cs) c) [
      | true ↦ λ e g. subst (λ (x : List Literal). Contains (x ∷ cs) c) (same_equal c d e) (Contains-first c cs)
      | false ↦ λ e g. Contains-later d cs c (times-some c cs (omega (arith, g)))
    ] in
    step (is_same c d) refl (omega (arith, h, all))

times-first : (c : List Literal) (cs : List (List Literal)) → times c (c ∷ cs) ≡ 1 + times c cs
times-first c cs = sum_by-cons (λ x. cond (is_same c x) 1 0) c cs ∙ ap (λ (b : Bool). cond b 1 0 + times c cs) (same_itself c)

-- lists with each clause equally often
same_times : (cs ds : List (List Literal)) → ((c : List Literal) → times c cs ≡ times c ds) → IsPermutation cs ds
same_times [] [] h = IsPermutation-refl []
same_times [] (d ∷ ds) h = let e = h d in let one = times-first d ds in absurd (omega (arith, e, one))
same_times (c ∷ cs) ds h =
    let e = h c in
    let one = times-first c cs in
    let at = times-some c ds (omega (arith, e, one)) in
    let moved = IsPermutation-remove ds at.0 c at.1 (sym at.2) in
    let rest = remove ds at.0 in
    let less : (d : List Literal) → times d cs ≡ times d rest =
    λ d.
    let f : List Literal → ℕ = λ x. cond (is_same d x) 1 0 in
    let all = h d in
    let own = sum_by-cons f c cs in
    let other = sum_by-IsPermutation f ds (c ∷ rest) moved in
    let parts = sum_by-cons f c rest in
    omega (arith, all, own, other, parts) in
    IsPermutation-trans (c ∷ cs) (c ∷ rest) ds (IsPermutation-cons c cs rest (same_times cs rest less)) (IsPermutation-sym ds (c ∷ rest) moved)

pub filter_reordered : (p : List Literal → Bool) (cs ds : List (List Literal)) → IsPermutation cs ds → IsPermutation (filter p cs) (filter p ds)
filter_reordered p cs ds h =
    same_times (filter p cs) (filter p ds)
    (λ c.
    let f : List Literal → ℕ = λ d. cond (is_same c d) 1 0 in
    sum_by-filter f p cs ∙ (sym (sum_by-IsPermutation (λ d. cond (p d) (f d) 0) cs ds h) ∙ sym (sum_by-filter f p ds)))
