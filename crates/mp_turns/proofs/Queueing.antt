-- What a queue has after several items.
use Rattle.std.proofs.Common.{◌≡◌, ◌⊎◌, ℕ, ◌+◌, ◌≤◌, Bool, true, false, not, cond, List, [], ◌∷◌, ◌++◌, Contains, length, length-append, append_assoc, refl, sym, ◌∙◌, ap, subst, arith, inl, inr}
use Rattle.std.proofs.lemmas.Bool.{and_parts, not-true, false_from_ne_true, true≢false}
use Rattle.std.proofs.lemmas.List.{append-nil}
use Rattle.std.proofs.lemmas.List.Elements.{Contains-append_left, Contains-push}
use Rattle.mp_logic.proofs.Members.{Contains-none, Contains-first, Contains-later, Contains-cases}
use Rattle.mp_clauses.specs.Places.{is_in, no_repeats}
use Rattle.mp_store.specs.Queue.{queued}
use Rattle.mp_clauses.proofs.Found.{is_in-by, is_in-contains}
use Rattle.mp_turns.specs.Waiting.{all_queued}

pub queued-waits : (q : List ℕ) (x i : ℕ) → Contains q i → Contains (queued q x) i
queued-waits q x i h = elim (is_in x q) as (λ b. Contains (cond b q (q ++ x ∷ [])) i) [ true ↦ h | false ↦ Contains-append_left q (x ∷ []) i h ]

pub queued-own : (q : List ℕ) (x : ℕ) → Contains (queued q x) x
queued-own q x =
    let step : (b : Bool) → is_in x q ≡ b → Contains (cond b q (q ++ x ∷ [])) x =
    λ (t : Bool). elim t as (λ b. is_in x q ≡ b → Contains (cond b q (q ++ x ∷ [])) x) [ true ↦ λ e. is_in-contains q x e | false ↦ λ e. Contains-push q x ] in
    step (is_in x q) refl

pub length-queued : (q : List ℕ) (x : ℕ) → length (queued q x) ≤ length q + 1
length-queued q x = elim (is_in x q) as (λ b. length (cond b q (q ++ x ∷ [])) ≤ length q + 1) [ true ↦ omega arith | false ↦ omega (arith, length-append q (x ∷ [])) ]

pub queued-all-waits : (q xs : List ℕ) (i : ℕ) → Contains q i → Contains (all_queued q xs) i
queued-all-waits q [] i h = h
queued-all-waits q (x ∷ xs) i h = queued-all-waits (queued q x) xs i (queued-waits q x i h)

pub queued-all-own : (q xs : List ℕ) (i : ℕ) → Contains xs i → Contains (all_queued q xs) i
queued-all-own q [] i h = absurd (Contains-none i h)
queued-all-own q (x ∷ xs) i h =
    elim (Contains-cases x xs i h) [
      | inl e ↦ queued-all-waits (queued q x) xs i (subst (Contains (queued q x)) (sym e) (queued-own q x))
      | inr r ↦ queued-all-own (queued q x) xs i r
    ]

pub length-all-queued : (q xs : List ℕ) → length (all_queued q xs) ≤ length q + length xs
length-all-queued q [] = omega arith
length-all-queued q (x ∷ xs) = omega (arith, length-all-queued (queued q x) xs, length-queued q x)

cases_in : (q : List ℕ) (x i : ℕ) → Contains (q ++ x ∷ []) i → Contains q i ⊎ (i ≡ x)
cases_in [] x i h = elim (Contains-cases x [] i h) [ inl e ↦ inr e | inr n ↦ absurd (Contains-none i n) ]
cases_in (y ∷ q) x i h =
    elim (Contains-cases y (q ++ x ∷ []) i h) [
      | inl e ↦ inl (subst (Contains (y ∷ q)) (sym e) (Contains-first y q))
      | inr r ↦ elim (cases_in q x i r) [ inl w ↦ inl (Contains-later y q i w) | inr e ↦ inr e ]
    ]

-- items without repeats, of which none waits
pub queued-all-fresh : (q xs : List ℕ) → no_repeats xs ≡ true → ((i : ℕ) → Contains xs i → Contains q i → ⊥) → all_queued q xs ≡ q ++ xs
queued-all-fresh q [] n far = sym (append-nil q)
queued-all-fresh q (x ∷ xs) n far =
    let parts = and_parts (not (is_in x xs)) (no_repeats xs) n in
    let new : is_in x q ≡ false = false_from_ne_true (is_in x q) (λ t. far x (Contains-first x xs) (is_in-contains q x t)) in
    let put : queued q x ≡ q ++ x ∷ [] = ap (λ b. cond b q (q ++ x ∷ [])) new in
    let rest = queued-all-fresh (q ++ x ∷ []) xs parts.1 (λ i h m.
    elim (cases_in q x i m) [
      | inl w ↦ far i (Contains-later x xs i h) w
      | inr e ↦ true≢false (sym (is_in-by xs x (subst (Contains xs) e h)) ∙ not-true (is_in x xs) parts.0)
    ]) in
    ap (λ r. all_queued r xs) put ∙ rest ∙ append_assoc q (x ∷ []) xs

pub queued-all-first : (xs : List ℕ) → no_repeats xs ≡ true → all_queued [] xs ≡ xs
queued-all-first xs n = queued-all-fresh [] xs n (λ i h m. Contains-none i m)
