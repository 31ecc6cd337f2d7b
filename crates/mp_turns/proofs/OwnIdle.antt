-- Techniques whose candidates in a store are those of its labelled state.
use Rattle.std.proofs.Common.{◌≡◌, ℕ, true, not, List, [], ◌∷◌, ◌++◌, length, refl, sym, ◌∙◌, ap, subst, arith, inl, inr, Contains}
use Rattle.std.proofs.lemmas.Bool.{cases_Bool, and_parts, and_from, true≢false}
use Rattle.std.proofs.lemmas.List.Elements.{Contains-append_left}
use Rattle.mp_logic.specs.Keeping.{State}
use Rattle.mp_clauses.specs.Places.{is_in, no_repeats}
use Rattle.mp_store.specs.Techniques.{Technique, HasIdle}
use Rattle.mp_clauses.proofs.Found.{is_in-by, is_in-contains}

-- what is left of a list without repeats has none
first-once : (xs ys : List ℕ) → no_repeats (xs ++ ys) ≡ true → no_repeats xs ≡ true
first-once [] ys h = refl
first-once (x ∷ xs) ys h =
    let parts = and_parts (not (is_in x (xs ++ ys))) (no_repeats (xs ++ ys)) h in
    let new : not (is_in x xs) ≡ true = elim (cases_Bool (is_in x xs)) [
      | inl t ↦ absurd (true≢false (sym parts.0 ∙ ap not (is_in-by (xs ++ ys) x (Contains-append_left xs ys x (is_in-contains xs x t)))))
      | inr f ↦ ap not f
    ] in
    and_from (not (is_in x xs)) (no_repeats xs) new (first-once xs ys parts.1)

-- where the first candidates are idle, so many are
pub own-idle : (technique : Technique) (s : State) (first rest : List ℕ) → technique.candidates s ≡ first ++ rest → no_repeats (first ++ rest) ≡ true → ((i : ℕ) → Contains first i → technique.IsIdle s i) → HasIdle technique s (length first)
own-idle technique s first rest e once idle = record {
  idle = first;
  many = omega arith;
  once = first-once first rest once;
  each = λ k m. (subst (λ xs. Contains xs k) (sym e) (Contains-append_left first rest k m), idle k m);
}
