-- The lowest of some literals that passes a test.
use Rattle.std.proofs.Common.{◌≡◌, ℕ, ◌+◌, ◌<◌, true, List, [], ◌∷◌, length, get_or, drop, refl, sym, ◌∙◌, ap, subst, inl, inr, Contains, add-one, drop-cons}
use Rattle.std.specs.Prelude.{Some, None}
use Rattle.std.proofs.lemmas.Bool.{and_parts}
use Rattle.mp_logic.specs.Literal.{Literal}
use Rattle.mp_logic.specs.Normal.{literals_rise}
use Rattle.mp_logic.proofs.Members.{Contains-none, Contains-cases}
use Rattle.mp_logic.proofs.Rising.{at_least}
use Rattle.t_matching.specs.Lowest.{IsLowestAmong}

-- all that pass are still to be looked at
pub record AreLeft (P : Literal → Type 0) (rest all : List Literal) : Type 0 where
  pub passing : (k : Literal) → Contains all k → P k → Contains rest k
  pub rising : literals_rise rest ≡ true

rise-rest : (a : Literal) (c : List Literal) → literals_rise (a ∷ c) ≡ true → literals_rise c ≡ true
rise-rest a [] h = refl
rise-rest a (b ∷ c) h = (and_parts _ (literals_rise (b ∷ c)) h).1

pub left-cons : (xs : List Literal) (i : ℕ) (x : Literal) → i < length xs → x ≡ get_or xs i x → drop i xs ≡ x ∷ drop (i + 1) xs
left-cons xs i x h e =
    let front : drop i xs ≡ get_or xs i x ∷ drop (i + 1) xs = rw (add-one, drop-cons xs i x) in
    front ∙ ap (λ (y : Literal). y ∷ drop (i + 1) xs) (sym e)

pub left-step : (P : Literal → Type 0) (xs : List Literal) (i : ℕ) (x : Literal) → i < length xs → x ≡ get_or xs i x → (P x → ⊥) → AreLeft P (drop i xs) xs → AreLeft P (drop (i + 1) xs) xs
left-step P xs i x h e unlike a =
    let own = left-cons xs i x h e in
    let was : AreLeft P (x ∷ drop (i + 1) xs) xs = subst (λ (ys : List Literal). AreLeft P ys xs) own a in
    record {
      passing = λ k j m. elim (Contains-cases x (drop (i + 1) xs) k (was.passing k j m)) [ inl f ↦ absurd (unlike (subst P f m)) | inr r ↦ r ];
      rising = rise-rest x (drop (i + 1) xs) was.rising;
    }

pub left-found : (P : Literal → Type 0) (xs : List Literal) (i : ℕ) (x : Literal) → i < length xs → x ≡ get_or xs i x → P x → AreLeft P (drop i xs) xs → IsLowestAmong P (λ m. Contains xs m) (Some x)
left-found P xs i x h e match a =
    let own = left-cons xs i x h e in
    let was : AreLeft P (x ∷ drop (i + 1) xs) xs = subst (λ (ys : List Literal). AreLeft P ys xs) own a in
    (match, λ k j m. at_least x (drop (i + 1) xs) was.rising k (was.passing k j m))

pub left-none : (P : Literal → Type 0) (xs : List Literal) (i : ℕ) → drop i xs ≡ [] → AreLeft P (drop i xs) xs → IsLowestAmong P (λ m. Contains xs m) None
left-none P xs i z a m j match = Contains-none m (subst (λ (ys : List Literal). Contains ys m) z (a.passing m j match))
