-- Options by their names.
use Rattle.std.proofs.Common.{◌≡◌, ◌<◌, ◌∷◌, ◌++◌, [], ℕ, zero, suc, List, Bool, true, false, not, refl, subst, arith}
use Rattle.std.specs.Prelude.{Contains, slice_index_or, length}
use Rattle.std.specs.List.{list_any}
use Rattle.std.specs.Str.{bytes_eq}
use Rattle.std.proofs.lemmas.Bool.{and_parts, or_parts, or_from}
use Rattle.mp_words.specs.CommandLines.{Given, no_twins, names_in}

-- each of the texts has the property
abbrev pub Each : (List ℕ → Type 0) → List (List ℕ) → Type 0
Each P [] = Unit {0}
Each P (x ∷ xs) = P x × Each P xs

each_at : (P : List ℕ → Type 0) (xs : List (List ℕ)) (x : List ℕ) → Each P xs → (k : ℕ) → k < length xs → slice_index_or xs k x ≡ x → P x
each_at P [] x h k b e = absurd (omega (arith, b))
each_at P (y ∷ ys) x (p, q) zero b e = subst P e p
each_at P (y ∷ ys) x (p, q) (suc k) b e = each_at P ys x q k (omega (arith, b)) e

pub each_of : (P : List ℕ → Type 0) (xs : List (List ℕ)) (x : List ℕ) → Each P xs → Contains xs x → P x
each_of P xs x h (k, b, e) = each_at P xs x h k b e

-- some option has the name
abbrev pub has : List ℕ → List Given → Bool
has name options = list_any (λ g. bytes_eq g.name name) options

pub true_not : (b : Bool) → not b ≡ true → b ≡ false
true_not true e = cc
true_not false e = refl

any_at : (q : List ℕ → Bool) (xs : List Given) (g : Given) (ys : List Given) → list_any q (names_in (xs ++ g ∷ ys)) ≡ false → q g.name ≡ false
any_at q [] g ys e = (or_parts (q g.name) (list_any q (names_in ys)) e).0
any_at q (x ∷ xs) g ys e = any_at q xs g ys (or_parts (q x.name) (list_any q (names_in (xs ++ g ∷ ys))) e).1

pub twins_at : (xs : List Given) (g : Given) (ys : List Given) → no_twins (names_in (xs ++ g ∷ ys)) ≡ true → has g.name xs ≡ false
twins_at [] g ys e = refl
twins_at (x ∷ xs) g ys e =
    let p = and_parts (not (list_any (λ other. bytes_eq x.name other) (names_in (xs ++ g ∷ ys)))) (no_twins (names_in (xs ++ g ∷ ys))) e in
    or_from (bytes_eq x.name g.name) (has g.name xs) (any_at (λ other. bytes_eq x.name other) xs g ys (true_not _ p.0)) (twins_at xs g ys p.1)
