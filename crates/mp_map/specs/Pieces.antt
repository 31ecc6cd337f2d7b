-- A text cut into pieces.
use Rattle.std.specs.Prelude.{ℕ, Bool, true, false, List, [], ◌∷◌, nat_eq}
use Rattle.std.specs.List.{slice_split}

-- the pieces of a text between bytes of this value
abbrev pub pieces_at : ℕ → List ℕ → List (List ℕ)
pieces_at separator bytes = slice_split (λ b. nat_eq b separator) bytes

abbrev pub is_empty : {X : Type 0} → List X → Bool
is_empty [] = true
is_empty (x ∷ xs) = false
