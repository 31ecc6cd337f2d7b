-- What a copy token by token leaves.
use Rattle.std.specs.Prelude.{ℕ, List, [], ◌∷◌, ◌++◌}
use Rattle.std.specs.List.{flat_map}
use Rattle.mp_text.specs.Tokens.{Word}

-- the words, each with one blank behind it
abbrev pub spaced : List Word → List ℕ
spaced words = flat_map (λ w. w.text ++ 32 ∷ []) words
