-- Drawn clauses are not empty.
use Rattle.std.proofs.Common.{◌≡◌, ◌∙◌, ℕ, Bool, false, List, [], ◌∷◌, length, refl, ap, All}
use Rattle.std.specs.Prelude.{◌==◌, ◌||◌}
use Rattle.std.proofs.lemmas.List.Elements.{All-head, All-tail}
use Rattle.mp_logic.specs.Literal.{Literal}
use Rattle.mp_clauses.specs.Slots.{has_empty}
use Rattle.yardstick.specs.Drawn.{IsDrawn}

pub none_empty : (n : ℕ) (cs : List (List Literal)) → All (IsDrawn n) cs → has_empty cs ≡ false
none_empty n [] h = refl
none_empty n (c ∷ cs) h =
    let d : IsDrawn n c = All-head (IsDrawn n) c cs h in
    let filled : (length c == 0) ≡ false = ap (λ k. k == 0) d.three in
    ap (λ (b : Bool). b || has_empty cs) filled ∙ none_empty n cs (All-tail (IsDrawn n) c cs h)
