-- The room in which an assignment is carried back.
use Rattle.std.proofs.Common.{◌≡◌, ◌≤◌, ◌<◌, ◌+◌, ◌&&◌, ℕ, suc, Bool, false, IsTrue, List, [], ◌∷◌, ◌++◌, All, length, drop, replicate, slice_set, ap, sym, ◌∙◌, arith, append_assoc, add-one, drop-cons}
use Rattle.std.specs.Prelude.{nat_lt, nat_le}
use Rattle.std.proofs.lemmas.Bool.{and_parts, leb-true, ltb-true}
use Rattle.std.proofs.lemmas.List.{set_at, length-replicate, replicate_more}
use Rattle.std.proofs.lemmas.List.Elements.{All-nil, All-cons}
use Rattle.mp_logic.specs.Labelled.{names_rise}

pub clear_more : (n : ℕ) (d : List Bool) → n < length d → slice_set (replicate n false ++ drop n d) n false ≡ replicate (n + 1) false ++ drop (n + 1) d
clear_more n d h =
    ap (λ (v : List Bool). slice_set (replicate n false ++ v) n false) (drop-cons d n false h)
    ∙ set_at (replicate n false) _ (drop (suc n) d) false n (length-replicate n false)
    ∙ sym (append_assoc (replicate n false) (false ∷ []) (drop (suc n) d))
    ∙ ap (λ (v : List Bool). v ++ drop (suc n) d) (replicate_more n false)
    ∙ ap (λ (k : ℕ). replicate (n + 1) false ++ drop k d) (sym (add-one n))

pub names_within : (least n : ℕ) (names : List ℕ) → IsTrue (names_rise least n names) → All (λ name. (1 ≤ name) × (name ≤ n)) names
names_within least n [] h = All-nil (λ name. (1 ≤ name) × (name ≤ n))
names_within least n (name ∷ names) h =
    let p = and_parts (nat_lt least name && nat_le name n) (names_rise name n names) h in
    let q = and_parts (nat_lt least name) (nat_le name n) p.0 in
    let low : least < name = ltb-true least name q.0 in
    All-cons (λ name. (1 ≤ name) × (name ≤ n)) name names (omega (arith, low), leb-true name n q.1) (names_within name n names p.1)
