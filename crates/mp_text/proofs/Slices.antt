-- The tokens of a text are slices of it, in order.
use Rattle.std.proofs.Common.{◌≡◌, ◌≤◌, ℕ, zero, suc, Bool, true, false, List, [], ◌∷◌, ◌++◌, ◌+◌, ◌-◌, length, take, refl, ap, subst, sym, ◌∙◌, append_assoc, arith, length-append, if◌then◌else◌}
use Rattle.std.specs.Prelude.{nat_eq, ◌&&◌, cond}
use Rattle.std.specs.List.{AllByRecursion, count_by, slice_split}
use Rattle.std.proofs.lemmas.List.{take_at, drop_at}
use Rattle.std.proofs.lemmas.List.Sums.{sum_by-append, sum_by-cons}
use Rattle.std.proofs.lemmas.Bool.{eqb-true}
use Rattle.mp_text.specs.Tokens.{Word, ends_line, is_blank, of_lines, tokens_of}
use Rattle.mp_text.specs.Lines.{IsWord}
use Rattle.mp_text.specs.Slices.{IsTokenOf, AreInOrder, TokensAreSlices}
use Rattle.mp_text.specs.Fronts.{tokens_left, from_line_end, word_front, word_rest}
use Rattle.mp_text.proofs.Steps.{left_at_start, left_line_end, left_blank, left_comment, left_word, word_parts, inner_front, inner_not_end, IsInner}

-- line feeds
abbrev ends_in : List ℕ → ℕ
ends_in bs = count_by ends_line bs

abbrev one_if : Bool → ℕ
one_if t = cond t 1 0

ends_append : (a b : List ℕ) → ends_in (a ++ b) ≡ ends_in a + ends_in b
ends_append a b = sum_by-append (λ x. one_if (ends_line x)) a b

ends_none : (b : ℕ) (bs : List ℕ) → ends_line b ≡ false → ends_in (b ∷ bs) ≡ ends_in bs
ends_none b bs e =
    let first : one_if (ends_line b) ≡ 0 = ap one_if e in
    let sum : ends_in (b ∷ bs) ≡ one_if (ends_line b) + ends_in bs = sum_by-cons (λ x. one_if (ends_line x)) b bs in
    omega (arith, first, sum)

ends_one : (b : ℕ) → ends_line b ≡ true → ends_in (b ∷ []) ≡ 1
ends_one b e = ap (λ t. 0 + one_if t) e

inner_ends : (bs : List ℕ) → AllByRecursion IsInner bs → ends_in bs ≡ 0
inner_ends [] k = refl
inner_ends (b ∷ bs) k = ends_none b bs (inner_not_end b k.0) ∙ inner_ends bs k.1

-- up to the end of the line
line_front : List ℕ → List ℕ
line_front [] = []
line_front (b ∷ bs) = if ends_line b then [] else b ∷ line_front bs

record Parts (bs : List ℕ) : Type 0 where
  whole : line_front bs ++ from_line_end bs ≡ bs
  ends : ends_in (line_front bs) ≡ 0

parts_of : (bs : List ℕ) → Parts bs
unfolding line_front
parts_of [] = record { whole = refl; ends = refl }
parts_of (b ∷ bs) =
    let go : (t : Bool) → ends_line b ≡ t → ((if t then [] else b ∷ line_front bs) ++ (if t then b ∷ bs else from_line_end bs) ≡ b ∷ bs) × (ends_in (if t then [] else b ∷ line_front bs) ≡ 0) =
    λ (t : Bool). elim t as (λ t. ends_line b ≡ t → ((if t then [] else b ∷ line_front bs) ++ (if t then b ∷ bs else from_line_end bs) ≡ b ∷ bs) × (ends_in (if t then [] else b ∷ line_front bs) ≡ 0)) [
      | true ↦ λ e. (refl, refl)
      | false ↦ λ e. let r : Parts bs = parts_of bs in (ap (λ v. b ∷ v) r.whole, ends_none b (line_front bs) e ∙ r.ends)
    ] in
    let g = go (ends_line b) refl in
    record { whole = g.0; ends = g.1 }

-- tokens of these bytes, from this place on
abbrev AreSlices : List ℕ → List Word → ℕ → Type 0
AreSlices bytes ws place = AllByRecursion (IsTokenOf bytes) ws × AreInOrder place ws

-- what the rest of a text gives, behind its front
abbrev Left : Bool → ℕ → Bool → List ℕ → List ℕ → ℕ → Type 0
Left c n fresh front rest place = AreSlices (front ++ rest) (tokens_left c n fresh (length (front ++ rest)) rest) place

token_is : (front w rest : List ℕ) (n start : ℕ) (leads : Bool) → start ≡ length front → n ≡ 1 + ends_in front → IsWord w
    → IsTokenOf (front ++ (w ++ rest)) (record { text = w; start = start; line = n; leads = leads })
token_is front w rest n start leads e f k = record {
  word = k;
  slice = ap (take (length w)) (drop_at front (w ++ rest) start (sym e)) ∙ take_at w rest (length w) refl;
  line = f ∙ ap (λ v. 1 + ends_in v) (sym (take_at front (w ++ rest) start (sym e)));
}

-- one piece further
behind : (c : Bool) (m : ℕ) (fresh : Bool) (front piece rest bytes : List ℕ) (ws : List Word) (place : ℕ) → piece ++ rest ≡ bytes → Left c m fresh (front ++ piece) rest place
    → ws ≡ tokens_left c m fresh (length (front ++ bytes)) rest → AreSlices (front ++ bytes) ws place
behind c m fresh front piece rest bytes ws place parts k e =
    let same : (front ++ piece) ++ rest ≡ front ++ bytes = append_assoc front piece rest ∙ ap (λ v. front ++ v) parts in
    subst (λ v. AreSlices (front ++ bytes) v place) (sym e) (subst (λ v. AreSlices v (tokens_left c m fresh (length v) rest) place) same k)

empty_left : (c : Bool) (n : ℕ) (fresh : Bool) (front : List ℕ) (place : ℕ) → Left c n fresh front [] place
empty_left c n true front place = (tt, tt)
empty_left c n false front place = (tt, tt)

slices_left : (k : ℕ) (c : Bool) (n : ℕ) (fresh : Bool) (front rest : List ℕ) (place : ℕ) → length rest ≤ k → n ≡ 1 + ends_in front → place ≤ length front → Left c n fresh front rest place
slices_left k c n fresh front [] place few lines low = empty_left c n fresh front place
slices_left zero c n fresh front (b ∷ bs) place few lines low = absurd (let no : 1 ≤ 0 = omega (arith, few) in omega (arith, no))
slices_left (suc k) c n fresh front (b ∷ bs) place few lines low =
    let bytes : List ℕ = b ∷ bs in
    let end : ℕ = length (front ++ bytes) in
    let sum : end ≡ length front + length bytes = length-append front bytes in
    let within : length bytes ≤ end = omega (arith, sum) in
    let one : length (front ++ b ∷ []) ≡ length front + 1 = length-append front (b ∷ []) in
    let a_word : is_blank b ≡ false → (c && fresh && nat_eq b 99) ≡ false → Left c n fresh front bytes place =
    λ h j.
    let w : List ℕ = b ∷ word_front bs in
    let rest : List ℕ = word_rest bs in
    let parts : w ++ rest ≡ bytes = ap (λ v. b ∷ v) (word_parts bs) in
    let start : ℕ = end - length bytes in
    let here : start ≡ length front = omega (arith, sum) in
    let word : Word = record { text = w; start = start; line = n; leads = fresh } in
    let inner : AllByRecursion IsInner w = (h, inner_front bs) in
    let wide : length (front ++ w) ≡ length front + length w = length-append front w in
    let count : length w + length rest ≡ length bytes = sym (length-append w rest) ∙ ap length parts in
    let same : tokens_left c n fresh end bytes ≡ word ∷ tokens_left c n false end rest =
    left_word c n fresh end b bs h j within
    ∙ ap (λ t. record { text = if t then [] else w; start = start; line = n; leads = fresh } ∷ tokens_left c n false end (if t then bytes else rest)) h in
    let ends : n ≡ 1 + ends_in (front ++ w) = omega (arith, lines, ends_append front w, inner_ends w inner) in
    let others : AreSlices (front ++ bytes) (tokens_left c n false end rest) (start + length w) =
    behind c n false front w rest bytes _ (start + length w) parts (slices_left k c n false (front ++ w) rest (start + length w) (omega (arith, few, count)) ends (omega (arith, here, wide))) refl in
    let first : IsTokenOf (front ++ bytes) word = subst (λ v. IsTokenOf (front ++ v) word) parts (token_is front w rest n start fresh here lines (refl, inner)) in
    subst (λ v. AreSlices (front ++ bytes) v place) (sym same) ((first, others.0), (omega (arith, here, low), others.1)) in
    let a_comment : is_blank b ≡ false → (t : Bool) → (c && fresh && nat_eq b 99) ≡ t → Left c n fresh front bytes place =
    λ h. λ (t : Bool). elim t as (λ t. (c && fresh && nat_eq b 99) ≡ t → Left c n fresh front bytes place) [
      | true ↦ λ e.
          let p : Parts bs = parts_of bs in
          let piece : List ℕ = b ∷ line_front bs in
          let rest : List ℕ = from_line_end bs in
          let parts : piece ++ rest ≡ bytes = ap (λ v. b ∷ v) p.whole in
          let count : length piece + length rest ≡ length bytes = sym (length-append piece rest) ∙ ap length parts in
          let wide : length (front ++ piece) ≡ length front + length piece = length-append front piece in
          let none : ends_in piece ≡ 0 = ends_none b (line_front bs) (inner_not_end b h) ∙ p.ends in
          behind c n fresh front piece rest bytes _ place parts
          (slices_left k c n fresh (front ++ piece) rest place (omega (arith, few, count)) (omega (arith, lines, ends_append front piece, none)) (omega (arith, low, wide)))
          (left_comment c n fresh end b bs e within)
      | false ↦ λ e. a_word h e
    ] in
    let a_blank : ends_line b ≡ false → (t : Bool) → is_blank b ≡ t → Left c n fresh front bytes place =
    λ h. λ (t : Bool). elim t as (λ t. is_blank b ≡ t → Left c n fresh front bytes place) [
      | true ↦ λ e. behind c n fresh front (b ∷ []) bs bytes _ place refl
          (slices_left k c n fresh (front ++ b ∷ []) bs place (omega (arith, few)) (omega (arith, lines, ends_append front (b ∷ []), ends_none b [] h)) (omega (arith, low, one)))
          (left_blank c n fresh end b bs e h within)
      | false ↦ λ e. a_comment e (c && fresh && nat_eq b 99) refl
    ] in
    let an_end : (t : Bool) → ends_line b ≡ t → Left c n fresh front bytes place =
    λ (t : Bool). elim t as (λ t. ends_line b ≡ t → Left c n fresh front bytes place) [
      | true ↦ λ e. behind c (n + 1) true front (b ∷ []) bs bytes _ place refl
          (slices_left k c (n + 1) true (front ++ b ∷ []) bs place (omega (arith, few)) (omega (arith, lines, ends_append front (b ∷ []), ends_one b e)) (omega (arith, low, one)))
          (left_line_end c n fresh end b bs (eqb-true b 10 e) within)
      | false ↦ λ e. a_blank e (is_blank b) refl
    ] in
    an_end (ends_line b) refl

pub slices : TokensAreSlices
slices comments bytes =
    let lines : List (List ℕ) = slice_split ends_line bytes in
    let whole : tokens_left comments 1 true (length bytes) bytes ≡ tokens_of comments bytes =
    left_at_start comments 1 (length bytes - length bytes) lines ∙ ap (λ p. of_lines comments 1 p lines) (omega arith) in
    subst (λ v. AreSlices bytes v 0) whole (slices_left (length bytes) comments 1 true [] bytes 0 (omega arith) refl (omega arith))
