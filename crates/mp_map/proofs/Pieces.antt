-- The pieces of a text between separators.
use Rattle.std.proofs.Common.{◌≡◌, ◌<◌, ◌≤◌, ◌+◌, ◌-◌, ℕ, Bool, true, false, cond, List, [], ◌∷◌, Option, Some, None, length, take, drop, position, Err, refl, ap, sym, ◌∙◌, arith}
use Rattle.std.specs.Prelude.{nat_eq, nat_lt}
use Rattle.std.specs.List.{position_or_len, slice_split, onto_first}
use Rattle.std.proofs.lemmas.List.{take_all, length-drop}
use Rattle.std.proofs.lemmas.List.Splits.{slice_split_first, slice_split-cons_no}
use Rattle.std.proofs.lemmas.Option.{cond_some, none-some}
use Rattle.std.proofs.lemmas.Bool.{ltb-true, ltb-false}
use Rattle.mp_map.specs.Pieces.{pieces_at}
use Rattle.mp_map.specs.Reading.{words_in, next, end_at, read_with, read_pieces}
use Rattle.mp_map.specs.declared.reading.Reader.{Reader}

pub cut_found : (separator : ℕ) (bytes : List ℕ) (i : ℕ) → position (λ b. nat_eq b separator) bytes ≡ Some i → pieces_at separator bytes ≡ take i bytes ∷ pieces_at separator (take (length bytes - (i + 1)) (drop (i + 1) bytes))
cut_found separator bytes i e =
    let p : ℕ → Bool = λ b. nat_eq b separator in
    let f = cond_some (nat_lt (position_or_len p bytes) (length bytes)) _ _ e in
    let within : position_or_len p bytes < length bytes = ltb-true _ _ f.0 in
    let whole : take (length bytes - (i + 1)) (drop (i + 1) bytes) ≡ drop (i + 1) bytes = take_all _ _ (omega (arith, length-drop (i + 1) bytes)) in
    rw (whole, ← f.1) (slice_split_first p bytes 0 within)

no_more : (p : ℕ → Bool) (xs : List ℕ) → length xs ≤ position_or_len p xs → slice_split p xs ≡ xs ∷ []
no_more p [] h = refl
no_more p (x ∷ xs) h =
    let step : (t : Bool) → p x ≡ t → slice_split p (x ∷ xs) ≡ (x ∷ xs) ∷ [] =
    λ (t : Bool). elim t as (λ t. p x ≡ t → slice_split p (x ∷ xs) ≡ (x ∷ xs) ∷ []) [
      | true ↦ λ e. absurd (let k : length (x ∷ xs) ≤ 0 = rw e at h in omega (arith, k))
      | false ↦ λ e. slice_split-cons_no p x xs e ∙ ap (onto_first x) (no_more p xs (let k : length (x ∷ xs) ≤ 1 + position_or_len p xs = rw e at h in omega (arith, k)))
    ] in
    step (p x) refl

pub cut_none : (separator : ℕ) (bytes : List ℕ) → position (λ b. nat_eq b separator) bytes ≡ None → pieces_at separator bytes ≡ bytes ∷ []
cut_none separator bytes e =
    let p : ℕ → Bool = λ b. nat_eq b separator in
    let step : (t : Bool) → nat_lt (position_or_len p bytes) (length bytes) ≡ t → pieces_at separator bytes ≡ bytes ∷ [] =
    λ (t : Bool). elim t as (λ t. nat_lt (position_or_len p bytes) (length bytes) ≡ t → pieces_at separator bytes ≡ bytes ∷ []) [
      | true ↦ λ h. absurd (none-some (position_or_len p bytes) (sym (rw h at e)))
      | false ↦ λ h. no_more p bytes (ltb-false _ _ h)
    ] in
    step (nat_lt (position_or_len p bytes) (length bytes)) refl

-- some piece is there
pub pieces_some : (separator : ℕ) (bytes : List ℕ) (P : List (List ℕ) → Type 0) → ((p : List ℕ) (ps : List (List ℕ)) → P (p ∷ ps)) → P (pieces_at separator bytes)
pieces_some separator [] P h = h [] []
pieces_some separator (b ∷ bs) P h =
    let first : (ps : List (List ℕ)) → P (onto_first b ps) = λ (ps : List (List ℕ)). elim ps as (λ ps. P (onto_first b ps)) [ [] ↦ h (b ∷ []) [] | ◌∷◌ q qs ↦ h (b ∷ q) qs ] in
    elim (nat_eq b separator) as (λ t. P (cond t ([] ∷ pieces_at separator bs) (onto_first b (pieces_at separator bs)))) [
      | true ↦ h [] (pieces_at separator bs)
      | false ↦ first (pieces_at separator bs)
    ]

read_line : (r : Reader) (n : ℕ) (front behind : List ℕ) → read_pieces r n (front ∷ pieces_at 10 behind) ≡ read_with (next r (words_in front)) n (λ s. read_pieces s (n + 1) (pieces_at 10 behind))
read_line r n front behind = pieces_some 10 behind (λ ps. read_pieces r n (front ∷ ps) ≡ read_with (next r (words_in front)) n (λ s. read_pieces s (n + 1) ps)) (λ p ps. refl)

pub read_good : (r s : Reader) (n : ℕ) (rest front behind : List ℕ) → pieces_at 10 rest ≡ front ∷ pieces_at 10 behind → next r (words_in front) ≡ Some s
    → read_pieces r n (pieces_at 10 rest) ≡ read_pieces s (n + 1) (pieces_at 10 behind)
read_good r s n rest front behind cut good =
    ap (read_pieces r n) cut ∙ read_line r n front behind ∙ ap (λ (o : Option Reader). read_with o n (λ s. read_pieces s (n + 1) (pieces_at 10 behind))) good

pub read_bad : (r : Reader) (n : ℕ) (rest front behind : List ℕ) → pieces_at 10 rest ≡ front ∷ pieces_at 10 behind → next r (words_in front) ≡ None
    → read_pieces r n (pieces_at 10 rest) ≡ Err n
read_bad r n rest front behind cut bad =
    ap (read_pieces r n) cut ∙ read_line r n front behind ∙ ap (λ (o : Option Reader). read_with o n (λ s. read_pieces s (n + 1) (pieces_at 10 behind))) bad

pub read_tail : (r : Reader) (n : ℕ) (rest : List ℕ) → pieces_at 10 rest ≡ rest ∷ [] → read_pieces r n (pieces_at 10 rest) ≡ end_at r n rest
read_tail r n rest cut = ap (read_pieces r n) cut

onto_first_few : (b : ℕ) (ps : List (List ℕ)) (n : ℕ) → length ps ≤ n → 1 ≤ n → length (onto_first b ps) ≤ n
onto_first_few b [] n h k = omega (arith, k)
onto_first_few b (p ∷ ps) n h k = omega (arith, h)

pub pieces_few : (separator : ℕ) (bytes : List ℕ) → length (pieces_at separator bytes) ≤ length bytes + 1
pieces_few separator [] = omega arith
pieces_few separator (b ∷ bs) =
    let rest : length (pieces_at separator bs) ≤ length bs + 1 = pieces_few separator bs in
    elim (nat_eq b separator) as (λ t. length (cond t ([] ∷ pieces_at separator bs) (onto_first b (pieces_at separator bs))) ≤ length (b ∷ bs) + 1) [
      | true ↦ omega (arith, rest)
      | false ↦ onto_first_few b (pieces_at separator bs) (length (b ∷ bs) + 1) (omega (arith, rest)) (omega arith)
    ]
