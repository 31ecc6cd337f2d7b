-- The tokens of a text of lines of words are these words.
use Rattle.std.proofs.Common.{◌≡◌, ℕ, Bool, false, List, [], ◌∷◌, ◌++◌, ◌+◌, length, map, refl, ap, ap₂, subst, sym, ◌∙◌, append_assoc}
use Rattle.std.specs.List.{slice_split, flat_map, join_with_byte, AllByRecursion}
use Rattle.std.proofs.lemmas.List.Splits.{slice_split_none, slice_split_at}
use Rattle.std.proofs.lemmas.Grind.{flat_map-append}
use Rattle.std.proofs.lemmas.List.{append-nil}
use Rattle.std.proofs.lemmas.List.Elements.{All-from_recursion}
use Rattle.mp_text.specs.Tokens.{Word, ends_line, is_blank, placed, words_of, of_line, of_lines, tokens_of}
use Rattle.mp_text.specs.Lines.{line_text, text_of, IsWord}
use Rattle.mp_text.proofs.Steps.{inner_not_end}

-- words from a place of line n on, each one byte behind the one before
abbrev pub plain : ℕ → ℕ → List (List ℕ) → List Word
plain n start [] = []
plain n start (w ∷ ws) = record { text = w; start = start; line = n; leads = false } ∷ plain n (start + length w + 1) ws

placed_plain : (n start : ℕ) (ws : List (List ℕ)) → AllByRecursion IsWord ws → placed n start ws ≡ plain n start ws
placed_plain n start [] k = refl
placed_plain n start (w ∷ ws) k = rw k.0.0 (ap (λ v. record { text = w; start = start; line = n; leads = false } ∷ v) (placed_plain n (start + length w + 1) ws k.1))

-- a line without its line feed
abbrev pub body : List (List ℕ) → List ℕ
body ws = join_with_byte 32 ws

-- behind its first word a line has a space before each further one
pub words_behind : {X : Type 0} (f : X → List ℕ) (w : List ℕ) (xs : List X) → join_with_byte 32 (w ∷ map f xs) ≡ w ++ flat_map (λ x. 32 ∷ f x) xs
words_behind f w [] = sym (append-nil w)
words_behind f w (x ∷ xs) = ap (λ v. w ++ 32 ∷ v) (words_behind f (f x) xs)

pub text_of-append : (a b : List (List (List ℕ))) → text_of (a ++ b) ≡ text_of a ++ text_of b
text_of-append a b = flat_map-append line_text a b

abbrev IsInner : ℕ → Type 0
IsInner b = is_blank b ≡ false

abbrev IsWithin : ℕ → Type 0
IsWithin b = ends_line b ≡ false

split_words : (w : List ℕ) (ws : List (List ℕ)) → AllByRecursion IsWord (w ∷ ws) → slice_split is_blank (body (w ∷ ws)) ≡ w ∷ ws
split_words w [] k = slice_split_none is_blank w (All-from_recursion IsInner w k.0.1)
split_words w (v ∷ vs) k = slice_split_at is_blank w 32 (body (v ∷ vs)) (All-from_recursion IsInner w k.0.1) refl ∙ ap (λ l. w ∷ l) (split_words v vs k.1)

words_plain : (n start : ℕ) (ws : List (List ℕ)) → AllByRecursion IsWord ws → words_of n start (body ws) ≡ plain n start ws
words_plain n start [] k = refl
words_plain n start (w ∷ ws) k = ap (placed n start) (split_words w ws k) ∙ placed_plain n start (w ∷ ws) k

inner_within : (w rest : List ℕ) → AllByRecursion IsInner w → AllByRecursion IsWithin rest → AllByRecursion IsWithin (w ++ rest)
inner_within [] rest k m = m
inner_within (b ∷ bs) rest k m = (inner_not_end b k.0, inner_within bs rest k.1 m)

body_within : (ws : List (List ℕ)) → AllByRecursion IsWord ws → AllByRecursion IsWithin (body ws)
body_within [] k = tt
body_within (w ∷ []) k = subst (AllByRecursion IsWithin) (append-nil w) (inner_within w [] k.0.1 tt)
body_within (w ∷ v ∷ ws) k = inner_within w (32 ∷ body (v ∷ ws)) k.0.1 (refl, body_within (v ∷ ws) k.1)

split_line : (ws : List (List ℕ)) (rest : List ℕ) → AllByRecursion IsWord ws → slice_split ends_line (line_text ws ++ rest) ≡ body ws ∷ slice_split ends_line rest
split_line ws rest k =
    ap (slice_split ends_line) (append_assoc (body ws) (10 ∷ []) rest)
    ∙ slice_split_at ends_line (body ws) 10 rest (All-from_recursion IsWithin (body ws) (body_within ws k)) refl

-- the tokens of lines from n on, which begin at this place
abbrev pub tokens_in : Bool → ℕ → ℕ → List (List (List ℕ)) → List Word
tokens_in comments n start [] = []
tokens_in comments n start (ws ∷ lines) = of_line comments (plain n start ws) ++ tokens_in comments (n + 1) (start + length (body ws) + 1) lines

lines_tokens : (comments : Bool) (n start : ℕ) (lines : List (List (List ℕ))) → AllByRecursion (AllByRecursion IsWord) lines
    → of_lines comments n start (slice_split ends_line (text_of lines)) ≡ tokens_in comments n start lines
lines_tokens comments n start [] k = refl
lines_tokens comments n start (ws ∷ lines) k =
    ap (of_lines comments n start) (split_line ws (text_of lines) k.0)
    ∙ ap₂ (λ words others. of_line comments words ++ others) (words_plain n start ws k.0) (lines_tokens comments (n + 1) (start + length (body ws) + 1) lines k.1)

pub tokens_of_lines : (comments : Bool) (lines : List (List (List ℕ))) → AllByRecursion (AllByRecursion IsWord) lines → tokens_of comments (text_of lines) ≡ tokens_in comments 1 0 lines
tokens_of_lines comments lines k = lines_tokens comments 1 0 lines k
