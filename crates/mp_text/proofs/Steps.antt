use Rattle.std.proofs.Common.{◌≡◌, ℕ, Bool, true, false, List, [], ◌∷◌, ◌++◌, ◌+◌, ◌-◌, ◌≤◌, length, take, drop, refl, ap, ap₂, nat_eq, ◌&&◌, ◌||◌, if◌then◌else◌, sym, ◌∙◌, arith, length-append}
use Rattle.std.specs.List.{slice_split, onto_first}
use Rattle.std.proofs.lemmas.List.Splits.{slice_split-cons_yes, slice_split-cons_no, slice_split_none, slice_split_at}
use Rattle.std.proofs.lemmas.List.{append-nil, take_at, drop_at}
use Rattle.std.proofs.lemmas.List.Elements.{All-from_recursion}
use Rattle.std.specs.List.{AllByRecursion}
use Rattle.std.proofs.lemmas.Bool.{true≢false, eqb-true}
use Rattle.mp_text.specs.Tokens.{Word, ends_line, is_blank, placed, words_of, of_line, of_lines}
use Rattle.mp_text.specs.Fronts.{left_of, tokens_left, from_line_end, word_front, word_rest}

-- at the start of a line, nothing is behind
pub left_at_start : (c : Bool) (n at : ℕ) (ls : List (List ℕ)) → left_of c n true at ls ≡ of_lines c n at ls
left_at_start c n at [] = refl
left_at_start c n at (l ∷ ls) = refl

pub left_line_end : (c : Bool) (n : ℕ) (fresh : Bool) (e b : ℕ) (bs : List ℕ) → b ≡ 10 → length (b ∷ bs) ≤ e → tokens_left c n fresh e (b ∷ bs) ≡ tokens_left c (n + 1) true e bs
left_line_end c n fresh e b bs h k =
    let at : ℕ = e - length bs in
    let next : e - length (10 ∷ bs) + length {A = ℕ} [] + 1 ≡ at = omega (arith, k) in
    let go : (fresh : Bool) → left_of c n fresh (e - length (10 ∷ bs)) ([] ∷ slice_split ends_line bs) ≡ of_lines c (n + 1) at (slice_split ends_line bs) =
    λ (fresh : Bool). elim fresh as (λ fresh. left_of c n fresh (e - length (10 ∷ bs)) ([] ∷ slice_split ends_line bs) ≡ of_lines c (n + 1) at (slice_split ends_line bs)) [
      | true ↦ ap (λ p. of_lines c (n + 1) p (slice_split ends_line bs)) next
      | false ↦ ap (λ p. of_lines c (n + 1) p (slice_split ends_line bs)) next
    ] in
    rw h (go fresh ∙ sym (left_at_start c (n + 1) at (slice_split ends_line bs)))

words_blank : (n at b : ℕ) (l : List ℕ) → is_blank b ≡ true → words_of n at (b ∷ l) ≡ words_of n (at + 1) l
words_blank n at b l h =
    let next : at + length {A = ℕ} [] + 1 ≡ at + 1 = omega arith in
    ap (placed n at) (slice_split-cons_yes is_blank b l h) ∙ ap (λ p. placed n p (slice_split is_blank l)) next

blank_first : (c : Bool) (n : ℕ) (fresh : Bool) (at b : ℕ) (ls : List (List ℕ)) → is_blank b ≡ true → left_of c n fresh at (onto_first b ls) ≡ left_of c n fresh (at + 1) ls
blank_first c n true at b [] h = rw (words_blank n at b [] h) refl
blank_first c n false at b [] h = rw (words_blank n at b [] h) refl
blank_first c n true at b (l ∷ ls) h =
    let next : at + length (b ∷ l) + 1 ≡ at + 1 + length l + 1 = omega arith in
    ap₂ (λ ws p. of_line c ws ++ of_lines c (n + 1) p ls) (words_blank n at b l h) next
blank_first c n false at b (l ∷ ls) h =
    let next : at + length (b ∷ l) + 1 ≡ at + 1 + length l + 1 = omega arith in
    ap₂ (λ ws p. ws ++ of_lines c (n + 1) p ls) (words_blank n at b l h) next

pub left_blank : (c : Bool) (n : ℕ) (fresh : Bool) (e b : ℕ) (bs : List ℕ) → is_blank b ≡ true → ends_line b ≡ false → length (b ∷ bs) ≤ e
    → tokens_left c n fresh e (b ∷ bs) ≡ tokens_left c n fresh e bs
left_blank c n fresh e b bs blank inner k =
    let next : e - length (b ∷ bs) + 1 ≡ e - length bs = omega (arith, k) in
    ap (left_of c n fresh (e - length (b ∷ bs))) (slice_split-cons_no ends_line b bs inner) ∙ blank_first c n fresh (e - length (b ∷ bs)) b (slice_split ends_line bs) blank
    ∙ ap (λ p. left_of c n fresh p (slice_split ends_line bs)) next

-- a comment goes to the end of its line
record Line (bs : List ℕ) : Type 0 where
  line : List ℕ
  lines : List (List ℕ)
  whole : slice_split ends_line bs ≡ line ∷ lines
  rest : slice_split ends_line (from_line_end bs) ≡ [] ∷ lines
  count : length line + length (from_line_end bs) ≡ length bs

first_line : (bs : List ℕ) → Line bs
first_line [] = record { line = []; lines = []; whole = refl; rest = refl; count = refl }
first_line (b ∷ bs) =
    let step : (t : Bool) → ends_line b ≡ t → Line (b ∷ bs) =
    λ (t : Bool). elim t as (λ t. ends_line b ≡ t → Line (b ∷ bs)) [
      | true ↦ λ e. record { line = []; lines = slice_split ends_line bs; whole = slice_split-cons_yes ends_line b bs e; rest = rw e (slice_split-cons_yes ends_line b bs e); count = rw e (omega arith) }
      | false ↦ λ e. let l = first_line bs in
          record { line = b ∷ l.line; lines = l.lines; whole = slice_split-cons_no ends_line b bs e ∙ ap (onto_first b) l.whole; rest = rw e l.rest; count = rw e (omega (arith, l.count)) }
    ] in
    step (ends_line b) refl

comment_line : (n at : ℕ) (ps : List (List ℕ)) → of_line true (placed n at (onto_first 99 ps)) ≡ []
comment_line n at [] = refl
comment_line n at (p ∷ ps) = refl

left_comment_line : (n e : ℕ) (bs : List ℕ) → length (99 ∷ bs) ≤ e → tokens_left true n true e (99 ∷ bs) ≡ tokens_left true n true e (from_line_end bs)
left_comment_line n e bs k =
    let l : Line bs = first_line bs in
    let at : ℕ = e - length (99 ∷ bs) in
    let next : at + length (99 ∷ l.line) + 1 ≡ e - length (from_line_end bs) + length {A = ℕ} [] + 1 = omega (arith, k, l.count) in
    ap (λ ls. left_of true n true at (onto_first 99 ls)) l.whole
    ∙ ap₂ (λ front p. front ++ of_lines true (n + 1) p l.lines) (comment_line n at (slice_split is_blank l.line)) next
    ∙ sym (ap (left_of true n true (e - length (from_line_end bs))) l.rest)

pub left_comment : (c : Bool) (n : ℕ) (fresh : Bool) (e b : ℕ) (bs : List ℕ) → (c && fresh && nat_eq b 99) ≡ true → length (b ∷ bs) ≤ e
    → tokens_left c n fresh e (b ∷ bs) ≡ tokens_left c n fresh e (from_line_end bs)
left_comment true n true e b bs h k = let same : b ≡ 99 = eqb-true b 99 h in rw same (left_comment_line n e bs k)
left_comment true n false e b bs h k = absurd (true≢false (sym h))
left_comment false n fresh e b bs h k = absurd (true≢false (sym h))

-- a word
pub word_parts : (bs : List ℕ) → word_front bs ++ word_rest bs ≡ bs
word_parts [] = refl
word_parts (b ∷ bs) =
    let step : (t : Bool) → is_blank b ≡ t → word_front (b ∷ bs) ++ word_rest (b ∷ bs) ≡ b ∷ bs =
    λ (t : Bool). elim t as (λ t. is_blank b ≡ t → word_front (b ∷ bs) ++ word_rest (b ∷ bs) ≡ b ∷ bs) [
      | true ↦ λ e. rw e refl
      | false ↦ λ e. rw e (ap (◌∷◌ b) (word_parts bs))
    ] in
    step (is_blank b) refl

abbrev pub IsInner : ℕ → Type 0
IsInner b = is_blank b ≡ false

pub inner_front : (bs : List ℕ) → AllByRecursion IsInner (word_front bs)
inner_front [] = tt
inner_front (b ∷ bs) =
    let step : (t : Bool) → is_blank b ≡ t → AllByRecursion IsInner (word_front (b ∷ bs)) =
    λ (t : Bool). elim t as (λ t. is_blank b ≡ t → AllByRecursion IsInner (word_front (b ∷ bs))) [
      | true ↦ λ e. rw e tt
      | false ↦ λ e. rw e (e, inner_front bs)
    ] in
    step (is_blank b) refl

-- begins with a blank, or is empty
abbrev Ends : List ℕ → Type 0
Ends [] = Unit {0}
Ends (b ∷ bs) = is_blank b ≡ true

ends_rest : (bs : List ℕ) → Ends (word_rest bs)
ends_rest [] = tt
ends_rest (b ∷ bs) =
    let step : (t : Bool) → is_blank b ≡ t → Ends (word_rest (b ∷ bs)) =
    λ (t : Bool). elim t as (λ t. is_blank b ≡ t → Ends (word_rest (b ∷ bs))) [
      | true ↦ λ e. rw e e
      | false ↦ λ e. rw e (ends_rest bs)
    ] in
    step (is_blank b) refl

last_false : (a b c d : Bool) → (a || b || c || d) ≡ false → d ≡ false
last_false true b c d h = absurd (true≢false h)
last_false false true c d h = absurd (true≢false h)
last_false false false true d h = absurd (true≢false h)
last_false false false false d h = h

pub inner_not_end : (b : ℕ) → is_blank b ≡ false → ends_line b ≡ false
inner_not_end b h = last_false (nat_eq b 32) (nat_eq b 9) (nat_eq b 13) (nat_eq b 10) h

record Behind (bs : List ℕ) : Type 0 where
  line : List ℕ
  lines : List (List ℕ)
  whole : slice_split ends_line bs ≡ line ∷ lines
  ends : Ends line

behind : (bs : List ℕ) → Ends bs → Behind bs
behind [] h = record { line = []; lines = []; whole = refl; ends = tt }
behind (b ∷ bs) h =
    let step : (t : Bool) → ends_line b ≡ t → Behind (b ∷ bs) =
    λ (t : Bool). elim t as (λ t. ends_line b ≡ t → Behind (b ∷ bs)) [
      | true ↦ λ e. record { line = []; lines = slice_split ends_line bs; whole = slice_split-cons_yes ends_line b bs e; ends = tt }
      | false ↦ λ e. let l = first_line bs in record { line = b ∷ l.line; lines = l.lines; whole = slice_split-cons_no ends_line b bs e ∙ ap (onto_first b) l.whole; ends = h }
    ] in
    step (ends_line b) refl

front_lines : (w r line : List ℕ) (lines : List (List ℕ)) → AllByRecursion IsInner w → slice_split ends_line r ≡ line ∷ lines
    → slice_split ends_line (w ++ r) ≡ (w ++ line) ∷ lines
front_lines [] r line lines h e = e
front_lines (x ∷ w) r line lines h e = slice_split-cons_no ends_line x (w ++ r) (inner_not_end x h.0) ∙ ap (onto_first x) (front_lines w r line lines h.1 e)

front_words : (n at x : ℕ) (w line : List ℕ) → AllByRecursion IsInner (x ∷ w) → Ends line
    → words_of n at ((x ∷ w) ++ line) ≡ record { text = x ∷ w; start = at; line = n; leads = false } ∷ words_of n (at + length (x ∷ w)) line
front_words n at x w [] h e =
    ap (words_of n at) (append-nil (x ∷ w)) ∙ ap (placed n at) (slice_split_none is_blank (x ∷ w) (All-from_recursion IsInner (x ∷ w) h))
front_words n at x w (y ∷ ys) h e =
    ap (placed n at) (slice_split_at is_blank (x ∷ w) y ys (All-from_recursion IsInner (x ∷ w) h) e)
    ∙ ap (λ v. record { text = x ∷ w; start = at; line = n; leads = false } ∷ v) (sym (words_blank n (at + length (x ∷ w)) y ys e))

leading : (c : Bool) (n : ℕ) (fresh : Bool) (at x : ℕ) (w : List ℕ) (ws others : List Word) → (c && fresh && nat_eq x 99) ≡ false
    → (let word : Word = record { text = x ∷ w; start = at; line = n; leads = false } in (if fresh then of_line c (word ∷ ws) else word ∷ ws) ++ others)
    ≡ record { text = x ∷ w; start = at; line = n; leads = fresh } ∷ (ws ++ others)
leading true n true at x w ws others k = rw k refl
leading false n true at x w ws others k = refl
leading c n false at x w ws others k = refl

pub left_word : (c : Bool) (n : ℕ) (fresh : Bool) (e b : ℕ) (bs : List ℕ) → is_blank b ≡ false → (c && fresh && nat_eq b 99) ≡ false → length (b ∷ bs) ≤ e
    → tokens_left c n fresh e (b ∷ bs) ≡ record { text = word_front (b ∷ bs); start = e - length (b ∷ bs); line = n; leads = fresh } ∷ tokens_left c n false e (word_rest (b ∷ bs))
left_word c n fresh e b bs h k within =
    let w : List ℕ = b ∷ word_front bs in
    let at : ℕ = e - length (b ∷ bs) in
    let r : Behind (word_rest bs) = behind (word_rest bs) (ends_rest bs) in
    let inner : AllByRecursion IsInner w = (h, inner_front bs) in
    let parts : length (word_front bs ++ word_rest bs) ≡ length bs = ap length (word_parts bs) in
    let next : at + length w ≡ e - length (word_rest bs) = omega (arith, within, parts, length-append (word_front bs) (word_rest bs)) in
    let below : at + length (w ++ r.line) + 1 ≡ e - length (word_rest bs) + length r.line + 1 = omega (arith, next, length-append w r.line) in
    let lines : slice_split ends_line (b ∷ bs) ≡ (w ++ r.line) ∷ r.lines =
    ap (λ v. slice_split ends_line (b ∷ v)) (sym (word_parts bs)) ∙ front_lines w (word_rest bs) r.line r.lines inner r.whole in
    rw h (ap (left_of c n fresh at) lines
    ∙ ap₂ (λ ws p. (if fresh then of_line c ws else ws) ++ of_lines c (n + 1) p r.lines) (front_words n at b (word_front bs) r.line inner r.ends) below
    ∙ leading c n fresh at b (word_front bs) (words_of n (at + length w) r.line) (of_lines c (n + 1) (e - length (word_rest bs) + length r.line + 1) r.lines) k
    ∙ ap (λ p. record { text = w; start = at; line = n; leads = fresh } ∷ (words_of n p r.line ++ of_lines c (n + 1) (e - length (word_rest bs) + length r.line + 1) r.lines)) next
    ∙ ap (λ ls. record { text = w; start = at; line = n; leads = fresh } ∷ left_of c n false (e - length (word_rest bs)) ls) (sym r.whole))

pub rest_shorter : (bs : List ℕ) → length (word_rest bs) ≤ length bs
rest_shorter bs =
    let parts : length (word_front bs ++ word_rest bs) ≡ length bs = ap length (word_parts bs) in
    omega (arith, parts, length-append (word_front bs) (word_rest bs))

cut_behind : (a b : List ℕ) → take (length (a ++ b) - length b) (a ++ b) ≡ a
cut_behind a b = let e : length (a ++ b) - length b ≡ length a = omega (arith, length-append a b) in take_at a b _ (sym e)

cut_before : (a b : List ℕ) → drop (length (a ++ b) - length b) (a ++ b) ≡ b
cut_before a b = let e : length (a ++ b) - length b ≡ length a = omega (arith, length-append a b) in drop_at a b _ (sym e)

pub take_word : (bs : List ℕ) → take (length bs - length (word_rest bs)) bs ≡ word_front bs
take_word bs = ap (λ v. take (length v - length (word_rest bs)) v) (sym (word_parts bs)) ∙ cut_behind (word_front bs) (word_rest bs)

pub drop_word : (bs : List ℕ) → drop (length bs - length (word_rest bs)) bs ≡ word_rest bs
drop_word bs = ap (λ v. drop (length v - length (word_rest bs)) v) (sym (word_parts bs)) ∙ cut_before (word_front bs) (word_rest bs)
