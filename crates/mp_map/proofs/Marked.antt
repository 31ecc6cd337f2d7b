-- Marks say which literals stand among the words.
use Rattle.std.proofs.Common.{◌≡◌, ◌≢◌, ◌≤◌, ◌<◌, ◌+◌, ◌-◌, ℕ, zero, suc, Bool, true, false, not, cond, ◌||◌, ◌&&◌, List, [], ◌∷◌, ◌++◌, length, map, replicate, slice_set, Option, Some, None, Result, Ok, Err, refl, ap, ap₂, sym, ◌∙◌, arith, append_assoc}
use Rattle.std.specs.Bool.{beq}
use Rattle.std.specs.List.{slice_index_or}
use Rattle.std.specs.Option.{option_map}
use Rattle.std.specs.Prelude.{nat_eq, nat_lt}
use Rattle.std.proofs.lemmas.Bool.{eqb-true, eqb-false, ne_eqb, ltb-false}
use Rattle.std.proofs.lemmas.List.{append-nil, length-map}
use Rattle.std.proofs.lemmas.List.Folds.{list_any-append}
use Rattle.std.proofs.Math.Bool.{or-false, or-true, and-false, and-true}
use Rattle.mp_text.specs.Numbers.{literal_of}
use Rattle.mp_text.specs.declared.numbers.LitToken.{LitToken}
use Rattle.mp_text.specs.declared.numbers.LitToken.TheVariants as kinds
use Rattle.mp_text.proofs.Spelled.{literal_from_one}
use Rattle.mp_map.specs.Marking.{Marks, no_marks, marked, marked_apart, mark_with, mark_words}
use Rattle.mp_map.specs.Solutions.{ValueWord, first_wrong_word, is_literal, is_wrong_word, literals_in, mentions, variables_from}

-- lists with a place for each variable

map_same : (f g : ℕ → Bool) → ((u : ℕ) → f u ≡ g u) → (xs : List ℕ) → map f xs ≡ map g xs
map_same f g h [] = refl
map_same f g h (x ∷ xs) = ap₂ (λ (b : Bool) (l : List Bool). b ∷ l) (h x) (map_same f g h xs)

length-variables_from : (a n : ℕ) → length (variables_from a n) ≡ n
length-variables_from a zero = refl
length-variables_from a (suc n) = ap suc (length-variables_from (a + 1) n)

-- a variable before these is none of them
map_apart : (f : ℕ → Bool) (a n v : ℕ) → v < a → map (λ u. f u || nat_eq v u) (variables_from a n) ≡ map f (variables_from a n)
map_apart f a zero v h = refl
map_apart f a (suc n) v h =
    let other : nat_eq v a ≡ false = ne_eqb v a (λ z. omega (arith, h, z)) in
    ap₂ (λ (b : Bool) (l : List Bool). b ∷ l) (ap (λ (t : Bool). f a || t) other ∙ or-false (f a)) (map_apart f (a + 1) n v (omega (arith, h)))

set_variable : (f : ℕ → Bool) (a n v : ℕ) → a ≤ v → v < a + n → slice_set (map f (variables_from a n)) (v - a) true ≡ map (λ u. f u || nat_eq v u) (variables_from a n)
set_variable f a zero v low high = absurd (omega (arith, low, high))
set_variable f a (suc n) v low high =
    let rest : List ℕ = variables_from (a + 1) n in
    let step : (t : Bool) → nat_eq v a ≡ t → slice_set (f a ∷ map f rest) (v - a) true ≡ map (λ u. f u || nat_eq v u) (a ∷ rest) =
    λ (t : Bool). elim t as (λ t. nat_eq v a ≡ t → slice_set (f a ∷ map f rest) (v - a) true ≡ map (λ u. f u || nat_eq v u) (a ∷ rest)) [
      | true ↦ λ e.
          let same : v ≡ a = eqb-true v a e in
          let none : v - a ≡ 0 = omega (arith, same) in
          ap (λ (k : ℕ). slice_set (f a ∷ map f rest) k true) none
          ∙ sym (ap₂ (λ (b : Bool) (l : List Bool). b ∷ l) (ap (λ (t : Bool). f a || t) e ∙ or-true (f a)) (map_apart f (a + 1) n v (omega (arith, same))))
      | false ↦ λ e.
          let other : v ≢ a = eqb-false v a e in
          let later : v - a ≡ suc (v - (a + 1)) = omega (arith, low, other) in
          ap (λ (k : ℕ). slice_set (f a ∷ map f rest) k true) later
          ∙ ap₂ (λ (b : Bool) (l : List Bool). b ∷ l) (sym (ap (λ (t : Bool). f a || t) e ∙ or-false (f a))) (set_variable f (a + 1) n v (omega (arith, low, other)) (omega (arith, high)))
    ] in
    step (nat_eq v a) refl

get_variable : (f : ℕ → Bool) (a n v : ℕ) → a ≤ v → v < a + n → slice_index_or (map f (variables_from a n)) (v - a) false ≡ f v
get_variable f a zero v low high = absurd (omega (arith, low, high))
get_variable f a (suc n) v low high =
    let rest : List ℕ = variables_from (a + 1) n in
    let step : (t : Bool) → nat_eq v a ≡ t → slice_index_or (f a ∷ map f rest) (v - a) false ≡ f v =
    λ (t : Bool). elim t as (λ t. nat_eq v a ≡ t → slice_index_or (f a ∷ map f rest) (v - a) false ≡ f v) [
      | true ↦ λ e.
          let same : v ≡ a = eqb-true v a e in
          let none : v - a ≡ 0 = omega (arith, same) in
          ap (λ (k : ℕ). slice_index_or (f a ∷ map f rest) k false) none ∙ ap f (sym same)
      | false ↦ λ e.
          let other : v ≢ a = eqb-false v a e in
          let later : v - a ≡ suc (v - (a + 1)) = omega (arith, low, other) in
          ap (λ (k : ℕ). slice_index_or (f a ∷ map f rest) k false) later ∙ get_variable f (a + 1) n v (omega (arith, low, other)) (omega (arith, high))
    ] in
    step (nat_eq v a) refl

-- the marks of one sign
abbrev signed_marks : ℕ → List ValueWord → Bool → List Bool
signed_marks written words sign = map (λ v. mentions words v sign) (variables_from 1 written)

abbrev marks_of : ℕ → List ValueWord → Marks
marks_of written words = record { positive = signed_marks written words false; negative = signed_marks written words true }

length-signed : (written : ℕ) (words : List ValueWord) (sign : Bool) → length (signed_marks written words sign) ≡ written
length-signed written words sign = length-map (variables_from 1 written) (λ v. mentions words v sign) ∙ length-variables_from 1 written

no_mentions : (a n : ℕ) (sign : Bool) → replicate n false ≡ map (λ v. mentions [] v sign) (variables_from a n)
no_mentions a zero sign = refl
no_mentions a (suc n) sign = ap (λ (l : List Bool). false ∷ l) (no_mentions (a + 1) n sign)

mentions-more : (before : List ValueWord) (w : ValueWord) (o : Option LitToken) → literal_of w.text ≡ o → (v : ℕ) (sign : Bool) → mentions (before ++ w ∷ []) v sign ≡ (mentions before v sign || is_literal v sign o)
mentions-more before w o e v sign =
    list_any-append (λ w. is_literal v sign (literal_of w.text)) before (w ∷ [])
    ∙ ap (λ (b : Bool). mentions before v sign || b) (or-false (is_literal v sign (literal_of w.text)) ∙ ap (is_literal v sign) e)

-- a word that is no literal of this sign changes no mark of it
unchanged : (written : ℕ) (before : List ValueWord) (w : ValueWord) (o : Option LitToken) (sign : Bool) → literal_of w.text ≡ o → ((v : ℕ) → is_literal v sign o ≡ false)
    → signed_marks written before sign ≡ signed_marks written (before ++ w ∷ []) sign
unchanged written before w o sign e none =
    map_same (λ v. mentions before v sign) (λ v. mentions (before ++ w ∷ []) v sign)
    (λ v. sym (mentions-more before w o e v sign ∙ ap (λ (b : Bool). mentions before v sign || b) (none v) ∙ or-false (mentions before v sign))) (variables_from 1 written)

beq_same : (b : Bool) → beq b b ≡ true
beq_same true = refl
beq_same false = refl

beq_not : (b : Bool) → beq b (not b) ≡ false
beq_not true = refl
beq_not false = refl

-- a literal sets the mark of its variable
changed : (written : ℕ) (before : List ValueWord) (w : ValueWord) (v : ℕ) (sign : Bool) → literal_of w.text ≡ Some (kinds.Lit v sign) → 1 ≤ v → v ≤ written
    → slice_set (signed_marks written before sign) (v - 1) true ≡ signed_marks written (before ++ w ∷ []) sign
changed written before w v sign e one few =
    set_variable (λ u. mentions before u sign) 1 written v one (omega (arith, few))
    ∙ map_same (λ u. mentions before u sign || nat_eq v u) (λ u. mentions (before ++ w ∷ []) u sign)
    (λ u. sym (mentions-more before w (Some (kinds.Lit v sign)) e u sign ∙ ap (λ (b : Bool). mentions before u sign || b) (ap (λ (t : Bool). nat_eq v u && t) (beq_same sign) ∙ and-true (nat_eq v u)))) (variables_from 1 written)

-- a mark is refused just where the word can't stand
apart_is : (written : ℕ) (before : List ValueWord) (v : ℕ) (sign : Bool) → 1 ≤ v
    → marked_apart (signed_marks written before sign) (signed_marks written before (not sign)) v
    ≡ cond (nat_lt written v || mentions before v (not sign)) None (Some (slice_set (signed_marks written before sign) (v - 1) true))
apart_is written before v sign one =
    let own : List Bool = signed_marks written before sign in
    let other : List Bool = signed_marks written before (not sign) in
    let made : Option (List Bool) = Some (slice_set own (v - 1) true) in
    ap (λ (k : ℕ). cond (nat_lt k v || slice_index_or other (v - 1) false) None made) (length-signed written before sign)
    ∙ (let step : (t : Bool) → nat_lt written v ≡ t → cond (t || slice_index_or other (v - 1) false) None made ≡ cond (t || mentions before v (not sign)) None made =
    λ (t : Bool). elim t as (λ t. nat_lt written v ≡ t → cond (t || slice_index_or other (v - 1) false) None made ≡ cond (t || mentions before v (not sign)) None made) [
      | true ↦ λ e. refl
      | false ↦ λ e.
          let few : v ≤ written = ltb-false written v e in
          ap (λ (b : Bool). cond b None made) (get_variable (λ u. mentions before u (not sign)) 1 written v one (omega (arith, few)))
    ] in
    step (nat_lt written v) refl)

mark_literal : (written : ℕ) (before : List ValueWord) (w : ValueWord) (v : ℕ) (sign : Bool) (go : List Bool → Marks) → literal_of w.text ≡ Some (kinds.Lit v sign) → 1 ≤ v
    → go (signed_marks written (before ++ w ∷ []) sign) ≡ marks_of written (before ++ w ∷ [])
    → option_map go (marked_apart (signed_marks written before sign) (signed_marks written before (not sign)) v)
    ≡ cond (nat_lt written v || mentions before v (not sign)) None (Some (marks_of written (before ++ w ∷ [])))
mark_literal written before w v sign go e one made =
    let after : List Bool = slice_set (signed_marks written before sign) (v - 1) true in
    ap (option_map go) (apart_is written before v sign one)
    ∙ (let step : (t : Bool) → nat_lt written v ≡ t
    → option_map go (cond (t || mentions before v (not sign)) None (Some after)) ≡ cond (t || mentions before v (not sign)) None (Some (marks_of written (before ++ w ∷ []))) =
    λ (t : Bool). elim t as (λ t. nat_lt written v ≡ t
    → option_map go (cond (t || mentions before v (not sign)) None (Some after)) ≡ cond (t || mentions before v (not sign)) None (Some (marks_of written (before ++ w ∷ [])))) [
      | true ↦ λ f. refl
      | false ↦ λ f.
          let few : v ≤ written = ltb-false written v f in
          let here : go after ≡ marks_of written (before ++ w ∷ []) = ap go (changed written before w v sign e one few) ∙ made in
          elim (mentions before v (not sign)) as (λ b. option_map go (cond b None (Some after)) ≡ cond b None (Some (marks_of written (before ++ w ∷ [])))) [
            | true ↦ refl
            | false ↦ ap (λ (m : Marks). Some m) here
          ]
    ] in
    step (nat_lt written v) refl)

mark_step : (written : ℕ) (before : List ValueWord) (w : ValueWord) (o : Option LitToken) → literal_of w.text ≡ o
    → marked (marks_of written before) o ≡ cond (is_wrong_word written before o) None (Some (marks_of written (before ++ w ∷ [])))
mark_step written before w None e = refl
mark_step written before w (Some kinds.Close) e =
    ap₂ (λ (p q : List Bool). let m : Marks = record { positive = p; negative = q } in Some m) (unchanged written before w (Some kinds.Close) false e (λ v. refl)) (unchanged written before w (Some kinds.Close) true e (λ v. refl))
mark_step written before w (Some (kinds.Lit v true)) e =
    mark_literal written before w v true (λ own. record { positive = signed_marks written before false; negative = own }) e (literal_from_one w.text v true e)
    (ap (λ (p : List Bool). let m : Marks = record { positive = p; negative = signed_marks written (before ++ w ∷ []) true } in m) (unchanged written before w (Some (kinds.Lit v true)) false e (λ u. and-false (nat_eq v u))))
mark_step written before w (Some (kinds.Lit v false)) e =
    mark_literal written before w v false (λ own. record { positive = own; negative = signed_marks written before true }) e (literal_from_one w.text v false e)
    (ap (λ (q : List Bool). let m : Marks = record { positive = signed_marks written (before ++ w ∷ []) false; negative = q } in m) (unchanged written before w (Some (kinds.Lit v false)) true e (λ u. and-false (nat_eq v u))))

abbrev answer_of : Option ℕ → Marks → Result Marks ℕ
answer_of None m = Ok m
answer_of (Some n) m = Err n

mark_all : (written : ℕ) (before words : List ValueWord) → mark_words (marks_of written before) words ≡ answer_of (first_wrong_word written before words) (marks_of written (before ++ words))
mark_all written before [] = ap (λ (l : List ValueWord). let r : Result Marks ℕ = Ok (marks_of written l) in r) (sym (append-nil before))
mark_all written before (w ∷ ws) =
    let go : Marks → Result Marks ℕ = λ m. mark_words m ws in
    let whole : Marks = marks_of written (before ++ w ∷ ws) in
    ap (λ (o : Option Marks). mark_with o w.line go) (mark_step written before w (literal_of w.text) refl)
    ∙ elim (is_wrong_word written before (literal_of w.text)) as (λ t. mark_with (cond t None (Some (marks_of written (before ++ w ∷ [])))) w.line go
    ≡ answer_of (cond t (Some w.line) (first_wrong_word written (before ++ w ∷ []) ws)) whole) [
      | true ↦ refl
      | false ↦ mark_all written (before ++ w ∷ []) ws ∙ ap (λ (l : List ValueWord). answer_of (first_wrong_word written (before ++ w ∷ []) ws) (marks_of written l)) (append_assoc before (w ∷ []) ws)
    ]

mark_start : (written : ℕ) (words : List ValueWord) → mark_words (no_marks written) words ≡ answer_of (first_wrong_word written [] words) (marks_of written words)
mark_start written words =
    ap₂ (λ (p q : List Bool). let m : Marks = record { positive = p; negative = q } in mark_words m words) (no_mentions 1 written false) (no_mentions 1 written true)
    ∙ mark_all written [] words

answer_ok : (o : Option ℕ) (m n : Marks) → answer_of o m ≡ Ok n → (o ≡ None) × (m ≡ n)
answer_ok None m n h = (refl, cc)
answer_ok (Some k) m n h = absurd (let no : (k : ℕ) → ◌≡◌ {A = Result Marks ℕ} (Err k) (Ok n) → ⊥ = λ k e. cc in no k h)

answer_err : (o : Option ℕ) (m : Marks) (k : ℕ) → answer_of o m ≡ Err k → o ≡ Some k
answer_err None m k h = absurd (let no : ◌≡◌ {A = Result Marks ℕ} (Ok m) (Err k) → ⊥ = λ e. cc in no h)
answer_err (Some n) m k h = ap (λ (j : ℕ). Some j) (let e : ◌≡◌ {A = Result Marks ℕ} (Err n) (Err k) = h in cc)

pub marks_ok : (written : ℕ) (words : List ValueWord) (m : Marks) → mark_words (no_marks written) words ≡ Ok m → (first_wrong_word written [] words ≡ None) × (m.positive ≡ literals_in written words)
marks_ok written words m h =
    let p = answer_ok (first_wrong_word written [] words) (marks_of written words) m (sym (mark_start written words) ∙ h) in
    (p.0, ap (λ (n : Marks). n.positive) (sym p.1))

pub marks_err : (written : ℕ) (words : List ValueWord) (n : ℕ) → mark_words (no_marks written) words ≡ Err n → first_wrong_word written [] words ≡ Some n
marks_err written words n h = answer_err (first_wrong_word written [] words) (marks_of written words) n (sym (mark_start written words) ∙ h)
