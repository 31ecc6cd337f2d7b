-- What one word does to what a reader holds is what the grammar and the limits say of it.
use Rattle.std.proofs.Common.{◌≡◌, ◌≤◌, ℕ, Bool, true, false, List, [], ◌∷◌, ◌++◌, ◌+◌, Option, Some, None, Result, Ok, Err, refl, ap, ap₂, sym, ◌∙◌, arith, if◌then◌else◌, add-one, length-append, codes}
use Rattle.std.specs.Prelude.{nat_lt, nat_le}
use Rattle.std.specs.Str.{bytes_eq}
use Rattle.std.proofs.lemmas.List.{append-nil}
use Rattle.std.proofs.lemmas.Bool.{le-ltb, ltb-false}
use Rattle.std.proofs.Math.Dec.{leb-suc-suc}
use Rattle.mp_logic.specs.Literal.{Literal}
use Rattle.mp_logic.specs.Formula.{Formula}
use Rattle.mp_logic.specs.Truth.{weights_of}
use Rattle.mp_logic.specs.declared.instances.Soft.{Soft}
use Rattle.mp_logic.specs.declared.limits.Limits.{Limits}
use Rattle.mp_text.specs.Tokens.{Word}
use Rattle.mp_text.specs.Numbers.{literal_of}
use Rattle.mp_text.specs.declared.numbers.LitToken.{LitToken}
use Rattle.mp_text.specs.declared.numbers.LitToken.TheVariants as kinds
use Rattle.mp_wcnf.specs.Grammar.{Header, Item, number_of, head_of, top_of}
use Rattle.mp_wcnf.specs.Meaning.{max_of, vars_of, formula_of}
use Rattle.mp_wcnf.specs.Refusals.{IsWithinLimits, clauses_in, literals_in, passed, begun, line_at}
use Rattle.mp_wcnf.specs.Reading.{headed, with_vars, with_count, with_top as with_top_read, closed, continued, step}
use Rattle.mp_wcnf.specs.declared.reader.Reader.{Reader}
use Rattle.mp_wcnf.specs.declared.reader.Place.{Place}
use Rattle.mp_wcnf.specs.declared.reader.Place.TheVariants as places
use Rattle.mp_wcnf.specs.declared.errors.ReadError.{ReadError}
use Rattle.mp_wcnf.specs.declared.errors.ReadError.TheVariants as errors
use Rattle.mp_wcnf.proofs.Stands.{Stand, Start, AtFormat, AtVariables, AtCount, AtTop, AtLineEnd, Among, with_top, front_of, after_head, after_literal, after_vars, after_count, after_top, next_in, place_in, held_at, held, limited, judged}
use Rattle.mp_wcnf.proofs.Sums.{item, paid, hard_more, soft_more, clauses_more, weights_more, literals_more, vars_more, widest_more}

-- the first limit that these numbers pass
abbrev over : Limits → ℕ → ℕ → ℕ → ℕ → ℕ → Option ReadError
over m clauses weight vars literals line = if nat_lt m.clauses clauses then Some errors.TooManyClauses
    else if nat_lt m.weight weight then Some (errors.TooHeavy line)
    else if nat_lt m.variables vars then Some (errors.TooManyVariables line)
    else if nat_lt m.literals literals then Some errors.TooManyLiterals
    else None

abbrev reader : List (List Literal) → List Soft → List Literal → Option ℕ → Place → ℕ → ℕ → ℕ → ℕ → Reader
reader hard soft lits top place v c l w = record { hard = hard; soft = soft; lits = lits; vars = v; clauses = c; literals = l; weight = w; top = top; place = place }

lt_one_more : (m n : ℕ) → nat_lt m (n + 1) ≡ nat_le m n
lt_one_more m n = ap (nat_lt m) (add-one n) ∙ leb-suc-suc m n

lt_max : (m a b : ℕ) → a ≤ m → nat_lt m (max_of a b) ≡ nat_lt m b
lt_max m a b h =
    let step : (t : Bool) → nat_lt a b ≡ t → nat_lt m (max_of a b) ≡ nat_lt m b =
    λ (t : Bool). elim t as (λ t. nat_lt a b ≡ t → nat_lt m (max_of a b) ≡ nat_lt m b) [
      | true ↦ λ e. rw e refl
      | false ↦ λ e. rw e (le-ltb m a h ∙ sym (le-ltb m b (omega (arith, ltb-false a b e, h))))
    ] in
    step (nat_lt a b) refl

head_over : (m : Limits) (c w v l line : ℕ) → w ≤ m.weight → v ≤ m.variables → l ≤ m.literals
    → over m (c + 1) w v l line ≡ (if nat_le m.clauses c then Some errors.TooManyClauses else None)
head_over m c w v l line hw hv hl = rw (lt_one_more m.clauses c, le-ltb m.weight w hw, le-ltb m.variables v hv, le-ltb m.literals l hl) refl

soft_over : (m : Limits) (c w v l line : ℕ) → v ≤ m.variables → l ≤ m.literals
    → over m (c + 1) w v l line ≡ (if nat_le m.clauses c then Some errors.TooManyClauses else if nat_lt m.weight w then Some (errors.TooHeavy line) else None)
soft_over m c w v l line hv hl = rw (lt_one_more m.clauses c, le-ltb m.variables v hv, le-ltb m.literals l hl) refl

literal_over : (m : Limits) (c w v x l line : ℕ) → c ≤ m.clauses → w ≤ m.weight → v ≤ m.variables
    → over m c w (max_of v x) (l + 1) line ≡ (if nat_lt m.variables x then Some (errors.TooManyVariables line) else if nat_le m.literals l then Some errors.TooManyLiterals else None)
literal_over m c w v x l line hc hw hv = rw (le-ltb m.clauses c hc, le-ltb m.weight w hw, lt_max m.variables v x hv, lt_one_more m.literals l) refl

vars_over : (m : Limits) (n line : ℕ) → over m 0 0 n 0 line ≡ (if nat_lt m.variables n then Some (errors.TooManyVariables line) else None)
vars_over m n line = rw (le-ltb m.clauses 0 (omega arith), le-ltb m.weight 0 (omega arith), le-ltb m.literals 0 (omega arith)) refl

limited_once : (t : Bool) (e : ReadError) (r : Reader) → limited (if t then Some e else None) r ≡ (if t then Err e else Ok r)
limited_once true e r = refl
limited_once false e r = refl

limited_twice : (s t : Bool) (d e : ReadError) (r : Reader) → limited (if s then Some d else if t then Some e else None) r ≡ (if s then Err d else if t then Err e else Ok r)
limited_twice true t d e r = refl
limited_twice false true d e r = refl
limited_twice false false d e r = refl

same_numbers : (hard : List (List Literal)) (soft : List Soft) (lits : List Literal) (top : Option ℕ) (p : Place) (v v' c c' l l' w w' : ℕ) → v ≡ v' → c ≡ c' → l ≡ l' → w ≡ w'
    → reader hard soft lits top p v c l w ≡ reader hard soft lits top p v' c' l' w'
same_numbers h s ls t p v v' c c' l l' w w' ev ec el ew =
    ap (λ x. reader h s ls t p x c l w) ev ∙ ap (λ x. reader h s ls t p v' x l w) ec ∙ ap (λ x. reader h s ls t p v' c' x w) el ∙ ap (λ x. reader h s ls t p v' c' l' x) ew

over_of : Limits → ℕ → Reader → Result Reader ReadError
over_of m line r = limited (over m r.clauses r.weight r.vars r.literals line) r

pub within_passes : (m : Limits) (f : Formula) (line : ℕ) → IsWithinLimits m f → passed m f line ≡ None
within_passes m f line h =
    rw (le-ltb m.clauses (clauses_in f) h.clauses, le-ltb m.weight (weights_of f.soft) h.weight, le-ltb m.variables f.vars h.vars, le-ltb m.literals (literals_in f) h.literals) refl

-- the head of a clause
held_head : (h : Option Header) (items : List Item) (p : Place) (w : Option ℕ) (n : ℕ) → weights_of (formula_of h items).soft + paid w ≡ n
    → held (Among h items (Some (item w []))) ≡ record (held_at h items None p) { clauses = clauses_in (formula_of h items) + 1; weight = n; place = place_in w }
held_head h items p w n e =
    same_numbers _ _ [] (top_of h) (place_in w) _ _ _ _ _ _ _ _
    (vars_more h items w []) (clauses_more h items w []) (omega (arith, literals_more h items w [])) (weights_more h items w [] ∙ e)

head_judged : (m : Limits) (h : Option Header) (items : List Item) (p : Place) (line : ℕ) → IsWithinLimits m (formula_of h items) → (x : Option (Option ℕ))
    → headed m (held_at h items None p) line x ≡ judged m line line (after_head h items x)
unfolding over_of
head_judged m h items p line k None = refl
head_judged m h items p line k (Some None) =
    sym (ap (over_of m line) (held_head h items p None (weights_of (formula_of h items).soft) (omega arith))
    ∙ ap (λ o. limited o (record (held_at h items None p) { clauses = clauses_in (formula_of h items) + 1; place = places.Hard })) (head_over m _ _ _ _ line k.weight k.vars k.literals)
    ∙ limited_once (nat_le m.clauses (clauses_in (formula_of h items))) _ _)
head_judged m h items p line k (Some (Some w)) =
    sym (ap (over_of m line) (held_head h items p (Some w) (weights_of (formula_of h items).soft + w) refl)
    ∙ ap (λ o. limited o (record (held_at h items None p) { clauses = clauses_in (formula_of h items) + 1; weight = weights_of (formula_of h items).soft + w; place = places.Soft w }))
    (soft_over m _ _ _ _ line k.vars k.literals)
    ∙ limited_twice (nat_le m.clauses (clauses_in (formula_of h items))) (nat_lt m.weight (weights_of (formula_of h items).soft + w)) _ _ _)

-- a literal
held_literal : (h : Option Header) (items : List Item) (w : Option ℕ) (ls : List Literal) (l : Literal) → held (Among h items (Some (item w (ls ++ l ∷ []))))
    ≡ (let r = held (Among h items (Some (item w ls))) in record r { lits = ls ++ l ∷ []; literals = r.literals + 1; vars = max_of r.vars l.variable })
held_literal h items w ls l =
    same_numbers _ _ (ls ++ l ∷ []) (top_of h) (place_in w) _ _ _ _ _ _ _ _
    (vars_more h items w (ls ++ l ∷ []) ∙ widest_more (vars_of h items) ls l ∙ ap (λ n. max_of n l.variable) (sym (vars_more h items w ls)))
    (clauses_more h items w (ls ++ l ∷ []) ∙ sym (clauses_more h items w ls))
    (omega (arith, literals_more h items w ls, literals_more h items w (ls ++ l ∷ []), length-append ls (l ∷ [])))
    (weights_more h items w (ls ++ l ∷ []) ∙ sym (weights_more h items w ls))

held_closed : (h : Option Header) (items : List Item) (w : Option ℕ) (ls : List Literal) → closed (held (Among h items (Some (item w ls)))) (place_in w) ≡ held (Among h (items ++ item w ls ∷ []) None)
held_closed h items None ls =
    sym (ap₂ (λ hard soft. record (held (Among h (items ++ item None ls ∷ []) None)) { hard = hard; soft = soft })
    (hard_more h items None ls) (soft_more h items None ls ∙ append-nil (formula_of h items).soft))
held_closed h items (Some w) ls =
    sym (ap₂ (λ hard soft. record (held (Among h (items ++ item (Some w) ls ∷ []) None)) { hard = hard; soft = soft })
    (hard_more h items (Some w) ls ∙ append-nil (formula_of h items).hard) (soft_more h items (Some w) ls))

literal_judged : (m : Limits) (h : Option Header) (items : List Item) (i : Item) (line : ℕ) → IsWithinLimits m (formula_of h (items ++ i ∷ [])) → (x : Option LitToken)
    → continued m (held (Among h items (Some i))) line x ≡ judged m line line (after_literal h items i x)
unfolding over_of
literal_judged m h items i line k None = refl
literal_judged m h items i line k (Some kinds.Close) =
    ap Ok (held_closed h items i.weight i.lits) ∙ sym (ap (λ o. limited o (held (Among h (items ++ i ∷ []) None))) (within_passes m (formula_of h (items ++ i ∷ [])) line k))
literal_judged m h items i line k (Some (kinds.Lit v n)) =
    let l : Literal = record { variable = v; negative = n } in
    let r : Reader = held (Among h items (Some i)) in
    sym (ap (over_of m line) (held_literal h items i.weight i.lits l)
    ∙ ap (λ o. limited o (record r { lits = i.lits ++ l ∷ []; literals = r.literals + 1; vars = max_of r.vars v })) (literal_over m r.clauses r.weight r.vars v r.literals line k.clauses k.weight k.vars)
    ∙ limited_twice (nat_lt m.variables v) (nat_le m.literals r.literals) _ _ _)

open_case : (m : Limits) (r : Reader) (w : Option ℕ) (word : Word) → step m r (place_in w) word ≡ continued m r word.line (literal_of word.text)
open_case m r None word = refl
open_case m r (Some w) word = refl

-- a word of the header passes no limit, but for its n
abbrev size : ℕ → Formula
size n = record { vars = n; hard = []; soft = [] }

free : (m : Limits) (n line : ℕ) (r : Reader) → n ≤ m.variables → limited (passed m (size n) line) r ≡ Ok r
free m n line r h = ap (λ o. limited o r) (vars_over m n line ∙ ap (λ t. if t then Some (errors.TooManyVariables line) else None) (le-ltb m.variables n h))

if_line : (leads : Bool) (m : Limits) (line fault : ℕ) (read : Result Reader ReadError) (x : Option Stand) → read ≡ judged m line fault x
    → (if leads then Err (errors.Syntax fault) else read) ≡ judged m line fault (if leads then None else x)
if_line true m line fault read x e = refl
if_line false m line fault read x e = e

either : (t : Bool) (m : Limits) (line fault : ℕ) (a b : Result Reader ReadError) (x y : Option Stand) → a ≡ judged m line fault x → b ≡ judged m line fault y
    → (if t then a else b) ≡ judged m line fault (if t then x else y)
either true m line fault a b x y e f = e
either false m line fault a b x y e f = f

vars_judged : (m : Limits) (line here : ℕ) (x : Option ℕ) → with_vars m (held (AtVariables line)) line here x ≡ judged m here line (after_vars line x)
vars_judged m line here None = refl
vars_judged m line here (Some n) = sym (ap (λ o. limited o (held (AtCount line n))) (vars_over m n here) ∙ limited_once (nat_lt m.variables n) _ _)

count_judged : (m : Limits) (line n here : ℕ) → n ≤ m.variables → (x : Option ℕ) → with_count (held (AtCount line n)) line x ≡ judged m here line (after_count n x)
count_judged m line n here h None = refl
count_judged m line n here h (Some c) = sym (free m n here (held (AtTop n)) h)

top_judged : (m : Limits) (n here : ℕ) → n ≤ m.variables → (x : Option ℕ) → with_top_read (held (AtTop n)) here x ≡ judged m here here (after_top n x)
top_judged m n here h None = refl
top_judged m n here h (Some t) = sym (free m n here (held (AtLineEnd n t)) h)

-- one word
pub step_judged : (m : Limits) (s : Stand) (word : Word) → IsWithinLimits m (begun (front_of s)) → step m (held s) (held s).place word ≡ judged m word.line (line_at (front_of s) word) (next_in s word)
step_judged m Start word h =
    either (bytes_eq word.text (codes "p")) m word.line word.line _ _ (Some (AtFormat word.line)) (after_head None [] (head_of None word.text))
    (sym (free m 0 word.line (held (AtFormat word.line)) (omega arith))) (head_judged m None [] places.Start word.line h (head_of None word.text))
step_judged m (AtFormat line) word h =
    if_line word.leads m word.line line _ _
    (either (bytes_eq word.text (codes "wcnf")) m word.line line _ _ (Some (AtVariables line)) None (sym (free m 0 word.line (held (AtVariables line)) (omega arith))) refl)
step_judged m (AtVariables line) word h = if_line word.leads m word.line line _ _ (vars_judged m line word.line (number_of word.text))
step_judged m (AtCount line n) word h = if_line word.leads m word.line line _ _ (count_judged m line n word.line h.vars (number_of word.text))
step_judged m (AtTop n) word h =
    either word.leads m word.line word.line _ _ _ _ (head_judged m (with_top n 0) [] places.Top word.line h (head_of (Some 0) word.text)) (top_judged m n word.line h.vars (number_of word.text))
step_judged m (AtLineEnd n t) word h =
    either word.leads m word.line word.line _ _ _ None (head_judged m (with_top n t) [] places.LineEnd word.line h (head_of (Some t) word.text)) refl
step_judged m (Among h items None) word k = head_judged m h items places.Between word.line k (head_of (top_of h) word.text)
step_judged m (Among h items (Some i)) word k = open_case m (held (Among h items (Some i))) i.weight word ∙ literal_judged m h items i word.line k (literal_of word.text)
