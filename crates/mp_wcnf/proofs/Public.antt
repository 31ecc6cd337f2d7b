-- The clauses of the public calls, each from what reading all tokens gives.
use Rattle.std.proofs.Common.{◌≡◌, ◌≢◌, ◌⊎◌, ◌≤◌, ℕ, Bool, true, false, List, [], ◌∷◌, ◌++◌, Option, Some, None, Result, Ok, Err, All, refl, ap, subst, sym, ◌∙◌, arith, inl, inr}
use Rattle.std.specs.Prelude.{nat_lt, fold, IfErr, IsErrAnd, MatchResult}
use Rattle.std.specs.List.{AllByRecursion, flat_map}
use Rattle.std.proofs.lemmas.Bool.{true≢false, ltb-false}
use Rattle.std.proofs.lemmas.List.Elements.{All-from_recursion}
use Rattle.std.proofs.lemmas.List.Concat.{flat_map-cons}
use Rattle.mp_logic.specs.Literal.{Literal, IsUpTo}
use Rattle.mp_logic.specs.Formula.{Formula, IsFormula}
use Rattle.mp_logic.specs.declared.instances.Soft.{Soft}
use Rattle.mp_logic.specs.declared.limits.Limits.{Limits}
use Rattle.mp_text.specs.Tokens.{Word, tokens_of}
use Rattle.mp_wcnf.specs.Grammar.{Header, Item, AreLiterals, IsOpen, AreClauses, top_of}
use Rattle.mp_wcnf.specs.Meaning.{max_of, widest, size_of, vars_of, hard_of, soft_of, formula_of, Denotes}
use Rattle.mp_wcnf.specs.Refusals.{IsWithinLimits, IsRefused, OneMeaning}
use Rattle.mp_text.specs.Lines.{end_line}
use Rattle.mp_text.proofs.Spelled.{literal_from_one}
use Rattle.mp_wcnf.specs.Reading.{read_on, fresh_reader, Fails}
use Rattle.mp_wcnf.specs.declared.reader.Reader.{Reader}
use Rattle.mp_wcnf.specs.declared.errors.ReadError.{ReadError}
use Rattle.mp_wcnf.specs.declared.errors.ReadError.TheVariants as errors
use Rattle.mp_wcnf.proofs.Meanings.{instance_of, Means, IsRead, meant, one_instance, accepted, refused}
use Rattle.mp_wcnf.proofs.Sums.{widest_least}

is_good : Result Reader ReadError → Bool
is_good (Ok r) = true
is_good (Err e) = false

good_bad : (r : Reader) (e : ReadError) → Ok r ≡ Err e → ⊥
unfolding is_good
good_bad r e h = true≢false (ap is_good h)

reader_or : Reader → Result Reader ReadError → Reader
reader_or d (Ok r) = r
reader_or d (Err e) = d

same_reader : (q r : Reader) (x : Result Reader ReadError) → x ≡ Ok q → x ≡ Ok r → q ≡ r
unfolding reader_or
same_reader q r x a b = sym (ap (reader_or q) a) ∙ ap (reader_or q) b

error_or : ReadError → Result Reader ReadError → ReadError
error_or d (Ok r) = d
error_or d (Err e) = e

same_error : (d e : ReadError) (x : Result Reader ReadError) → x ≡ Err d → x ≡ Err e → d ≡ e
unfolding error_or
same_error d e x p q = sym (ap (error_or d) p) ∙ ap (error_or d) q

fails_is : (e : ReadError) (x : Result Reader ReadError) → e ≢ errors.NoMemory → Fails e x → x ≡ Err e
fails_is errors.NoMemory x n h = absurd (n refl)
fails_is (errors.Syntax l) x n h = h
fails_is (errors.TooManyVariables l) x n h = h
fails_is errors.TooManyClauses x n h = h
fails_is errors.TooManyLiterals x n h = h
fails_is (errors.TooHeavy l) x n h = h

fails_or : (e : ReadError) (x : Result Reader ReadError) → Fails e x → (x ≡ Err e) ⊎ (e ≡ errors.NoMemory)
fails_or errors.NoMemory x h = inr refl
fails_or (errors.Syntax l) x h = inl h
fails_or (errors.TooManyVariables l) x h = inl h
fails_or errors.TooManyClauses x h = inl h
fails_or errors.TooManyLiterals x h = inl h
fails_or (errors.TooHeavy l) x h = inl h

abbrev reading : Limits → List ℕ → Result Reader ReadError
reading m text = read_on m (end_line text) (tokens_of true text) fresh_reader

-- where all was read
pub found : (m : Limits) (text : List ℕ) (r : Reader) → reading m text ≡ Ok r → Denotes text (instance_of r) × IsWithinLimits m (instance_of r)
found m text r g = subst (Means m (end_line text) (tokens_of true text)) g (meant m (end_line text) (tokens_of true text))

pub found_only : (m : Limits) (text : List ℕ) (r : Reader) → reading m text ≡ Ok r → (f : Formula) → Denotes text f → IsWithinLimits m f → instance_of r ≡ f
found_only m text r g f d h =
    let k : IsRead m (end_line text) (tokens_of true text) f = accepted m (end_line text) (tokens_of true text) f d h in
    ap instance_of (same_reader r k.reader (reading m text) g k.read) ∙ k.is

pub found_unrefused : (m : Limits) (text : List ℕ) (r : Reader) → reading m text ≡ Ok r → (e : ReadError) → IsRefused m text e → ⊥
found_unrefused m text r g e k = good_bad r e (sym g ∙ refused m (end_line text) (tokens_of true text) e k)

-- where reading failed
so_refused : (m : Limits) (text : List ℕ) (e : ReadError) → Fails e (reading m text) → e ≢ errors.NoMemory → IsRefused m text e
so_refused m text e g n = subst (Means m (end_line text) (tokens_of true text)) (fails_is e (reading m text) n g) (meant m (end_line text) (tokens_of true text))

not_accepted : (m : Limits) (text : List ℕ) (e : ReadError) → Fails e (reading m text) → (f : Formula) → Denotes text f → IsWithinLimits m f → e ≡ errors.NoMemory
not_accepted m text e g f d h =
    let k : IsRead m (end_line text) (tokens_of true text) f = accepted m (end_line text) (tokens_of true text) f d h in
    elim (fails_or e (reading m text) g) [
      | inl a ↦ absurd (good_bad k.reader e (sym k.read ∙ a))
      | inr n ↦ n
    ]

one_error : (m : Limits) (text : List ℕ) (e : ReadError) → Fails e (reading m text) → (d : ReadError) → IsRefused m text d → (e ≡ d) ⊎ (e ≡ errors.NoMemory)
one_error m text e g d k =
    elim (fails_or e (reading m text) g) [
      | inl a ↦ inl (same_error e d (reading m text) a (refused m (end_line text) (tokens_of true text) d k))
      | inr n ↦ inr n
    ]

-- an answer that is this error
pub failed : (m : Limits) (text : List ℕ) (e : ReadError) (answer : Result Formula ReadError) → IsErrAnd answer (λ d. d ≡ e) → Fails e (reading m text)
    → IfErr answer (λ d. d ≢ errors.NoMemory → IsRefused m text d)
failed m text e (Ok f) i g = tt
failed m text e (Err d) i g = λ n. subst (IsRefused m text) (sym i) (so_refused m text e g (λ z. n (i ∙ z)))

pub failed_only : (m : Limits) (text : List ℕ) (e : ReadError) (answer : Result Formula ReadError) → IsErrAnd answer (λ d. d ≡ e) → Fails e (reading m text)
    → (f : Formula) → Denotes text f → IsWithinLimits m f → MatchResult answer (λ i. i ≡ f) (λ d. d ≡ errors.NoMemory)
failed_only m text e (Ok i) z g f d h = absurd z
failed_only m text e (Err x) i g f d h = i ∙ not_accepted m text e g f d h

pub failed_so : (m : Limits) (text : List ℕ) (e : ReadError) (answer : Result Formula ReadError) → IsErrAnd answer (λ d. d ≡ e) → Fails e (reading m text)
    → (d : ReadError) → IsRefused m text d → IsErrAnd answer (λ x. (x ≡ d) ⊎ (x ≡ errors.NoMemory))
failed_so m text e (Ok i) z g d k = absurd z
failed_so m text e (Err x) i g d k = elim (one_error m text e g d k) [ inl s ↦ inl (i ∙ s) | inr n ↦ inr (i ∙ n) ]

-- the variables of an instance that was read
abbrev FromOne : Literal → Type 0
FromOne l = 1 ≤ l.variable

literals_from : (ws : List Word) (ls : List Literal) → AreLiterals ws ls → AllByRecursion FromOne ls
literals_from [] [] k = tt
literals_from [] (l ∷ ls) k = absurd k
literals_from (w ∷ ws) [] k = absurd k
literals_from (w ∷ ws) (l ∷ ls) k = (literal_from_one w.text l.variable l.negative k.0, literals_from ws ls k.1)

open_from : (top : Option ℕ) (ws : List Word) (i : Item) → IsOpen top ws i → AllByRecursion FromOne i.lits
open_from top [] i k = absurd k
open_from top (w ∷ ws) i k = literals_from ws i.lits k.1

items_from : (top : Option ℕ) (ws : List Word) (items : List Item) → AreClauses top ws items → AllByRecursion (λ i. AllByRecursion FromOne i.lits) items
items_from top ws [] k = tt
items_from top ws (i ∷ is) k = (open_from top k.3.0 i k.3.3, items_from top k.1 is k.4)

max_other : (a b : ℕ) → b ≤ max_of a b
max_other a b =
    let step : (t : Bool) → nat_lt a b ≡ t → b ≤ max_of a b =
    λ (t : Bool). elim t as (λ t. nat_lt a b ≡ t → b ≤ max_of a b) [
      | true ↦ λ e. rw e (omega arith)
      | false ↦ λ e. rw e (ltb-false a b e)
    ] in
    step (nat_lt a b) refl

up_to : (m n : ℕ) (ls : List Literal) → widest n ls ≤ m → AllByRecursion FromOne ls → AllByRecursion (IsUpTo m) ls
up_to m n [] h k = tt
up_to m n (l ∷ ls) h k =
    let below : l.variable ≤ m = omega (arith, h, max_other n l.variable, widest_least (max_of n l.variable) ls) in
    ((k.0, below), up_to m (max_of n l.variable) ls h k.1)

all_least : (n : ℕ) (items : List Item) → n ≤ fold (λ m (i : Item). widest m i.lits) n items
all_least n [] = omega arith
all_least n (i ∷ is) = omega (arith, widest_least n i.lits, all_least (widest n i.lits) is)

items_up : (m n : ℕ) (items : List Item) → fold (λ m (i : Item). widest m i.lits) n items ≤ m → AllByRecursion (λ i. AllByRecursion FromOne i.lits) items
    → AllByRecursion (λ i. All (IsUpTo m) i.lits) items
items_up m n [] h k = tt
items_up m n (i ∷ is) h k =
    let below : widest n i.lits ≤ m = omega (arith, h, all_least (widest n i.lits) is) in
    (All-from_recursion (IsUpTo m) i.lits (up_to m n i.lits below k.0), items_up m (widest n i.lits) is h k.1)

hards_up : (m : ℕ) (items : List Item) → AllByRecursion (λ i. All (IsUpTo m) i.lits) items → AllByRecursion (λ c. All (IsUpTo m) c) (flat_map (λ (i : Item). hard_of i i.weight) items)
hards_up m [] k = tt
hards_up m (i ∷ is) k =
    let go : (w : Option ℕ) → AllByRecursion (λ c. All (IsUpTo m) c) (hard_of i w ++ flat_map (λ (i : Item). hard_of i i.weight) is) =
    λ (w : Option ℕ). elim w as (λ w. AllByRecursion (λ c. All (IsUpTo m) c) (hard_of i w ++ flat_map (λ (i : Item). hard_of i i.weight) is)) [
      | None ↦ (k.0, hards_up m is k.1)
      | Some n ↦ hards_up m is k.1
    ] in
    subst (AllByRecursion (λ c. All (IsUpTo m) c)) (sym (flat_map-cons (λ (i : Item). hard_of i i.weight) i is)) (go i.weight)

softs_up : (m : ℕ) (items : List Item) → AllByRecursion (λ i. All (IsUpTo m) i.lits) items → AllByRecursion (λ (s : Soft). All (IsUpTo m) s.clause) (flat_map (λ (i : Item). soft_of i i.weight) items)
softs_up m [] k = tt
softs_up m (i ∷ is) k =
    let go : (w : Option ℕ) → AllByRecursion (λ (s : Soft). All (IsUpTo m) s.clause) (soft_of i w ++ flat_map (λ (i : Item). soft_of i i.weight) is) =
    λ (w : Option ℕ). elim w as (λ w. AllByRecursion (λ (s : Soft). All (IsUpTo m) s.clause) (soft_of i w ++ flat_map (λ (i : Item). soft_of i i.weight) is)) [
      | None ↦ softs_up m is k.1
      | Some n ↦ (k.0, softs_up m is k.1)
    ] in
    subst (AllByRecursion (λ (s : Soft). All (IsUpTo m) s.clause)) (sym (flat_map-cons (λ (i : Item). soft_of i i.weight) i is)) (go i.weight)

abbrev IsInstance : Formula → Type 0
IsInstance f = IsFormula f.vars f.hard f.soft

formula_is : (h : Option Header) (items : List Item) → AllByRecursion (λ i. AllByRecursion FromOne i.lits) items → IsInstance (formula_of h items)
formula_is h items k =
    let up : AllByRecursion (λ i. All (IsUpTo (vars_of h items)) i.lits) items = items_up (vars_of h items) (size_of h) items (omega arith) k in
    record {
      hard_within = All-from_recursion (λ c. All (IsUpTo (vars_of h items)) c) (formula_of h items).hard (hards_up (vars_of h items) items up);
      soft_within = All-from_recursion (λ (s : Soft). All (IsUpTo (vars_of h items)) s.clause) (formula_of h items).soft (softs_up (vars_of h items) items up);
    }

pub denoted_formula : (text : List ℕ) (f : Formula) → Denotes text f → IsFormula f.vars f.hard f.soft
denoted_formula text f d = subst IsInstance (sym d.are) (formula_is d.header d.items (items_from (top_of d.header) d.rest d.items d.clauses))

-- the law
either_way : (m : Limits) (text : List ℕ) (x : Result Reader ReadError) → Means m (end_line text) (tokens_of true text) x
    → ((f : Formula) × Denotes text f × IsWithinLimits m f) ⊎ ((e : ReadError) × IsRefused m text e)
either_way m text (Ok r) k = inl (instance_of r, k.0, k.1)
either_way m text (Err e) k = inr (e, k)

pub one_meaning : OneMeaning
one_meaning m text =
    let end : ℕ = end_line text in
    let words : List Word = tokens_of true text in
    record {
      one_instance = one_instance words;
      not_both = λ f e d h k. let r : IsRead m end words f = accepted m end words f d h in good_bad r.reader e (sym r.read ∙ refused m end words e k);
      one_refusal = λ d e a b. same_error d e _ (refused m end words d a) (refused m end words e b);
      one_of_them = either_way m text (read_on m end words fresh_reader) (meant m end words);
    }
