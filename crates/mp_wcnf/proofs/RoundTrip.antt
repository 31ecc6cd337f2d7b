-- The text written of an instance denotes it.
use Rattle.std.proofs.Common.{◌≡◌, ◌≤◌, ◌<◌, ◌+◌, ℕ, Bool, true, false, List, [], ◌∷◌, ◌++◌, Option, Some, None, IsSome, All, length, map, refl, ap, ap₂, subst, sym, ◌∙◌, append_assoc, arith, if◌then◌else◌, codes}
use Rattle.std.specs.Prelude.{nat_le, ◌&&◌, fold}
use Rattle.std.specs.Fmt.{decimal}
use Rattle.std.specs.Str.{bytes_eq, all_ascii_digits}
use Rattle.std.specs.List.{AllByRecursion, flat_map}
use Rattle.std.proofs.Math.Bool.{and-false}
use Rattle.std.proofs.lemmas.Slice.Eq.{bytes_eq-Decides}
use Rattle.std.proofs.lemmas.Bool.{le-leb, lt-leb, le-ltb, false_from_ne_true, false≢true, and_from}
use Rattle.std.proofs.lemmas.List.{append-nil, map-append}
use Rattle.std.proofs.lemmas.List.Elements.{recursion_from_All}
use Rattle.std.proofs.lemmas.List.Concat.{flat_map-cons}
use Rattle.std.proofs.lemmas.List.Sums.{fold-append, sum_by-cons}
use Rattle.std.proofs.lemmas.Grind.{flat_map-append}
use Rattle.mp_logic.specs.Literal.{Literal, IsUpTo}
use Rattle.mp_logic.specs.Formula.{Formula, IsFormula}
use Rattle.mp_logic.specs.Truth.{weights_of}
use Rattle.mp_logic.specs.declared.instances.Soft.{Soft}
use Rattle.mp_text.specs.Tokens.{Word, of_line, begins_comment, tokens_of}
use Rattle.mp_text.specs.Numbers.{greatest, literal_of}
use Rattle.mp_text.specs.Lines.{text_of, IsWord}
use Rattle.mp_text.specs.declared.numbers.LitToken.TheVariants as kinds
use Rattle.mp_text.proofs.Lines.{plain, body, tokens_in, tokens_of_lines}
use Rattle.mp_text.proofs.Spelled.{number_is_word, number_no_comment, number_is_digits, number_is_kept, positive_is_read, negative_is_read}
use Rattle.mp_wcnf.specs.Grammar.{Header, Item, number_of, weighed, head_of, AreLiterals, IsClause, AreClauses, IsLine, IsHeader, GoesBehind, top_of}
use Rattle.mp_wcnf.specs.Meaning.{widest, size_of, vars_of, hard_of, soft_of, formula_of, WordsDenote, Denotes}
use Rattle.mp_text.specs.Writing.{literal_word, clause_words}
use Rattle.mp_wcnf.specs.Writing.{top_weight, hard_mark, hard_line, soft_line, offset_line, header_lines, instance_lines, instance_text, IsTight}
use Rattle.mp_wcnf.specs.declared.writer.Form.{Form}
use Rattle.mp_wcnf.specs.declared.writer.Form.TheVariants as forms
use Rattle.mp_wcnf.proofs.Sums.{item}

-- the clauses of an instance as they stand in its text
abbrev soft_item : Soft → Item
soft_item s = item (Some s.weight) s.clause

abbrev items_of : Formula → List Item
items_of f = map (item None) f.hard ++ map soft_item f.soft

abbrev mark_of : Form → ℕ → Option ℕ → List ℕ
mark_of form top None = hard_mark form top
mark_of form top (Some w) = decimal w

abbrev item_line : Form → ℕ → Item → List (List ℕ)
item_line form top i = mark_of form top i.weight ∷ clause_words i.lits

hard_lines : (form : Form) (top : ℕ) (cs : List (List Literal)) → map (hard_line form top) cs ≡ map (item_line form top) (map (item None) cs)
hard_lines form top [] = refl
hard_lines form top (c ∷ cs) = ap (λ v. hard_line form top c ∷ v) (hard_lines form top cs)

soft_lines : (form : Form) (top : ℕ) (ss : List Soft) → map soft_line ss ≡ map (item_line form top) (map soft_item ss)
soft_lines form top [] = refl
soft_lines form top (s ∷ ss) = ap (λ v. soft_line s ∷ v) (soft_lines form top ss)

clause_lines : (form : Form) (top : ℕ) (f : Formula) → map (hard_line form top) f.hard ++ map soft_line f.soft ≡ map (item_line form top) (items_of f)
clause_lines form top f =
    ap₂ (λ a b. a ++ b) (hard_lines form top f.hard) (soft_lines form top f.soft) ∙ sym (map-append (item_line form top) (map (item None) f.hard) (map soft_item f.soft))

-- they make up the instance again
hards_again : (cs : List (List Literal)) → flat_map (λ (i : Item). hard_of i i.weight) (map (item None) cs) ≡ cs
hards_again [] = refl
hards_again (c ∷ cs) = flat_map-cons (λ (i : Item). hard_of i i.weight) (item None c) (map (item None) cs) ∙ ap (λ v. c ∷ v) (hards_again cs)

no_hards : (ss : List Soft) → flat_map (λ (i : Item). hard_of i i.weight) (map soft_item ss) ≡ []
no_hards [] = refl
no_hards (s ∷ ss) = flat_map-cons (λ (i : Item). hard_of i i.weight) (soft_item s) (map soft_item ss) ∙ no_hards ss

softs_again : (ss : List Soft) → flat_map (λ (i : Item). soft_of i i.weight) (map soft_item ss) ≡ ss
softs_again [] = refl
softs_again (s ∷ ss) = flat_map-cons (λ (i : Item). soft_of i i.weight) (soft_item s) (map soft_item ss) ∙ ap (λ v. s ∷ v) (softs_again ss)

no_softs : (cs : List (List Literal)) → flat_map (λ (i : Item). soft_of i i.weight) (map (item None) cs) ≡ []
no_softs [] = refl
no_softs (c ∷ cs) = flat_map-cons (λ (i : Item). soft_of i i.weight) (item None c) (map (item None) cs) ∙ no_softs cs

hard_again : (h : Option Header) (f : Formula) → (formula_of h (items_of f)).hard ≡ f.hard
hard_again h f =
    flat_map-append (λ (i : Item). hard_of i i.weight) (map (item None) f.hard) (map soft_item f.soft) ∙ ap₂ (λ a b. a ++ b) (hards_again f.hard) (no_hards f.soft) ∙ append-nil f.hard

soft_again : (h : Option Header) (f : Formula) → (formula_of h (items_of f)).soft ≡ f.soft
soft_again h f =
    flat_map-append (λ (i : Item). soft_of i i.weight) (map (item None) f.hard) (map soft_item f.soft) ∙ ap₂ (λ a b. a ++ b) (no_softs f.hard) (softs_again f.soft)

hard_widest : (n : ℕ) (cs : List (List Literal)) → fold (λ m (i : Item). widest m i.lits) n (map (item None) cs) ≡ fold widest n cs
hard_widest n [] = refl
hard_widest n (c ∷ cs) = hard_widest (widest n c) cs

soft_widest : (n : ℕ) (ss : List Soft) → fold (λ m (i : Item). widest m i.lits) n (map soft_item ss) ≡ fold (λ m (s : Soft). widest m s.clause) n ss
soft_widest n [] = refl
soft_widest n (s ∷ ss) = soft_widest (widest n s.clause) ss

vars_again : (h : Option Header) (f : Formula) → vars_of h (items_of f) ≡ fold (λ m (s : Soft). widest m s.clause) (fold widest (size_of h) f.hard) f.soft
vars_again h f =
    fold-append (λ m (i : Item). widest m i.lits) (size_of h) (map (item None) f.hard) (map soft_item f.soft)
    ∙ ap (λ n. fold (λ m (i : Item). widest m i.lits) n (map soft_item f.soft)) (hard_widest (size_of h) f.hard)
    ∙ soft_widest (fold widest (size_of h) f.hard) f.soft

-- no variable is above vars
stays : (n : ℕ) (ls : List Literal) → AllByRecursion (IsUpTo n) ls → widest n ls ≡ n
stays n [] k = refl
stays n (l ∷ ls) k = ap (λ t. widest (if t then l.variable else n) ls) (le-ltb n l.variable k.0.1) ∙ stays n ls k.1

hards_stay : (n : ℕ) (cs : List (List Literal)) → AllByRecursion (λ c. All (IsUpTo n) c) cs → fold widest n cs ≡ n
hards_stay n [] k = refl
hards_stay n (c ∷ cs) k = ap (λ m. fold widest m cs) (stays n c (recursion_from_All (IsUpTo n) c k.0)) ∙ hards_stay n cs k.1

softs_stay : (n : ℕ) (ss : List Soft) → AllByRecursion (λ (s : Soft). All (IsUpTo n) s.clause) ss → fold (λ m (s : Soft). widest m s.clause) n ss ≡ n
softs_stay n [] k = refl
softs_stay n (s ∷ ss) k = ap (λ m. fold (λ m (s : Soft). widest m s.clause) m ss) (stays n s.clause (recursion_from_All (IsUpTo n) s.clause k.0)) ∙ softs_stay n ss k.1

-- the words of literals and clauses
abbrev Fits : Literal → Type 0
Fits l = IsUpTo greatest l

literal_is_word : (l : Literal) → Fits l → IsWord (literal_word l)
literal_is_word l k =
    let number : IsWord (decimal l.variable) = number_is_word l.variable k.1 in
    let step : (b : Bool) → IsWord (if b then codes "-" ++ decimal l.variable else decimal l.variable) =
    λ (b : Bool). elim b as (λ b. IsWord (if b then codes "-" ++ decimal l.variable else decimal l.variable)) [ true ↦ (refl, (refl, number.1)) | false ↦ number ] in
    step l.negative

literal_is_read : (l : Literal) → Fits l → literal_of (literal_word l) ≡ Some (kinds.Lit l.variable l.negative)
literal_is_read l k =
    let step : (b : Bool) → literal_of (if b then codes "-" ++ decimal l.variable else decimal l.variable) ≡ Some (kinds.Lit l.variable b) =
    λ (b : Bool). elim b as (λ b. literal_of (if b then codes "-" ++ decimal l.variable else decimal l.variable) ≡ Some (kinds.Lit l.variable b)) [
      | true ↦ negative_is_read l.variable k.0 k.1
      | false ↦ positive_is_read l.variable k.0 k.1
    ] in
    step l.negative

clause_is_words : (c : List Literal) → AllByRecursion Fits c → AllByRecursion IsWord (clause_words c)
clause_is_words [] k = ((refl, (refl, tt)), tt)
clause_is_words (l ∷ c) k = (literal_is_word l k.0, clause_is_words c k.1)

-- a clause and its closing 0
record Closes (words : List Word) (c : List Literal) : Type 0 where
  front : List Word
  close : Word
  whole : words ≡ front ++ close ∷ []
  lits : AreLiterals front c
  is_close : literal_of close.text ≡ Some kinds.Close

closes : (n start : ℕ) (c : List Literal) → AllByRecursion Fits c → Closes (plain n start (clause_words c)) c
closes n start [] k = record { front = []; close = record { text = codes "0"; start = start; line = n; leads = false }; whole = refl; lits = tt; is_close = refl }
closes n start (l ∷ c) k =
    let w : Word = record { text = literal_word l; start = start; line = n; leads = false } in
    let r : Closes (plain n (start + length (literal_word l) + 1) (clause_words c)) c = closes n (start + length (literal_word l) + 1) c k.1 in
    record { front = w ∷ r.front; close = r.close; whole = ap (λ v. w ∷ v) r.whole; lits = (literal_is_read l k.0, r.lits); is_close = r.is_close }

-- an item whose first word is read as its weight
pub record IsGood (form : Form) (top : ℕ) (h : Option Header) (i : Item) : Type 0 where
  pub word : IsWord (mark_of form top i.weight)
  pub no_comment : begins_comment (mark_of form top i.weight) ≡ false
  pub head : head_of (top_of h) (mark_of form top i.weight) ≡ Some i.weight
  pub lits : AllByRecursion Fits i.lits

lines_are_words : (form : Form) (top : ℕ) (h : Option Header) (items : List Item) → AllByRecursion (IsGood form top h) items → AllByRecursion (AllByRecursion IsWord) (map (item_line form top) items)
lines_are_words form top h [] k = tt
lines_are_words form top h (i ∷ is) k = ((k.0.word, clause_is_words i.lits k.0.lits), lines_are_words form top h is k.1)

-- the tokens of a clause's line
first_word : (w : Word) (ws : List Word) → begins_comment w.text ≡ false → of_line true (w ∷ ws) ≡ record w { leads = true } ∷ ws
first_word w ws e = ap (λ t. if t then [] else record w { leads = true } ∷ ws) e

record IsLineOf (words : List Word) (top : Option ℕ) (i : Item) : Type 0 where
  first : Word
  others : List Word
  whole : words ≡ first ∷ others
  leads : first.leads ≡ true
  clause : IsClause top words i

line_of : (form : Form) (top : ℕ) (h : Option Header) (n start : ℕ) (i : Item) → IsGood form top h i → IsLineOf (of_line true (plain n start (item_line form top i))) (top_of h) i
line_of form top h n start i k =
    let mark : List ℕ = mark_of form top i.weight in
    let first : Word = record { text = mark; start = start; line = n; leads = true } in
    let r : Closes (plain n (start + length mark + 1) (clause_words i.lits)) i.lits = closes n (start + length mark + 1) i.lits k.lits in
    let same : of_line true (plain n start (item_line form top i)) ≡ first ∷ (r.front ++ r.close ∷ []) =
    first_word (record { text = mark; start = start; line = n; leads = false }) (plain n (start + length mark + 1) (clause_words i.lits)) k.no_comment ∙ ap (λ v. first ∷ v) r.whole in
    record { first = first; others = r.front ++ r.close ∷ []; whole = same; leads = refl; clause = (first ∷ r.front, r.close, same, (k.head, r.lits), r.is_close) }

items_are_clauses : (form : Form) (top : ℕ) (h : Option Header) (n start : ℕ) (items : List Item) → AllByRecursion (IsGood form top h) items
    → AreClauses (top_of h) (tokens_in true n start (map (item_line form top) items)) items
items_are_clauses form top h n start [] k = refl
items_are_clauses form top h n start (i ∷ is) k =
    let next : ℕ = start + length (body (item_line form top i)) + 1 in (
      of_line true (plain n start (item_line form top i)),
      tokens_in true (n + 1) next (map (item_line form top) is),
      refl,
      (line_of form top h n start i k.0).clause,
      items_are_clauses form top h (n + 1) next is k.1,
    )

behind_header : (form : Form) (top : ℕ) (h : Header) (n start : ℕ) (items : List Item) → AllByRecursion (IsGood form top (Some h)) items
    → GoesBehind (Some h) (tokens_in true n start (map (item_line form top) items))
behind_header form top h n start [] k = tt
behind_header form top h n start (i ∷ is) k =
    let l = line_of form top (Some h) n start i k.0 in
    let next : ℕ = start + length (body (item_line form top i)) + 1 in
    subst (λ v. GoesBehind (Some h) (v ++ tokens_in true (n + 1) next (map (item_line form top) is))) (sym l.whole) l.leads

-- first words
no_mark : (w : ℕ) → w ≤ greatest → bytes_eq (decimal w) (codes "h") ≡ false
no_mark w k = false_from_ne_true _ (λ e. false≢true (ap all_ascii_digits (sym ((bytes_eq-Decides (decimal w) (codes "h")).0 e)) ∙ number_is_digits w k))

soft_head_h : (w : ℕ) → w ≤ greatest → head_of None (decimal w) ≡ Some (Some w)
soft_head_h w k = ap (λ t. if t then Some None else weighed 0 (number_of (decimal w))) (no_mark w k) ∙ ap (weighed 0) (number_is_kept w k)

soft_head_p : (w top : ℕ) → w ≤ greatest → w < top → head_of (Some top) (decimal w) ≡ Some (Some w)
soft_head_p w top k l =
    ap (weighed top) (number_is_kept w k) ∙ ap (λ t. if nat_le 1 top && t then Some None else Some (Some w)) (lt-leb top w l)
    ∙ ap (λ t. if t then Some None else Some (Some w)) (and-false (nat_le 1 top))

hard_head_p : (top : ℕ) → 1 ≤ top → top ≤ greatest → head_of (Some top) (decimal top) ≡ Some None
hard_head_p top k l =
    ap (weighed top) (number_is_kept top l) ∙ ap (λ t. if t then Some None else Some (Some top)) (and_from (nat_le 1 top) (nat_le top top) (le-leb 1 top k) (le-leb top top (omega arith)))

abbrev header_of : Form → Formula → Option Header
header_of forms.H f = None
header_of forms.P f = Some (record { vars = f.vars; top = top_weight f })

-- what is written fits in 128 bits
pub record IsSmall (offset : ℕ) (f : Formula) : Type 0 where
  pub number : offset ≤ greatest
  pub vars : f.vars ≤ greatest
  pub clauses : length f.hard + length f.soft ≤ greatest
  pub top : top_weight f ≤ greatest

fits : (n : ℕ) (ls : List Literal) → n ≤ greatest → AllByRecursion (IsUpTo n) ls → AllByRecursion Fits ls
fits n [] small k = tt
fits n (l ∷ ls) small k = ((k.0.0, omega (arith, k.0.1, small)), fits n ls small k.1)

hard_good : (form : Form) (f : Formula) (c : List Literal) → top_weight f ≤ greatest → AllByRecursion Fits c → IsGood form (top_weight f) (header_of form f) (item None c)
hard_good forms.H f c small k = record { word = (refl, (refl, tt)); no_comment = refl; head = refl; lits = k }
hard_good forms.P f c small k =
    record { word = number_is_word (top_weight f) small; no_comment = number_no_comment (top_weight f) small; head = hard_head_p (top_weight f) (omega arith) small; lits = k }

soft_good : (form : Form) (f : Formula) (s : Soft) → top_weight f ≤ greatest → s.weight < top_weight f → AllByRecursion Fits s.clause → IsGood form (top_weight f) (header_of form f) (soft_item s)
soft_good forms.H f s small less k =
    let w : s.weight ≤ greatest = omega (arith, small, less) in
    record { word = number_is_word s.weight w; no_comment = number_no_comment s.weight w; head = soft_head_h s.weight w; lits = k }
soft_good forms.P f s small less k =
    let w : s.weight ≤ greatest = omega (arith, small, less) in
    record { word = number_is_word s.weight w; no_comment = number_no_comment s.weight w; head = soft_head_p s.weight (top_weight f) w less; lits = k }

hards_good : (form : Form) (f : Formula) (n : ℕ) (cs : List (List Literal)) → top_weight f ≤ greatest → n ≤ greatest → AllByRecursion (λ c. All (IsUpTo n) c) cs
    → AllByRecursion (IsGood form (top_weight f) (header_of form f)) (map (item None) cs)
hards_good form f n [] small few k = tt
hards_good form f n (c ∷ cs) small few k = (hard_good form f c small (fits n c few (recursion_from_All (IsUpTo n) c k.0)), hards_good form f n cs small few k.1)

softs_good : (form : Form) (f : Formula) (n : ℕ) (ss : List Soft) → top_weight f ≤ greatest → n ≤ greatest → weights_of ss < top_weight f → AllByRecursion (λ (s : Soft). All (IsUpTo n) s.clause) ss
    → AllByRecursion (IsGood form (top_weight f) (header_of form f)) (map soft_item ss)
softs_good form f n [] small few less k = tt
softs_good form f n (s ∷ ss) small few less k =
    let sum : weights_of (s ∷ ss) ≡ s.weight + weights_of ss = sum_by-cons (λ (s : Soft). s.weight) s ss in
    (soft_good form f s small (omega (arith, sum, less)) (fits n s.clause few (recursion_from_All (IsUpTo n) s.clause k.0)), softs_good form f n ss small few (omega (arith, sum, less)) k.1)

all_append : {X : Type 0} (P : X → Type 0) (xs ys : List X) → AllByRecursion P xs → AllByRecursion P ys → AllByRecursion P (xs ++ ys)
all_append P [] ys k m = m
all_append P (x ∷ xs) ys k m = (k.0, all_append P xs ys k.1 m)

items_good : (form : Form) (offset : ℕ) (f : Formula) → IsSmall offset f → IsFormula f.vars f.hard f.soft → AllByRecursion (IsGood form (top_weight f) (header_of form f)) (items_of f)
items_good form offset f small k =
    all_append (IsGood form (top_weight f) (header_of form f)) (map (item None) f.hard) (map soft_item f.soft)
    (hards_good form f f.vars f.hard small.top small.vars (recursion_from_All (λ c. All (IsUpTo f.vars) c) f.hard k.hard_within))
    (softs_good form f f.vars f.soft small.top small.vars (omega arith) (recursion_from_All (λ (s : Soft). All (IsUpTo f.vars) s.clause) f.soft k.soft_within))

-- vars are as read
vars_are : (form : Form) (f : Formula) → IsFormula f.vars f.hard f.soft → (form ≡ forms.H → IsTight f) → f.vars ≡ vars_of (header_of form f) (items_of f)
vars_are forms.H f k tight = tight refl ∙ sym (vars_again None f)
vars_are forms.P f k tight =
    let hard : fold widest f.vars f.hard ≡ f.vars = hards_stay f.vars f.hard (recursion_from_All (λ c. All (IsUpTo f.vars) c) f.hard k.hard_within) in
    let soft : fold (λ m (s : Soft). widest m s.clause) f.vars f.soft ≡ f.vars = softs_stay f.vars f.soft (recursion_from_All (λ (s : Soft). All (IsUpTo f.vars) s.clause) f.soft k.soft_within) in
    sym (vars_again (header_of forms.P f) f ∙ ap (λ n. fold (λ m (s : Soft). widest m s.clause) n f.soft) hard ∙ soft)

formula_again : (form : Form) (f : Formula) → IsFormula f.vars f.hard f.soft → (form ≡ forms.H → IsTight f) → f ≡ formula_of (header_of form f) (items_of f)
formula_again form f k tight =
    let g : Formula = formula_of (header_of form f) (items_of f) in
    ap (λ v. record f { vars = v }) (vars_are form f k tight)
    ∙ ap₂ (λ h s. record { vars = g.vars; hard = h; soft = s }) (sym (hard_again (header_of form f) f)) (sym (soft_again (header_of form f) f))

-- the tokens of the text
abbrev lines_below : Form → Formula → List (List (List ℕ))
lines_below form f = header_lines form f.vars (length f.hard + length f.soft) (top_weight f) ++ map (item_line form (top_weight f)) (items_of f)

lines_are : (form : Form) (offset : ℕ) (f : Formula) → instance_lines form offset f ≡ offset_line offset ∷ lines_below form f
lines_are form offset f =
    let header = header_lines form f.vars (length f.hard + length f.soft) (top_weight f) in
    ap (λ v. offset_line offset ∷ v) (append_assoc header (map (hard_line form (top_weight f)) f.hard) (map soft_line f.soft) ∙ ap (λ v. header ++ v) (clause_lines form (top_weight f) f))

words_below : (form : Form) (offset : ℕ) (f : Formula) → IsSmall offset f → AllByRecursion (IsGood form (top_weight f) (header_of form f)) (items_of f)
    → AllByRecursion (AllByRecursion IsWord) (offset_line offset ∷ lines_below form f)
words_below forms.H offset f small k =
    (((refl, (refl, tt)), ((refl, (refl, (refl, (refl, (refl, (refl, (refl, tt))))))), (number_is_word offset small.number, tt))), lines_are_words forms.H (top_weight f) None (items_of f) k)
words_below forms.P offset f small k = (
  ((refl, (refl, tt)), ((refl, (refl, (refl, (refl, (refl, (refl, (refl, tt))))))), (number_is_word offset small.number, tt))),
  (
    ((refl, (refl, tt)), ((refl, (refl, (refl, (refl, (refl, tt))))), (number_is_word f.vars small.vars, (number_is_word _ small.clauses, (number_is_word (top_weight f) small.top, tt))))),
    lines_are_words forms.P (top_weight f) (header_of forms.P f) (items_of f) k,
  ),
)

tokens_denote : (form : Form) (offset : ℕ) (f : Formula) → IsSmall offset f → AllByRecursion (IsGood form (top_weight f) (header_of form f)) (items_of f)
    → f ≡ formula_of (header_of form f) (items_of f) → WordsDenote (tokens_in true 1 0 (offset_line offset ∷ lines_below form f)) f
tokens_denote forms.H offset f small k e = record {
  header = None;
  items = items_of f;
  heading = [];
  rest = tokens_in true 1 0 (offset_line offset ∷ lines_below forms.H f);
  whole = refl;
  headed = refl;
  behind = tt;
  clauses = items_are_clauses forms.H (top_weight f) None _ _ (items_of f) k;
  are = e;
}
tokens_denote forms.P offset f small k e =
    let header : List (List ℕ) = codes "p" ∷ codes "wcnf" ∷ decimal f.vars ∷ decimal (length f.hard + length f.soft) ∷ decimal (top_weight f) ∷ [] in
    let start : ℕ = 0 + length (body (offset_line offset)) + 1 in
    let next : ℕ = start + length (body header) + 1 in
    let sized : IsSome (number_of (decimal (length f.hard + length f.soft))) = rw (number_is_kept (length f.hard + length f.soft) small.clauses) refl in
    let heading : List Word = of_line true (plain 2 start header) in
    let on_line : IsLine 2 heading = (refl, (refl, (refl, (refl, (refl, tt))))) in
    let spelled : IsHeader heading (record { vars = f.vars; top = top_weight f }) = ((refl, refl, number_is_kept f.vars small.vars), sized, number_is_kept (top_weight f) small.top) in
    record {
      header = header_of forms.P f;
      items = items_of f;
      heading = heading;
      rest = tokens_in true 3 next (map (item_line forms.P (top_weight f)) (items_of f));
      whole = refl;
      headed = (2, on_line, spelled);
      behind = behind_header forms.P (top_weight f) (record { vars = f.vars; top = top_weight f }) 3 next (items_of f) k;
      clauses = items_are_clauses forms.P (top_weight f) (header_of forms.P f) 3 next (items_of f) k;
      are = e;
    }

pub round_trip : (form : Form) (offset : ℕ) (f : Formula) → IsSmall offset f → IsFormula f.vars f.hard f.soft → (form ≡ forms.H → IsTight f) → Denotes (instance_text form offset f) f
round_trip form offset f small k tight =
    let good : AllByRecursion (IsGood form (top_weight f) (header_of form f)) (items_of f) = items_good form offset f small k in
    let tokens : tokens_of true (instance_text form offset f) ≡ tokens_in true 1 0 (offset_line offset ∷ lines_below form f) =
    ap (λ v. tokens_of true (text_of v)) (lines_are form offset f) ∙ tokens_of_lines true (offset_line offset ∷ lines_below form f) (words_below form offset f small good) in
    subst (λ v. WordsDenote v f) (sym tokens) (tokens_denote form offset f small good (formula_again form f k tight))
