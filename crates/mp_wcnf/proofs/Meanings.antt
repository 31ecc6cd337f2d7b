-- Reading is what the grammar and the limits say, both ways.
use Rattle.std.proofs.Common.{◌≡◌, ◌≤◌, ℕ, Bool, true, false, List, [], ◌∷◌, ◌++◌, Option, Some, None, Result, Ok, Err, refl, ap, subst, sym, ◌∙◌, append_assoc, arith, if◌then◌else◌, length-append, inl, inr, codes}
use Rattle.std.specs.Prelude.{nat_lt}
use Rattle.std.specs.Str.{bytes_eq}
use Rattle.std.proofs.lemmas.List.{append-nil}
use Rattle.std.proofs.lemmas.Option.{none-some}
use Rattle.std.proofs.lemmas.Bool.{ltb-false}
use Rattle.mp_logic.specs.Literal.{Literal}
use Rattle.mp_logic.specs.Formula.{Formula}
use Rattle.mp_logic.specs.Truth.{weights_of}
use Rattle.mp_logic.specs.declared.limits.Limits.{Limits}
use Rattle.mp_text.specs.Tokens.{Word}
use Rattle.mp_text.specs.Numbers.{literal_of}
use Rattle.mp_text.specs.declared.numbers.LitToken.{LitToken}
use Rattle.mp_text.specs.declared.numbers.LitToken.TheVariants as kinds
use Rattle.mp_wcnf.specs.Grammar.{Header, Item, number_of, head_of, top_of}
use Rattle.mp_wcnf.specs.Meaning.{max_of, vars_of, formula_of, WordsDenote}
use Rattle.mp_wcnf.specs.Refusals.{IsWithinLimits, clauses_in, literals_in, passed, Front, Heading, Clauses, Begins, BeginsNone, begun, line_at, unfinished, IsFault, AreRefused}
use Rattle.mp_wcnf.specs.Reading.{then_read, at_end, read_on, fresh_reader}
use Rattle.mp_wcnf.specs.declared.reader.Reader.{Reader}
use Rattle.mp_wcnf.specs.declared.errors.ReadError.{ReadError}
use Rattle.mp_wcnf.specs.declared.errors.ReadError.TheVariants as errors
use Rattle.mp_wcnf.proofs.Stands.{Stand, Start, AtFormat, AtVariables, AtCount, AtTop, AtLineEnd, Among, with_top, front_of, after_head, after_literal, after_vars, after_count, after_top, next_in, and_run, run, place_in, held, limited, judged}
use Rattle.mp_wcnf.proofs.Runs.{same_stand, run_on, run_front, Reached}
use Rattle.mp_wcnf.proofs.Fronts.{run_begins, whole_rest}
use Rattle.mp_wcnf.proofs.Sums.{item, clauses_more, weights_more, literals_more, vars_more, widest_more, max_least}
use Rattle.mp_wcnf.proofs.Judged.{step_judged, within_passes}

-- what was read, as an instance
abbrev pub instance_of : Reader → Formula
instance_of r = record { vars = r.vars; hard = r.hard; soft = r.soft }

-- what reading all words answers
abbrev pub Means : Limits → ℕ → List Word → Result Reader ReadError → Type 0
Means m end words (Ok r) = WordsDenote words (instance_of r) × IsWithinLimits m (instance_of r)
Means m end words (Err e) = AreRefused m end words e

none_of_four : (a b c d : Bool) (p q r s : ReadError) → (if a then Some p else if b then Some q else if c then Some r else if d then Some s else None) ≡ None
    → (a ≡ false) × (b ≡ false) × (c ≡ false) × (d ≡ false)
none_of_four true b c d p q r s h = absurd (none-some p (sym h))
none_of_four false true c d p q r s h = absurd (none-some q (sym h))
none_of_four false false true d p q r s h = absurd (none-some r (sym h))
none_of_four false false false true p q r s h = absurd (none-some s (sym h))
none_of_four false false false false p q r s h = (refl, refl, refl, refl)

passes_within : (m : Limits) (f : Formula) (line : ℕ) → passed m f line ≡ None → IsWithinLimits m f
passes_within m f line h =
    let g = none_of_four (nat_lt m.clauses (clauses_in f)) (nat_lt m.weight (weights_of f.soft)) (nat_lt m.variables f.vars) (nat_lt m.literals (literals_in f)) _ _ _ _ h in
    record { clauses = ltb-false _ _ g.0; weight = ltb-false _ _ g.1; vars = ltb-false _ _ g.2; literals = ltb-false _ _ g.3 }

-- the end of the text
open_ended : (end : ℕ) (r : Reader) (w : Option ℕ) → at_end end r (place_in w) ≡ Err (errors.Syntax end)
open_ended end r None = refl
open_ended end r (Some w) = refl

at_end_held : (end : ℕ) (s : Stand) → at_end end (held s) (held s).place ≡ limited (unfinished end (front_of s)) (held s)
at_end_held end Start = refl
at_end_held end (AtFormat line) = refl
at_end_held end (AtVariables line) = refl
at_end_held end (AtCount line n) = refl
at_end_held end (AtTop n) = refl
at_end_held end (AtLineEnd n t) = refl
at_end_held end (Among h items None) = refl
at_end_held end (Among h items (Some i)) = open_ended end (held (Among h items (Some i))) i.weight

-- a text that may end where it does is whole
whole_front : (words : List Word) (front : Front) (end : ℕ) → Begins words front → unfinished end front ≡ None → WordsDenote words (begun front)
whole_front words (Heading line vars) end b e = absurd (none-some (errors.Syntax line) (sym e))
whole_front words (Clauses h items None) end b e = record {
  header = h;
  items = items;
  heading = b.0;
  rest = b.1;
  whole = b.2;
  headed = b.3;
  behind = b.4;
  clauses = whole_rest (top_of h) b.1 items b.5;
  are = refl;
}
whole_front words (Clauses h items (Some i)) end b e = absurd (none-some (errors.Syntax end) (sym e))

held_whole : (s : Stand) (end : ℕ) → unfinished end (front_of s) ≡ None → begun (front_of s) ≡ instance_of (held s)
held_whole Start end e = refl
held_whole (AtFormat line) end e = absurd (none-some (errors.Syntax line) (sym e))
held_whole (AtVariables line) end e = absurd (none-some (errors.Syntax line) (sym e))
held_whole (AtCount line n) end e = absurd (none-some (errors.Syntax line) (sym e))
held_whole (AtTop n) end e = refl
held_whole (AtLineEnd n t) end e = refl
held_whole (Among h items None) end e = refl
held_whole (Among h items (Some i)) end e = absurd (none-some (errors.Syntax end) (sym e))

ends : (m : Limits) (end : ℕ) (words : List Word) (s : Stand) → run words Start ≡ Some s → IsWithinLimits m (begun (front_of s)) → (u : Option ReadError) → unfinished end (front_of s) ≡ u
    → Means m end words (limited u (held s))
ends m end words s r h None e =
    let same : begun (front_of s) ≡ instance_of (held s) = held_whole s end e in
    (subst (WordsDenote words) same (whole_front words (front_of s) end (run_begins words s r) e), subst (IsWithinLimits m) same h)
ends m end words s r h (Some x) e = record { before = words; front = front_of s; begins = run_begins words s r; within = h; fault = inl (refl, e) }

-- words that can't go on begin nothing
begins_none : (before : List Word) (w : Word) (s : Stand) → run before Start ≡ Some s → next_in s w ≡ None → BeginsNone (before ++ w ∷ [])
begins_none before w s r e = λ front b.
    let k : Reached (before ++ w ∷ []) front = run_front (before ++ w ∷ []) front b in
    none-some k.last (sym e ∙ sym (run_on before w Start s r) ∙ k.there)

-- the words before are read, and here are the others
pub means : (m : Limits) (end : ℕ) (words before : List Word) (s : Stand) → run before Start ≡ Some s → IsWithinLimits m (begun (front_of s))
    → Means m end (before ++ words) (read_on m end words (held s))
means m end [] before s r h =
    subst (λ v. Means m end v (read_on m end [] (held s))) (sym (append-nil before))
    (subst (Means m end before) (sym (at_end_held end s)) (ends m end before s r h (unfinished end (front_of s)) refl))
means m end (w ∷ ws) before s r h =
    let all : List Word = before ++ w ∷ ws in
    let bad : (e : ReadError) → IsFault m before (front_of s) w e → AreRefused m end all e =
    λ e f. record { before = before; front = front_of s; begins = run_begins before s r; within = h; fault = inr (w, ws, refl, f) } in
    let good : (t : Stand) → run (before ++ w ∷ []) Start ≡ Some t → (p : Option ReadError) → passed m (begun (front_of t)) w.line ≡ p
    → Means m end all (then_read (limited p (held t)) (λ r. read_on m end ws r)) =
    λ (t : Stand) (g : run (before ++ w ∷ []) Start ≡ Some t) (p : Option ReadError).
    elim p as (λ p. passed m (begun (front_of t)) w.line ≡ p → Means m end all (then_read (limited p (held t)) (λ r. read_on m end ws r))) [
      | None ↦ λ e. subst (λ v. Means m end v (read_on m end ws (held t))) (append_assoc before (w ∷ []) ws)
          (means m end ws (before ++ w ∷ []) t g (passes_within m (begun (front_of t)) w.line e))
      | Some x ↦ λ e. bad x (inr (front_of t, run_begins (before ++ w ∷ []) t g, e))
    ] in
    let go : (x : Option Stand) → next_in s w ≡ x → Means m end all (then_read (judged m w.line (line_at (front_of s) w) x) (λ r. read_on m end ws r)) =
    λ (x : Option Stand). elim x as (λ x. next_in s w ≡ x → Means m end all (then_read (judged m w.line (line_at (front_of s) w) x) (λ r. read_on m end ws r))) [
      | None ↦ λ e. bad (errors.Syntax (line_at (front_of s) w)) (inl (begins_none before w s r e, refl))
      | Some t ↦ λ e. good t (run_on before w Start s r ∙ e) (passed m (begun (front_of t)) w.line) refl
    ] in
    subst (λ x. Means m end all (then_read x (λ r. read_on m end ws r))) (sym (step_judged m s w h)) (go (next_in s w) refl)

-- what has begun never shrinks
abbrev Grows : Limits → Formula → Option Stand → Type 0
Grows m old None = Unit {0}
Grows m old (Some t) = IsWithinLimits m (begun (front_of t)) → IsWithinLimits m old

grows_either : (b : Bool) (m : Limits) (old : Formula) (x y : Option Stand) → Grows m old x → Grows m old y → Grows m old (if b then x else y)
grows_either true m old x y p q = p
grows_either false m old x y p q = q

head_grows : (m : Limits) (h : Option Header) (items : List Item) (x : Option (Option ℕ)) → Grows m (formula_of h items) (after_head h items x)
head_grows m h items None = tt
head_grows m h items (Some w) = λ k. record {
  clauses = omega (arith, k.clauses, clauses_more h items w []);
  weight = omega (arith, k.weight, weights_more h items w []);
  vars = subst (λ n. n ≤ m.variables) (vars_more h items w []) k.vars;
  literals = omega (arith, k.literals, literals_more h items w []);
}

literal_grows : (m : Limits) (h : Option Header) (items : List Item) (i : Item) (x : Option LitToken) → Grows m (formula_of h (items ++ i ∷ [])) (after_literal h items i x)
literal_grows m h items i None = tt
literal_grows m h items i (Some kinds.Close) = λ k. k
literal_grows m h items i (Some (kinds.Lit v n)) = λ k.
    let l : Literal = record { variable = v; negative = n } in
    let more : List Literal = i.lits ++ l ∷ [] in
    let wider : vars_of h (items ++ item i.weight more ∷ []) ≡ max_of (vars_of h (items ++ i ∷ [])) v =
    vars_more h items i.weight more ∙ widest_more (vars_of h items) i.lits l ∙ ap (λ n. max_of n v) (sym (vars_more h items i.weight i.lits)) in
    record {
      clauses = omega (arith, k.clauses, clauses_more h items i.weight i.lits, clauses_more h items i.weight more);
      weight = omega (arith, k.weight, weights_more h items i.weight i.lits, weights_more h items i.weight more);
      vars = omega (arith, k.vars, wider, max_least (vars_of h (items ++ i ∷ [])) v);
      literals = omega (arith, k.literals, literals_more h items i.weight i.lits, literals_more h items i.weight more, length-append i.lits (l ∷ []));
    }

vars_grow : (m : Limits) (line : ℕ) (x : Option ℕ) → Grows m (begun (Heading line 0)) (after_vars line x)
vars_grow m line None = tt
vars_grow m line (Some n) = λ k. record { clauses = k.clauses; weight = k.weight; vars = omega arith; literals = k.literals }

count_grows : (m : Limits) (line n : ℕ) (x : Option ℕ) → Grows m (begun (Heading line n)) (after_count n x)
count_grows m line n None = tt
count_grows m line n (Some c) = λ k. k

top_grows : (m : Limits) (n : ℕ) (x : Option ℕ) → Grows m (formula_of (with_top n 0) []) (after_top n x)
top_grows m n None = tt
top_grows m n (Some t) = λ k. k

next_grows : (m : Limits) (s : Stand) (w : Word) → Grows m (begun (front_of s)) (next_in s w)
next_grows m Start w = grows_either (bytes_eq w.text (codes "p")) m (begun (front_of Start)) (Some (AtFormat w.line)) _ (λ k. k) (head_grows m None [] (head_of None w.text))
next_grows m (AtFormat line) w =
    grows_either w.leads m (begun (front_of (AtFormat line))) None _ tt (grows_either (bytes_eq w.text (codes "wcnf")) m (begun (front_of (AtFormat line))) (Some (AtVariables line)) None (λ k. k) tt)
next_grows m (AtVariables line) w = grows_either w.leads m (begun (front_of (AtVariables line))) None _ tt (vars_grow m line (number_of w.text))
next_grows m (AtCount line n) w = grows_either w.leads m (begun (front_of (AtCount line n))) None _ tt (count_grows m line n (number_of w.text))
next_grows m (AtTop n) w = grows_either w.leads m (begun (front_of (AtTop n))) _ _ (head_grows m (with_top n 0) [] (head_of (Some 0) w.text)) (top_grows m n (number_of w.text))
next_grows m (AtLineEnd n t) w = grows_either w.leads m (begun (front_of (AtLineEnd n t))) _ None (head_grows m (with_top n t) [] (head_of (Some t) w.text)) tt
next_grows m (Among h items None) w = head_grows m h items (head_of (top_of h) w.text)
next_grows m (Among h items (Some i)) w = literal_grows m h items i (literal_of w.text)

-- a front within the limits is read to its end
record Reads (m : Limits) (end : ℕ) (before words : List Word) (s t : Stand) : Type 0 where
  within : IsWithinLimits m (begun (front_of s))
  same : read_on m end (before ++ words) (held s) ≡ read_on m end words (held t)

reads : (m : Limits) (end : ℕ) (before words : List Word) (s t : Stand) → run before s ≡ Some t → IsWithinLimits m (begun (front_of t)) → Reads m end before words s t
reads m end [] words s t e h =
    let same : s ≡ t = same_stand s t e in
    record { within = subst (λ (s : Stand). IsWithinLimits m (begun (front_of s))) (sym same) h; same = ap (λ (s : Stand). read_on m end words (held s)) same }
reads m end (w ∷ ws) words s t e h =
    let go : (x : Option Stand) → next_in s w ≡ x → Grows m (begun (front_of s)) x → and_run x (λ u. run ws u) ≡ Some t → Reads m end (w ∷ ws) words s t =
    λ (x : Option Stand). elim x as (λ x. next_in s w ≡ x → Grows m (begun (front_of s)) x → and_run x (λ u. run ws u) ≡ Some t → Reads m end (w ∷ ws) words s t) [
      | None ↦ λ f g k. absurd (none-some t k)
      | Some u ↦ λ f g k.
          let r = reads m end ws words u t k h in
          let in_all = g r.within in
          record {
            within = in_all;
            same = ap (λ x. then_read x (λ r. read_on m end (ws ++ words) r))
                (step_judged m s w in_all ∙ ap (judged m w.line (line_at (front_of s) w)) f ∙ ap (λ p. limited p (held u)) (within_passes m (begun (front_of u)) w.line r.within))
                ∙ r.same;
          }
    ] in
    go (next_in s w) refl (next_grows m s w) e

-- a front, as far as it leads
read_front : (m : Limits) (end : ℕ) (before words : List Word) (front : Front) (k : Reached before front) → IsWithinLimits m (begun front) → Reads m end before words Start k.last
read_front m end before words front k h = reads m end before words Start k.last k.there (subst (λ f. IsWithinLimits m (begun f)) (sym k.goes) h)

denoted_front : (words : List Word) (f : Formula) (d : WordsDenote words f) → Reached words (Clauses d.header d.items None)
denoted_front words f d = run_front words (Clauses d.header d.items None) (d.heading, d.rest, d.whole, d.headed, d.behind, (d.rest, [], sym (append-nil d.rest), d.clauses, refl))

pub one_instance : (words : List Word) (f g : Formula) → WordsDenote words f → WordsDenote words g → f ≡ g
one_instance words f g d e =
    let k : Reached words (Clauses d.header d.items None) = denoted_front words f d in
    let l : Reached words (Clauses e.header e.items None) = denoted_front words g e in
    let same : k.last ≡ l.last = same_stand k.last l.last (sym k.there ∙ l.there) in
    d.are ∙ sym (ap begun k.goes) ∙ ap (λ s. begun (front_of s)) same ∙ ap begun l.goes ∙ sym e.are

-- an instance within the limits is read
pub record IsRead (m : Limits) (end : ℕ) (words : List Word) (f : Formula) : Type 0 where
  pub reader : Reader
  pub read : read_on m end words fresh_reader ≡ Ok reader
  pub is : instance_of reader ≡ f

pub accepted : (m : Limits) (end : ℕ) (words : List Word) (f : Formula) → WordsDenote words f → IsWithinLimits m f → IsRead m end words f
accepted m end words f d h =
    let front : Front = Clauses d.header d.items None in
    let k : Reached words front = denoted_front words f d in
    let none : unfinished end (front_of k.last) ≡ None = ap (unfinished end) k.goes in
    record {
      reader = held k.last;
      read = ap (λ v. read_on m end v fresh_reader) (sym (append-nil words)) ∙ (read_front m end words [] front k (subst (IsWithinLimits m) d.are h)).same
          ∙ at_end_held end k.last ∙ ap (λ u. limited u (held k.last)) none;
      is = sym (held_whole k.last end none) ∙ ap begun k.goes ∙ sym d.are;
    }

fault_judged : (m : Limits) (before : List Word) (w : Word) (s : Stand) (e : ReadError) → run before Start ≡ Some s → IsFault m before (front_of s) w e
    → judged m w.line (line_at (front_of s) w) (next_in s w) ≡ Err e
fault_judged m before w s e r (inl f) =
    let go : (x : Option Stand) → next_in s w ≡ x → judged m w.line (line_at (front_of s) w) x ≡ Err e =
    λ (x : Option Stand). elim x as (λ x. next_in s w ≡ x → judged m w.line (line_at (front_of s) w) x ≡ Err e) [
      | None ↦ λ g. ap Err (sym f.1)
      | Some t ↦ λ g. absurd (f.0 (front_of t) (run_begins (before ++ w ∷ []) t (run_on before w Start s r ∙ g)))
    ] in
    go (next_in s w) refl
fault_judged m before w s e r (inr f) =
    let k : Reached (before ++ w ∷ []) f.0 = run_front (before ++ w ∷ []) f.0 f.1 in
    let there : next_in s w ≡ Some k.last = sym (run_on before w Start s r) ∙ k.there in
    ap (judged m w.line (line_at (front_of s) w)) there ∙ ap (λ x. limited x (held k.last)) (ap (λ g. passed m (begun g) w.line) k.goes ∙ f.2)

-- a refused text is refused so
pub refused : (m : Limits) (end : ℕ) (words : List Word) (e : ReadError) → AreRefused m end words e → read_on m end words fresh_reader ≡ Err e
refused m end words e r =
    let k : Reached r.before r.front = run_front r.before r.front r.begins in
    let to : (more : List Word) → Reads m end r.before more Start k.last = λ more. read_front m end r.before more r.front k r.within in
    elim r.fault as (λ f. read_on m end words fresh_reader ≡ Err e) [
      | inl f ↦ ap (λ v. read_on m end v fresh_reader) (f.0 ∙ sym (append-nil r.before)) ∙ (to []).same ∙ at_end_held end k.last
          ∙ ap (λ u. limited u (held k.last)) (ap (unfinished end) k.goes ∙ f.1)
      | inr f ↦ ap (λ v. read_on m end v fresh_reader) f.2 ∙ (to (f.0 ∷ f.1)).same
          ∙ ap (λ x. then_read x (λ s. read_on m end f.1 s))
          (step_judged m k.last f.0 (subst (λ g. IsWithinLimits m (begun g)) (sym k.goes) r.within) ∙ fault_judged m r.before f.0 k.last e k.there (subst (λ g. IsFault m r.before g f.0 e) (sym k.goes) f.3))
    ]

pub meant : (m : Limits) (end : ℕ) (words : List Word) → Means m end words (read_on m end words fresh_reader)
meant m end words = means m end words [] Start refl (record { clauses = omega arith; weight = omega arith; vars = omega arith; literals = omega arith })
