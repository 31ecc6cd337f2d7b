-- One clause in another, both in order of variable.
use Rattle.std.proofs.Common.{◌≡◌, ℕ, ◌+◌, ◌<◌, ◌≤◌, Bool, true, false, not, cond, List, [], ◌∷◌, length, get_or, drop, drop-cons, zero, suc, refl, sym, ◌∙◌, ap, subst, arith, inl, inr, Contains, bit_or}
use Rattle.std.specs.Prelude.{Option, Some, None, is_some, ◌==◌, ◌&&◌, nat_lt, nat_eq}
use Rattle.std.specs.Bool.{beq}
use Rattle.std.specs.List.{filter}
use Rattle.std.proofs.lemmas.Bool.{cases_Bool, cases_eq, and_parts, and_from, eqb-true, eq-eqb, ltb-true, not-true, true≢false, false≢true, ne_eqb}
use Rattle.std.proofs.Math.Seq.{drop-length}
use Rattle.std.proofs.lemmas.List.{drop_all, get_or-drop, length-drop}
use Rattle.std.proofs.lemmas.List.Elements.{All-contains, Contains-get_or}
use Rattle.mp_logic.specs.Literal.{Literal}
use Rattle.mp_logic.specs.Normal.{rises}
use Rattle.mp_logic.specs.Sets.{Among}
use Rattle.mp_logic.proofs.Members.{Contains-none, Contains-first, Contains-later, Contains-cases}
use Rattle.mp_clauses.specs.Places.{is_in, no_repeats, place_of}
use Rattle.mp_store.specs.Held.{Held}
use Rattle.mp_clauses.specs.Slots.{clause_of, is_live, live_clauses}
use Rattle.mp_store.specs.Soundness.{IsStore}
use Rattle.mp_clauses.specs.Occurrences.{ids_with, AreExactOccurrences}
use Rattle.mp_clauses.specs.Signatures.{signature_of, signature_at}
use Rattle.mp_clauses.proofs.Signed.{signature_of_part}
use Rattle.mp_clauses.proofs.Found.{is_in-by, is_in-contains, exact-ids}
use Rattle.mp_store.proofs.Fixes.{filter-from, filter-has}
use Rattle.mp_store.proofs.KeptFixing.{live-at}
use Rattle.t_subsume.specs.Containment.{same_literal, embeds, slot_embeds, holds, HasNoHolderBelow, AreFrom, AreHolders}

beq-same : (a b : Bool) → beq a b ≡ true → a ≡ b
beq-same true true h = refl
beq-same true false h = absurd (false≢true h)
beq-same false true h = absurd (false≢true h)
beq-same false false h = refl

same-beq : (a : Bool) → beq a a ≡ true
same-beq true = refl
same-beq false = refl

pub same-literals : (x y : Literal) → same_literal x y ≡ true → x ≡ y
same-literals x y h =
    let parts = and_parts (nat_eq x.variable y.variable) (beq x.negative y.negative) h in
    let variable : x.variable ≡ y.variable = eqb-true x.variable y.variable parts.0 in
    let sign : x.negative ≡ y.negative = beq-same x.negative y.negative parts.1 in
    let f : ℕ → Literal = λ v. record { variable = v; negative = x.negative } in
    let g : Bool → Literal = λ n. record { variable = y.variable; negative = n } in
    ap f variable ∙ ap g sign

pub same-itself : (x : Literal) → same_literal x x ≡ true
same-itself x = and_from (nat_eq x.variable x.variable) (beq x.negative x.negative) (eq-eqb x.variable x.variable refl) (same-beq x.negative)

pub rises-first : (n : ℕ) (x : Literal) (c : List Literal) → rises n (x ∷ c) ≡ true → (n < x.variable) × (rises x.variable c ≡ true)
rises-first n x c h = let parts = and_parts (nat_lt n x.variable) (rises x.variable c) h in (ltb-true n x.variable parts.0, parts.1)

pub rises-above : (n : ℕ) (c : List Literal) → rises n c ≡ true → (l : Literal) → Contains c l → n < l.variable
rises-above n [] h l m = absurd (Contains-none l m)
rises-above n (x ∷ c) h l m =
    let parts = rises-first n x c h in
    elim (Contains-cases x c l m) [ inl e ↦ subst (λ (k : Literal). n < k.variable) (sym e) parts.0 | inr r ↦ let more = rises-above x.variable c parts.1 l r in omega (arith, parts.0, more) ]

pub embeds-among : (c d : List Literal) → embeds c d ≡ true → Among c d
embeds-among [] d h l m = absurd (Contains-none l m)
embeds-among (x ∷ c) [] h l m = absurd (false≢true h)
embeds-among (x ∷ c) (y ∷ d) h l m =
    let last : (b : Bool) → same_literal x y ≡ b → cond b (embeds c d) (embeds (x ∷ c) d) ≡ true → Contains (y ∷ d) l =
    λ (t : Bool). elim t as (λ b. same_literal x y ≡ b → cond b (embeds c d) (embeds (x ∷ c) d) ≡ true → Contains (y ∷ d) l) [
      | true ↦ λ e g. elim (Contains-cases x c l m) [ inl f ↦ subst (Contains (y ∷ d)) (sym (f ∙ same-literals x y e)) (Contains-first y d) | inr r ↦ Contains-later y d l (embeds-among c d g l r) ]
      | false ↦ λ e g. Contains-later y d l (embeds-among (x ∷ c) d g l m)
    ] in
    let first : (b : Bool) → cond b false (cond (same_literal x y) (embeds c d) (embeds (x ∷ c) d)) ≡ true → Contains (y ∷ d) l =
    λ (t : Bool). elim t as (λ b. cond b false (cond (same_literal x y) (embeds c d) (embeds (x ∷ c) d)) ≡ true → Contains (y ∷ d) l) [ true ↦ λ g. absurd (false≢true g) | false ↦ λ g. last (same_literal x y) refl g ] in
    first (nat_lt x.variable y.variable) h

pub among-embeds : (c d : List Literal) (n m : ℕ) → rises n c ≡ true → rises m d ≡ true → Among c d → embeds c d ≡ true
among-embeds [] [] n m rc rd h = refl
among-embeds [] (y ∷ d) n m rc rd h = refl
among-embeds (x ∷ c) [] n m rc rd h = absurd (Contains-none x (h x (Contains-first x c)))
among-embeds (x ∷ c) (y ∷ d) n m rc rd h =
    let pc = rises-first n x c rc in
    let pd = rises-first m y d rd in
    let own = h x (Contains-first x c) in
    let reach : y.variable ≤ x.variable = elim (Contains-cases y d x own) [ inl e ↦ (let v : x.variable ≡ y.variable = ap (λ (k : Literal). k.variable) e in omega arith) | inr r ↦ (let more = rises-above y.variable d pd.1 x r in omega arith) ] in
    let low : nat_lt x.variable y.variable ≡ false = elim (cases_Bool (nat_lt x.variable y.variable)) [ inl t ↦ absurd (let less = ltb-true x.variable y.variable t in omega arith) | inr f ↦ f ] in
    let later : (z : Literal) → Contains c z → Contains d z = λ z i. elim (Contains-cases y d z (h z (Contains-later x c z i))) [
      | inl e ↦ absurd (let more = rises-above x.variable c pc.1 z i in let v : z.variable ≡ y.variable = ap (λ (k : Literal). k.variable) e in omega arith)
      | inr r ↦ r
    ] in
    let step : (b : Bool) → same_literal x y ≡ b → cond b (embeds c d) (embeds (x ∷ c) d) ≡ true =
    λ (t : Bool). elim t as (λ b. same_literal x y ≡ b → cond b (embeds c d) (embeds (x ∷ c) d) ≡ true) [
      | true ↦ λ e. among-embeds c d x.variable y.variable pc.1 pd.1 later
      | false ↦ λ e. among-embeds (x ∷ c) d n y.variable rc pd.1 (λ z i. elim (Contains-cases x c z i) [
        | inl f ↦ elim (Contains-cases y d x own) [ inl g ↦ absurd (true≢false (sym (same-itself x) ∙ ap (same_literal x) g ∙ e)) | inr r ↦ subst (Contains d) (sym f) r ]
        | inr r ↦ later z r
      ])
    ] in
    rw low (step (same_literal x y) refl)

-- the end of a walk beside a clause
pub walk-end : (c d : List Literal) (at i : ℕ) (all : Bool) → embeds (drop at c) (drop i d) ≡ all → length d ≤ i → at ≤ length c → (at == length c) ≡ all
walk-end c d at i all h le lc =
    let none : drop i d ≡ [] = drop_all i d le in
    let over : embeds (drop at c) [] ≡ all = rw none at h in
    elim (cases_eq at (length c)) [
      | inl e ↦ eq-eqb at (length c) e ∙ sym (ap (λ (x : List Literal). embeds x []) (ap (λ n. drop n c) e ∙ drop-length c)) ∙ over
      | inr n ↦ ne_eqb at (length c) n ∙ sym (ap (λ (x : List Literal). embeds x []) (drop-cons c at (record { variable = 0; negative = false }) (omega arith))) ∙ over
    ]

-- those of an occurrence list that have all literals
filter-in : (p : ℕ → Bool) (xs : List ℕ) (i : ℕ) → is_in i xs ≡ false → is_in i (filter p xs) ≡ false
filter-in p xs i h = elim (cases_Bool (is_in i (filter p xs))) [ inl t ↦ absurd (true≢false (sym (is_in-by xs i (filter-from p xs i (is_in-contains (filter p xs) i t)).0) ∙ h)) | inr f ↦ f ]

filter-once : (p : ℕ → Bool) (xs : List ℕ) → no_repeats xs ≡ true → no_repeats (filter p xs) ≡ true
filter-once p [] h = refl
filter-once p (x ∷ xs) h =
    let parts = and_parts (not (is_in x xs)) (no_repeats xs) h in
    let rest = filter-once p xs parts.1 in
    let own = filter-in p xs x (not-true (is_in x xs) parts.0) in
    elim (p x) as (λ b. no_repeats (cond b (x ∷ filter p xs) (filter p xs)) ≡ true) [ true ↦ rw (own, rest) refl | false ↦ rest ]

pub slot-embeds : (c : List Literal) (x : Option (List Literal)) → slot_embeds c x ≡ true → (d : List Literal) × (x ≡ Some d) × (embeds c d ≡ true)
slot-embeds c None h = absurd (false≢true h)
slot-embeds c (Some d) h = (d, refl, h)

holders-from : (h : Held) (c : List Literal) (own : ℕ) (rare : Literal) (ids found : List ℕ) → IsStore h → rises 0 c ≡ true → Contains c rare → AreExactOccurrences rare h.slots ids → found ≡ filter (holds h.slots c own) ids → AreHolders h.slots c own found
holders-from h c own rare ids found s rc m exact e = rw e (record {
  once = filter-once (holds h.slots c own) ids exact.once;
  each = λ j i.
      let f = filter-from (holds h.slots c own) ids j i in
      let parts = and_parts (not (j == own)) (slot_embeds c (clause_of h.slots j)) f.1 in
      let d = slot-embeds c (clause_of h.slots j) parts.1 in
      (d.0, d.1, λ g. true≢false (sym (eq-eqb j own g) ∙ not-true (j == own) parts.0), embeds-among c d.0 d.2);
  all = λ j d f n i.
      let there = (exact.each j).1 (d, f, i rare m) in
      let normal : rises 0 d ≡ true = All-contains (λ x. rises 0 x ≡ true) (live_clauses h.slots) d s.labelled.hard_normal (live-at h.slots j d f) in
      let other : not (j == own) ≡ true = ap not (ne_eqb j own n) in
      let has : slot_embeds c (clause_of h.slots j) ≡ true = ap (slot_embeds c) f ∙ among-embeds c d 0 0 rc normal i in
      filter-has (holds h.slots c own) ids j there (and_from (not (j == own)) (slot_embeds c (clause_of h.slots j)) other has);
})

-- the first ids of an occurrence list may be passed over, if none has the literals
none-passed : (p : ℕ → Bool) (xs : List ℕ) (n : ℕ) → ((i : ℕ) → i < n → p (get_or xs i 0) ≡ false) → filter p (drop n xs) ≡ filter p xs
none-passed p xs zero f = refl
none-passed p [] (suc n) f = refl
none-passed p (x ∷ xs) (suc n) f = none-passed p xs n (λ i lt. f (suc i) (omega arith)) ∙ sym (ap (λ b. cond b (x ∷ filter p xs) (filter p xs)) (f 0 (omega arith)))

low-holds : (slots : List (Option (List Literal))) (c : List Literal) (own least id : ℕ) → HasNoHolderBelow least slots c own → id < least → holds slots c own id ≡ false
low-holds slots c own least id none lt =
    elim (cases_Bool (holds slots c own id)) [
      | inl t ↦
          let parts = and_parts (not (id == own)) (slot_embeds c (clause_of slots id)) t in
          let d = slot-embeds c (clause_of slots id) parts.1 in
          absurd (none id d.0 lt d.1 (λ g. true≢false (sym (eq-eqb id own g) ∙ not-true (id == own) parts.0)) (embeds-among c d.0 d.2))
      | inr f ↦ f
    ]

pub newer-holders : (h : Held) (c : List Literal) (own least : ℕ) (rare : Literal) (ids found : List ℕ) → IsStore h → rises 0 c ≡ true → Contains c rare → HasNoHolderBelow least h.slots c own → AreFrom least (ids_with (place_of rare) h.slots) ids → found ≡ filter (holds h.slots c own) ids → AreHolders h.slots c own found
newer-holders h c own least rare ids found s rc m none a e =
    let test = holds h.slots c own in
    let all = ids_with (place_of rare) h.slots in
    let passed : filter test (drop a.passed all) ≡ filter test all = none-passed test all a.passed (λ i lt. low-holds h.slots c own least (get_or all i 0) none (a.below i lt)) in
    holders-from h c own rare all found s rc m (exact-ids rare h.slots) (e ∙ ap (filter test) a.rest ∙ passed)

pub none-newer : (p : ℕ → Bool) (ids found : List ℕ) → (length ids == 0) ≡ true → found ≡ [] → found ≡ filter p ids
none-newer p [] found t e = e
none-newer p (i ∷ ids) found t e = absurd (omega (arith, eqb-true (length (i ∷ ids)) 0 t))

-- an id of an occurrence list is live
pub newer-live : (slots : List (Option (List Literal))) (l : Literal) (least k : ℕ) (ids : List ℕ) → AreFrom least (ids_with (place_of l) slots) ids → k < length ids → is_live slots (get_or ids k 0) ≡ true
newer-live slots l least k ids a lt =
    let all = ids_with (place_of l) slots in
    let at : get_or ids k 0 ≡ get_or all (a.passed + k) 0 = ap (λ (xs : List ℕ). get_or xs k 0) a.rest ∙ get_or-drop a.passed all k 0 in
    let many : length ids ≡ length (drop a.passed all) = ap (λ (xs : List ℕ). length xs) a.rest in
    let w = ((exact-ids l slots).each (get_or all (a.passed + k) 0)).0 (Contains-get_or all (a.passed + k) 0 (omega (arith, lt, many, length-drop a.passed all))) in
    ap (is_live slots) at ∙ ap is_some w.1

and_false : (b : Bool) → (b && false) ≡ false
and_false true = refl
and_false false = refl

-- a clause that lacks a bit of the signature lacks a literal
pub unsigned-lacks : (slots : List (Option (List Literal))) (c : List Literal) (own id bits all : ℕ) → bits ≡ signature_of c → all ≡ signature_at (clause_of slots id) → (bit_or bits all == all) ≡ false → holds slots c own id ≡ false
unsigned-lacks slots c own id bits all e f n =
    elim (cases_Bool (slot_embeds c (clause_of slots id))) [
      | inl t ↦
          let d = slot-embeds c (clause_of slots id) t in
          let sig : all ≡ signature_of d.0 = f ∙ ap signature_at d.1 in
          let part : bit_or bits all ≡ all = rw (sig, e) (signature_of_part c d.0 (embeds-among c d.0 d.2)) in
          absurd (true≢false (sym (eq-eqb (bit_or bits all) all part) ∙ n))
      | inr m ↦ ap (λ b. not (id == own) && b) m ∙ and_false (not (id == own))
    ]
