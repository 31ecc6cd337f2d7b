-- Which clauses are near newer ones, and what is known of the others.
use Rattle.std.proofs.Common.{◌≡◌, ◌⊎◌, ℕ, ◌+◌, ◌<◌, ◌≤◌, Bool, true, false, not, List, length, set, refl, sym, ◌∙◌, ap, subst, arith, inl, inr, Contains}
use Rattle.std.specs.Prelude.{Option, Some}
use Rattle.std.proofs.lemmas.Bool.{cases_Bool, cases_eq, cases_lt, true≢false}
use Rattle.std.proofs.lemmas.List.{get_or_default, get_or_past, get_or-set_other}
use Rattle.mp_logic.specs.Literal.{Literal, negation}
use Rattle.mp_logic.specs.Keeping.{State}
use Rattle.mp_logic.specs.declared.instances.Repair.{Repair}
use Rattle.mp_clauses.specs.Slots.{clause_of}
use Rattle.mp_clauses.specs.Occurrences.{AreExactOccurrences}
use Rattle.mp_store.specs.Held.{Held}
use Rattle.mp_store.specs.Techniques.{IsRun}
use Rattle.mp_store.proofs.KeptFixing.{live-id}
use Rattle.mp_resting.specs.Resting.{is_touched}
use Rattle.mp_resting.proofs.Touching.{untouched-old}
use Rattle.t_subsume.specs.Containment.{NoneHeldBelow}
use Rattle.t_subsume.specs.Nearness.{IsApart, AreTouched, AreWalked, IsNear}
use Rattle.t_subsume.specs.Shortening.{lit_at, NoneStrengthenedBelow}
use Rattle.t_subsume.specs.Strengthening.{IsNotStrengthening}
use Rattle.t_subsume.specs.Subsumption.{IsNotSubsuming}
use Rattle.t_subsume.specs.declared.near.Near.{Near}
use Rattle.t_subsume.proofs.Subsuming.{live-low, same_some}

-- a literal of a variable is one of two
either : (l k : Literal) → l.variable ≡ k.variable → (l ≡ k) ⊎ (l ≡ negation k)
either l k e =
    let first : l ≡ record { variable = k.variable; negative = l.negative } = ap (λ (x : ℕ). record { variable = x; negative = l.negative }) e in
    let by : (b : Bool) → l.negative ≡ b → l ≡ record { variable = k.variable; negative = b } = λ b f. first ∙ ap (λ (x : Bool). record { variable = k.variable; negative = x }) f in
    elim (cases_Bool l.negative) [
      | inl p ↦ elim (cases_Bool k.negative) [ inl q ↦ inl (by true p ∙ ap (λ (x : Bool). record { variable = k.variable; negative = x }) (sym q)) | inr q ↦ inr (by true p ∙ ap (λ (x : Bool). record { variable = k.variable; negative = not x }) (sym q)) ]
      | inr p ↦ elim (cases_Bool k.negative) [ inl q ↦ inr (by false p ∙ ap (λ (x : Bool). record { variable = k.variable; negative = not x }) (sym q)) | inr q ↦ inl (by false p ∙ ap (λ (x : Bool). record { variable = k.variable; negative = x }) (sym q)) ]
    ]

-- the clauses of both literals are those of the variable
pub touched-both : (l n : Literal) (slots : List (Option (List Literal))) (own other : List ℕ) (middle marks : List Bool) → n ≡ negation l → AreExactOccurrences l slots own → AreExactOccurrences n slots other → ((i : ℕ) → Contains own i → is_touched middle i ≡ true) → ((i : ℕ) → is_touched middle i ≡ true → is_touched marks i ≡ true) → ((i : ℕ) → Contains other i → is_touched marks i ≡ true) → AreTouched l.variable marks slots
touched-both l n slots own other middle marks turned of-own of-other first stays second id c k e m v =
    elim (either k l v) [
      | inl s ↦ stays id (first id ((of-own.each id).1 (c, e, subst (Contains c) s m)))
      | inr s ↦ second id ((of-other.each id).1 (c, e, subst (Contains c) (s ∙ sym turned) m))
    ]

pub touched-on : (v : ℕ) (old new : List Bool) (slots : List (Option (List Literal))) → ((i : ℕ) → is_touched old i ≡ true → is_touched new i ≡ true) → AreTouched v old slots → AreTouched v new slots
touched-on v old new slots stays t id c l e m s = stays id (t id c l e m s)

pub walked-on : (walked old new : List Bool) (slots : List (Option (List Literal))) → ((i : ℕ) → is_touched old i ≡ true → is_touched new i ≡ true) → AreWalked walked old slots → AreWalked walked new slots
walked-on walked old new slots stays w v h = touched-on v old new slots stays (w v h)

pub walked-more : (walked marks : List Bool) (slots : List (Option (List Literal))) (at : ℕ) → at < length walked → AreTouched at marks slots → AreWalked walked marks slots → AreWalked (set walked at true) marks slots
walked-more walked marks slots at lt own w v h =
    elim (cases_eq v at) [
      | inl e ↦ subst (λ x. AreTouched x marks slots) (sym e) own
      | inr n ↦ w v (sym (get_or-set_other walked at v true false n) ∙ h)
    ]

-- of one literal more, and of all
pub lits-more : (c : List Literal) (n : ℕ) (old new : List Bool) (slots : List (Option (List Literal))) → ((i : ℕ) → is_touched old i ≡ true → is_touched new i ≡ true) → ((k : ℕ) → k < n → AreTouched (lit_at c k).variable old slots) → AreTouched (lit_at c n).variable new slots → (k : ℕ) → k < n + 1 → AreTouched (lit_at c k).variable new slots
lits-more c n old new slots stays before own k lt =
    elim (cases_eq k n) [
      | inl e ↦ subst (λ i. AreTouched (lit_at c i).variable new slots) (sym e) own
      | inr other ↦ touched-on (lit_at c k).variable old new slots stays (before k (omega (arith, lt, other)))
    ]

pub lits-each : (c : List Literal) (n : ℕ) (marks : List Bool) (slots : List (Option (List Literal))) → length c ≤ n → ((k : ℕ) → k < n → AreTouched (lit_at c k).variable marks slots) → (l : Literal) → Contains c l → AreTouched l.variable marks slots
lits-each c n marks slots le each l m =
    let at : lit_at c m.0 ≡ l = get_or_default c m.0 (record { variable = 0; negative = false }) l m.1 ∙ m.2 in
    let lt = m.1 in
    subst (λ (k : Literal). AreTouched k.variable marks slots) at (each m.0 (omega (arith, le, lt)))

-- one newer clause more
abbrev pub AreApart : ℕ → ℕ → List Bool → List (Option (List Literal)) → Type 0
AreApart from upto marks slots = (id : ℕ) (c : List Literal) → clause_of slots id ≡ Some c → is_touched marks id ≡ false → IsApart from upto slots c

pub apart-none : (from : ℕ) (marks : List Bool) (slots : List (Option (List Literal))) → AreApart from from marks slots
apart-none from marks slots id c e f j d k l low high = absurd (omega (arith, low, high))

pub apart-dead : (from upto : ℕ) (marks : List Bool) (slots : List (Option (List Literal))) → ((d : List Literal) → clause_of slots upto ≡ Some d → ⊥) → AreApart from upto marks slots → AreApart from (upto + 1) marks slots
apart-dead from upto marks slots dead a id c e f j d k l low high at m i s =
    elim (cases_eq j upto) [
      | inl q ↦ dead d (subst (λ x. clause_of slots x ≡ Some d) q at)
      | inr n ↦ a id c e f j d k l low (omega (arith, high, n)) at m i s
    ]

pub apart-live : (from upto : ℕ) (x : List Literal) (old new : List Bool) (slots : List (Option (List Literal))) → clause_of slots upto ≡ Some x → ((i : ℕ) → is_touched old i ≡ true → is_touched new i ≡ true) → ((l : Literal) → Contains x l → AreTouched l.variable new slots) → AreApart from upto old slots → AreApart from (upto + 1) new slots
apart-live from upto x old new slots own stays touched a id c e f j d k l low high at m i s =
    elim (cases_eq j upto) [
      | inl q ↦
          let same : d ≡ x = same_some (clause_of slots upto) d x (subst (λ y. clause_of slots y ≡ Some d) q at) own in
          true≢false (sym (touched k (subst (λ y. Contains y k) same m) id c l e i s) ∙ f)
      | inr n ↦
          elim (cases_Bool (is_touched old id)) [
            | inl t ↦ true≢false (sym (stays id t) ∙ f)
            | inr g ↦ a id c e g j d k l low (omega (arith, high, n)) at m i s
          ]
    ]

-- what a run leaves of it
pub near-run : (L : State → State → List Repair → Type 0) (mark : ℕ) (near : Near) (h u : Held) → IsNear mark near h.slots → IsRun L h u → IsNear mark near u.slots
near-run L mark near h u n r =
    let within = n.within in
    let short = n.short in
    let next = r.next in
    record {
      within = omega (arith, within, next);
      short = short;
      old = n.old;
      apart = λ id c e f j d k l low high at m i s.
          elim (cases_lt id (length near.touched)) [
            | inl lt ↦ n.apart id c (r.ids id c (omega (arith, lt, short, within)) e) f j d k l low high (r.ids j d (omega (arith, high, within)) at) m i s
            | inr ge ↦ true≢false (sym (get_or_past near.touched id true ge) ∙ f)
          ];
    }

-- a clause that is apart from the newer ones neither subsumes nor strengthens one
pub apart-subsumes-none : (h : Held) (mark : ℕ) (near : Near) (id : ℕ) → ((c : List Literal) → clause_of h.slots id ≡ Some c → 0 < length c) → NoneHeldBelow mark h.slots → IsNear mark near h.slots → length h.slots ≤ near.upto → is_touched near.touched id ≡ false → IsNotSubsuming h.slots id
apart-subsumes-none h mark near id some none n all f c e j d at other m =
    let lt = untouched-old near.touched id f in
    let old = n.old in
    elim (cases_lt j mark) [
      | inl below ↦ none.none id c (omega (arith, lt, old)) e j d below at other m
      | inr above ↦
          let high = live-low h.slots j d at in
          let first : Contains c (lit_at c 0) = (0, some c e, sym (get_or_default c 0 (record { variable = 0; negative = false }) (lit_at c 0) (some c e))) in
          n.apart id c e f j d (lit_at c 0) (lit_at c 0) above (omega (arith, high, all)) at (m (lit_at c 0) first) first refl
    ]

pub apart-strengthens-none : (h : Held) (mark : ℕ) (near : Near) (id : ℕ) → NoneStrengthenedBelow mark h.slots → IsNear mark near h.slots → length h.slots ≤ near.upto → is_touched near.touched id ≡ false → IsNotStrengthening h.slots id
apart-strengthens-none h mark near id none n all f c e d l live i s =
    let lt = untouched-old near.touched id f in
    let old = n.old in
    let at = live-id h.slots d live in
    elim (cases_lt at.0 mark) [
      | inl below ↦ (none.none id c (omega (arith, lt, old)) e).none at.0 d l below at.1 i s
      | inr above ↦
          let high = live-low h.slots at.0 d at.1 in
          n.apart id c e f at.0 d (negation l) l above (omega (arith, high, all)) at.1 s.negated i refl
    ]
