-- The labels that are known while labels are matched.
use Rattle.std.proofs.Common.{◌≡◌, ◌≢◌, ◌⊎◌, ℕ, ◌+◌, ◌<◌, ◌≤◌, List, [], ◌∷◌, ◌++◌, length, get_or, drop, refl, sym, ◌∙◌, ap, subst, inl, inr, arith, Contains, add-one, drop-cons, zero, suc, take, ◌-◌}
use Rattle.std.specs.Prelude.{IsTrue, Option, Some, None, MatchOption, nat_eq, slice_set}
use Rattle.std.specs.HashMap.{get}
use Rattle.std.specs.Ordering.{is_lt}
use Rattle.std.proofs.lemmas.Bool.{cases_eq, cases_lt, and_parts}
use Rattle.std.proofs.lemmas.List.{length-set, get_or-set_same, get_or-set_other, length-drop, take_all, get_or_past}
use Rattle.std.proofs.lemmas.List.Elements.{Contains-append_left}
use Rattle.mp_logic.specs.Literal.{Literal}
use Rattle.mp_logic.specs.Normal.{literals_rise, lit_cmp}
use Rattle.mp_logic.specs.SubsumedLabels.{IsPlain}
use Rattle.mp_logic.specs.declared.instances.Cost.{Cost}
use Rattle.mp_logic.proofs.Members.{Contains-none, Contains-cases}
use Rattle.mp_clauses.proofs.Steps.{get_or-any}
use Rattle.mp_clauses.specs.Places.{place_of, literal_at}
use Rattle.mp_clauses.specs.Slots.{live_clauses}
use Rattle.mp_clauses.specs.Weighing.{weight_in}
use Rattle.mp_clauses.proofs.Pricing.{literal-place}
use Rattle.mp_store.specs.Held.{Held, labelled_of}
use Rattle.t_matching.specs.declared.free_partners.FreeLabels.{FreeLabels}
use Rattle.t_matching.specs.declared.free_partners.WeightClass.{WeightClass}
use Rattle.t_matching.specs.FreePartners.{AreKnown, HasClasses, IsClass, IsInOrder, IsLabel, IsPlainLabel, IsUnusedLabel, class_at, class_of, no_class}
use Rattle.t_matching.specs.Labels.{IsUnused}
use Rattle.t_matching.specs.LabelPairs.{label_places}
use Rattle.t_matching.specs.Matching.{AreMatching, IsMatchStep}
use Rattle.t_matching.specs.Pairing.{AreFreelyMatching}
use Rattle.t_matching.proofs.Labels.{cost-weight, weight-cost}
use Rattle.t_matching.proofs.LabelPlaces.{cost-listed}
use Rattle.t_matching.proofs.PairIds.{rest-ids}

-- a class is changed

-- what holds of each class and itself, and of a class and what takes its place, holds of the classes of all numbers
pub class-set : (P : WeightClass → WeightClass → Type 0) (classes : List WeightClass) (k : ℕ) (class new : WeightClass) → ((c : WeightClass) → P c c) → k < length classes → class ≡ get_or classes k class → P class new → (o : Option ℕ) → P (class_at classes o) (class_at (slice_set classes k new) o)
class-set P classes k class new same h e p None = same no_class
class-set P classes k class new same h e p (Some j) =
    elim (cases_eq j k) [
      | inl q ↦
          let was : class ≡ get_or classes k no_class = e ∙ get_or-any classes k class no_class h in
          let now : get_or (slice_set classes k new) k no_class ≡ new = get_or-set_same classes k new no_class h in
          subst (λ (n : ℕ). P (get_or classes n no_class) (get_or (slice_set classes k new) n no_class)) (sym q)
          (subst (λ (c : WeightClass). P c (get_or (slice_set classes k new) k no_class)) was (subst (λ (c : WeightClass). P class c) (sym now) p))
      | inr n ↦ subst (λ (c : WeightClass). P (get_or classes j no_class) c) (sym (get_or-set_other classes k j new no_class n)) (same (get_or classes j no_class))
    ]

-- a label is put into a class
abbrev pub HasMore : WeightClass → WeightClass → Type 0
HasMore a b = ((m : Literal) → Contains a.labels m → Contains b.labels m) × (b.passed ≡ a.passed)

pub more-same : (c : WeightClass) → HasMore c c
more-same c = (λ m i. i, refl)

pub more-put : (class new : WeightClass) (l : Literal) → new.labels ≡ class.labels ++ l ∷ [] → new.passed ≡ class.passed → HasMore class new
more-put class new l e p = (λ m i. rw e (Contains-append_left class.labels (l ∷ []) m i), p)

-- the labels are gathered

-- each label of the places that passes is among these or still to come
abbrev pub AreNoted : (Literal → Type 0) → List ℕ → ℕ → List Literal → Type 0
AreNoted Q items i labels = (p : ℕ) → Contains items p → Q (literal_at p) → Contains (drop i items) p ⊎ Contains labels (literal_at p)

-- so for each weight
abbrev pub AllNoted : Held → List ℕ → ℕ → FreeLabels → Type 0
AllNoted h items i free = (w : ℕ) → AreNoted (λ m. IsPlainLabel w m h) items i (class_of free w).labels

pub noted-some : (h : Held) (items : List ℕ) (i item : ℕ) (l : Literal) (free new : FreeLabels) → i < length items → item ≡ get_or items i 0 → l ≡ literal_at item → Contains (class_of new (weight_in h.weights l)).labels l → ((w : ℕ) (m : Literal) → Contains (class_of free w).labels m → Contains (class_of new w).labels m) → AllNoted h items i free → AllNoted h items (i + 1) new
noted-some h items i item l free new b e f own others inv w p m n =
    elim (inv w p m n) [
      | inl r ↦ elim (Contains-cases item (drop (i + 1) items) p (subst (λ (xs : List ℕ). Contains xs p) (rest-ids items i item b e) r)) [
        | inl g ↦ inr (subst (λ (v : ℕ). Contains (class_of new v).labels (literal_at p)) n.0 (subst (λ (k : Literal). Contains (class_of new (weight_in h.weights k)).labels k) (f ∙ ap literal_at (sym g)) own))
        | inr k ↦ inl k
      ]
      | inr k ↦ inr (others w (literal_at p) k)
    ]

pub noted-none : (h : Held) (items : List ℕ) (i item : ℕ) (free : FreeLabels) → i < length items → item ≡ get_or items i 0 → (IsLabel (literal_at item) h → IsPlain (literal_at item) (live_clauses h.slots) → ⊥) → AllNoted h items i free → AllNoted h items (i + 1) free
noted-none h items i item free b e z inv w p m n =
    elim (inv w p m n) [
      | inl r ↦ elim (Contains-cases item (drop (i + 1) items) p (subst (λ (xs : List ℕ). Contains xs p) (rest-ids items i item b e) r)) [
        | inl g ↦ absurd (z (subst (λ (k : ℕ). IsLabel (literal_at k) h) g n.1) (subst (λ (k : ℕ). IsPlain (literal_at k) (live_clauses h.slots)) g n.2))
        | inr k ↦ inl k
      ]
      | inr k ↦ inr k
    ]

class-noted : (h : Held) (items : List ℕ) (i w : ℕ) (class new : WeightClass) → items ≡ label_places (labelled_of h) → drop i items ≡ [] → AreNoted (λ m. IsPlainLabel w m h) items i class.labels → class.passed ≡ 0 → IsInOrder class new → IsClass w new h
class-noted h items i w class new e z inv start o =
    let has : (m : Literal) → IsPlainLabel w m h → Contains new.labels m = λ m n.
    (let cost : Cost = record { lit = m; weight = weight_in h.weights m } in
    let listed : Contains items (place_of m) = subst (λ (xs : List ℕ). Contains xs (place_of m)) (sym e) (cost-listed (labelled_of h) cost (weight-cost h.weights m n.1)) in
    let at = literal-place m in
    elim (inv (place_of m) listed (subst (λ (k : Literal). IsPlainLabel w k h) (sym at) n)) [
      | inl r ↦ absurd (Contains-none (place_of m) (subst (λ (xs : List ℕ). Contains xs (place_of m)) z r))
      | inr k ↦ (o.same m).0 (subst (Contains class.labels) at k)
    ]) in
    let none : new.passed ≡ 0 = o.passed ∙ start in
    record {
      rising = o.rising;
      within = omega arith;
      plain = has;
      unused = λ m n u. subst (λ (k : ℕ). Contains (drop k new.labels) m) (sym none) (has m n);
    }

in-order-at : (classes new : List WeightClass) → ((k : ℕ) → IsInOrder (get_or classes k no_class) (get_or new k no_class)) → (o : Option ℕ) → IsInOrder (class_at classes o) (class_at new o)
in-order-at classes new each None = record { rising = refl; same = λ m. (λ i. i, λ i. i); passed = refl }
in-order-at classes new each (Some k) = each k

pub all-noted : (h : Held) (items : List ℕ) (i : ℕ) (free new : FreeLabels) → items ≡ label_places (labelled_of h) → drop i items ≡ [] → HasClasses free → AllNoted h items i free → ((w : ℕ) → (class_of free w).passed ≡ 0) → new.numbers ≡ free.numbers → length new.classes.items ≡ length free.classes.items → ((k : ℕ) → IsInOrder (get_or free.classes.items k no_class) (get_or new.classes.items k no_class)) → AreKnown new h
all-noted h items i free new e z within inv start numbers long each =
    record {
      numbers = λ w k f. (let b = within w k (rw numbers at f) in omega (arith, b, long));
      classes = λ w. rw numbers (class-noted h items i w (class_of free w) (class_at new.classes.items (get nat_eq free.numbers w)) e z (inv w) (start w) (in-order-at free.classes.items new.classes.items each (get nat_eq free.numbers w)));
    }

-- a label asks for its partner

-- the labels are still known after a step
pub known-still : (l m : Literal) (free : FreeLabels) (h u : Held) → IsMatchStep l m h u → AreKnown free h → AreKnown free u
known-still l m free h u s f =
    let was : (w : ℕ) (a : Literal) → IsPlainLabel w a u → IsPlainLabel w a h = λ w a n.
    (let cost : Cost = record { lit = a; weight = weight_in u.weights a } in
    let own = cost-weight h.weights cost (s.costs cost (weight-cost u.weights a n.1)) in
    (own.0 ∙ n.0, (λ z. own.1 (sym own.0 ∙ z)), s.plain a n.1 n.2)) in
    record {
      numbers = f.numbers;
      classes = λ w. record {
        rising = (f.classes w).rising;
        within = (f.classes w).within;
        plain = λ a n. (f.classes w).plain a (was w a n);
        unused = λ a n v. (f.classes w).unused a (was w a n) (s.unused a n.1 v);
      };
    }

partner-label : (h : Held) (l : Literal) (w : ℕ) (m : Literal) → w ≡ weight_in h.weights l → AreMatching l m (labelled_of h) → IsPlainLabel w m h
partner-label h l w m e match =
    let own = cost-weight h.weights (record { lit = m; weight = match.weight.0 }) match.weight.2 in
    let other = cost-weight h.weights (record { lit = l; weight = match.weight.0 }) match.weight.1 in
    (own.0 ∙ sym other.0 ∙ sym e, (λ z. own.1 (sym own.0 ∙ z)), match.plain_m)

pub free-all : (h : Held) (l : Literal) (w : ℕ) (class : WeightClass) → w ≡ weight_in h.weights l → IsClass w class h → (m : Literal) → AreFreelyMatching l m (labelled_of h) → Contains class.labels m
free-all h l w class e f m match = f.plain m (partner-label h l w m e match.0)

-- no label that no clause has stands between two places
abbrev pub NoneBetween : Held → List Literal → ℕ → ℕ → Type 0
NoneBetween h labels i j = (m : Literal) → IsUnusedLabel m h → Contains (drop i labels) m → Contains (drop j labels) m

pub free-unused : (h : Held) (l : Literal) (w : ℕ) (class : WeightClass) (j : ℕ) → w ≡ weight_in h.weights l → IsClass w class h → NoneBetween h class.labels class.passed j → (IsUnused l (live_clauses h.slots) → ⊥) → (m : Literal) → AreFreelyMatching l m (labelled_of h) → Contains (drop j class.labels) m
free-unused h l w class j e f none used m match =
    elim match.1 [
      | inl u ↦ absurd (used u)
      | inr u ↦ (let own = partner-label h l w m e match.0 in none m (own.1, u) (f.unused m own u))
    ]

pub known-set : (h : Held) (free new : FreeLabels) (k : ℕ) (class next : WeightClass) → AreKnown free h → new.numbers ≡ free.numbers → new.classes.items ≡ slice_set free.classes.items k next → k < length free.classes.items → class ≡ get_or free.classes.items k class → ((w : ℕ) → IsClass w class h → IsClass w next h) → AreKnown new h
known-set h free new k class next f numbers e b is kept =
    record {
      numbers = λ w j g. rw (e, length-set) (f.numbers w j (rw numbers at g));
      classes = λ w. rw (numbers, e) (class-set (λ a b. IsClass w a h → IsClass w b h) free.classes.items k class next (λ c i. i) b is (kept w) (get nat_eq free.numbers w) (f.classes w));
    }

-- the labels from a place on, as a slice; they rise too
pub rest-is : {X : Type 0} (xs : List X) (n : ℕ) → take (length xs - n) (drop n xs) ≡ drop n xs
rest-is xs n = take_all (length xs - n) (drop n xs) (let e = length-drop n xs in omega arith)

rise-rest : (a : Literal) (c : List Literal) → IsTrue (literals_rise (a ∷ c)) → IsTrue (literals_rise c)
rise-rest a [] r = refl
rise-rest a (b ∷ c) r = (and_parts (is_lt (lit_cmp a b)) (literals_rise (b ∷ c)) r).1

pub rise-drop : (n : ℕ) (c : List Literal) → IsTrue (literals_rise c) → IsTrue (literals_rise (drop n c))
rise-drop zero c r = r
rise-drop (suc n) [] r = r
rise-drop (suc n) (a ∷ c) r = rise-drop n c (rise-rest a c r)

-- a label that some clause has is passed over
pub rest-more : (h : Held) (labels : List Literal) (start i : ℕ) (l : Literal) → i < length labels → l ≡ get_or labels i l → (IsUnusedLabel l h → ⊥) → NoneBetween h labels start i → NoneBetween h labels start (i + 1)
rest-more h labels start i l b e used none m u c =
    let own : drop i labels ≡ l ∷ drop (i + 1) labels = rw (add-one, e) (drop-cons labels i l b) in
    elim (Contains-cases l (drop (i + 1) labels) m (subst (λ (xs : List Literal). Contains xs m) own (none m u c))) [
      | inl g ↦ absurd (used (subst (λ (k : Literal). IsUnusedLabel k h) g u))
      | inr k ↦ k
    ]

-- the classes are put in order one by one
abbrev pub AreInOrder : List WeightClass → List WeightClass → ℕ → Type 0
AreInOrder old classes i = (k : ℕ) → k < i → IsInOrder (get_or old k no_class) (get_or classes k no_class)

abbrev pub AreSameFrom : List WeightClass → List WeightClass → ℕ → Type 0
AreSameFrom old classes i = (k : ℕ) → i ≤ k → get_or classes k no_class ≡ get_or old k no_class

pub order-more : (old classes : List WeightClass) (i : ℕ) (class new : WeightClass) → i < length classes → class ≡ get_or classes i class → IsInOrder class new → AreInOrder old classes i → AreSameFrom old classes i → AreInOrder old (slice_set classes i new) (i + 1) × AreSameFrom old (slice_set classes i new) (i + 1)
order-more old classes i class new b e o done rest =
    let was : class ≡ get_or old i no_class = e ∙ get_or-any classes i class no_class b ∙ rest i (omega arith) in
    let now : get_or (slice_set classes i new) i no_class ≡ new = get_or-set_same classes i new no_class b in
    let own : IsInOrder (get_or old i no_class) (get_or (slice_set classes i new) i no_class) =
    subst (λ (c : WeightClass). IsInOrder (get_or old i no_class) c) (sym now) (subst (λ (c : WeightClass). IsInOrder c new) was o) in (
      (λ k h. elim (cases_eq k i) [
        | inl q ↦ subst (λ (n : ℕ). IsInOrder (get_or old n no_class) (get_or (slice_set classes i new) n no_class)) (sym q) own
        | inr n ↦ (let c : k < i = omega arith in subst (λ (c : WeightClass). IsInOrder (get_or old k no_class) c) (sym (get_or-set_other classes i k new no_class n)) (done k c))
      ]),
      (λ k h. let n : k ≢ i = omega arith in let c : i ≤ k = omega arith in get_or-set_other classes i k new no_class n ∙ rest k c),
    )

pub order-all : (old classes : List WeightClass) (i : ℕ) → length classes ≡ length old → length classes ≤ i → AreInOrder old classes i → (k : ℕ) → IsInOrder (get_or old k no_class) (get_or classes k no_class)
order-all old classes i long b done k =
    elim (cases_lt k (length classes)) [
      | inl h ↦ done k (omega arith)
      | inr h ↦ rw (get_or_past old k no_class (omega arith), get_or_past classes k no_class h) (record { rising = refl; same = λ m. (λ i. i, λ i. i); passed = refl })
    ]

-- what a place says that has no label
pub none-label : (h : Held) (p : ℕ) (found : Option Literal) → ((l : Literal) → found ≡ Some l → ⊥) → MatchOption found (weight_in h.weights (literal_at p) ≡ 0) (λ l. (l ≡ literal_at p) × (weight_in h.weights l ≢ 0)) → IsLabel (literal_at p) h → ⊥
none-label h p None n m q = q m
none-label h p (Some l) n m q = absurd (n l refl)

pub none-plain : (h : Held) (p : ℕ) (found : Option Literal) → ((l : Literal) → found ≡ Some l → ⊥) → MatchOption found (IsLabel (literal_at p) h → IsPlain (literal_at p) (live_clauses h.slots) → ⊥) (λ l. l ≡ literal_at p) → IsLabel (literal_at p) h → IsPlain (literal_at p) (live_clauses h.slots) → ⊥
none-plain h p None n m q = m q
none-plain h p (Some l) n m q = absurd (n l refl)
