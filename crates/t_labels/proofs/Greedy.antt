-- What the walk over a label's clauses chooses covers the label.
use Rattle.std.proofs.Common.{◌≡◌, ◌≢◌, ℕ, ◌-◌, ◌≤◌, Bool, true, false, not, cond, List, [], ◌∷◌, ◌++◌, refl, sym, ◌∙◌, ap, subst, arith, inl, inr, Contains, sum_by, append_assoc}
use Rattle.std.specs.Prelude.{Option, Some, None, map, nat_lt}
use Rattle.std.proofs.lemmas.Bool.{false≢true, ltb-false}
use Rattle.std.proofs.lemmas.List.Elements.{Contains-append_left, Contains-append_right}
use Rattle.std.proofs.lemmas.List.Sums.{sum_by-cons}
use Rattle.mp_logic.specs.Literal.{Literal}
use Rattle.mp_logic.specs.SubsumedLabels.{IsGroupCover}
use Rattle.mp_logic.specs.declared.instances.Cost.{Cost}
use Rattle.mp_logic.proofs.Members.{Contains-none, Contains-first, Contains-later, Contains-cases, Contains-map}
use Rattle.mp_clauses.specs.Places.{place_of, has}
use Rattle.mp_clauses.specs.Slots.{live_clauses}
use Rattle.mp_clauses.specs.Weighing.{weight_in}
use Rattle.mp_clauses.proofs.Found.{any-found, has-contains}
use Rattle.mp_store.specs.Held.{Held, labelled_of}
use Rattle.mp_store.specs.Fixing.{meets}
use Rattle.mp_store.specs.Soundness.{IsStore}
use Rattle.t_labels.specs.Covers.{cost_in}
use Rattle.t_labels.specs.Grouping.{may_cover_at, lighter, lightest, choose, covers_greedily, is_covered_by_group}
use Rattle.t_labels.proofs.Labels.{weight-cost, other-variable, may-parts}

-- the lightest literal is one of the clause that passes
pub record Found (may : Literal → Bool) (c : List Literal) (b : Literal) : Type 0 where
  pub inside : Contains c b
  pub passes : may b ≡ true

lighter-found : (price : Literal → ℕ) (may : Literal → Bool) (all : List Literal) (best : Option Literal) (k : Literal) → Found may all k → ((b : Literal) → best ≡ Some b → Found may all b) → (x : Literal) → lighter price best k ≡ Some x → Found may all x
lighter-found price may all None k own before x e = (let same : k ≡ x = cc in subst (Found may all) same own)
lighter-found price may all (Some b) k own before x e =
    let step : (t : Bool) → cond t (Some k) (Some b) ≡ Some x → Found may all x =
    λ (t : Bool). elim t as (λ t. cond t (Some k) (Some b) ≡ Some x → Found may all x) [
      | true ↦ λ f. (let same : k ≡ x = cc in subst (Found may all) same own)
      | false ↦ λ f. (let same : b ≡ x = cc in subst (Found may all) same (before b refl))
    ] in
    step (nat_lt (price k) (price b)) e

pub lightest-found : (price : Literal → ℕ) (may : Literal → Bool) (all : List Literal) (best : Option Literal) (c : List Literal) → ((k : Literal) → Contains c k → Contains all k) → ((b : Literal) → best ≡ Some b → Found may all b) → (b : Literal) → lightest price may best c ≡ Some b → Found may all b
lightest-found price may all best [] inside before b e = before b e
lightest-found price may all best (k ∷ c) inside before b e =
    let own : Contains all k = inside k (Contains-first k c) in
    let step : (t : Bool) → may k ≡ t → (x : Literal) → cond t (lighter price best k) best ≡ Some x → Found may all x =
    λ (t : Bool). elim t as (λ t. may k ≡ t → (x : Literal) → cond t (lighter price best k) best ≡ Some x → Found may all x) [
      | true ↦ λ m x f. lighter-found price may all best k (record { inside = own; passes = m }) before x f
      | false ↦ λ m x f. before x f
    ] in
    lightest-found price may all (cond (may k) (lighter price best k) best) c (λ x i. inside x (Contains-later k c x i)) (step (may k) refl) b e

-- what the greedy choice leaves: more that pass, one of which or of the chosen ones is in each clause, and that are paid for
pub record Group (price : Literal → ℕ) (may : Literal → Bool) (cs : List (List Literal)) (chosen : List Literal) (left : ℕ) : Type 0 where
  pub more : List Literal
  pub each : (b : Literal) → Contains more b → may b ≡ true
  pub meets_all : (c : List Literal) → Contains cs c → (b : Literal) × Contains (chosen ++ more) b × Contains c b
  pub paid : sum_by price more ≤ left

pub greedy-group : (price : Literal → ℕ) (may : Literal → Bool) (cs : List (List Literal)) (chosen : List Literal) (left : ℕ) → covers_greedily price may cs chosen left ≡ true → Group price may cs chosen left
greedy-group price may [] chosen left e = record { more = []; each = λ b i. absurd (Contains-none b i); meets_all = λ c i. absurd (Contains-none c i); paid = omega arith }
greedy-group price may (c ∷ cs) chosen left e =
    let choice : (x : Option Literal) → lightest price may None c ≡ x → choose price chosen left (covers_greedily price may cs) x ≡ true → Group price may (c ∷ cs) chosen left =
    λ (x : Option Literal). elim x as (λ x. lightest price may None c ≡ x → choose price chosen left (covers_greedily price may cs) x ≡ true → Group price may (c ∷ cs) chosen left) [
      | None ↦ λ f g. absurd (false≢true g)
      | Some b ↦ λ f g.
          let found = lightest-found price may c None c (λ k i. i) (λ b e. absurd (cc)) b f in
          let step : (t : Bool) → nat_lt left (price b) ≡ t → cond t false (covers_greedily price may cs (chosen ++ b ∷ []) (left - price b)) ≡ true → Group price may (c ∷ cs) chosen left =
          λ (t : Bool). elim t as (λ t. nat_lt left (price b) ≡ t → cond t false (covers_greedily price may cs (chosen ++ b ∷ []) (left - price b)) ≡ true → Group price may (c ∷ cs) chosen left) [
            | true ↦ λ p q. absurd (false≢true q)
            | false ↦ λ p q.
                let rest = greedy-group price may cs (chosen ++ b ∷ []) (left - price b) q in
                let fits = ltb-false left (price b) p in
                record {
                  more = b ∷ rest.more;
                  each = λ k i. elim (Contains-cases b rest.more k i) [ inl o ↦ ap may o ∙ found.passes | inr j ↦ rest.each k j ];
                  meets_all = λ d i. elim (Contains-cases c cs d i) [
                    | inl o ↦ (b, Contains-append_right chosen (b ∷ rest.more) b (Contains-first b rest.more), subst (λ (y : List Literal). Contains y b) (sym o) found.inside)
                    | inr j ↦ (let w = rest.meets_all d j in (w.0, subst (λ (y : List Literal). Contains y w.0) (append_assoc chosen (b ∷ []) rest.more) w.1, w.2))
                  ];
                  paid = (let le = rest.paid in omega (arith, le, fits, sum_by-cons price b rest.more));
                }
          ] in
          step (nat_lt left (price b)) refl g
    ] in
    let outer : (t : Bool) → meets chosen c ≡ t → cond t (covers_greedily price may cs chosen left) (choose price chosen left (covers_greedily price may cs) (lightest price may None c)) ≡ true → Group price may (c ∷ cs) chosen left =
    λ (t : Bool). elim t as (λ t. meets chosen c ≡ t → cond t (covers_greedily price may cs chosen left) (choose price chosen left (covers_greedily price may cs) (lightest price may None c)) ≡ true → Group price may (c ∷ cs) chosen left) [
      | true ↦ λ m g.
          let rest = greedy-group price may cs chosen left g in
          let w = any-found (λ k. has (place_of k) chosen) c m in
          record {
            more = rest.more;
            each = rest.each;
            meets_all = λ d i. elim (Contains-cases c cs d i) [
              | inl o ↦ (w.0, Contains-append_left chosen rest.more w.0 (has-contains chosen w.0 w.2), subst (λ (y : List Literal). Contains y w.0) (sym o) w.1)
              | inr j ↦ rest.meets_all d j
            ];
            paid = rest.paid;
          }
      | false ↦ λ m g. choice (lightest price may None c) refl g
    ] in
    outer (meets chosen c) refl e

-- the group as costs
abbrev pub priced_group : List ℕ → List Literal → List Cost
priced_group w bs = map (cost_in w) bs

sum-priced : (w : List ℕ) (bs : List Literal) → sum_by (λ (q : Cost). q.weight) (priced_group w bs) ≡ sum_by (weight_in w) bs
sum-priced w [] = refl
sum-priced w (b ∷ bs) =
    let rest = sum-priced w bs in
    omega (arith, rest, sum_by-cons (λ (q : Cost). q.weight) (cost_in w b) (priced_group w bs), sum_by-cons (weight_in w) b bs)

pub priced-has : (w : List ℕ) (bs : List Literal) (b : Literal) → Contains bs b → Contains (priced_group w bs) (cost_in w b)
priced-has w [] b i = absurd (Contains-none b i)
priced-has w (x ∷ bs) b i =
    elim (Contains-cases x bs b i) [
      | inl e ↦ subst (λ (y : Literal). Contains (priced_group w (x ∷ bs)) (cost_in w y)) (sym e) (Contains-first (cost_in w x) (priced_group w bs))
      | inr j ↦ Contains-later (cost_in w x) (priced_group w bs) (cost_in w b) (priced-has w bs b j)
    ]

-- a greedy cover covers
pub greedy-cover : (h : Held) (l : Literal) (cs : List (List Literal)) → IsStore h → weight_in h.weights l ≢ 0 → ((c : List Literal) → Contains (live_clauses h.slots) c → Contains c l → Contains cs c) → is_covered_by_group h l cs ≡ true
    → (qs : List Cost) × IsGroupCover (cost_in h.weights l) qs (labelled_of h)
greedy-cover h l cs s n all e =
    let g = greedy-group (weight_in h.weights) (may_cover_at h l) cs [] (weight_in h.weights l) e in
    let from : (q : Cost) → Contains (priced_group h.weights g.more) q → (b : Literal) × Contains g.more b × (q ≡ cost_in h.weights b) = λ q i. Contains-map (cost_in h.weights) g.more q i in
    let may = λ (b : Literal) (i : Contains g.more b). may-parts (weight_in h.weights) (live_clauses h.slots) l b (g.each b i) in (
      priced_group h.weights g.more,
      record {
        costs = λ q i. (let w = from q i in rw w.2 (weight-cost h.weights w.0 (may w.0 w.1).some));
        others = λ q i. (let w = from q i in
            let differ : w.0.variable ≢ l.variable = other-variable h (cost_in h.weights l) (cost_in h.weights w.0) s (weight-cost h.weights l n) (weight-cost h.weights w.0 (may w.0 w.1).some) (may w.0 w.1).other in
            subst (λ (y : Cost). y.lit.variable ≢ l.variable) (sym w.2) differ);
        plain = λ q i c j k m z. (let w = from q i in (may w.0 w.1).plain c j k m (z ∙ ap (λ (y : Cost). record y.lit { negative = not y.lit.negative }) w.2));
        meets = λ c i j. (let w = g.meets_all c (all c i j) in (cost_in h.weights w.0, priced-has h.weights g.more w.0 w.1, w.2));
        weight = (let le = g.paid in let same = sum-priced h.weights g.more in omega (arith, le, same));
      },
    )
