-- The written form of a labelled state counts as a labelled state itself.
use Rattle.std.proofs.Common.{◌≡◌, ◌≢◌, ◌<◌, ◌≤◌, ◌+◌, ◌-◌, ◌&&◌, ℕ, Bool, true, false, cond, IsTrue, List, [], ◌∷◌, All, Contains, get_or, length, map, sum_by, refl, ap, sym, ◌∙◌, subst, arith, inl, inr}
use Rattle.std.specs.Prelude.{nat_eq, nat_lt}
use Rattle.std.specs.List.{AllByRecursion, IsDistinct}
use Rattle.std.specs.List.Sorted.{IsPermutation}
use Rattle.std.proofs.lemmas.Bool.{and_parts, and_from, ltb-true, lt-ltb, eq-eqb, eqb-true, ne_eqb, cases_eq, cond-true, cond-false, true≢false}
use Rattle.std.proofs.lemmas.List.Elements.{All-contains}
use Rattle.std.proofs.lemmas.List.Sorted.{IsPermutation-sym, Contains-permutation, sum_by-IsPermutation}
use Rattle.std.proofs.lemmas.Map.Keys.{IsDistinct-IsPermutation}
use Rattle.mp_logic.specs.Literal.{Literal, IsUpTo}
use Rattle.mp_logic.specs.Normal.{rises}
use Rattle.mp_logic.specs.Keeping.{State}
use Rattle.mp_logic.specs.Carrying.{WrittenForm}
use Rattle.mp_logic.specs.Labelled.{AreApart, IsLabelled, names_rise}
use Rattle.mp_logic.specs.declared.instances.Cost.{Cost}
use Rattle.mp_logic.proofs.Members.{Contains-none, Contains-first, Contains-later, Contains-cases, All-from_contained}
use Rattle.mp_labels.specs.UnitForm.{names_of, number_of, renamed, soft_of, IsUnitForm}
use Rattle.mp_labels.proofs.Lists.{Contains-from_map, sum_by-map}
use Rattle.mp_labels.proofs.Numbers.{rises_parts, name_bounds, number_bounds, name_at_number}
use Rattle.mp_labels.proofs.Presented.{all_named, formula_units, hard_origin, names_rising}
use Rattle.mp_modes.specs.EndStates.{CountsAs, unit_soft}

number_first : (m v : ℕ) (ms : List ℕ) → m ≡ v → number_of (m ∷ ms) v ≡ 1
number_first m v ms e = cond-true (nat_eq m v) 1 (1 + number_of ms v) (eq-eqb m v e)

number_later : (m v : ℕ) (ms : List ℕ) → (m ≡ v → ⊥) → number_of (m ∷ ms) v ≡ 1 + number_of ms v
number_later m v ms n = cond-false (nat_eq m v) 1 (1 + number_of ms v) (ne_eqb m v n)

-- a name that is not the first stands later
behind : (m v : ℕ) (ms : List ℕ) → Contains (m ∷ ms) v → (m ≡ v → ⊥) → Contains ms v
behind m v ms i n = elim (Contains-cases m ms v i) [ inl e ↦ absurd (n (sym e)) | inr j ↦ j ]

-- numbers rise with the names
pub numbers_rise : (names : List ℕ) (least n v w : ℕ) → IsTrue (names_rise least n names) → Contains names v → Contains names w → v < w → number_of names v < number_of names w
numbers_rise [] least n v w h i j l = absurd (Contains-none v i)
numbers_rise (m ∷ ms) least n v w h i j l =
    let r = rises_parts least n m ms h in
    elim (cases_eq m v) [
      | inl e ↦
          let other : m ≡ w → ⊥ = λ q. absurd (omega (arith, e, q, l)) in
          let first = number_first m v ms e in
          let later = number_later m w ms other in
          let some = number_bounds ms w (behind m w ms j other) in
          omega (arith, first, later, some.0)
      | inr d ↦
          let here = behind m v ms i d in
          let above = name_bounds ms m n v r.rest here in
          let other : m ≡ w → ⊥ = λ q. absurd (omega (arith, above.0, q, l)) in
          let rest = numbers_rise ms m n v w r.rest here (behind m w ms j other) l in
          let one = number_later m v ms d in
          let two = number_later m w ms other in
          omega (arith, one, two, rest)
    ]

-- so a normal clause stays normal under the numbers
renamed_rises : (names : List ℕ) (bound n k : ℕ) (c : List Literal) → IsTrue (names_rise 0 bound names) → ((l : Literal) → Contains c l → Contains names l.variable)
    → ((v : ℕ) → Contains names v → n < v → k < number_of names v) → IsTrue (rises n c) → IsTrue (rises k (map (renamed names) c))
renamed_rises names bound n k [] h named step r = r
renamed_rises names bound n k (l ∷ ls) h named step r =
    let parts = and_parts (nat_lt n l.variable) (rises l.variable ls) r in
    let here = named l (Contains-first l ls) in
    and_from (nat_lt k (number_of names l.variable)) (rises (number_of names l.variable) (map (renamed names) ls))
    (lt-ltb k (number_of names l.variable) (step l.variable here (ltb-true n l.variable parts.0)))
    (renamed_rises names bound l.variable (number_of names l.variable) ls h (λ m j. named m (Contains-later l ls m j))
    (λ v i less. numbers_rise names 0 bound l.variable v h here i less) parts.1)

-- two names of one number are one
same_number : (names : List ℕ) (v w : ℕ) → Contains names v → Contains names w → number_of names v ≡ number_of names w → v ≡ w
same_number names v w i j e = sym (name_at_number names v 0 i) ∙ ap (λ k. get_or names (k - 1) 0) e ∙ name_at_number names w 0 j

abbrev same_variable : Cost → Cost → Bool
same_variable p q = nat_eq p.lit.variable q.lit.variable

flips : (p q : Cost) → same_variable p q ≡ same_variable q p
flips p q =
    elim (cases_eq p.lit.variable q.lit.variable) [
      | inl e ↦ eq-eqb p.lit.variable q.lit.variable e ∙ sym (eq-eqb q.lit.variable p.lit.variable (sym e))
      | inr n ↦ ne_eqb p.lit.variable q.lit.variable n ∙ sym (ne_eqb q.lit.variable p.lit.variable (λ e. n (sym e)))
    ]

each_by : {X : Type 0} (P : X → Type 0) (xs : List X) → ((x : X) → Contains xs x → P x) → AllByRecursion P xs
each_by P [] f = tt
each_by P (x ∷ xs) f = (f x (Contains-first x xs), each_by P xs (λ y i. f y (Contains-later x xs y i)))

each_from : {X : Type 0} (P : X → Type 0) (xs : List X) → AllByRecursion P xs → (x : X) → Contains xs x → P x
each_from P [] h x i = absurd (Contains-none x i)
each_from P (y ∷ xs) h x i = elim (Contains-cases y xs x i) [ inl e ↦ subst P (sym e) h.0 | inr j ↦ each_from P xs h.1 x j ]

apart_distinct : (ps : List Cost) → AreApart ps → IsDistinct same_variable ps
unfolding IsDistinct
apart_distinct [] h = tt
apart_distinct (p ∷ ps) h =
    (each_by (λ (q : Cost). same_variable p q ≡ false) ps (λ q i. ne_eqb p.lit.variable q.lit.variable (λ e. All-contains (λ (q : Cost). q.lit.variable ≢ p.lit.variable) ps q h.0 i (sym e))), apart_distinct ps h.1)

-- a cost literal under the number of its variable
abbrev numbered : List ℕ → Cost → Cost
numbered names p = record { lit = renamed names p.lit; weight = p.weight }

-- cost literals stay apart under their numbers
distinct_apart : (names : List ℕ) (ps : List Cost) → ((p : Cost) → Contains ps p → Contains names p.lit.variable) → IsDistinct same_variable ps → AreApart (map (numbered names) ps)
unfolding IsDistinct
distinct_apart names [] named h = tt
distinct_apart names (p ∷ ps) named h = (
  All-from_contained (λ (q : Cost). q.lit.variable ≢ (numbered names p).lit.variable) (map (numbered names) ps) (λ q i e.
      let from = Contains-from_map (numbered names) ps q i in
      let number = sym (ap (λ (c : Cost). c.lit.variable) from.2) ∙ e in
      let one = same_number names from.0.lit.variable p.lit.variable (named from.0 (Contains-later p ps from.0 from.1)) (named p (Contains-first p ps)) number in
      true≢false (sym (eq-eqb p.lit.variable from.0.lit.variable (sym one)) ∙ each_from (λ (q : Cost). same_variable p q ≡ false) ps h.0 from.0 from.1)),
  distinct_apart names ps (λ q i. named q (Contains-later p ps q i)) h.1,
)

softs_twice : (names : List ℕ) (ps : List Cost) → map (soft_of names) ps ≡ map unit_soft (map (numbered names) ps)
softs_twice names [] = refl
softs_twice names (p ∷ ps) = ap (λ ss. soft_of names p ∷ ss) (softs_twice names ps)

-- the state that a written form counts as
abbrev pub state_of : (s : State) (w : WrittenForm) → IsUnitForm s w → State
state_of s w u = record { vars = w.«instance».vars; hard = w.«instance».hard; costs = map (numbered (names_of s)) u.costs; offset = 0 }

pub form_counts : (s : State) (w : WrittenForm) → IsLabelled s.vars s.hard s.costs s.offset → (u : IsUnitForm s w) → CountsAs w.«instance» (state_of s w u)
form_counts s w h u =
    let names = names_of s in
    let are = all_named s h in
    let formula = formula_units s w h u in
    let back = IsPermutation-sym s.costs u.costs u.costs_moved in
    let named : (p : Cost) → Contains u.costs p → Contains names p.lit.variable = λ p i. are.costs p (Contains-permutation u.costs s.costs p back i) in
    record {
      vars = refl;
      hard = refl;
      soft = u.soft ∙ softs_twice names u.costs;
      offset = refl;
      labelled = record {
        hard_within = formula.hard_within;
        hard_normal = All-from_contained (λ (c : List Literal). IsTrue (rises 0 c)) w.«instance».hard (λ d i.
            let k = hard_origin s w u d i in
            let Normal : List Literal → Type 0 = λ c. IsTrue (rises 0 c) in
            let normal = All-contains Normal s.hard k.0 h.hard_normal k.1 in
            subst Normal (sym k.2) (renamed_rises names s.vars 0 0 k.0 (names_rising s) (are.hard k.0 k.1) (λ v j less. (number_bounds names v j).0) normal));
        costs_within = All-from_contained (λ (p : Cost). IsUpTo w.«instance».vars p.lit) (map (numbered names) u.costs) (λ p i.
            let from = Contains-from_map (numbered names) u.costs p i in
            let bounds = number_bounds names from.0.lit.variable (named from.0 from.1) in
            let number = ap (λ (c : Cost). c.lit.variable) from.2 in
            (omega (arith, bounds.0, number), omega (arith, bounds.1, number, u.vars)));
        costs_weigh = All-from_contained (λ (p : Cost). 1 ≤ p.weight) (map (numbered names) u.costs) (λ p i.
            let from = Contains-from_map (numbered names) u.costs p i in
            let weigh = All-contains (λ (p : Cost). 1 ≤ p.weight) s.costs from.0 h.costs_weigh (Contains-permutation u.costs s.costs from.0 back from.1) in
            let same = ap (λ (c : Cost). c.weight) from.2 in
            omega (arith, weigh, same));
        costs_apart = distinct_apart names u.costs named (IsDistinct-IsPermutation same_variable flips s.costs u.costs u.costs_moved (apart_distinct s.costs h.costs_apart));
        below =
            let moved = sum_by-map (λ (p : Cost). p.weight) (numbered names) u.costs in
            let total = sum_by-IsPermutation (λ (p : Cost). p.weight) s.costs u.costs u.costs_moved in
            omega (arith, moved, total, h.below);
      };
    }
