-- What holds of literals, clauses and costs under the numbers of names.
use Rattle.std.proofs.Common.{◌≡◌, ◌-◌, ◌||◌, ℕ, Bool, true, false, not, cond, List, [], ◌∷◌, Contains, map, sum_by, refl, ap, sym, ◌∙◌, arith}
use Rattle.std.specs.List.Sorted.{IsPermutation}
use Rattle.std.proofs.lemmas.List.{get_or-map}
use Rattle.std.proofs.lemmas.List.Sorted.{IsPermutation-sym, Contains-permutation, sum_by-IsPermutation}
use Rattle.mp_logic.specs.Literal.{Literal}
use Rattle.mp_logic.specs.Truth.{value_of, literal_value, clause_value, IsSatisfied, paid}
use Rattle.mp_logic.specs.Keeping.{charged}
use Rattle.mp_logic.specs.declared.instances.Cost.{Cost}
use Rattle.mp_logic.proofs.Members.{Contains-first, Contains-later, satisfied, IsSatisfied-from}
use Rattle.mp_logic.proofs.Literals.{literal_value-negation}
use Rattle.mp_labels.specs.UnitForm.{number_of, renamed, soft_of}
use Rattle.mp_labels.proofs.Lists.{Contains-map, Contains-from_map, sum_by-map, sum_by_agree}
use Rattle.mp_labels.proofs.Numbers.{number_bounds, name_at_number}

-- each name has in a the value that its number has in b
pub record AgreesUnder (names : List ℕ) (a b : List Bool) : Type 0 where
  pub at : (v : ℕ) → Contains names v → value_of a v ≡ value_of b (number_of names v)

-- the variables of the clauses and of the costs are names
pub record AreNamed (names : List ℕ) (cs : List (List Literal)) (ps : List Cost) : Type 0 where
  pub hard : (c : List Literal) → Contains cs c → (l : Literal) → Contains c l → Contains names l.variable
  pub costs : (p : Cost) → Contains ps p → Contains names p.lit.variable

-- the values of the names in their order
pub AgreesUnder-values : (names : List ℕ) (a : List Bool) → AgreesUnder names a (map (value_of a) names)
AgreesUnder-values names a = record {
  at = λ v i.
      let b = number_bounds names v i in
      sym (get_or-map (value_of a) names (number_of names v - 1) 0 false (omega (arith, b.0, b.1)) ∙ ap (value_of a) (name_at_number names v 0 i));
}

pub literal_value-renamed : (names : List ℕ) (a b : List Bool) (l : Literal) → AgreesUnder names a b → Contains names l.variable → literal_value a l ≡ literal_value b (renamed names l)
literal_value-renamed names a b l h i = ap (λ x. cond l.negative (not x) x) (h.at l.variable i)

pub clause_value-renamed : (names : List ℕ) (a b : List Bool) (c : List Literal) → AgreesUnder names a b → ((l : Literal) → Contains c l → Contains names l.variable)
    → clause_value a c ≡ clause_value b (map (renamed names) c)
clause_value-renamed names a b [] h i = refl
clause_value-renamed names a b (l ∷ c) h i =
    let rest = clause_value-renamed names a b c h (λ k j. i k (Contains-later l c k j)) in
    ap (λ x. x || clause_value a c) (literal_value-renamed names a b l h (i l (Contains-first l c))) ∙ ap (λ x. literal_value b (renamed names l) || x) rest

pub satisfied-from_renamed : (names : List ℕ) (a b : List Bool) (cs ds : List (List Literal)) (ps : List Cost) → AgreesUnder names a b → AreNamed names cs ps
    → IsPermutation (map (map (renamed names)) cs) ds → IsSatisfied b ds → IsSatisfied a cs
satisfied-from_renamed names a b cs ds ps h n p m =
    IsSatisfied-from a cs (λ c i.
    clause_value-renamed names a b c h (n.hard c i)
    ∙ satisfied b ds (map (renamed names) c) m (Contains-permutation (map (map (renamed names)) cs) ds (map (renamed names) c) p (Contains-map (map (renamed names)) cs c i)))

pub satisfied-renamed : (names : List ℕ) (a b : List Bool) (cs ds : List (List Literal)) (ps : List Cost) → AgreesUnder names a b → AreNamed names cs ps
    → IsPermutation (map (map (renamed names)) cs) ds → IsSatisfied a cs → IsSatisfied b ds
satisfied-renamed names a b cs ds ps h n p m =
    IsSatisfied-from b ds (λ d i.
    let w = Contains-from_map (map (renamed names)) cs d (Contains-permutation ds (map (map (renamed names)) cs) d (IsPermutation-sym (map (map (renamed names)) cs) ds p) i) in
    ap (clause_value b) w.2 ∙ (sym (clause_value-renamed names a b w.0 h (n.hard w.0 w.1)) ∙ satisfied a cs w.0 m w.1))

flipped : (x : Bool) (w : ℕ) → cond (not x || false) 0 w ≡ cond x w 0
flipped true w = refl
flipped false w = refl

pub paid-soft_of : (names : List ℕ) (a b : List Bool) (p : Cost) → AgreesUnder names a b → Contains names p.lit.variable → paid b (soft_of names p) ≡ charged a p
paid-soft_of names a b p h i =
    ap (λ x. cond (x || false) 0 p.weight) (literal_value-negation b (renamed names p.lit))
    ∙ (flipped (literal_value b (renamed names p.lit)) p.weight ∙ ap (λ x. cond x p.weight 0) (sym (literal_value-renamed names a b p.lit h i)))

pub costs-renamed : (names : List ℕ) (a b : List Bool) (cs : List (List Literal)) (ps qs : List Cost) → AgreesUnder names a b → AreNamed names cs ps → IsPermutation ps qs
    → sum_by (paid b) (map (soft_of names) qs) ≡ sum_by (charged a) ps
costs-renamed names a b cs ps qs h n p =
    sum_by-map (paid b) (soft_of names) qs
    ∙ (sum_by_agree (λ q. paid b (soft_of names q)) (charged a) qs (λ q i. paid-soft_of names a b q h (n.costs q (Contains-permutation qs ps q (IsPermutation-sym ps qs p) i)))
    ∙ sum_by-IsPermutation (charged a) ps qs p)
