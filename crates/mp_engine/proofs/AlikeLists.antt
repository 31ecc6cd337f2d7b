-- Lists that unit propagation leaves as they are, and pairs that a clause covers, in states that are alike.
use Rattle.std.proofs.Common.{◌≡◌, Bool, ◌&&◌, ◌||◌, List, [], ◌∷◌, Contains, map, filter, refl, ap, sym, ◌∙◌, subst, inl, inr}
use Rattle.std.specs.Prelude.{◌==◌}
use Rattle.std.specs.List.{list_all}
use Rattle.std.proofs.lemmas.Bool.{eqb-true, eq-eqb}
use Rattle.mp_logic.specs.Literal.{Literal, negation}
use Rattle.mp_logic.specs.Keeping.{State}
use Rattle.mp_logic.specs.Learning.{IsAtRest, IsPropagated}
use Rattle.mp_logic.proofs.Members.{Contains-first, Contains-later}
use Rattle.mp_clauses.specs.Places.{place_of, is_in}
use Rattle.mp_clauses.proofs.Found.{both-ways, any-by, any-found, is_in-by, is_in-contains}
use Rattle.mp_clauses.proofs.Pricing.{same-place}
use Rattle.mp_labels.proofs.Lists.{Contains-map, Contains-from_map, Contains-filter, Contains-from_filter}
use Rattle.mp_store.specs.Measures.{is_covered}
use Rattle.mp_engine.specs.Alike.{Uses, numbered, IsAlike}
use Rattle.mp_engine.proofs.Alike.{same_literal, uses, clause_behind, clause_ahead, literal_ahead}
use Rattle.mp_engine.proofs.AlikeModels.{used_variables, is_used, used_is}

-- the literals on variables of the state, under their numbers
abbrev pub moved_list : (s t : State) → IsAlike s t → List Literal → List Literal
moved_list s t a p = map (numbered a.number) (filter (λ (l : Literal). is_in l.variable (used_variables s)) p)

pub in_moved : (s t : State) (a : IsAlike s t) (p : List Literal) (l : Literal) → Uses s l.variable → Contains p l → Contains (moved_list s t a p) (numbered a.number l)
in_moved s t a p l u i =
    let used : Literal → Bool = λ k. is_in k.variable (used_variables s) in
    Contains-map (numbered a.number) (filter used p) l (Contains-filter used p l i (is_in-by (used_variables s) l.variable (is_used s l.variable u)))

moved_from : (s t : State) (a : IsAlike s t) (p : List Literal) (k : Literal) → Contains (moved_list s t a p) k → (l : Literal) × Contains p l × Uses s l.variable × (k ≡ numbered a.number l)
moved_from s t a p k i =
    let used : Literal → Bool = λ l. is_in l.variable (used_variables s) in
    let l = Contains-from_map (numbered a.number) (filter used p) k i in
    let w = Contains-from_filter used p l.0 l.1 in
    (l.0, w.0, used_is s l.0.variable (is_in-contains (used_variables s) l.0.variable w.1), l.2)

pub from_moved : (s t : State) (a : IsAlike s t) (p : List Literal) (l : Literal) → Uses s l.variable → Contains (moved_list s t a p) (numbered a.number l) → Contains p l
from_moved s t a p l u i =
    let w = moved_from s t a p (numbered a.number l) i in
    subst (Contains p) (same_literal s t a w.0 l w.2 u (sym w.3)) w.1

rest_moves : (s t : State) (a : IsAlike s t) (p c : List Literal) → Contains s.hard c → IsAtRest p c → IsAtRest (moved_list s t a p) (map (numbered a.number) c)
rest_moves s t a p c own h =
    let n = a.number in
    elim h [
      | inl k ↦ inl (numbered n k.0, literal_ahead n c k.0 k.1, in_moved s t a p k.0 (uses s c k.0 own k.1) k.2)
      | inr w ↦
          let k = w.0 in
          let l = w.1 in
          let u = uses s c k own w.2.first in
          let v = uses s c l own w.2.second in
          inr (
            numbered n k,
            numbered n l,
            record {
              first = literal_ahead n c k w.2.first;
              second = literal_ahead n c l w.2.second;
              apart = λ e. w.2.apart (same_literal s t a k l u v e);
              first_open = λ i. w.2.first_open (from_moved s t a p (negation k) u i);
              second_open = λ i. w.2.second_open (from_moved s t a p (negation l) v i);
            },
          )
    ]

-- propagation leaves them as they are
pub propagated_moves : (s t : State) (a : IsAlike s t) (p : List Literal) → IsPropagated p s.hard → IsPropagated (moved_list s t a p) t.hard
propagated_moves s t a p h = record {
  consistent = λ k i j.
      let x = moved_from s t a p k i in
      let y = moved_from s t a p (negation k) j in
      let same : y.0 ≡ negation x.0 = same_literal s t a y.0 (negation x.0) y.2 x.2 (sym y.3 ∙ ap negation x.3) in
      h.consistent x.0 x.1 (subst (Contains p) same y.1);
  at_rest = λ d i.
      let c = clause_behind s t a d i in
      subst (IsAtRest (moved_list s t a p)) (sym c.2) (rest_moves s t a p c.0 c.1 (h.at_rest c.0 c.1));
}

-- places of literals are the same under their numbers
place_moves : (s t : State) (a : IsAlike s t) (k l : Literal) → Uses s k.variable → Uses s l.variable → (place_of (numbered a.number k) == place_of (numbered a.number l)) ≡ (place_of k == place_of l)
place_moves s t a k l u v =
    let n = a.number in
    both-ways (place_of (numbered n k) == place_of (numbered n l)) (place_of k == place_of l)
    (λ e. eq-eqb (place_of k) (place_of l) (ap place_of (same_literal s t a k l u v (same-place (numbered n k) (numbered n l) (eqb-true (place_of (numbered n k)) (place_of (numbered n l)) e)))))
    (λ e. eq-eqb (place_of (numbered n k)) (place_of (numbered n l)) (ap (λ (m : Literal). place_of (numbered n m)) (same-place k l (eqb-true (place_of k) (place_of l) e))))

all_move : (f g : Literal → Bool) (h : Literal → Literal) (c : List Literal) → ((m : Literal) → Contains c m → f (h m) ≡ g m) → list_all f (map h c) ≡ list_all g c
all_move f g h [] e = refl
all_move f g h (m ∷ c) e =
    ap (λ (b : Bool). b && list_all f (map h c)) (e m (Contains-first m c)) ∙ ap (λ (b : Bool). g m && b) (all_move f g h c (λ k i. e k (Contains-later m c k i)))

-- a pair is covered where it is so under its numbers
pub covered_moves : (s t : State) (a : IsAlike s t) (k l : Literal) → Uses s k.variable → Uses s l.variable → is_covered t.hard (numbered a.number k) (numbered a.number l) ≡ is_covered s.hard k l
covered_moves s t a k l u v =
    let n = a.number in
    let ahead : Literal → Bool = λ (m : Literal). (place_of m == place_of (numbered n k)) || (place_of m == place_of (numbered n l)) in
    let own : Literal → Bool = λ (m : Literal). (place_of m == place_of k) || (place_of m == place_of l) in
    let same : (c : List Literal) → Contains s.hard c → list_all ahead (map (numbered n) c) ≡ list_all own c =
    λ c i. all_move ahead own (numbered n) c (λ m j.
    let w = uses s c m i j in
    ap (λ (b : Bool). b || (place_of (numbered n m) == place_of (numbered n l))) (place_moves s t a m k w u)
    ∙ ap (λ (b : Bool). (place_of m == place_of k) || b) (place_moves s t a m l w v)) in
    both-ways (is_covered t.hard (numbered n k) (numbered n l)) (is_covered s.hard k l)
    (λ e.
    let d = any-found (λ (c : List Literal). list_all ahead c) t.hard e in
    let c = clause_behind s t a d.0 d.1 in
    any-by (λ (c : List Literal). list_all own c) s.hard c.0 c.1 (sym (same c.0 c.1) ∙ (ap (λ (x : List Literal). list_all ahead x) (sym c.2) ∙ d.2)))
    (λ e.
    let c = any-found (λ (c : List Literal). list_all own c) s.hard e in
    any-by (λ (c : List Literal). list_all ahead c) t.hard (map (numbered n) c.0) (clause_ahead s t a c.0 c.1) (same c.0 c.1 ∙ c.2))
