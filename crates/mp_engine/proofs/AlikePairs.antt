-- Pairs of labels, in states that are alike.
use Rattle.std.proofs.Common.{◌≡◌, ℕ, Bool, true, ◌&&◌, List, length, map, ap, sym, ◌∙◌, subst}
use Rattle.std.specs.Prelude.{◌==◌}
use Rattle.std.proofs.lemmas.List.{length-map}
use Rattle.mp_logic.specs.Literal.{Literal}
use Rattle.mp_logic.specs.Keeping.{State}
use Rattle.mp_logic.specs.declared.instances.Cost.{Cost}
use Rattle.mp_clauses.specs.Places.{place_of, has}
use Rattle.mp_clauses.proofs.Found.{any-by, any-found}
use Rattle.t_amo.specs.Labels.{is_pair_of, are_clause}
use Rattle.t_amo.specs.AtMostOnes.{NoLabelPair}
use Rattle.mp_engine.specs.Alike.{Uses, numbered, IsAlike}
use Rattle.mp_engine.proofs.Alike.{uses_cost, clause_behind, has_moves}
use Rattle.mp_engine.proofs.AlikeLabels.{cost_behind}

-- two literals are a clause where they are one under their numbers
pair_behind : (s t : State) (a : IsAlike s t) (k l : Literal) → Uses s k.variable → Uses s l.variable → are_clause t.hard (numbered a.number k) (numbered a.number l) ≡ true → are_clause s.hard k l ≡ true
pair_behind s t a k l u v h =
    let n = a.number in
    let d = any-found (is_pair_of (numbered n k) (numbered n l)) t.hard h in
    let c = clause_behind s t a d.0 d.1 in
    let mapped : List Literal = map (numbered n) c.0 in
    let there : is_pair_of (numbered n k) (numbered n l) mapped ≡ true = subst (λ (x : List Literal). is_pair_of (numbered n k) (numbered n l) x ≡ true) c.2 d.2 in
    let size : is_pair_of (numbered n k) (numbered n l) mapped ≡ ((length c.0 == 2) && (has (place_of (numbered n k)) mapped && has (place_of (numbered n l)) mapped)) =
    ap (λ (m : ℕ). (m == 2) && (has (place_of (numbered n k)) mapped && has (place_of (numbered n l)) mapped)) (length-map c.0 (numbered n)) in
    let first = ap (λ (b : Bool). (length c.0 == 2) && (b && has (place_of (numbered n l)) mapped)) (has_moves s t a k u c.0 c.1) in
    let second = ap (λ (b : Bool). (length c.0 == 2) && (has (place_of k) c.0 && b)) (has_moves s t a l v c.0 c.1) in
    any-by (is_pair_of k l) s.hard c.0 c.1 (sym second ∙ (sym first ∙ (sym size ∙ there)))

-- labels that are a clause
pub no_label_pair_move : (s t : State) → IsAlike s t → NoLabelPair s → NoLabelPair t
no_label_pair_move s t a h q own paired =
    let p = cost_behind s t a q own in
    let r = cost_behind s t a paired.0 paired.1 in
    let first : q.lit ≡ numbered a.number p.0.lit = ap (λ (x : Cost). x.lit) p.2 in
    let second : (paired.0).lit ≡ numbered a.number r.0.lit = ap (λ (x : Cost). x.lit) r.2 in
    let there : are_clause t.hard (numbered a.number p.0.lit) (numbered a.number r.0.lit) ≡ true =
    subst (λ (k : Literal). are_clause t.hard (numbered a.number p.0.lit) k ≡ true) second (subst (λ (k : Literal). are_clause t.hard k (paired.0).lit ≡ true) first paired.3) in
    h p.0 p.1 (
      r.0,
      r.1,
      λ e. paired.2 (second ∙ (ap (numbered a.number) e ∙ sym first)),
      pair_behind s t a p.0.lit r.0.lit (uses_cost s p.0 p.1) (uses_cost s r.0 r.1) there,
    )
