-- What unit propagation finds from literals, in states that are alike.
use Rattle.std.proofs.Common.{◌≡◌, ℕ, true, false, List, Contains, refl, ap, sym, ◌∙◌, subst}
use Rattle.std.specs.Prelude.{◌==◌}
use Rattle.std.specs.List.{list_any}
use Rattle.std.proofs.lemmas.Bool.{eqb-true, eq-eqb}
use Rattle.mp_logic.specs.Literal.{Literal, negation}
use Rattle.mp_logic.specs.Keeping.{State}
use Rattle.mp_logic.specs.declared.instances.Cost.{Cost}
use Rattle.mp_clauses.proofs.Found.{any-by, any-found}
use Rattle.mp_labels.proofs.Lists.{Contains-from_map}
use Rattle.mp_store.specs.Measures.{occurs, is_covered}
use Rattle.t_failed.specs.Failed.{IsUnfailed, NoFailedLiteral}
use Rattle.t_failed.specs.Pairs.{IsUnderived, NoImpliedPair}
use Rattle.mp_engine.specs.Alike.{Uses, numbered, IsAlike}
use Rattle.mp_engine.proofs.Alike.{uses, uses_cost, clause_behind}
use Rattle.mp_engine.proofs.AlikeLabels.{cost_behind}
use Rattle.mp_engine.proofs.AlikeLists.{moved_list, in_moved, from_moved, propagated_moves, covered_moves}

-- literals that do not fail
unfailed_moves : (s t : State) (a : IsAlike s t) (l : Literal) → Uses s l.variable → IsUnfailed s.hard l → IsUnfailed t.hard (numbered a.number l)
unfailed_moves s t a l u h = (moved_list s t a h.0, propagated_moves s t a h.0 h.1, in_moved s t a h.0 l u h.2)

pub no_failed_move : (s t : State) → IsAlike s t → NoFailedLiteral s.hard → NoFailedLiteral t.hard
no_failed_move s t a h k occ =
    let n = a.number in
    let d = any-found (λ c. list_any (λ (l : Literal). l.variable == k.variable) c) t.hard occ in
    let m = any-found (λ (l : Literal). l.variable == k.variable) d.0 d.2 in
    let c = clause_behind s t a d.0 d.1 in
    let l = Contains-from_map (numbered n) c.0 m.0 (subst (λ (e : List Literal). Contains e m.0) c.2 m.1) in
    let v = (l.0).variable in
    let own : Literal = record { variable = v; negative = k.negative } in
    let variable : n v ≡ k.variable = sym (ap (λ (x : Literal). x.variable) l.2) ∙ eqb-true (m.0).variable k.variable m.2 in
    let is : numbered n own ≡ k = ap (λ (x : ℕ). record k { variable = x }) variable in
    let occurring : occurs v s.hard ≡ true = any-by (λ e. list_any (λ (x : Literal). x.variable == v) e) s.hard c.0 c.1 (any-by (λ (x : Literal). x.variable == v) c.0 l.0 l.1 (eq-eqb v v refl)) in
    subst (IsUnfailed t.hard) is (unfailed_moves s t a own (uses s c.0 l.0 c.1 l.1) (h own occurring))

-- labels that do not follow from the negations of others
underived_moves : (s t : State) (a : IsAlike s t) (k l : Literal) → Uses s k.variable → Uses s l.variable → IsUnderived s.hard k l → IsUnderived t.hard (numbered a.number k) (numbered a.number l)
underived_moves s t a k l u v h = (moved_list s t a h.0, propagated_moves s t a h.0 h.1, in_moved s t a h.0 (negation k) u h.2, λ i. h.3 (from_moved s t a h.0 l v i))

pub no_implied_pair_move : (s t : State) → IsAlike s t → NoImpliedPair s → NoImpliedPair t
no_implied_pair_move s t a h q own r own_r apart uncovered =
    let n = a.number in
    let x = cost_behind s t a q own in
    let y = cost_behind s t a r own_r in
    let k = (x.0).lit in
    let l = (y.0).lit in
    let u = uses_cost s x.0 x.1 in
    let v = uses_cost s y.0 y.1 in
    let first : q.lit ≡ numbered n k = ap (λ (c : Cost). c.lit) x.2 in
    let second : r.lit ≡ numbered n l = ap (λ (c : Cost). c.lit) y.2 in
    let open_there : is_covered t.hard (numbered n k) (numbered n l) ≡ false =
    subst (λ (m : Literal). is_covered t.hard (numbered n k) m ≡ false) second (subst (λ (m : Literal). is_covered t.hard m r.lit ≡ false) first uncovered) in
    let here = h x.0 x.1 y.0 y.1 (λ e. apart (second ∙ (ap (numbered n) e ∙ sym first))) (sym (covered_moves s t a k l u v) ∙ open_there) in
    subst (λ (m : Literal). IsUnderived t.hard m r.lit) (sym first) (subst (λ (m : Literal). IsUnderived t.hard (numbered n k) m) (sym second) (underived_moves s t a k l u v here))
