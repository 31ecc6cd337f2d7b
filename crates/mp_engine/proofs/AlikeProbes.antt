-- What a solver says of labels, in states that are alike.
use Rattle.std.proofs.Common.{◌≡◌, ◌≤◌, ℕ, false, map, ap, sym, ◌∙◌, subst, inl, inr}
use Rattle.std.proofs.lemmas.List.Elements.{All-map}
use Rattle.std.proofs.lemmas.List.Sorted.{All-permutation}
use Rattle.mp_logic.specs.Literal.{Literal}
use Rattle.mp_logic.specs.Truth.{literal_value}
use Rattle.mp_logic.specs.Keeping.{State}
use Rattle.mp_logic.specs.declared.instances.Cost.{Cost}
use Rattle.t_probe.specs.Trimming.{EachCanBeFalse}
use Rattle.t_probe.specs.PairCores.{IsSettled, NoPairCore}
use Rattle.t_probe.specs.Hardening.{IsHardened}
use Rattle.mp_engine.specs.Alike.{Uses, numbered, numbered_cost, IsAlike}
use Rattle.mp_engine.proofs.Alike.{uses_cost}
use Rattle.mp_engine.proofs.AlikeLabels.{cost_behind}
use Rattle.mp_engine.proofs.AlikeModels.{moved, literal_moves, model_moves, charge_moves}
use Rattle.mp_engine.proofs.AlikeLists.{covered_moves}

-- labels that some model makes false
pub each_false_move : (s t : State) → IsAlike s t → EachCanBeFalse s → EachCanBeFalse t
each_false_move s t a h q own =
    let p = cost_behind s t a q own in
    let w = h p.0 p.1 in
    let b = moved s t a w.0 in
    let here : literal_value b (numbered a.number p.0.lit) ≡ false = literal_moves s t a w.0 p.0.lit (uses_cost s p.0 p.1) ∙ w.2 in
    (b, model_moves s t a w.0 w.1, subst (λ (c : Cost). literal_value b c.lit ≡ false) (sym p.2) here)

-- pairs of labels that some model makes false
settled_moves : (s t : State) (a : IsAlike s t) (k l : Literal) → Uses s k.variable → Uses s l.variable → IsSettled s.hard k l → IsSettled t.hard (numbered a.number k) (numbered a.number l)
settled_moves s t a k l u v h =
    elim h [
      | inl covered ↦ inl (covered_moves s t a k l u v ∙ covered)
      | inr w ↦ inr (moved s t a w.0, model_moves s t a w.0 w.1, literal_moves s t a w.0 k u ∙ w.2, literal_moves s t a w.0 l v ∙ w.3)
    ]

pub no_pair_core_move : (s t : State) → IsAlike s t → NoPairCore s → NoPairCore t
no_pair_core_move s t a h q r own_q own_r apart =
    let n = a.number in
    let x = cost_behind s t a q own_q in
    let y = cost_behind s t a r own_r in
    let first : q.lit ≡ numbered n x.0.lit = ap (λ (c : Cost). c.lit) x.2 in
    let second : r.lit ≡ numbered n y.0.lit = ap (λ (c : Cost). c.lit) y.2 in
    let settled = h x.0 y.0 x.1 y.1 (λ e. apart (first ∙ (ap (numbered n) e ∙ sym second))) in
    let there : IsSettled t.hard (numbered n x.0.lit) (numbered n y.0.lit) = settled_moves s t a x.0.lit y.0.lit (uses_cost s x.0 x.1) (uses_cost s y.0 y.1) settled in
    subst (λ (k : Literal). IsSettled t.hard k r.lit) (sym first) (subst (λ (l : Literal). IsSettled t.hard (numbered n x.0.lit) l) (sym second) there)

-- weights that some model reaches
pub hardened_move : (u : ℕ) (s t : State) → IsAlike s t → IsHardened u s → IsHardened u t
hardened_move u s t a h =
    let Light : Cost → Type 0 = λ c. c.weight ≤ u in (
      All-permutation Light (map (numbered_cost a.number) s.costs) t.costs a.costs (All-map Light (numbered_cost a.number) s.costs h.0),
      (moved s t a h.1.0, model_moves s t a h.1.0 h.1.1, charge_moves s t a h.1.0 ∙ h.1.2),
    )
