-- The merged form presents the state, and what else the call promises of it.
use Rattle.std.proofs.Common.{◌≡◌, ◌≤◌, ◌+◌, ℕ, Bool, true, false, cond, IsTrue, List, [], ◌∷◌, All, Contains, length, map, max, replicate, refl, ap, sym, ◌∙◌, subst, arith, inl, inr}
use Rattle.std.specs.Prelude.{nat_eq, nat_lt}
use Rattle.std.specs.List.{list_any, range_with_len}
use Rattle.std.proofs.lemmas.Bool.{and_from, lt-ltb, eqb-true, true≢false}
use Rattle.std.proofs.lemmas.List.{length-replicate, length-map, nil_from_length}
use Rattle.std.proofs.lemmas.List.Elements.{All-contains, All-nil, All-cons, All-append}
use Rattle.std.proofs.lemmas.List.Sorted.{sum_by-IsPermutation}
use Rattle.mp_logic.specs.Literal.{Literal, IsUpTo, negation}
use Rattle.mp_logic.specs.Formula.{Formula}
use Rattle.mp_logic.specs.Truth.{value_of, cost_of, weights_of}
use Rattle.mp_logic.specs.Repairs.{repaired}
use Rattle.mp_logic.specs.Rewrites.{set_repair}
use Rattle.mp_logic.specs.Keeping.{State, IsModel, full_cost, total_of}
use Rattle.mp_logic.specs.Carrying.{WrittenForm, Presents, named, restored}
use Rattle.mp_logic.specs.Labelled.{IsLabelled, IsProper, IsWrittenForm}
use Rattle.mp_logic.specs.Normal.{rises}
use Rattle.mp_logic.specs.EndStates.{NoUnits}
use Rattle.mp_logic.specs.declared.instances.Cost.{Cost}
use Rattle.mp_logic.specs.declared.instances.Repair.{Repair}
use Rattle.mp_logic.specs.declared.instances.Soft.{Soft}
use Rattle.mp_logic.proofs.Members.{Contains-first, Contains-later, All-from_contained, any_found, any_by}
use Rattle.mp_labels.specs.UnitForm.{renamed, Occurs, IsPlainForm}
use Rattle.mp_labels.proofs.Lists.{Contains-from_map, sum_by-map, Contains-from_filter}
use Rattle.mp_labels.proofs.Numbers.{name_bounds, named_at}
use Rattle.mp_labels.proofs.Renaming.{AgreesUnder, AgreesUnder-values}
use Rattle.mp_merging.specs.MergedForm.{home_of, merged_soft, merging_repairs, merged_instance, stands_in, variables_of, IsRenumbered, IsMergedForm, IsMergingForm}
use Rattle.mp_merging.specs.Tables.{IsMerging}
use Rattle.mp_merging.proofs.Merged.{list_cases, home_into, home_is, IsFormula-merging}
use Rattle.mp_merging.proofs.Restoring.{repairs_for, AreOff, restored_by}
use Rattle.mp_merging.proofs.Numbered.{all_stand, variables_rising, named_outside, none_there, model_down, model_up, cost_same, weights_same, hard_origin, soft_origin, all_occur}
use Rattle.mp_merging.proofs.Presenting.{IsOrdered, IsDown, apart_moved, not_standing, down_cost, up_cost, up_model, down_model, there}

has_empty : (cs : List (List Literal)) → list_any (λ c. nat_eq (length c) 0) cs ≡ true → Contains cs []
has_empty cs h =
    let w = any_found (λ (c : List Literal). nat_eq (length c) 0) cs h in
    subst (λ (c : List Literal). Contains cs c) (nil_from_length w.0 (eqb-true (length w.0) 0 w.2)) w.1

has_no_empty : (cs : List (List Literal)) → list_any (λ c. nat_eq (length c) 0) cs ≡ false → Contains cs [] → ⊥
has_no_empty cs h i = true≢false (sym (any_by (λ (c : List Literal). nat_eq (length c) 0) cs [] i refl) ∙ h)

abbrev pub formula_of : WrittenForm → Formula
formula_of w = w.«instance»

-- the state's literals are proper to set
set_proper : (n : ℕ) (l : Literal) (c : List Literal) → IsUpTo n l → IsTrue (rises 0 c) → All (IsUpTo n) c → IsProper n (set_repair l c)
set_proper n l c up normal within = record {
  sets_normal = and_from (nat_lt 0 l.variable) true (lt-ltb 0 l.variable up.0) refl;
  clause_normal = normal;
  sets_some = λ e. cc e;
  sets_within = All-cons (IsUpTo n) l [] up (All-nil (IsUpTo n));
  clause_within = within;
}

alone_proper : (n : ℕ) (l : Literal) → IsUpTo n l → IsProper n (set_repair l (l ∷ []))
alone_proper n l up = set_proper n l (l ∷ []) up (and_from (nat_lt 0 l.variable) true (lt-ltb 0 l.variable up.0) refl) (All-cons (IsUpTo n) l [] up (All-nil (IsUpTo n)))

merging_proper : (n : ℕ) (l : Literal) (c : List Literal) → IsUpTo n l → IsTrue (rises 0 c) → All (IsUpTo n) c → All (IsProper n) (merging_repairs l (c ∷ []))
merging_proper n l c up normal within =
    let low : (b : Bool) → All (IsProper n) (cond b (set_repair (negation l) (negation l ∷ []) ∷ []) []) =
    λ (b : Bool). elim b as (λ b. All (IsProper n) (cond b (set_repair (negation l) (negation l ∷ []) ∷ []) [])) [
      | true ↦ All-cons (IsProper n) (set_repair (negation l) (negation l ∷ [])) [] (alone_proper n (negation l) up) (All-nil (IsProper n))
      | false ↦ All-nil (IsProper n)
    ] in
    All-cons (IsProper n) (set_repair l c) _ (set_proper n l c up normal within) (low l.negative)

pub repairs_proper : (s : State) (ps : List Cost) → IsLabelled s.vars s.hard s.costs s.offset → ((p : Cost) → Contains ps p → Contains s.costs p) → All (IsProper s.vars) (repairs_for s ps)
repairs_proper s [] h n = All-nil (IsProper s.vars)
repairs_proper s (p ∷ ps) h n =
    let own : All (IsProper s.vars) (merging_repairs p.lit (home_of s p.lit)) =
    elim (list_cases (home_of s p.lit)) [
      | inl none ↦ subst (λ hs. All (IsProper s.vars) (merging_repairs p.lit hs)) (sym none) (All-nil (IsProper s.vars))
      | inr w ↦
          let c : List Literal = w.0 in
          let m = home_into s p.lit c (subst (λ hs. Contains hs c) (sym w.2) (Contains-first c w.1)) in
          let up = All-contains (λ (q : Cost). IsUpTo s.vars q.lit) s.costs p h.costs_within (n p (Contains-first p ps)) in
          subst (λ hs. All (IsProper s.vars) (merging_repairs p.lit hs)) (sym (home_is s p.lit c m))
          (merging_proper s.vars p.lit c up (All-contains (λ (d : List Literal). IsTrue (rises 0 d)) s.hard c h.hard_normal m.hard) (All-contains (All (IsUpTo s.vars)) s.hard c h.hard_within m.hard))
    ] in
    All-append (IsProper s.vars) (merging_repairs p.lit (home_of s p.lit)) (repairs_for s ps) own (repairs_proper s ps h (λ q i. n q (Contains-later p ps q i)))

-- the form has its two parts: the instance over the state's variables, and that under the numbers
pub IsMergedForm-from : (s : State) (w : WrittenForm) (f : Formula) → IsMerging s f w.repairs → IsRenumbered f w.names (formula_of w) → w.inner ≡ s.vars → w.offset ≡ s.offset → IsMergedForm s w
IsMergedForm-from s w f m r inner offset = record {
  costs = m.costs;
  costs_moved = m.costs_moved;
  costs_in_order = m.costs_in_order;
  numbered = subst (λ (g : Formula). IsRenumbered g w.names (formula_of w)) m.whole r;
  inner = inner;
  offset = offset;
  repairs = m.repairs;
}

merging_from : (s : State) (w : WrittenForm) (u : IsMergedForm s w) → IsMerging s (merged_instance s u.costs) w.repairs
merging_from s w u = record { costs = u.costs; costs_moved = u.costs_moved; costs_in_order = u.costs_in_order; whole = refl; repairs = u.repairs }

ordered_from : (s : State) (w : WrittenForm) (u : IsMergedForm s w) → IsLabelled s.vars s.hard s.costs s.offset → IsOrdered s u.costs
ordered_from s w u h = record { labelled = h; moved = u.costs_moved }

pub IsWrittenForm-merged : (s : State) (w : WrittenForm) → IsLabelled s.vars s.hard s.costs s.offset → IsMergedForm s w → IsWrittenForm (formula_of w) w.names w.inner w.repairs
IsWrittenForm-merged s w h u =
    let f : Formula = merged_instance s u.costs in
    let made : IsWrittenForm (formula_of w) (variables_of f) s.vars (repairs_for s u.costs) = record {
      each_named = sym u.numbered.vars;
      names_rising = variables_rising f;
      repairs_proper = repairs_proper s u.costs h (λ p i. there s u.costs p (ordered_from s w u h) i);
    } in
    let names = subst (λ (ns : List ℕ). IsWrittenForm (formula_of w) ns s.vars (repairs_for s u.costs)) (sym u.numbered.names) made in
    let inner = subst (λ (n : ℕ). IsWrittenForm (formula_of w) w.names n (repairs_for s u.costs)) (sym u.inner) names in
    subst (λ (rs : List Repair). IsWrittenForm (formula_of w) w.names w.inner rs) (sym u.repairs) inner

pub presents_merged : (s : State) (w : WrittenForm) → IsLabelled s.vars s.hard s.costs s.offset → IsMergedForm s w → Presents s w
presents_merged s w h u =
    let ps = u.costs in
    let f : Formula = merged_instance s ps in
    let g = formula_of w in
    let names = variables_of f in
    let o = ordered_from s w u h in
    let are = all_stand f (IsFormula-merging s f w.repairs h (merging_from s w u)) in
    let offset = u.offset in
    record {
      down = λ a m.
          let x : List Bool = named names a (replicate s.vars false) in
          let y : List Bool = repaired (repairs_for s ps) x in
          let e : y ≡ restored w.names w.inner w.repairs a =
          ap (λ ns. restored ns s.vars (repairs_for s ps) a) (sym u.numbered.names) ∙ (ap (λ n. restored w.names n (repairs_for s ps) a) (sym u.inner) ∙ ap (λ rs. restored w.names w.inner rs a) (sym u.repairs)) in
          let agrees : AgreesUnder names x a = record { at = λ v i. named_at names 0 s.vars v a (replicate s.vars false) (variables_rising f) (omega (arith, length-replicate s.vars false)) i } in
          let off : AreOff s ps x = λ p i c n.
          named_outside names p.lit.variable a (replicate s.vars false) (λ v j. (name_bounds names 0 s.vars v (variables_rising f) j).0) (All-contains (λ (q : Cost). IsUpTo s.vars q.lit) s.costs p h.costs_within (there s ps p o i)).0
          (λ j. not_standing s ps p.lit c o n (Contains-from_filter (stands_in f) (range_with_len 1 f.vars) p.lit.variable j).1)
          ∙ none_there s.vars _ in
          let d : IsDown s ps x y = record { ordered = o; model = model_down f g w.names x a are u.numbered agrees m; back = restored_by s ps x h (apart_moved s.costs ps u.costs_moved h.costs_apart) off } in
          let cost : full_cost s y ≤ cost_of g a + w.offset = omega (arith, down_cost s ps x y d, cost_same f g w.names x a are u.numbered agrees, offset) in
          subst (λ (z : List Bool). IsModel s z × (full_cost s z ≤ cost_of g a + w.offset)) e (down_model s ps x y d, cost);
      up = λ a m.
          let b : List Bool = map (value_of a) names in
          let agrees = AgreesUnder-values names a in
          (b, model_up f g w.names a b are u.numbered agrees (up_model s ps a m), omega (arith, up_cost s ps a o m, cost_same f g w.names a b are u.numbered agrees, offset));
    }

total_merged : (s : State) (w : WrittenForm) → IsMergedForm s w → w.offset + weights_of (formula_of w).soft ≡ total_of s
total_merged s w u =
    let f : Formula = merged_instance s u.costs in
    let same = weights_same f (formula_of w) w.names u.numbered in
    let mapped = sum_by-map (λ (t : Soft). t.weight) (merged_soft s) u.costs in
    let moved = sum_by-IsPermutation (λ (p : Cost). p.weight) s.costs u.costs u.costs_moved in
    omega (arith, same, mapped, moved, u.offset)

no_units_merged : (s : State) (w : WrittenForm) → IsMergedForm s w → NoUnits s.hard → NoUnits (formula_of w).hard
no_units_merged s w u h =
    let f : Formula = merged_instance s u.costs in
    All-from_contained (λ (c : List Literal). 2 ≤ length c) (formula_of w).hard (λ d i.
    let k = hard_origin f (formula_of w) w.names u.numbered d i in
    let long : 2 ≤ length k.0 = All-contains (λ (c : List Literal). 2 ≤ length c) s.hard k.0 h (Contains-from_filter _ s.hard k.0 k.1).0 in
    omega (arith, long, ap length k.2, length-map k.0 (renamed (variables_of f))))

weighed_merged : (s : State) (w : WrittenForm) → IsLabelled s.vars s.hard s.costs s.offset → IsMergedForm s w → All (λ t. 1 ≤ t.weight) (formula_of w).soft
weighed_merged s w h u =
    let f : Formula = merged_instance s u.costs in
    All-from_contained (λ (t : Soft). 1 ≤ t.weight) (formula_of w).soft (λ t i.
    let k = soft_origin f (formula_of w) w.names u.numbered t i in
    let q = Contains-from_map (merged_soft s) u.costs k.0 k.1 in
    let p : Cost = q.0 in
    let heavy : 1 ≤ p.weight = All-contains (λ (p : Cost). 1 ≤ p.weight) s.costs p h.costs_weigh (there s u.costs p (ordered_from s w u h) q.1) in
    omega (arith, heavy, ap (λ (t : Soft). t.weight) k.2, ap (λ (t : Soft). t.weight) q.2))

-- what the call promises of its answer
pub record IsPresented (s : State) (w : WrittenForm) : Type 0 where
  pub form : IsMergingForm s w
  pub presents : Presents s w
  pub total : w.offset + weights_of (formula_of w).soft ≤ total_of s
  pub inner_from : s.vars ≤ w.inner
  pub inner_to : w.inner ≤ max 1 s.vars
  pub no_units : NoUnits s.hard → NoUnits (formula_of w).hard
  pub all_occur : (v : ℕ) → 1 ≤ v → v ≤ (formula_of w).vars → Occurs (formula_of w) v
  pub weighed : All (λ t. 1 ≤ t.weight) (formula_of w).soft

pub IsPresented-merged : (s : State) (w : WrittenForm) → IsLabelled s.vars s.hard s.costs s.offset → list_any (λ c. nat_eq (length c) 0) s.hard ≡ false → IsMergedForm s w → IsPresented s w
IsPresented-merged s w h e u =
    let total = total_merged s w u in
    let inner = u.inner in
    record {
      form = record { refuted = λ i. absurd (has_no_empty s.hard e i); otherwise = λ n. u };
      presents = presents_merged s w h u;
      total = omega arith;
      inner_from = omega arith;
      inner_to = omega arith;
      no_units = no_units_merged s w u;
      all_occur = all_occur (merged_instance s u.costs) (formula_of w) w.names u.numbered;
      weighed = weighed_merged s w h u;
    }

-- where a hard clause is empty, the plain form is the refuted one
pub refuted_from_plain : (s : State) (w : WrittenForm) → list_any (λ c. nat_eq (length c) 0) s.hard ≡ true → IsPlainForm s w → IsMergingForm s w
refuted_from_plain s w e p = record { refuted = p.refuted; otherwise = λ n. absurd (n (has_empty s.hard e)) }
