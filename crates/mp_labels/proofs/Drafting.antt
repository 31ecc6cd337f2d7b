-- From the soft clauses still to come to the finished label view.
use Rattle.std.proofs.Common.{◌≡◌, ◌<◌, ◌≤◌, ◌+◌, ◌&&◌, ℕ, Bool, true, false, cond, List, [], ◌∷◌, ◌++◌, get_or, drop, length, min, sum_by, ap, sym, ◌∙◌, arith}
use Rattle.std.specs.Prelude.{nat_lt, nat_eq}
use Rattle.std.specs.List.{flat_map}
use Rattle.std.specs.Ordering.{is_eq}
use Rattle.std.proofs.lemmas.Bool.{and_from, cond-true, cond-false, lt-ltb}
use Rattle.std.proofs.lemmas.List.{drop_more, append-nil}
use Rattle.std.proofs.lemmas.List.Sums.{sum_by-cons}
use Rattle.mp_logic.specs.Literal.{Literal, negation}
use Rattle.mp_logic.specs.Formula.{Formula, IsFormula}
use Rattle.mp_logic.specs.Normal.{lit_cmp, rises}
use Rattle.mp_logic.specs.Truth.{weights_of}
use Rattle.mp_logic.specs.Weights.{weight_bound}
use Rattle.mp_logic.specs.Keeping.{State}
use Rattle.mp_logic.specs.declared.instances.Cost.{Cost}
use Rattle.mp_logic.specs.declared.instances.Soft.{Soft}
use Rattle.mp_logic.proofs.Members.{sum_by_le}
use Rattle.mp_logic.proofs.Literals.{negation-negation}
use Rattle.mp_labels.specs.declared.draft.Draft.{Draft}
use Rattle.mp_labels.specs.LabelView.{normal_form, normal_soft, payable, is_unit_of, cancelled, net_costs, label_view}
use Rattle.mp_labels.specs.Charges.{net_of, IsRisingOf}
use Rattle.mp_labels.specs.Drafts.{Completes, HasRoom}
use Rattle.mp_labels.proofs.NormalForms.{tie_itself}
use Rattle.mp_labels.proofs.View.{in_formula, payable_weights, cond_le, weight_of}
use Rattle.mp_labels.proofs.Settling.{Entries, Premises, settled_costs, settled_cancelled}
use Rattle.mp_labels.proofs.ViewConditions.{is_labelled_view}

payable_next : (ss : List Soft) (i : ℕ) (s : Soft) → i < length ss → s ≡ get_or ss i s → payable (drop i ss) ≡ payable (s ∷ drop (i + 1) ss)
payable_next ss i s l e = ap payable (drop_more ss i s l ∙ ap (λ (t : Soft). t ∷ drop (i + 1) ss) (sym e))

-- a soft clause that can cost something comes next
pub payable_taken : (ss : List Soft) (i : ℕ) (s : Soft) (c : List Literal) → i < length ss → s ≡ get_or ss i s → c ≡ normal_form s.clause → 0 < s.weight → rises 0 c ≡ true
    → payable (drop i ss) ≡ record { weight = s.weight; clause = c } ∷ payable (drop (i + 1) ss)
payable_taken ss i s c l e normal heavy rising =
    let rest = payable (drop (i + 1) ss) in
    let yes = and_from (nat_lt 0 s.weight) (rises 0 (normal_form s.clause)) (lt-ltb 0 s.weight heavy) (ap (rises 0) (sym normal) ∙ rising) in
    payable_next ss i s l e
    ∙ (cond-true (nat_lt 0 s.weight && rises 0 (normal_form s.clause)) (normal_soft s ∷ rest) rest yes
    ∙ ap (λ (d : List Literal). let t : Soft = record { weight = s.weight; clause = d } in t ∷ rest) (sym normal))

pub payable_skipped : (ss : List Soft) (i : ℕ) (s : Soft) → i < length ss → s ≡ get_or ss i s → (nat_lt 0 s.weight && rises 0 (normal_form s.clause)) ≡ false
    → payable (drop i ss) ≡ payable (drop (i + 1) ss)
payable_skipped ss i s l e h = payable_next ss i s l e ∙ cond-false (nat_lt 0 s.weight && rises 0 (normal_form s.clause)) (normal_soft s ∷ payable (drop (i + 1) ss)) (payable (drop (i + 1) ss)) h

-- sums over some of the soft clauses stay below all weights
part_le : (test : Soft → Bool) (ss : List Soft) → sum_by (λ s. cond (test s) s.weight 0) (payable ss) ≤ weights_of ss
part_le test ss =
    let part = sum_by_le (λ s. cond (test s) s.weight 0) weight_of (payable ss) (λ s i. cond_le (test s) s.weight) in
    let all = payable_weights ss in
    omega arith

pub has_room : (f : Formula) (d : Draft) (c : List Literal) (w : ℕ) (ps : List Soft) → Completes f (record { weight = w; clause = c } ∷ ps) d → weights_of f.soft < weight_bound → HasRoom d c w
has_room f d c w ps h light =
    let s : Soft = record { weight = w; clause = c } in
    record {
      offset = λ e.
          let own : cond (nat_eq (length c) 0) w 0 ≡ w = ap (λ (k : List Literal). cond (nat_eq (length k) 0) w 0) e in
          let sum = sum_by-cons (λ (t : Soft). cond (nat_eq (length t.clause) 0) t.weight 0) s ps in
          let all = part_le (λ (t : Soft). nat_eq (length t.clause) 0) f.soft in
          omega (arith, h.offset);
      charge = λ l e.
          let k = negation l in
          let same : is_unit_of (negation k) c ≡ true =
          ap (λ (x : List Literal). is_unit_of (negation k) x) e ∙ (ap (λ (j : Literal). is_eq (lit_cmp l j)) (negation-negation l) ∙ tie_itself l) in
          let own : cond (is_unit_of (negation k) c) w 0 ≡ w = cond-true (is_unit_of (negation k) c) w 0 same in
          let sum = sum_by-cons (λ (t : Soft). cond (is_unit_of (negation k) t.clause) t.weight 0) s ps in
          let all = part_le (λ (t : Soft). is_unit_of (negation k) t.clause) f.soft in
          omega (arith, h.charges k);
    }

pub premises_of : (f : Formula) (d : Draft) (fs : Entries) → IsFormula f.vars f.hard f.soft → Completes f [] d → IsRisingOf d.charges.entries fs → Premises f.vars f.soft d.charges.entries fs
premises_of f d fs h all order = record {
  softs = in_formula f h;
  order = order;
  charges = λ l. let e = all.charges l in omega arith;
}

abbrev pub state_of : ℕ → List (List Literal) → List Cost → ℕ → State
state_of v h c o = record { vars = v; hard = h; costs = c; offset = o }

same_state : (s t : State) → s.vars ≡ t.vars → s.hard ≡ t.hard → s.costs ≡ t.costs → s.offset ≡ t.offset → s ≡ t
same_state s t v h c o =
    let first : s ≡ state_of t.vars s.hard s.costs s.offset = ap (λ (x : ℕ). state_of x s.hard s.costs s.offset) v in
    let second : state_of t.vars s.hard s.costs s.offset ≡ state_of t.vars t.hard s.costs s.offset = ap (λ (x : List (List Literal)). state_of t.vars x s.costs s.offset) h in
    let third : state_of t.vars t.hard s.costs s.offset ≡ state_of t.vars t.hard t.costs s.offset = ap (λ (x : List Cost). state_of t.vars t.hard x s.offset) c in
    first ∙ (second ∙ (third ∙ ap (λ (x : ℕ). state_of t.vars t.hard t.costs x) o))

-- what the calls made of a finished draft is the label view
pub view_from_calls : (f : Formula) (d : Draft) (es fs gs : Entries) (costs made : List Cost) (low : ℕ) → IsFormula f.vars f.hard f.soft → Completes f [] d → IsRisingOf d.charges.entries es
    → fs ≡ es → gs ≡ es → costs ≡ flat_map net_of fs → made ≡ costs ++ d.labels → low ≡ sum_by (λ e. min e.1.when_true e.1.when_false) gs → state_of d.vars d.hard made (d.offset + low) ≡ label_view f
view_from_calls f d es fs gs costs made low h all order fs_are gs_are net joined cancels =
    let p = premises_of f d es h all order in
    let all_vars = all.vars in
    let all_offset = all.offset in
    let low_is : low ≡ cancelled f.soft f.vars =
    cancels ∙ (ap (λ (xs : Entries). sum_by (λ e. min e.1.when_true e.1.when_false) xs) gs_are ∙ settled_cancelled f.vars f.soft d.charges.entries es p) in
    let costs_are : costs ≡ net_costs f.soft f.vars = net ∙ (ap (flat_map net_of) fs_are ∙ settled_costs f.vars f.soft d.charges.entries es p) in
    same_state (state_of d.vars d.hard made (d.offset + low)) (label_view f) (omega arith)
    (sym (append-nil d.hard) ∙ all.hard)
    (joined ∙ (ap (λ (x : List Cost). x ++ d.labels) costs_are ∙ ap (λ (x : List Cost). net_costs f.soft f.vars ++ x) (sym (append-nil d.labels) ∙ all.labels)))
    (omega arith)

-- what is cancelled and the offset are below the bound
pub cancelled_below : (f : Formula) (d : Draft) (es gs : Entries) → IsFormula f.vars f.hard f.soft → weights_of f.soft < weight_bound → Completes f [] d → IsRisingOf d.charges.entries es → gs ≡ es
    → d.offset + sum_by (λ e. min e.1.when_true e.1.when_false) gs < weight_bound
cancelled_below f d es gs h light all order gs_are =
    let p = premises_of f d es h all order in
    let same = ap (λ (xs : Entries). sum_by (λ e. min e.1.when_true e.1.when_false) xs) gs_are ∙ settled_cancelled f.vars f.soft d.charges.entries es p in
    let offset = all.offset in
    let b = (is_labelled_view f h light).below in
    omega arith
