-- What private functions say of a label view that is being made; no public clause cites these.
use Rattle.std.specs.Prelude.{◌≡◌, ℕ, ◌+◌, ◌<◌, List, [], ◌∷◌, ◌++◌, filter, length, nat_le, nat_eq, sum_by, if◌then◌else◌}
use Rattle.mp_logic.specs.Literal.{Literal, negation}
use Rattle.mp_logic.specs.Formula.{Formula}
use Rattle.mp_logic.specs.Weights.{weight_bound}
use Rattle.mp_logic.specs.declared.instances.Soft.{Soft}
use Rattle.mp_labels.specs.declared.draft.Draft.{Draft}
use Rattle.mp_labels.specs.LabelView.{normal_clauses, long_softs, label_clauses, label_costs, is_unit_of, charge_on, empty_weight}
use Rattle.mp_labels.specs.Charges.{charge_in}

-- with the clauses ps still to come, the draft becomes the label view of f
pub record Completes (f : Formula) (ps : List Soft) (d : Draft) : Type 0 where
  pub vars : d.vars + length (filter (λ s. nat_le 2 (length s.clause)) ps) ≡ f.vars + length (long_softs f.soft)
  pub hard : d.hard ++ label_clauses d.vars (filter (λ s. nat_le 2 (length s.clause)) ps) ≡ normal_clauses f.hard ++ label_clauses f.vars (long_softs f.soft)
  pub labels : d.labels ++ label_costs d.vars (filter (λ s. nat_le 2 (length s.clause)) ps) ≡ label_costs f.vars (long_softs f.soft)
  pub offset : d.offset + sum_by (λ s. if nat_eq (length s.clause) 0 then s.weight else 0) ps ≡ empty_weight f.soft
  pub charges : (l : Literal) → charge_in d.charges.entries l + sum_by (λ s. if is_unit_of (negation l) s.clause then s.weight else 0) ps ≡ charge_on f.soft l

-- the weight can be added where the clause wants it
pub record HasRoom (d : Draft) (c : List Literal) (weight : ℕ) : Type 0 where
  pub offset : c ≡ [] → d.offset + weight < weight_bound
  pub charge : (l : Literal) → c ≡ l ∷ [] → charge_in d.charges.entries (negation l) + weight < weight_bound

-- what was to be completed with the clause is to be completed without it
abbrev pub Passes : Draft → List Literal → ℕ → Draft → Type 0
Passes old c weight new = (f : Formula) (ps : List Soft) → Completes f (record { weight = weight; clause = c } ∷ ps) old → Completes f ps new
