-- What private functions say of the charges on variables; no public clause cites these.
use Rattle.std.specs.Prelude.{ℕ, ◌+◌, ◌-◌, ◌<◌, ◌≤◌, Bool, List, [], ◌∷◌, ◌++◌, unwrap_or, nat_eq, nat_lt, if◌then◌else◌}
use Rattle.std.specs.List.{IsDistinct}
use Rattle.std.specs.List.Sorted.{IsPermutation, IsNonDecreasingBy}
use Rattle.std.specs.Map.{lookup, keys_of}
use Rattle.mp_logic.specs.Literal.{Literal, negation}
use Rattle.mp_logic.specs.declared.instances.Cost.{Cost}
use Rattle.mp_labels.specs.declared.charges.Charge.{Charge}
use Rattle.mp_labels.specs.LabelView.{positive}

abbrev pub no_charge : Charge
no_charge = record { when_true = 0; when_false = 0 }

-- what is charged on the literal of that sign
abbrev pub side : Bool → Charge → ℕ
side negative c = if negative then c.when_false else c.when_true

abbrev pub charge_in : List (ℕ × Charge) → Literal → ℕ
charge_in es l = side l.negative (unwrap_or (lookup (nat_eq l.variable) es) no_charge)

-- where something is charged the number is a variable
abbrev pub HasVariable : ℕ × Charge → Type 0
HasVariable e = 0 < e.1.when_true + e.1.when_false → 1 ≤ e.0

-- the literal of the higher charge, with the difference
abbrev pub net_of : ℕ × Charge → List Cost
net_of e = (if nat_lt e.1.when_false e.1.when_true then record { lit = positive e.0; weight = e.1.when_true - e.1.when_false } ∷ [] else [])
    ++ (if nat_lt e.1.when_true e.1.when_false then record { lit = negation (positive e.0); weight = e.1.when_false - e.1.when_true } ∷ [] else [])

-- the same charges in the order of variables, of which none stands twice
pub record IsRisingOf (es fs : List (ℕ × Charge)) : Type 0 where
  pub moved : IsPermutation es fs
  pub distinct : IsDistinct nat_eq (keys_of es)
  pub in_order : IsNonDecreasingBy (λ e. e.0) fs
