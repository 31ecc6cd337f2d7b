-- The workload instances: tasks with four slots each, of which each task takes one, and another one than its partner.
use Rattle.std.specs.Prelude.{ℕ, zero, suc, ◌+◌, ◌-◌, ◌*◌, ◌/◌, ◌%◌, false, List, [], ◌∷◌, ◌++◌, map, nat_le, if◌then◌else◌}
use Rattle.std.specs.List.{flat_map, range_with_len}
use Rattle.mp_logic.specs.Literal.{Literal, negation}
use Rattle.mp_logic.specs.Formula.{Formula}
use Rattle.mp_logic.specs.Optimum.{HasHardModel}
use Rattle.mp_logic.specs.declared.instances.Soft.{Soft}

-- one step of the linear congruential generator
abbrev pub next_of : ℕ → ℕ
next_of x = (x * 1103515245 + 12345) % 2147483648

-- its k-th state, with the number of tasks before the first
abbrev pub state_at : ℕ → ℕ → ℕ
state_at n zero = n
state_at n (suc k) = next_of (state_at n k)

-- what is drawn in a state: its high bits
abbrev pub drawn : ℕ → ℕ
drawn x = x / 65536

-- each task draws its partner, its weight and its slot, in this order; the first has no partner, and so no draw for it
abbrev pub partner_of : ℕ → ℕ → ℕ
partner_of n t = 1 + drawn (state_at n (3 * (t - 1))) % (t - 1)

abbrev pub weight_of : ℕ → ℕ → ℕ
weight_of n t = 1 + drawn (state_at n (3 * (t - 1) + 1)) % 9

abbrev pub slot_of : ℕ → ℕ → ℕ
slot_of n t = 1 + drawn (state_at n (3 * (t - 1) + 2)) % 4

-- task t takes slot s; tasks and slots count from 1
abbrev pub takes : ℕ → ℕ → Literal
takes t s = record { variable = 4 * (t - 1) + s; negative = false }

-- not both
abbrev pub not_both : Literal → Literal → List Literal
not_both k l = negation k ∷ (negation l ∷ [])

abbrev pub some_slot : ℕ → List Literal
some_slot t = takes t 1 ∷ (takes t 2 ∷ (takes t 3 ∷ (takes t 4 ∷ [])))

-- no two slots for one task, the lower slot first
abbrev pub one_slot : ℕ → List (List Literal)
one_slot t = not_both (takes t 1) (takes t 2) ∷ (not_both (takes t 1) (takes t 3) ∷ (not_both (takes t 1) (takes t 4)
    ∷ (not_both (takes t 2) (takes t 3) ∷ (not_both (takes t 2) (takes t 4) ∷ (not_both (takes t 3) (takes t 4) ∷ [])))))

-- no slot for both of two tasks
abbrev pub apart_slots : ℕ → ℕ → List (List Literal)
apart_slots t p = not_both (takes t 1) (takes p 1) ∷ (not_both (takes t 2) (takes p 2) ∷ (not_both (takes t 3) (takes p 3) ∷ (not_both (takes t 4) (takes p 4) ∷ [])))

-- the hard clauses of a task
abbrev pub task_clauses : ℕ → ℕ → List (List Literal)
task_clauses n t = (some_slot t ∷ one_slot t) ++ (if nat_le 2 t then apart_slots t (partner_of n t) else [])

-- what it costs when the task doesn't take the drawn slot
abbrev pub task_soft : ℕ → ℕ → Soft
task_soft n t = record { weight = weight_of n t; clause = takes t (slot_of n t) ∷ [] }

-- the workload of n tasks
abbrev pub workload : ℕ → Formula
workload n = record { vars = 4 * n; hard = flat_map (task_clauses n) (range_with_len 1 n); soft = map (task_soft n) (range_with_len 1 n) }

-- the law: each workload has a hard model, since a task has at most one partner before it
abbrev pub WorkloadsHaveModels : Type 0
WorkloadsHaveModels = (n : ℕ) → HasHardModel (workload n)
