-- What a rewrite leaves of a store's clauses and costs, as meaning.
use Rattle.std.specs.Prelude.{◌≡◌, ◌==◌, ℕ, ◌+◌, Bool, false, List, Some, sum_by, length, Contains, if◌then◌else◌}
use Rattle.std.specs.List.{count_by}
use Rattle.mp_logic.specs.Literal.{Literal}
use Rattle.mp_logic.specs.Keeping.{charged, full_cost, total_of}
use Rattle.mp_logic.specs.declared.instances.Cost.{Cost}
use Rattle.mp_store.specs.declared.rewrite.Rewrite.{Rewrite}
use Rattle.mp_store.specs.Held.{Held, labelled_of}
use Rattle.mp_clauses.specs.Slots.{clause_of, live_clauses}
use Rattle.mp_clauses.specs.Weighing.{costs_of, weight_in}
use Rattle.mp_store.specs.Rewriting.{weights_after, changed_by, IsValid}
use Rattle.mp_store.specs.Soundness.{IsStore}

-- what a weight adds to a sum over costs: nothing where it is 0
abbrev pub priced : (Cost → ℕ) → Cost → ℕ
priced f c = if c.weight == 0 then 0 else f c

-- the weight that the cost's literal has so far
abbrev pub weight_before : List ℕ → Cost → Cost
weight_before weights c = record { lit = c.lit; weight = weight_in weights c.lit }

-- the law: a sum over all costs changes by what the rewrite's costs add now and added before
abbrev pub SumsChange : Type 0
SumsChange = (r : Rewrite) (h : Held) (f : Cost → ℕ) → IsStore h → IsValid r h
    → sum_by f (costs_of (weights_after r h)) + sum_by (λ c. priced f (weight_before h.weights c)) r.costs ≡ sum_by f (costs_of h.weights) + sum_by (priced f) r.costs

-- the law: so do what an assignment pays, all weights together, and the number of costs
abbrev pub PaymentsChange : Type 0
PaymentsChange = (r : Rewrite) (h : Held) (a : List Bool) → IsStore h → IsValid r h
    → full_cost (labelled_of (changed_by r h)) a + sum_by (λ c. charged a (weight_before h.weights c)) r.costs ≡ full_cost (labelled_of h) a + r.shift + sum_by (charged a) r.costs

abbrev pub TotalsChange : Type 0
TotalsChange = (r : Rewrite) (h : Held) → IsStore h → IsValid r h
    → total_of (labelled_of (changed_by r h)) + sum_by (λ c. weight_in h.weights c.lit) r.costs ≡ total_of (labelled_of h) + r.shift + sum_by (λ (c : Cost). c.weight) r.costs

abbrev pub CountsChange : Type 0
CountsChange = (r : Rewrite) (h : Held) → IsStore h → IsValid r h
    → length (costs_of (weights_after r h)) + sum_by (λ c. priced (λ d. 1) (weight_before h.weights c)) r.costs ≡ length (costs_of h.weights) + sum_by (priced (λ d. 1)) r.costs

-- the law: where a test is false on each clause that goes and on each that comes, as many clauses pass it as before
abbrev pub SameCounts : Type 0
SameCounts = (r : Rewrite) (h : Held) (p : List Literal → Bool) → ((id : ℕ) (c : List Literal) → Contains r.gone id → clause_of h.slots id ≡ Some c → p c ≡ false) → ((c : List Literal) → Contains r.added c → p c ≡ false)
    → count_by p (live_clauses (changed_by r h).slots) ≡ count_by p (live_clauses h.slots)
