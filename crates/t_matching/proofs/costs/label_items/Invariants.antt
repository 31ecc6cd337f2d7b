use Rattle.std.proofs.Common.{◌≡◌, ◌++◌, drop, map}
use Rattle.mp_logic.specs.declared.instances.Cost.{Cost}
use Rattle.mp_clauses.specs.Places.{place_of}
use Rattle.mp_clauses.specs.Weighing.{costs_from, costs_of}
use Rattle.t_matching.proofs.costs.label_items.Given as goal

abbrev pub invariant-loop-item : goal.invariant-loop-item
invariant-loop-item l = l.made ++ map (λ (c : Cost). place_of c.lit) (costs_from l.item (drop l.item l.store.weights)) ≡ map (λ (c : Cost). place_of c.lit) (costs_of l.store.weights)
