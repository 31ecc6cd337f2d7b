use Rattle.std.proofs.Common.{◌≡◌, ◌++◌, map, take}
use Rattle.mp_workload.specs.Workload.{not_both}
use Rattle.mp_workload.proofs.instance.add_not_both.Given as goal

abbrev pub invariant-loop-first : goal.invariant-loop-first
invariant-loop-first l = l.hard ≡ l.initial.hard ++ map (λ p. not_both p.0 p.1) (take l.first-index l.pairs)
