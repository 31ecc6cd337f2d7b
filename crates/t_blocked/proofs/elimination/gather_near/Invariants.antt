use Rattle.std.proofs.Common.{◌≡◌, ◌++◌, drop}
use Rattle.t_blocked.specs.Dropping.{near_in}
use Rattle.t_blocked.proofs.elimination.gather_near.Given as goal

abbrev pub invariant-loop-lit : goal.invariant-loop-lit
invariant-loop-lit l = l.near.items ++ near_in l.store.slots (drop l.lit-index l.lit-items) ≡ near_in l.store.slots l.lit-items
