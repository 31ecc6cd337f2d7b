use Rattle.std.proofs.Common.{◌≡◌, ◌++◌, take, map}
use Rattle.t_elim.proofs.neighbours.note.Given as goal

abbrev pub invariant-loop-lit : goal.invariant-loop-lit
invariant-loop-lit l = l.near.items ≡ l.initial.near.items ++ map (λ k. k.variable) (take l.lit-index l.clause)
