use Rattle.t_matching.proofs.FreeLabels.{NoneBetween}
use Rattle.t_matching.proofs.free_partners.first_unused.Given as goal

abbrev pub invariant-loop-place : goal.invariant-loop-place
invariant-loop-place l = NoneBetween l.store l.labels l.start l.place
