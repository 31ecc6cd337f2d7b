use Rattle.std.proofs.Common.{◌≡◌, drop}
use Rattle.std.specs.List.{find}
use Rattle.mp_merging.specs.Tables.{is_marked}
use Rattle.mp_merging.proofs.homes.first_marked.Given as goal

abbrev pub invariant-loop-lit : goal.invariant-loop-lit
invariant-loop-lit l = find (is_marked l.marks) (drop l.lit-index l.lits) ≡ find (is_marked l.marks) l.lits
