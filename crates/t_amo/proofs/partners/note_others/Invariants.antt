use Rattle.std.proofs.Common.{◌≡◌, ◌++◌, drop}
use Rattle.std.specs.List.{filter}
use Rattle.t_amo.specs.Choosing.{is_other}
use Rattle.t_amo.proofs.partners.note_others.Given as goal

abbrev pub invariant-loop-other : goal.invariant-loop-other
invariant-loop-other l = l.found ++ filter (is_other l.store.weights l.lit) (drop l.other-index l.clause) ≡ l.initial.found ++ filter (is_other l.store.weights l.lit) l.clause
