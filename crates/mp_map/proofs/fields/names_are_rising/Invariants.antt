use Rattle.std.proofs.Common.{◌≡◌, drop}
use Rattle.mp_logic.specs.Labelled.{names_rise}
use Rattle.mp_map.proofs.fields.names_are_rising.Given as goal

abbrev pub invariant-loop-name : goal.invariant-loop-name
invariant-loop-name l = names_rise l.last l.inner (drop l.name-index l.names) ≡ names_rise 0 l.inner l.names
