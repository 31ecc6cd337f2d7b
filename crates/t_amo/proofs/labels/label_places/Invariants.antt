use Rattle.std.proofs.Common.{◌≡◌, ◌++◌, ◌*◌, ◌+◌}
use Rattle.mp_store.specs.Held.{labelled_of}
use Rattle.t_amo.specs.Labels.{label_places}
use Rattle.t_amo.proofs.LabelPlaces.{places_from}
use Rattle.t_amo.proofs.labels.label_places.Given as goal

abbrev pub invariant-loop-below : goal.invariant-loop-below
invariant-loop-below l = l.made.items ++ places_from (2 * (l.below + 1)) l.store.weights ≡ label_places (labelled_of l.store)
