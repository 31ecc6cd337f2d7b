use Rattle.std.proofs.Common.{◌≡◌, drop}
use Rattle.std.specs.List.{filter}
use Rattle.t_labels.specs.Covers.{is_in_each}
use Rattle.t_labels.proofs.covers.keep_common.Given as goal

abbrev pub invariant-loop-id : goal.invariant-loop-id
invariant-loop-id l = filter (is_in_each l.store.slots (drop l.id-index l.ids)) l.kept.items ≡ filter (is_in_each l.store.slots l.ids) l.initial.kept.items
