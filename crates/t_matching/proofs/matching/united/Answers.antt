use Rattle.std.proofs.Common.{◌∙◌, ◌∷◌, [], refl}
use Rattle.t_matching.proofs.MatchTurns.{united-is}
use Rattle.t_matching.proofs.Labels.{live-ids}
use Rattle.t_matching.proofs.matching.united.Goals as goal

pub join_each-requires : goal.join_each-requires
join_each-requires c = live-ids c.args.dropped c.args.store.now.slots c.occurrences-dropped_ids.result.now c.occurrences-dropped_ids.ensures.rising

pub put_split-requires-clause-kept : goal.put_split-requires-clause-kept
put_split-requires-clause-kept c = live-ids c.args.kept c.args.store.now.slots c.occurrences-kept_ids.result.now c.occurrences-kept_ids.ensures.rising

pub put_split-requires-clause-dropped : goal.put_split-requires-clause-dropped
put_split-requires-clause-dropped c = live-ids c.args.dropped c.args.store.now.slots c.occurrences-dropped_ids.result.now c.occurrences-dropped_ids.ensures.rising

pub returns : goal.returns
returns c = united-is c.args.kept c.args.dropped c.args.store.now c.occurrences-kept_ids.result.now c.occurrences-dropped_ids.result.now c.from_vec.result (c.args.kept ∷ []) c.new-added.result c.join_each.new.made c.added.inside.items.items c.in_ok-no_cost.field-0 c.new-repairs.result c.put_split.new.repairs c.occurrences-kept_ids.ensures.rising c.occurrences-dropped_ids.ensures.rising (c.from_vec.ensures ∙ c.in_ok-from_slice.ensures.items) refl c.new-added.ensures c.added.view_is c.in_ok-join_each.ensures c.in_ok-no_cost.ensures c.new-repairs.ensures c.in_ok-put_split.ensures
