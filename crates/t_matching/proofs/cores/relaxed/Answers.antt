use Rattle.std.proofs.Common.{◌≡◌, ◌∙◌, ap}
use Rattle.mp_clauses.specs.Places.{place_of}
use Rattle.mp_clauses.specs.Occurrences.{ids_with}
use Rattle.t_matching.specs.Cores.{other_ids}
use Rattle.t_matching.proofs.PairIds.{live-others, pair-live, cored-is}
use Rattle.t_matching.proofs.cores.relaxed.Goals as goal

pub join_all-requires-clause-ids : goal.join_all-requires-clause-ids
join_all-requires-clause-ids c = live-others c.args.kept c.args.store.now.slots c.pair_id-pair.result c.deref.result.now (c.deref.ensures.value ∙ (c.in_ok-kept_side.ensures ∙ ap (other_ids c.pair_id-pair.result) c.occurrences.ensures.rising))

pub join_all-requires-clause-others : goal.join_all-requires-clause-others
join_all-requires-clause-others c = live-others c.args.dropped c.args.store.now.slots c.pair_id-pair.result c.deref-2.result.now (c.deref-2.ensures.value ∙ (c.in_ok-dropped_side.ensures ∙ ap (other_ids c.pair_id-pair.result) c.occurrences-2.ensures.rising))

pub clause-requires : goal.clause-requires
clause-requires c = pair-live c.args.kept c.args.dropped c.args.store.now.slots c.pair_id-pair.result c.pair_id-pair.ensures

pub put_split-requires-clause-kept : goal.put_split-requires-clause-kept
put_split-requires-clause-kept c = live-others c.args.kept c.args.store.now.slots c.pair_id-pair.result c.deref-3.result.now (c.deref-3.ensures.value ∙ (c.in_ok-kept_side.ensures ∙ ap (other_ids c.pair_id-pair.result) c.occurrences.ensures.rising))

pub put_split-requires-clause-dropped : goal.put_split-requires-clause-dropped
put_split-requires-clause-dropped c = live-others c.args.dropped c.args.store.now.slots c.pair_id-pair.result c.deref-4.result.now (c.deref-4.ensures.value ∙ (c.in_ok-dropped_side.ensures ∙ ap (other_ids c.pair_id-pair.result) c.occurrences-2.ensures.rising))

pub returns : goal.returns
returns c =
    let id = c.pair_id-pair.result in
    let kept : c.in_ok-kept_side.kept_side.items ≡ other_ids id (ids_with (place_of c.args.kept) c.args.store.now.slots) = c.in_ok-kept_side.ensures ∙ ap (other_ids id) c.occurrences.ensures.rising in
    let dropped : c.in_ok-dropped_side.dropped_side.items ≡ other_ids id (ids_with (place_of c.args.dropped) c.args.store.now.slots) = c.in_ok-dropped_side.ensures ∙ ap (other_ids id) c.occurrences-2.ensures.rising in
    cored-is c.args.kept c.args.dropped c.args.store.now id c.pair_id-pair.ensures c.deref.result.now c.deref-2.result.now c.deref-3.result.now c.deref-4.result.now c.occurrences-3.result.now c.deref-5.result.now c.in_ok-joined_ids.field-0 c.clause.result.now
    c.added-2.inside.items.items c.in_ok-added.added c.in_ok-no_cost.field-0 c.weight.result c.new-repairs.result c.push.new.self c.put_split.new.repairs c.in_ok-repair_setting.field-0
    (c.deref.ensures.value ∙ kept) (c.deref-2.ensures.value ∙ dropped) (c.deref-3.ensures.value ∙ kept) (c.deref-4.ensures.value ∙ dropped) c.occurrences-3.ensures.rising (c.deref-5.ensures.value ∙ dropped) c.in_ok-joined_ids.ensures
    c.clause.ensures c.in_ok-repair_setting.ensures c.new-repairs.ensures c.in_ok-push.ensures.ok c.added-2.view_is c.in_ok-added.ensures c.in_ok-no_cost.ensures c.weight.ensures c.in_ok-put_split.ensures
