use Rattle.std.proofs.Common.{◌∙◌, sym}
use Rattle.std.proofs.lemmas.Bool.{false≢true, true≢false}
use Rattle.mp_clauses.specs.Slots.{live_clauses}
use Rattle.t_matching.proofs.Labels.{live-ids}
use Rattle.t_matching.proofs.PairIds.{small-few, pair-exact, small-turned, few-turned}
use Rattle.t_matching.proofs.core_partners.are_small_pair.Goals as goal

pub returns-then-not-are_few : goal.returns-then-not-are_few
returns-then-not-are_few c = (λ f. absurd (false≢true f), λ p. absurd (true≢false (sym (c.are_few.ensures.1 (small-few c.args.lit c.args.other c.args.store.now.slots c.occurrences-ids.result.now c.occurrences-others.result.now c.occurrences-ids.ensures.rising c.occurrences-others.ensures.rising p)) ∙ c.if-not-are_few.true)))

pub is_lone_pair-requires : goal.is_lone_pair-requires
is_lone_pair-requires c = live-ids c.args.lit c.args.store.now.slots c.occurrences-ids.result.now c.occurrences-ids.ensures.rising

pub returns-then-ids-others : goal.returns-then-ids-others
returns-then-ids-others c = pair-exact c.args.lit c.args.other c.args.store.now.slots c.occurrences-ids.result.now c.occurrences-others.result.now c.is_lone_pair.result c.occurrences-ids.ensures.rising c.occurrences-others.ensures.rising (c.are_few.ensures.0 c.if-not-are_few.false) c.is_lone_pair.ensures

pub is_lone_pair-requires-2 : goal.is_lone_pair-requires-2
is_lone_pair-requires-2 c = live-ids c.args.other c.args.store.now.slots c.occurrences-others.result.now c.occurrences-others.ensures.rising

pub returns : goal.returns
returns c =
    let few = few-turned _ _ (c.are_few.ensures.0 c.if-not-are_few.false) in
    let w = pair-exact c.args.other c.args.lit c.args.store.now.slots c.occurrences-others.result.now c.occurrences-ids.result.now c.is_lone_pair-2.result c.occurrences-others.ensures.rising c.occurrences-ids.ensures.rising few c.is_lone_pair-2.ensures in
    (λ t. small-turned c.args.other c.args.lit (live_clauses c.args.store.now.slots) (w.0 t), λ p. w.1 (small-turned c.args.lit c.args.other (live_clauses c.args.store.now.slots) p))
