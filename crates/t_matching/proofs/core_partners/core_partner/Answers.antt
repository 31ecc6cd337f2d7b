use Rattle.std.proofs.Common.{◌≡◌}
use Rattle.mp_clauses.specs.Weighing.{weight_in}
use Rattle.t_matching.specs.Pairs.{pair_labels}
use Rattle.t_matching.proofs.Labels.{live-ids}
use Rattle.t_matching.proofs.PairIds.{core-near, core-lowest}
use Rattle.t_matching.proofs.core_partners.core_partner.Goals as goal

pub note_pairs-requires : goal.note_pairs-requires
note_pairs-requires c = live-ids c.args.lit c.args.store.now.slots c.occurrences.result.now c.occurrences.ensures.rising

pub returns : goal.returns
returns c =
    let before : c.note_pairs.new.found ≡ pair_labels c.args.store.now.weights (weight_in c.args.store.now.weights c.args.lit) c.args.store.now.slots c.occurrences.result.now = rw (c.new-others.ensures, c.weight-weight.ensures) at c.in_ok-note_pairs.ensures in
    let low = rw c.items.ensures at c.first_core.ensures in
    core-lowest c.args.store.now c.args.lit c.normalise.new.clause c.first_core.result (λ m core. core-near c.args.store.now c.args.lit m c.occurrences.result.now c.note_pairs.new.found c.normalise.new.clause c.occurrences.ensures.rising before c.normalise.ensures.same core) low
