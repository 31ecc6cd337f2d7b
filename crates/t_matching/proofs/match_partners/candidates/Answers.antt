use Rattle.std.proofs.Common.{◌∙◌, sym, length, get_or}
use Rattle.std.proofs.lemmas.Bool.{eqb-true}
use Rattle.mp_logic.specs.Normal.{SameLiterals}
use Rattle.mp_clauses.specs.Weighing.{weight_in}
use Rattle.t_matching.specs.Pairing.{labels_near}
use Rattle.t_matching.proofs.Labels.{no-ids, live-ids}
use Rattle.t_matching.proofs.Partners.{some-ids, clause-within, first-id, partner-near}
use Rattle.t_matching.proofs.match_partners.candidates.Goals as goal

pub returns-then-is_empty-clause-all : goal.returns-then-is_empty-clause-all
returns-then-is_empty-clause-all c = λ m match ul um. absurd (ul (no-ids c.args.lit c.args.store.now.slots c.occurrences-ids.result.now c.occurrences-ids.ensures.rising (eqb-true (length c.occurrences-ids.result.now) 0 (sym c.is_empty.ensures ∙ c.if-is_empty.true))))

pub clause-requires : goal.clause-requires
clause-requires c = live-ids c.args.lit c.args.store.now.slots c.occurrences-ids.result.now c.occurrences-ids.ensures.rising 0 0 (some-ids c.occurrences-ids.result.now c.is_empty.result c.is_empty.ensures c.if-is_empty.false)

pub labels_beside-requires : goal.labels_beside-requires
labels_beside-requires c = clause-within c.args.store.now (get_or c.occurrences-ids.result.now 0 0) c.clause.result.now c.vars.ensures.sound c.clause.ensures

pub returns-clause-all : goal.returns-clause-all
returns-clause-all c =
    let some = some-ids c.occurrences-ids.result.now c.is_empty.result c.is_empty.ensures c.if-is_empty.false in
    let same : SameLiterals (labels_near c.args.store.now.weights (weight_in c.args.store.now.weights c.args.lit) c.args.store.now.slots c.clause.result.now) c.normalise.new.clause = rw (← c.requires.weight, ← c.in_ok-found.ensures) c.normalise.ensures.same in
    λ m match ul um. partner-near c.args.store.now c.args.lit m (get_or c.occurrences-ids.result.now 0 0) c.clause.result.now c.normalise.new.clause (first-id c.occurrences-ids.result.now _ c.occurrences-ids.ensures.rising some) c.clause.ensures same match um
