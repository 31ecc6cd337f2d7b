use Rattle.std.proofs.Common.{rules}
use Rattle.std.proofs.lemmas.Fn.{filter_same}
use Rattle.mp_logic.specs.Literal.{Literal}
use Rattle.mp_clauses.specs.Places.{place_of, has}
use Rattle.t_labels.proofs.Payers.{common-step, common-end}
use Rattle.t_labels.proofs.covers.keep_common.Goals as goal

pub loop-id-preserved : goal.loop-id-preserved
loop-id-preserved c =
    common-step c.args.store.now.slots c.args.ids.now c.loop-id.id-index c.hold.new.self c.clause.result.now c.loop-id.kept.items c.retain.new.self.items _ c.loop-id-test.true c.clause.ensures c.in_ok-hold.ensures
    (filter_same _ (λ (k : Literal). has (place_of k) c.hold.new.self) _ (λ x b q h. search rules) _ _ c.retain.ensures.filtered) c.loop-id.invariant

pub returns : goal.returns
returns c = common-end c.args.store.now.slots c.args.ids.now c.loop-id.id-index c.loop-id.kept.items _ c.loop-id-test.false c.loop-id.invariant
