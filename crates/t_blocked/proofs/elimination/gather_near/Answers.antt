use Rattle.std.proofs.Common.{◌∙◌, ap}
use Rattle.mp_clauses.specs.Occurrences.{ids_with}
use Rattle.mp_clauses.specs.Places.{place_of}
use Rattle.t_blocked.proofs.Dropped.{near-step}
use Rattle.t_blocked.proofs.elimination.gather_near.Goals as goal

pub loop-lit-preserved : goal.loop-lit-preserved
loop-lit-preserved c =
    let own = c.occurrences.ensures.rising ∙ ap (λ l. ids_with (place_of l) c.args.store.now.slots) c.negated.ensures in
    rw c.in_ok-extend_from_slice.ensures.items (near-step c.args.store.now.slots c.literals-lit-items.result.now c.loop-lit.lit-index c.lit-item.result c.loop-lit.near.items _ _ c.loop-lit-test.true c.lit-item.is own c.loop-lit.invariant)
