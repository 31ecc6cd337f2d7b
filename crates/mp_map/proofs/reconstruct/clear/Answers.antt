use Rattle.std.proofs.Common.{ap, ◌∙◌, false, slice_set, arith}
use Rattle.mp_map.proofs.Rooms.{clear_more}
use Rattle.mp_map.proofs.reconstruct.clear.Goals as goal

pub loop-place-preserved : goal.loop-place-preserved
loop-place-preserved c =
    c.set.ensures ∙ ap (λ r. slice_set r c.loop-place.place false) c.loop-place.invariant
    ∙ clear_more c.loop-place.place c.args.room.now (omega (arith, c.loop-place-test.true, c.len-place-end.ensures))
