use Rattle.std.proofs.Common.{rules, true, false}
use Rattle.mp_labels.proofs.Marks.{marked_range}
use Rattle.mp_labels.proofs.renumbering.marked.Goals as goal
use Rattle.mp_labels.proofs.renumbering.marked.Goals.{then-is_used+in_ok-push, else-is_used}

pub loop-place-preserved : goal.loop-place-preserved
loop-place-preserved c =
    elim c.if-is_used.branch [
      | then-is_used+in_ok-push w ↦ marked_range c.args.used.now c.loop-place.place true c.loop-place.names c.if-is_used.names (search rules) c.loop-place.invariant (search rules)
      | else-is_used w ↦ marked_range c.args.used.now c.loop-place.place false c.loop-place.names c.if-is_used.names (search rules) c.loop-place.invariant (search rules)
    ]
