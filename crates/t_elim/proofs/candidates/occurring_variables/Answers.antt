use Rattle.std.proofs.Common.{sym, ◌∙◌}
use Rattle.mp_clauses.specs.Slots.{live_clauses}
use Rattle.t_elim.proofs.Variables.{listed-yes, listed-no}
use Rattle.t_elim.proofs.candidates.occurring_variables.Goals.{then-does_occur+in_ok-push, else-does_occur}
use Rattle.t_elim.proofs.candidates.occurring_variables.Goals as goal

pub loop-below-preserved : goal.loop-below-preserved
loop-below-preserved c =
    elim c.if-does_occur.branch [
      | then-does_occur+in_ok-push w ↦ w.made-is ∙ listed-yes (live_clauses c.args.store.now.slots) c.loop-below.below c.loop-below.made _ c.loop-below.invariant (sym c.does_occur.ensures ∙ w.if-does_occur.true) w.in_ok-push.ensures.ok
      | else-does_occur w ↦ w.made-is ∙ listed-no (live_clauses c.args.store.now.slots) c.loop-below.below c.loop-below.made c.loop-below.invariant (sym c.does_occur.ensures ∙ w.if-does_occur.false)
    ]
