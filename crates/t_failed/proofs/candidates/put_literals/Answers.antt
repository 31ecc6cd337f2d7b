use Rattle.std.proofs.Common.{sym, ◌∙◌}
use Rattle.mp_clauses.specs.Slots.{live_clauses}
use Rattle.t_failed.proofs.Occurring.{listed-yes, listed-no}
use Rattle.t_failed.proofs.candidates.put_literals.Goals as goal

pub loop-below-preserved-then-not-does_occur : goal.loop-below-preserved-then-not-does_occur
loop-below-preserved-then-not-does_occur c = listed-no (live_clauses c.args.store.now.slots) c.loop-below.below c.loop-below.made c.loop-below.invariant (sym c.does_occur.ensures ∙ c.if-not-does_occur.true)

pub loop-below-preserved : goal.loop-below-preserved
loop-below-preserved c = listed-yes (live_clauses c.args.store.now.slots) c.loop-below.below c.loop-below.made c.push.new.self c.loop-below.invariant (sym c.does_occur.ensures ∙ c.if-not-does_occur.false) c.in_ok-push.ensures.ok
