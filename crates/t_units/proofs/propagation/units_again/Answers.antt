use Rattle.std.proofs.Common.{rules, ◌≡◌, ◌∙◌, sym, subst}
use Rattle.mp_store.specs.declared.ran.Ending.TheVariants.{Finished}
use Rattle.mp_resting.specs.declared.seen.Seen.{Seen}
use Rattle.mp_resting.specs.Resting.{IsRested}
use Rattle.mp_resting.proofs.Rested.{rested-run}
use Rattle.t_units.specs.Units.{unit_propagation, propagating}
use Rattle.t_units.proofs.Propagated.{propagating-sound, repairs-within}
use Rattle.t_units.proofs.Resumed.{resumed-fits, finished-rested}
use Rattle.t_units.proofs.propagation.units_again.Goals as goal
use Rattle.t_units.proofs.propagation.units_again.Goals.{then-eq+then-not-refuted, else-eq}

pub run_turns-requires-clause-sound : goal.run_turns-requires-clause-sound
run_turns-requires-clause-sound c = propagating-sound

pub run_turns-requires-clause-fits : goal.run_turns-requires-clause-fits
run_turns-requires-clause-fits c = resumed-fits c.args.seen.now c.args.store.now c.new.result c.requires.rested

pub returns-clause-turns : goal.returns-clause-turns
returns-clause-turns c = repairs-within c.args.budget c.args.store.now c.run_turns.new.store c.run_turns.ensures.stays

pub returns-clause-rested : goal.returns-clause-rested
returns-clause-rested c =
    elim c.if-eq.branch [
      | then-eq+then-not-refuted w ↦
          let finished : c.in_ok-ran.ran.ending ≡ Finished = search rules in
          let rested = finished-rested w.ids.result c.args.budget c.args.store.now c.run_turns.new.store c.in_ok-ran.ran w.refuted.ensures.sound (sym w.refuted.ensures.refuted ∙ w.if-not-refuted.true) c.in_ok-ran.ensures.answer finished w.ids.ensures in
          subst (λ (s : Seen). IsRested propagating.IsIdle s c.run_turns.new.store) (sym w.seen-is) rested
      | else-eq w ↦
          let rested = rested-run propagating.IsIdle unit_propagation.LeavesAlone c.args.seen.now c.args.store.now c.run_turns.new.store c.requires.rested c.run_turns.ensures.run in
          subst (λ (s : Seen). IsRested propagating.IsIdle s c.run_turns.new.store) (sym w.seen-is) rested
    ]
