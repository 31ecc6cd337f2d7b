use Rattle.std.proofs.Common.{◌≡◌, false, sym, subst, ◌∙◌, refl, arith}
use Rattle.mp_store.proofs.Runs.{run-more, none-empty}
use Rattle.mp_turns.proofs.Pacing.{run-itself}
use Rattle.t_subsume.specs.Shortening.{StrengthensNoneBelow}
use Rattle.t_subsume.specs.Strengthening.{strengthening, self_subsumption}
use Rattle.t_subsume.proofs.Strengthened.{strengthening-sound, strengthens-none-run}
use Rattle.t_subsume.proofs.Parts.{part-none, each-more, each-still, each-useless, not-refuted}
use Rattle.t_subsume.proofs.Filtered.{tells-run}
use Rattle.t_subsume.proofs.strengthening.use_each.Goals.{then-branch+else-refuted, else-branch}
use Rattle.t_subsume.proofs.strengthening.use_each.Goals as goal

pub loop-place-init : goal.loop-place-init
loop-place-init c = record { run = run-itself strengthening c.args.store.now strengthening-sound; unrefuted = c.requires.unrefuted; lits = refl; rested = c.requires.rested; part = part-none c.args.id c.args.lits.now c.args.store.now c.args.again.now c.requires.own; useless = λ k lt. absurd (omega arith) }

pub use_one-requires-clause-rested : goal.use_one-requires-clause-rested
use_one-requires-clause-rested c = subst (StrengthensNoneBelow c.args.least c.loop-place.store.slots) (sym c.loop-place.invariant.lits) c.loop-place.invariant.rested

pub use_one-requires-clause-tells : goal.use_one-requires-clause-tells
use_one-requires-clause-tells c = tells-run self_subsumption.LeavesAlone c.args.filter.now c.args.store.now c.loop-place.store c.requires.tells c.loop-place.invariant.run

pub returns-in_err-use_one-clause-run : goal.returns-in_err-use_one-clause-run
returns-in_err-use_one-clause-run c = run-more self_subsumption.LeavesAlone c.args.store.now c.loop-place.store c.use_one.new.store strengthening-sound.twice (none-empty c.loop-place.store c.vars.ensures.sound c.loop-place.invariant.unrefuted) c.loop-place.invariant.run c.use_one.ensures.run

pub returns-then-refuted-clause-run : goal.returns-then-refuted-clause-run
returns-then-refuted-clause-run c = run-more self_subsumption.LeavesAlone c.args.store.now c.loop-place.store c.use_one.new.store strengthening-sound.twice (none-empty c.loop-place.store c.vars.ensures.sound c.loop-place.invariant.unrefuted) c.loop-place.invariant.run c.use_one.ensures.run

pub loop-place-preserved : goal.loop-place-preserved
loop-place-preserved c =
    let run = run-more self_subsumption.LeavesAlone c.args.store.now c.loop-place.store c.use_one.new.store strengthening-sound.twice (none-empty c.loop-place.store c.vars.ensures.sound c.loop-place.invariant.unrefuted) c.loop-place.invariant.run c.use_one.ensures.run in
    let rested = strengthens-none-run c.args.least c.args.lits.now c.loop-place.store c.use_one.new.store c.loop-place.invariant.rested c.use_one.ensures.run in
    elim c.if-branch.branch [
      | then-branch+else-refuted w ↦
          let standing : c.use_one.new.store.refuted ≡ false = sym w.refuted.ensures.refuted ∙ w.if-refuted.false in
          record { run = run; unrefuted = standing; lits = c.use_one.ensures.lits ∙ c.loop-place.invariant.lits; rested = rested; part = rw w.changed-is (each-more c.args.id c.args.lits.now c.loop-place.lits c.args.store.now c.loop-place.store c.use_one.new.store c.args.again.now c.loop-place.again c.use_one.new.again c.loop-place.changed c.in_ok-use_one.field-0 c.loop-place.invariant.lits standing c.loop-place.invariant.part c.in_ok-use_one.ensures.part w.if-branch.true); useless = each-useless c.args.id c.args.lits.now c.loop-place.lits c.loop-place.store c.use_one.new.store c.loop-place.again c.use_one.new.again c.in_ok-use_one.field-0 c.loop-place.place c.loop-place.invariant.lits standing c.in_ok-use_one.ensures.part c.loop-place.invariant.useless c.in_ok-use_one.ensures.useless }
      | else-branch w ↦
          let standing : c.use_one.new.store.refuted ≡ false = not-refuted c.use_one.new.store c.in_ok-use_one.field-0 c.in_ok-use_one.ensures.refuted w.if-branch.false in
          record { run = run; unrefuted = standing; lits = c.use_one.ensures.lits ∙ c.loop-place.invariant.lits; rested = rested; part = rw w.changed-is (each-still c.args.id c.args.lits.now c.loop-place.lits c.args.store.now c.loop-place.store c.use_one.new.store c.args.again.now c.loop-place.again c.use_one.new.again c.loop-place.changed c.in_ok-use_one.field-0 c.loop-place.invariant.lits standing c.loop-place.invariant.part c.in_ok-use_one.ensures.part w.if-branch.false); useless = each-useless c.args.id c.args.lits.now c.loop-place.lits c.loop-place.store c.use_one.new.store c.loop-place.again c.use_one.new.again c.in_ok-use_one.field-0 c.loop-place.place c.loop-place.invariant.lits standing c.in_ok-use_one.ensures.part c.loop-place.invariant.useless c.in_ok-use_one.ensures.useless }
    ]

pub returns-clause-useless : goal.returns-clause-useless
returns-clause-useless c = λ n k lt. c.loop-place.invariant.useless k (omega (arith, c.loop-place-test.false, c.len-place-end.ensures))
