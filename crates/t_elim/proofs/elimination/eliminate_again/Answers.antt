use Rattle.std.proofs.Common.{rules, ◌≡◌, ◌∙◌, sym}
use Rattle.mp_store.specs.declared.ran.Ending.TheVariants.{Finished}
use Rattle.mp_resting.proofs.Rested.{rested-run}
use Rattle.t_elim.specs.Eliminating.{variable_elimination, eliminating}
use Rattle.t_elim.proofs.Again.{rested-finished}
use Rattle.t_elim.proofs.elimination.eliminate_again.Goals as goal

pub returns-else-eq-clause-rested : goal.returns-else-eq-clause-rested
returns-else-eq-clause-rested c = rested-run eliminating.IsIdle variable_elimination.LeavesAlone c.args.seen.now c.args.store.now c.take_turns.new.store c.requires.rested c.take_turns.ensures.run

pub returns-in_ok-seen-clause-rested : goal.returns-in_ok-seen-clause-rested
returns-in_ok-seen-clause-rested c =
    let finished : c.in_ok-ran.ran.ending ≡ Finished = search rules in
    rested-finished c.in_ok-seen.field-0 c.args.budget c.args.store.now c.take_turns.new.store c.in_ok-ran.ran c.refuted.ensures.sound (sym c.refuted.ensures.refuted ∙ c.if-not-refuted.true) c.in_ok-ran.ensures.answer finished c.in_ok-seen.ensures
