use Rattle.std.proofs.Common.{sym, ◌∙◌}
use Rattle.std.proofs.lemmas.Bool.{true≢false}
use Rattle.mp_resting.proofs.Rested.{rested-run}
use Rattle.t_blocked.specs.BlockedClauses.{blocked_clauses, blocking}
use Rattle.t_blocked.proofs.Passed.{finished-rested}
use Rattle.t_blocked.proofs.elimination.blocked_again.Goals as goal
use Rattle.t_blocked.proofs.elimination.blocked_again.Goals.{in-Finished, in_default}

pub returns-in_ok-seen-clause-rested : goal.returns-in_ok-seen-clause-rested
returns-in_ok-seen-clause-rested c =
    elim c.match-matches.branch [
      | in-Finished w ↦ finished-rested c.args.budget c.args.store.now c.take_turns.new.store c.in_ok-ran.ran c.in_ok-seen.field-0 c.refuted.ensures.sound (sym c.refuted.ensures.refuted ∙ c.if-not-refuted.true) c.in_ok-ran.ensures.answer w.in-Finished.is c.in_ok-seen.ensures
      | in_default w ↦ absurd (true≢false (sym c.if-matches.true ∙ w.matches-is))
    ]

pub returns-else-matches-clause-rested : goal.returns-else-matches-clause-rested
returns-else-matches-clause-rested c = rested-run blocking.IsIdle blocked_clauses.LeavesAlone c.args.seen.now c.args.store.now c.take_turns.new.store c.requires.rested c.take_turns.ensures.run
