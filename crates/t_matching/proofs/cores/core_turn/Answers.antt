use Rattle.std.proofs.Common.{refl, subst}
use Rattle.mp_logic.specs.Literal.{Literal}
use Rattle.mp_store.specs.Held.{labelled_of}
use Rattle.t_matching.specs.Cores.{HasNoCore}
use Rattle.t_matching.proofs.CoreTurns.{turn-same, free-idle, plain-idle}
use Rattle.t_matching.proofs.cores.core_turn.Goals as goal

pub returns-in_default-clause-run : goal.returns-in_default-clause-run
returns-in_default-clause-run c = turn-same c.args.store.now c.args.store.now refl

pub returns-in_default-clause-turned : goal.returns-in_default-clause-turned
returns-in_default-clause-turned c = (refl, free-idle c.args.store.now c.args.item c.label_at.result c.in_default.not-Some c.label_at.ensures)

pub returns-then-not-is_plain-clause-run : goal.returns-then-not-is_plain-clause-run
returns-then-not-is_plain-clause-run c = turn-same c.args.store.now c.args.store.now refl

pub returns-then-not-is_plain-clause-turned : goal.returns-then-not-is_plain-clause-turned
returns-then-not-is_plain-clause-turned c = (refl, plain-idle c.args.store.now c.args.item c.in-Some.lit c.is_plain.result c.in-Some.ensures.0 c.is_plain.ensures c.if-not-is_plain.true)

pub core_partner-requires-clause-plain : goal.core_partner-requires-clause-plain
core_partner-requires-clause-plain c = c.is_plain.ensures.0 c.if-not-is_plain.false

pub returns-in_err-other-clause-run : goal.returns-in_err-other-clause-run
returns-in_err-other-clause-run c = turn-same c.args.store.now c.args.store.now refl

pub returns-in_default-2-clause-run : goal.returns-in_default-2-clause-run
returns-in_default-2-clause-run c = turn-same c.args.store.now c.args.store.now refl

pub returns-in_default-2-clause-turned : goal.returns-in_default-2-clause-turned
returns-in_default-2-clause-turned c = (refl, subst (λ (l : Literal). HasNoCore l (labelled_of c.args.store.now)) c.in-Some.ensures.0 (rw c.in_default-2.is at c.in_ok-other.ensures))

pub returns-in_err-find_near-clause-run : goal.returns-in_err-find_near-clause-run
returns-in_err-find_near-clause-run c = turn-same c.args.store.now c.args.store.now refl

pub returns-in_err-relax-clause-run : goal.returns-in_err-relax-clause-run
returns-in_err-relax-clause-run c = turn-same c.args.store.now c.relax.new.store c.in_err-relax.ensures.err

pub returns-in_err-relax-2-clause-run : goal.returns-in_err-relax-2-clause-run
returns-in_err-relax-2-clause-run c = turn-same c.args.store.now c.relax-else-lit-other.new.store c.in_err-relax-2.ensures.err
