use Rattle.std.proofs.Common.{refl, subst}
use Rattle.mp_logic.specs.Literal.{Literal}
use Rattle.mp_store.specs.Held.{labelled_of}
use Rattle.t_matching.specs.Matching.{HasNoMatch}
use Rattle.t_matching.proofs.Partners.{match-turned}
use Rattle.t_matching.proofs.FreeLabels.{known-still}
use Rattle.t_matching.proofs.MatchTurns.{turn-same, free-idle, plain-idle}
use Rattle.t_matching.proofs.matching.match_turn.Goals as goal

pub returns-in_default-clause-run : goal.returns-in_default-clause-run
returns-in_default-clause-run c = turn-same c.args.store.now c.args.store.now refl

pub returns-in_default-clause-turned : goal.returns-in_default-clause-turned
returns-in_default-clause-turned c = (refl, free-idle c.args.store.now c.args.item c.label_at.result c.in_default.not-Some c.label_at.ensures)

pub returns-then-not-is_plain-clause-run : goal.returns-then-not-is_plain-clause-run
returns-then-not-is_plain-clause-run c = turn-same c.args.store.now c.args.store.now refl

pub returns-then-not-is_plain-clause-turned : goal.returns-then-not-is_plain-clause-turned
returns-then-not-is_plain-clause-turned c = (refl, plain-idle c.args.store.now c.args.item c.in-Some.lit c.is_plain.result c.in-Some.ensures.0 c.is_plain.ensures c.if-not-is_plain.true)

pub returns-in_err-other-clause-run : goal.returns-in_err-other-clause-run
returns-in_err-other-clause-run c = turn-same c.args.store.now c.args.store.now refl

pub returns-in_default-2-clause-run : goal.returns-in_default-2-clause-run
returns-in_default-2-clause-run c = turn-same c.args.store.now c.args.store.now refl

pub returns-in_default-2-clause-turned : goal.returns-in_default-2-clause-turned
returns-in_default-2-clause-turned c = (refl, subst (λ (l : Literal). HasNoMatch l (labelled_of c.args.store.now)) c.in-Some.ensures.0 (rw c.in_default-2.is at c.in_ok-other.ensures))

pub returns-in_err-unite-clause-run : goal.returns-in_err-unite-clause-run
returns-in_err-unite-clause-run c = turn-same c.args.store.now c.unite.new.store c.in_err-unite.ensures.err

pub returns-in_err-unite-2-clause-run : goal.returns-in_err-unite-2-clause-run
returns-in_err-unite-2-clause-run c = turn-same c.args.store.now c.unite-else-lit-other.new.store c.in_err-unite-2.ensures.err

pub lowest-known-requires-clause-plain : goal.lowest-known-requires-clause-plain
lowest-known-requires-clause-plain c = c.is_plain.ensures.0 c.if-not-is_plain.false

pub partner-requires-clause-plain : goal.partner-requires-clause-plain
partner-requires-clause-plain c = c.is_plain.ensures.0 c.if-not-is_plain.false

pub unite-requires-else-lit-other-clause-matching : goal.unite-requires-else-lit-other-clause-matching
unite-requires-else-lit-other-clause-matching c = (let low = rw c.in-Some-2.is at c.in_ok-other.ensures in match-turned (labelled_of c.args.store.now) c.in-Some.lit c.in-Some-2.other low.matching)

pub returns-in_ok-unite-clause-fits : goal.returns-in_ok-unite-clause-fits
returns-in_ok-unite-clause-fits c = known-still c.in-Some.lit c.in-Some-2.other c.lowest-known.new.self c.args.store.now c.unite.new.store c.in_ok-unite.ensures.ok c.lowest-known.ensures.fits

pub returns-in_ok-unite-2-clause-fits : goal.returns-in_ok-unite-2-clause-fits
returns-in_ok-unite-2-clause-fits c = known-still c.in-Some-2.other c.in-Some.lit c.lowest-known.new.self c.args.store.now c.unite-else-lit-other.new.store c.in_ok-unite-2.ensures.ok c.lowest-known.ensures.fits
