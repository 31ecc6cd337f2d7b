use Rattle.std.proofs.Common.{◌≡◌, ℕ, List, ap, subst, not, refl, sym, ◌∙◌, Contains}
use Rattle.std.specs.Prelude.{◌&&◌}
use Rattle.mp_logic.specs.Literal.{Literal}
use Rattle.mp_clauses.specs.Places.{has}
use Rattle.mp_clauses.specs.Tables.{marked}
use Rattle.mp_store.proofs.Clashes.{find-some}
use Rattle.mp_turns.proofs.Pacing.{run-itself}
use Rattle.mp_store.proofs.KeptFixing.{live-at}
use Rattle.t_blocked.specs.BlockedClauses.{blocking}
use Rattle.t_blocked.specs.Dropping.{blocks}
use Rattle.t_blocked.proofs.Dropped.{untouched-run, untouched-stays, blocking-sound, live-within, unblocked-idle, dropped-by, dropped-run, dropped-stays, dropped-turned}
use Rattle.t_blocked.proofs.Passed.{held-found, dropped-rested}
use Rattle.t_blocked.proofs.Untouched.{dropped-idle}
use Rattle.t_blocked.proofs.elimination.BlockingTurn.turn.Goals as goal

pub returns-then-not-has-clause-run : goal.returns-then-not-has-clause-run
returns-then-not-has-clause-run c = run-itself blocking c.args.store.now blocking-sound

pub returns-then-not-has-clause-stays : goal.returns-then-not-has-clause-stays
returns-then-not-has-clause-stays c = untouched-stays c.args.store.now c.args.store.now refl

pub returns-then-not-has-clause-turned : goal.returns-then-not-has-clause-turned
returns-then-not-has-clause-turned c = (refl, c.requires.empty, c.requires.fits.1 c.args.item (sym c.has.ensures ∙ c.if-not-has.true))

pub returns-then-not-live-clause-run : goal.returns-then-not-live-clause-run
returns-then-not-live-clause-run c = run-itself blocking c.args.store.now blocking-sound

pub returns-then-not-live-clause-stays : goal.returns-then-not-live-clause-stays
returns-then-not-live-clause-stays c = untouched-stays c.args.store.now c.args.store.now refl

pub returns-in_err-found-clause-run : goal.returns-in_err-found-clause-run
returns-in_err-found-clause-run c = run-itself blocking c.args.store.now blocking-sound

pub returns-in_err-found-clause-stays : goal.returns-in_err-found-clause-stays
returns-in_err-found-clause-stays c = untouched-stays c.args.store.now c.args.store.now refl

pub blocking_literal-requires-clause-within : goal.blocking_literal-requires-clause-within
blocking_literal-requires-clause-within c = live-within c.args.store.now c.clause-clause.result.now c.vars.ensures.sound (live-at c.args.store.now.slots c.args.item c.clause-clause.result.now (sym c.clause-clause.ensures))

pub returns-in_default-clause-run : goal.returns-in_default-clause-run
returns-in_default-clause-run c = run-itself blocking c.args.store.now blocking-sound

pub returns-in_default-clause-stays : goal.returns-in_default-clause-stays
returns-in_default-clause-stays c = untouched-stays c.args.store.now c.args.store.now refl

pub returns-in_default-clause-turned : goal.returns-in_default-clause-turned
returns-in_default-clause-turned c =
    (refl, c.requires.empty, unblocked-idle c.args.store.now c.args.item c.clause-clause.result.now c.vars.ensures.sound (sym c.clause-clause.ensures) (sym c.in_ok-found.ensures.lit ∙ c.in_default.is))

pub find_near-requires : goal.find_near-requires
find_near-requires c =
    let w = held-found c.args.store.now c.args.item c.clause-clause.result.now c.blocking_literal.new.hand c.in_ok-found.found c.in-Some.lit c.clause-clause.ensures c.in_ok-found.ensures.lit c.in_ok-found.ensures.hand c.in-Some.is in
    live-within c.args.store.now c.blocking_literal.new.hand c.vars.ensures.sound (live-at c.args.store.now.slots c.args.item c.blocking_literal.new.hand w.live)

pub returns-in_err-find_near-clause-run : goal.returns-in_err-find_near-clause-run
returns-in_err-find_near-clause-run c = run-itself blocking c.args.store.now blocking-sound

pub returns-in_err-find_near-clause-stays : goal.returns-in_err-find_near-clause-stays
returns-in_err-find_near-clause-stays c = untouched-stays c.args.store.now c.args.store.now refl

pub returns-in_err-queue_again-clause-run : goal.returns-in_err-queue_again-clause-run
returns-in_err-queue_again-clause-run c = run-itself blocking c.args.store.now blocking-sound

pub returns-in_err-queue_again-clause-stays : goal.returns-in_err-queue_again-clause-stays
returns-in_err-queue_again-clause-stays c = untouched-stays c.args.store.now c.args.store.now refl

pub drop_clause-requires-clause-live : goal.drop_clause-requires-clause-live
drop_clause-requires-clause-live c =
    let w = held-found c.args.store.now c.args.item c.clause-clause.result.now c.blocking_literal.new.hand c.in_ok-found.found c.in-Some.lit c.clause-clause.ensures c.in_ok-found.ensures.lit c.in_ok-found.ensures.hand c.in-Some.is in
    w.live

pub drop_clause-requires-clause-has : goal.drop_clause-requires-clause-has
drop_clause-requires-clause-has c =
    let w = held-found c.args.store.now c.args.item c.clause-clause.result.now c.blocking_literal.new.hand c.in_ok-found.found c.in-Some.lit c.clause-clause.ensures c.in_ok-found.ensures.lit c.in_ok-found.ensures.hand c.in-Some.is in
    (find-some (blocks c.args.store.now c.blocking_literal.new.hand) c.blocking_literal.new.hand c.in-Some.lit w.found).0

pub returns-in_err-drop_clause-clause-run : goal.returns-in_err-drop_clause-clause-run
returns-in_err-drop_clause-clause-run c = untouched-run c.args.store.now c.drop_clause.new.store c.in_err-drop_clause.ensures.err

pub returns-in_err-drop_clause-clause-stays : goal.returns-in_err-drop_clause-clause-stays
returns-in_err-drop_clause-clause-stays c = untouched-stays c.args.store.now c.drop_clause.new.store c.in_err-drop_clause.ensures.err

pub returns-clause-run : goal.returns-clause-run
returns-clause-run c =
    let w = held-found c.args.store.now c.args.item c.clause-clause.result.now c.blocking_literal.new.hand c.in_ok-found.found c.in-Some.lit c.clause-clause.ensures c.in_ok-found.ensures.lit c.in_ok-found.ensures.hand c.in-Some.is in
    let dropped = dropped-by c.args.item c.args.store.now c.drop_clause.new.store c.blocking_literal.new.hand c.in-Some.lit c.find_near.new.near.items w.live w.found c.in_ok-drop_clause.ensures.ok c.in_ok-find_near.ensures in
    dropped-run c.args.item c.args.store.now c.drop_clause.new.store c.find_near.new.near.items c.vars.ensures.sound dropped

pub returns-clause-stays : goal.returns-clause-stays
returns-clause-stays c =
    let w = held-found c.args.store.now c.args.item c.clause-clause.result.now c.blocking_literal.new.hand c.in_ok-found.found c.in-Some.lit c.clause-clause.ensures c.in_ok-found.ensures.lit c.in_ok-found.ensures.hand c.in-Some.is in
    let dropped = dropped-by c.args.item c.args.store.now c.drop_clause.new.store c.blocking_literal.new.hand c.in-Some.lit c.find_near.new.near.items w.live w.found c.in_ok-drop_clause.ensures.ok c.in_ok-find_near.ensures in
    dropped-stays c.args.item c.args.store.now c.drop_clause.new.store c.find_near.new.near.items dropped

pub returns-clause-turned : goal.returns-clause-turned
returns-clause-turned c =
    let w = held-found c.args.store.now c.args.item c.clause-clause.result.now c.blocking_literal.new.hand c.in_ok-found.found c.in-Some.lit c.clause-clause.ensures c.in_ok-found.ensures.lit c.in_ok-found.ensures.hand c.in-Some.is in
    let dropped = dropped-by c.args.item c.args.store.now c.drop_clause.new.store c.blocking_literal.new.hand c.in-Some.lit c.find_near.new.near.items w.live w.found c.in_ok-drop_clause.ensures.ok c.in_ok-find_near.ensures in
    let put : c.queue_again.new.again ≡ c.find_near.new.near.items = rw (c.requires.empty, c.deref.ensures.value) at c.in_ok-queue_again.ensures in
    dropped-turned c.args.item c.args.store.now c.drop_clause.new.store c.find_near.new.near.items c.queue_again.new.again c.vars.ensures.sound dropped put

pub returns-clause-fits : goal.returns-clause-fits
returns-clause-fits c n =
    let w = held-found c.args.store.now c.args.item c.clause-clause.result.now c.blocking_literal.new.hand c.in_ok-found.found c.in-Some.lit c.clause-clause.ensures c.in_ok-found.ensures.lit c.in_ok-found.ensures.hand c.in-Some.is in
    let dropped = dropped-by c.args.item c.args.store.now c.drop_clause.new.store c.blocking_literal.new.hand c.in-Some.lit c.find_near.new.near.items w.live w.found c.in_ok-drop_clause.ensures.ok c.in_ok-find_near.ensures in
    let put : c.queue_again.new.again ≡ c.find_near.new.near.items = rw (c.requires.empty, c.deref.ensures.value) at c.in_ok-queue_again.ensures in
    let turned = dropped-turned c.args.item c.args.store.now c.drop_clause.new.store c.find_near.new.near.items c.find_near.new.near.items c.vars.ensures.sound dropped refl in (
      dropped-rested c.args.self.now.seen.now c.args.self.now.kept c.lose.new.self c.args.item c.args.store.now c.drop_clause.new.store c.find_near.new.near.items c.blocking_literal.new.hand c.vars.ensures.sound dropped w.live c.requires.fits.0 (λ p. c.lose.ensures p ∙ ap (λ (xs : List Literal). marked c.args.self.now.kept p && not (has p xs)) c.literals.ensures),
      dropped-idle c.args.item c.args.store.now c.drop_clause.new.store c.args.self.now.touched c.touch.new.self c.find_near.new.near.items n c.requires.fits.1 c.touch.ensures.before (λ i m. c.touch.ensures.own i (subst (λ (xs : List ℕ). Contains xs i) (sym c.deref-2.ensures.value) m)) turned,
    )
