use Rattle.std.proofs.Common.{refl, sym, ◌∙◌}
use Rattle.mp_clauses.specs.Slots.{live_clauses}
use Rattle.t_failed.proofs.FailedTurns.{untouched-run, fixed-run, untouched-repairs, fixed-repairs, fixed-root, fixed-change, idle-none, idle-unfailed, known-unfailed, none-known, holds-true, holds-false, negated-up, negated-occurs}
use Rattle.t_failed.proofs.failing.take.Goals as goal

pub returns-in_default-clause-run : goal.returns-in_default-clause-run
returns-in_default-clause-run c = untouched-run c.args.store.now c.args.store.now refl

pub returns-in_default-clause-turned : goal.returns-in_default-clause-turned
returns-in_default-clause-turned c = (refl, idle-none c.args.store.now c.args.item c.in_default.ensures)

pub returns-then-has-clause-run : goal.returns-then-has-clause-run
returns-then-has-clause-run c = untouched-run c.args.store.now c.args.store.now refl

pub returns-then-has-clause-turned : goal.returns-then-has-clause-turned
returns-then-has-clause-turned c = (refl, idle-unfailed c.args.store.now c.args.item c.in-Some.lit c.in-Some.ensures.0 (known-unfailed (live_clauses c.args.store.now.slots) _ c.in-Some.lit c.requires.known (sym c.has.ensures ∙ c.if-has.true)))

pub returns-in_err-holds-clause-run : goal.returns-in_err-holds-clause-run
returns-in_err-holds-clause-run c = untouched-run c.args.store.now c.args.store.now refl

pub returns-then-branch-clause-run : goal.returns-then-branch-clause-run
returns-then-branch-clause-run c = untouched-run c.args.store.now c.args.store.now refl

pub returns-then-branch-clause-turned : goal.returns-then-branch-clause-turned
returns-then-branch-clause-turned c = (refl, idle-unfailed c.args.store.now c.args.item c.in-Some.lit c.in-Some.ensures.0 (holds-true (live_clauses c.args.store.now.slots) c.in-Some.lit _ c.if-branch.true c.in_ok-holds.ensures.answer))

pub fix-requires-clause-within : goal.fix-requires-clause-within
fix-requires-clause-within c = negated-up c.args.store.now.vars c.in-Some.lit c.negated.result c.negated.ensures c.in-Some.ensures.1

pub returns-in_err-fix-clause-run : goal.returns-in_err-fix-clause-run
returns-in_err-fix-clause-run c = untouched-run c.args.store.now c.fix.new.store c.in_err-fix.ensures.err

pub returns-in_err-fix-clause-stays : goal.returns-in_err-fix-clause-stays
returns-in_err-fix-clause-stays c = untouched-repairs c.args.store.now c.fix.new.store c.in_err-fix.ensures.err

pub returns-then-refuted-clause-run : goal.returns-then-refuted-clause-run
returns-then-refuted-clause-run c =
    fixed-run c.args.store.now c.fix.new.store c.negated.result c.vars.ensures.sound (negated-up c.args.store.now.vars c.in-Some.lit c.negated.result c.negated.ensures c.in-Some.ensures.1) (holds-false (live_clauses c.args.store.now.slots) c.in-Some.lit c.negated.result _ c.negated.ensures c.if-branch.false c.in_ok-holds.ensures.answer)
    c.in_ok-fix.ensures.ok

pub returns-then-refuted-clause-stays : goal.returns-then-refuted-clause-stays
returns-then-refuted-clause-stays c = fixed-repairs c.args.store.now c.fix.new.store c.negated.result c.in_ok-fix.ensures.ok

pub follow-requires : goal.follow-requires
follow-requires c =
    rw c.next_id-first.ensures (fixed-root c.args.store.now c.fix.new.store c.negated.result _ _ c.vars.ensures.sound (negated-up c.args.store.now.vars c.in-Some.lit c.negated.result c.negated.ensures c.in-Some.ensures.1) (holds-false (live_clauses c.args.store.now.slots) c.in-Some.lit c.negated.result _ c.negated.ensures c.if-branch.false c.in_ok-holds.ensures.answer)
    c.in_ok-holds.ensures.root c.in_ok-fix.ensures.ok (sym c.refuted.ensures.refuted ∙ c.if-refuted.false))

pub returns-in_err-follow-clause-run : goal.returns-in_err-follow-clause-run
returns-in_err-follow-clause-run c =
    fixed-run c.args.store.now c.fix.new.store c.negated.result c.vars.ensures.sound (negated-up c.args.store.now.vars c.in-Some.lit c.negated.result c.negated.ensures c.in-Some.ensures.1) (holds-false (live_clauses c.args.store.now.slots) c.in-Some.lit c.negated.result _ c.negated.ensures c.if-branch.false c.in_ok-holds.ensures.answer)
    c.in_ok-fix.ensures.ok

pub returns-in_err-follow-clause-stays : goal.returns-in_err-follow-clause-stays
returns-in_err-follow-clause-stays c = fixed-repairs c.args.store.now c.fix.new.store c.negated.result c.in_ok-fix.ensures.ok

pub returns-clause-run : goal.returns-clause-run
returns-clause-run c =
    fixed-run c.args.store.now c.fix.new.store c.negated.result c.vars.ensures.sound (negated-up c.args.store.now.vars c.in-Some.lit c.negated.result c.negated.ensures c.in-Some.ensures.1) (holds-false (live_clauses c.args.store.now.slots) c.in-Some.lit c.negated.result _ c.negated.ensures c.if-branch.false c.in_ok-holds.ensures.answer)
    c.in_ok-fix.ensures.ok

pub returns-clause-stays : goal.returns-clause-stays
returns-clause-stays c = fixed-repairs c.args.store.now c.fix.new.store c.negated.result c.in_ok-fix.ensures.ok

pub returns-clause-known : goal.returns-clause-known
returns-clause-known c = λ n. none-known (live_clauses c.fix.new.store.slots) _ c.clear.ensures

pub returns-clause-turned : goal.returns-clause-turned
returns-clause-turned c =
    fixed-change c.args.store.now c.fix.new.store c.negated.result (negated-up c.args.store.now.vars c.in-Some.lit c.negated.result c.negated.ensures c.in-Some.ensures.1) (negated-occurs (live_clauses c.args.store.now.slots) c.in-Some.lit c.negated.result c.negated.ensures c.in-Some.ensures.2)
    c.in_ok-fix.ensures.ok
