use Rattle.std.proofs.Common.{◌-◌, List, ap, drop, take, length}
use Rattle.mp_logic.specs.Literal.{Literal}
use Rattle.mp_clauses.specs.Slots.{live_clauses}
use Rattle.t_failed.proofs.FailedTurns.{probe-true, probe-false, probe-known, cut-back, root-back, unfailed-by}
use Rattle.t_failed.proofs.Roots.{failed-implied}
use Rattle.t_failed.proofs.failing.holds.Goals as goal

pub cut-requires : goal.cut-requires
cut-requires c = (cut-back _ _ c.len-from.result c.in_ok-probe.ensures.grown c.len-from.ensures.len).0

pub returns-then-not-branch-clause-root : goal.returns-then-not-branch-clause-root
returns-then-not-branch-clause-root c = root-back c.args.store.now _ _ _ _ _ c.len-from.result c.requires.root c.in_ok-probe.ensures.grown c.len-from.ensures.len c.cut.ensures c.in_ok-probe.ensures.refuted

pub returns-then-not-branch-clause-answer : goal.returns-then-not-branch-clause-answer
returns-then-not-branch-clause-answer c = failed-implied (live_clauses c.args.store.now.slots) c.args.lit (probe-false c.args.store.now _ _ c.args.lit _ c.if-not-branch.true c.in_ok-probe.ensures.answer)

pub cut-requires-2 : goal.cut-requires-2
cut-requires-2 c = (cut-back _ _ c.len-from.result c.in_ok-probe.ensures.grown c.len-from.ensures.len).0

pub returns-clause-root : goal.returns-clause-root
returns-clause-root c = root-back c.args.store.now _ _ _ _ _ c.len-from.result c.requires.root c.in_ok-probe.ensures.grown c.len-from.ensures.len c.cut-2.ensures c.in_ok-probe.ensures.refuted

pub returns-clause-known : goal.returns-clause-known
returns-clause-known c =
    probe-known c.args.store.now _ _ _ _ c.len-from.result c.args.lit _ c.add.new.self (probe-true c.args.store.now _ _ c.args.lit _ c.if-not-branch.false c.in_ok-probe.ensures.answer) (ap (λ (xs : List Literal). take (length xs - c.len-from.result) (drop c.len-from.result xs)) c.literals.ensures.literals) c.requires.known c.in_ok-add.ensures

pub returns-clause-answer : goal.returns-clause-answer
returns-clause-answer c = unfailed-by c.args.store.now _ _ c.args.lit (probe-true c.args.store.now _ _ c.args.lit _ c.if-not-branch.false c.in_ok-probe.ensures.answer)
