use Rattle.std.proofs.Common.{take, refl}
use Rattle.std.proofs.lemmas.List.{take_more}
use Rattle.core_solver.proofs.Minimised.{minimised-keep, minimised-drop}
use Rattle.core_solver.proofs.conflicts.Analysis.minimised.Goals as goal

pub loop-lit-preserved-then-is_redundant : goal.loop-lit-preserved-then-is_redundant
loop-lit-preserved-then-is_redundant c =
    let learnt = c.args.self.now.learnt in
    let test = rw c.items-lit-items.ensures at c.loop-lit-test.true in
    let is = rw c.items-lit-items.ensures at c.lit-item.is in
    let more = take_more learnt c.loop-lit.lit-index c.lit-item.result test in
    rw (more, ← is) (minimised-drop c.args.clauses.now c.args.trail.now learnt c.base-base.result c.args.asserting (take c.loop-lit.lit-index learnt) c.loop-lit.left c.lit-item.result c.if-not-same.ensures (c.if-is_redundant.ensures refl) c.loop-lit.invariant)

pub loop-lit-preserved : goal.loop-lit-preserved
loop-lit-preserved c =
    let learnt = c.args.self.now.learnt in
    let test = rw c.items-lit-items.ensures at c.loop-lit-test.true in
    let is = rw c.items-lit-items.ensures at c.lit-item.is in
    let more = take_more learnt c.loop-lit.lit-index c.lit-item.result test in
    rw (more, ← is, c.in_ok-push.ensures.ok) (minimised-keep c.args.clauses.now c.args.trail.now learnt c.base-base.result c.args.asserting (take c.loop-lit.lit-index learnt) c.loop-lit.left c.lit-item.result c.loop-lit.invariant)
