use Rattle.std.proofs.Common.{◌≡◌, ◌<◌, ◌≤◌, List, length, get_or, sym, subst}
use Rattle.mp_script.specs.declared.scripts.Group.{Group}
use Rattle.mp_logic.specs.Keeping.{State}
use Rattle.mp_logic.specs.Labelled.{IsLabelled}
use Rattle.mp_store.specs.Rewriting.{started}
use Rattle.mp_engine.specs.Stores.{AreInRange, IsRunning}
use Rattle.mp_engine.specs.declared.done.StageLine.{StageLine}
use Rattle.mp_engine.specs.declared.done.Close.TheVariants.{Single}
use Rattle.mp_engine.proofs.Passes.{running_start, running_step, run_done}
use Rattle.mp_engine.proofs.Keepings.{run_keeps, run_vars}
use Rattle.mp_engine.proofs.running.run_from_labelled.Goals as goal

pub loop-group-init : goal.loop-group-init
loop-group-init g c =
    let Running : List StageLine → Type 0 = λ lines. IsRunning c.args.script.now 0 (started c.args.labelled c.args.limits.now.inner) c.in_ok-store.store lines Single in
    record { way = subst Running (sym c.new-lines.ensures) (running_start c.args.script.now (started c.args.labelled c.args.limits.now.inner) c.in_ok-store.store c.in_ok-store.ensures.started); rested = c.new-rests.ensures c.in_ok-store.store }

pub run_group-requires-clause-budgets : goal.run_group-requires-clause-budgets
run_group-requires-clause-budgets g c =
    let group : Group = c.group-item.result in
    let e : c.items-group-items.result.now ≡ c.args.script.now = c.items-group-items.ensures in
    let h : c.loop-group.group-index < length c.args.script.now = subst (λ (x : List Group). c.loop-group.group-index < length x) e c.loop-group-test.true in
    let at : get_or c.args.script.now c.loop-group.group-index group ≡ group = subst (λ (x : List Group). get_or x c.loop-group.group-index group ≡ group) e (sym c.group-item.is) in
    subst (λ (x : Group). AreInRange x.stages) at (c.requires.script c.loop-group.group-index group h).0

pub loop-group-preserved : goal.loop-group-preserved
loop-group-preserved g c =
    let group : Group = c.group-item.result in
    let e : c.items-group-items.result.now ≡ c.args.script.now = c.items-group-items.ensures in
    let h : c.loop-group.group-index < length c.args.script.now = subst (λ (x : List Group). c.loop-group.group-index < length x) e c.loop-group-test.true in
    let at : get_or c.args.script.now c.loop-group.group-index group ≡ group = subst (λ (x : List Group). get_or x c.loop-group.group-index group ≡ group) e (sym c.group-item.is) in
    record { way = running_step c.args.script.now c.loop-group.group-index _ c.loop-group.store c.run_group.new.store c.loop-group.lines c.run_group.new.lines c.loop-group.close c.in_ok-close.close group h at c.in_ok-close.ensures.runs c.loop-group.invariant.way; rested = c.in_ok-close.ensures.rested }

pub returns-clause-run : goal.returns-clause-run
returns-clause-run g c =
    let e : c.items-group-items.result.now ≡ c.args.script.now = c.items-group-items.ensures in
    let h : length c.args.script.now ≤ c.loop-group.group-index = subst (λ (x : List Group). length x ≤ c.loop-group.group-index) e c.loop-group-test.false in
    run_done c.finish.result c.args.script.now c.loop-group.group-index c.args.labelled c.args.limits.now.inner c.loop-group.store c.loop-group.lines c.loop-group.close h
    c.finish.ensures.labelled c.finish.ensures.repairs c.finish.ensures.stages c.finish.ensures.close c.loop-group.invariant.way

pub returns-clause-keeps : goal.returns-clause-keeps
returns-clause-keeps g c = run_keeps c.finish.result c.args.limits.now.inner c.args.script.now c.args.labelled (subst (λ (x : State). IsLabelled x.vars x.hard x.costs x.offset) c.labelled.view_is c.labelled.invariant) (returns-clause-run g c)

pub returns-clause-vars : goal.returns-clause-vars
returns-clause-vars g c = run_vars c.finish.result c.loop-group.store.inner c.args.limits.now.inner c.loop-group.invariant.way.inner_is c.finish.ensures.vars
