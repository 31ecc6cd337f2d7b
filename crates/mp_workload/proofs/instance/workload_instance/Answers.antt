use Rattle.std.proofs.Common.{◌≡◌, ◌<◌, ◌≤◌, ◌+◌, ◌-◌, ◌*◌, ◌∙◌, List, map, ap, sym, subst, arith}
use Rattle.std.specs.List.{flat_map, range_with_len}
use Rattle.mp_logic.specs.Literal.{Literal}
use Rattle.mp_logic.specs.Formula.{IsFormula}
use Rattle.mp_logic.specs.Truth.{weights_of}
use Rattle.mp_logic.specs.Weights.{weight_bound}
use Rattle.mp_logic.specs.declared.instances.Soft.{Soft}
use Rattle.mp_labels.specs.LabelView.{long_softs}
use Rattle.mp_workload.specs.Workload.{task_clauses, task_soft}
use Rattle.mp_workload.proofs.Generated.{next_below, partner_state, clauses_are, soft_is, last_state, hard_more, soft_more, IsFormula-workload, weights_below, no_long}
use Rattle.mp_workload.proofs.instance.workload_instance.Goals as goal

pub loop-task-preserved : goal.loop-task-preserved
loop-task-preserved c =
    let n = c.args.tasks in
    let t = c.loop-task.task in
    let one : 1 ≤ t = c.loop-task.auto.task in
    let after = partner_state n t c.loop-task.state c.in_ok-state.state one c.loop-task.invariant.state c.in_ok-state.ensures.state in
    let last = last_state n t c.in_ok-state.state (3 * (t + 1 - 1) - 1) after (omega arith) in
    record {
      hard = hard_more n t c.loop-task.hard c.add_clauses.new.hard _ one c.loop-task.invariant.hard c.in_ok-state.ensures.hard (clauses_are n t c.in_ok-state.state after);
      soft = soft_more n t c.loop-task.soft c.add_soft.new.soft _ one c.loop-task.invariant.soft c.in_ok-state-2.ensures.soft (soft_is n t c.in_ok-state.state after);
      state = c.in_ok-state-2.ensures.state ∙ last;
      below = subst (λ k. k < 4294967296) (sym c.in_ok-state-2.ensures.state) (omega (arith, next_below));
    }

pub invariant_of-result : goal.invariant_of-result
invariant_of-result c =
    let n = c.args.tasks in
    let e : c.loop-task.task - 1 ≡ n = omega arith in
    let hard : c.loop-task.hard ≡ flat_map (task_clauses n) (range_with_len 1 n) = c.loop-task.invariant.hard ∙ ap (λ k. flat_map (task_clauses n) (range_with_len 1 k)) e in
    let soft : c.loop-task.soft ≡ map (task_soft n) (range_with_len 1 n) = c.loop-task.invariant.soft ∙ ap (λ k. map (task_soft n) (range_with_len 1 k)) e in
    subst (λ (cs : List (List Literal)). IsFormula (4 * n) cs c.loop-task.soft) (sym hard) (subst (λ (ss : List Soft). IsFormula (4 * n) (flat_map (task_clauses n) (range_with_len 1 n)) ss) (sym soft) (IsFormula-workload n))

pub returns-clause-weights : goal.returns-clause-weights
returns-clause-weights c =
    let n = c.args.tasks in
    let e : c.loop-task.task - 1 ≡ n = omega arith in
    let soft : c.loop-task.soft ≡ map (task_soft n) (range_with_len 1 n) = c.loop-task.invariant.soft ∙ ap (λ k. map (task_soft n) (range_with_len 1 k)) e in
    subst (λ (ss : List Soft). weights_of ss < weight_bound) (sym soft) (weights_below n c.requires)

pub returns-clause-no_labels : goal.returns-clause-no_labels
returns-clause-no_labels c =
    let n = c.args.tasks in
    let e : c.loop-task.task - 1 ≡ n = omega arith in
    let soft : c.loop-task.soft ≡ map (task_soft n) (range_with_len 1 n) = c.loop-task.invariant.soft ∙ ap (λ k. map (task_soft n) (range_with_len 1 k)) e in
    ap long_softs soft ∙ no_long n
