use Rattle.std.proofs.Common.{◌≡◌, ◌<◌, ◌-◌, ◌*◌, map}
use Rattle.std.specs.List.{flat_map, range_with_len}
use Rattle.mp_workload.specs.Workload.{task_clauses, task_soft, state_at}
use Rattle.mp_workload.proofs.instance.workload_instance.Given as goal

abbrev pub invariant-loop-task : goal.invariant-loop-task
invariant-loop-task l = record {
  hard : l.hard ≡ flat_map (task_clauses l.tasks) (range_with_len 1 (l.task - 1));
  soft : l.soft ≡ map (task_soft l.tasks) (range_with_len 1 (l.task - 1));
  state : l.state ≡ state_at l.tasks (3 * (l.task - 1) - 1);
  below : l.state < 4294967296;
}
