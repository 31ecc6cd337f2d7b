use Rattle.std.proofs.Common.{◌≡◌, take}
use Rattle.t_probe.specs.Underway.{literals_of}
use Rattle.t_probe.proofs.questions.labels_of.Given as goal

abbrev pub invariant-loop-cost : goal.invariant-loop-cost
invariant-loop-cost l = l.made.items ≡ literals_of (take l.cost-index l.cost-items)
