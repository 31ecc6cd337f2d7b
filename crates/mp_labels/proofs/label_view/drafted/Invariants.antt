use Rattle.std.proofs.Common.{◌≤◌, drop}
use Rattle.mp_labels.specs.LabelView.{payable}
use Rattle.mp_labels.specs.Drafts.{Completes}
use Rattle.mp_labels.proofs.label_view.drafted.Given as goal

abbrev pub invariant-loop-soft : goal.invariant-loop-soft
invariant-loop-soft l = record {
  complete : Completes l.instance (payable (drop l.soft-index l.soft-items)) l.draft;
  within : l.draft.vars ≤ l.inner;
}
