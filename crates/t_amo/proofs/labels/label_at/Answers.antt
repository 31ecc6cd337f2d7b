use Rattle.std.proofs.Common.{◌∙◌, sym}
use Rattle.t_amo.proofs.LabelPlaces.{label-of-place, no-label-here}
use Rattle.t_amo.proofs.labels.label_at.Goals as goal

pub returns-then-weight-eq0 : goal.returns-then-weight-eq0
returns-then-weight-eq0 c =
    no-label-here c.args.store.now.weights c.new-lit.result c.args.item (label-of-place c.new-lit.result c.args.item c.new-lit.ensures.variable c.new-lit.ensures.sign) (sym c.weight.ensures ∙ c.if-weight-eq0.true)
