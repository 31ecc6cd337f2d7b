use Rattle.std.proofs.Common.{◌∙◌}
use Rattle.t_matching.proofs.free_partners.is_unused_label.Goals as goal

pub returns : goal.returns
returns c = (λ t. (λ z. c.if-weight-eq0.false (c.weight.ensures ∙ z), c.is_unused.ensures.0 t), λ u. c.is_unused.ensures.1 u.1)
