use Rattle.std.proofs.Common.{rules}
use Rattle.std.proofs.lemmas.Fn.{filter_same}
use Rattle.mp_logic.specs.Truth.{literal_value}
use Rattle.t_probe.proofs.questions.keep_true.Goals as goal

pub returns : goal.returns
returns c = filter_same _ (literal_value c.args.model.now) _ (λ x b q h. search rules) _ _ c.retain.ensures.filtered
