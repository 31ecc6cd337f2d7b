use Rattle.mp_text.proofs.Slices.{slices}
use Rattle.mp_text.proofs.laws.tokens_are_slices.Goals as goal

pub returns : goal.returns
returns c = slices
