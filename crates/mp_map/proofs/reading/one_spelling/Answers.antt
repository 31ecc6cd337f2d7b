use Rattle.mp_map.proofs.WholeTexts.{one_spelling}
use Rattle.mp_map.proofs.reading.one_spelling.Goals as goal

pub returns : goal.returns
returns c = one_spelling
