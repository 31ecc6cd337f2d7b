use Rattle.mp_words.proofs.OneCommand.{commands_one}
use Rattle.mp_words.proofs.laws.commands_are_one.Goals as goal

pub returns : goal.returns
returns c = commands_one
