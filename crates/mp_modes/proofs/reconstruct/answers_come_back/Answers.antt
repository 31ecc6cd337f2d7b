use Rattle.mp_modes.proofs.AnswersBack.{answers_come_back}
use Rattle.mp_modes.proofs.reconstruct.answers_come_back.Goals as goal

pub returns : goal.returns
returns c = answers_come_back
