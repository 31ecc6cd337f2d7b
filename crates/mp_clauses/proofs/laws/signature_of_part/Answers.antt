use Rattle.mp_clauses.proofs.Signed.{signature_of_part}
use Rattle.mp_clauses.proofs.laws.signature_of_part.Goals as goal

pub returns : goal.returns
returns c = signature_of_part
