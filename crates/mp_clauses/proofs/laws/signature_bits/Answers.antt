use Rattle.mp_clauses.proofs.Signed.{signature_bits}
use Rattle.mp_clauses.proofs.laws.signature_bits.Goals as goal

pub returns : goal.returns
returns c = signature_bits
