use Rattle.std.proofs.Common.{◌≡◌, drop, bit_or}
use Rattle.mp_clauses.specs.Signatures.{signature_of}
use Rattle.mp_clauses.proofs.signatures.signature.Given as goal

abbrev pub invariant-loop-lit : goal.invariant-loop-lit
invariant-loop-lit l = bit_or l.bits (signature_of (drop l.lit-index l.clause)) ≡ signature_of l.clause
