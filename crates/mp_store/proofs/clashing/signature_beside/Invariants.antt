use Rattle.std.proofs.Common.{◌≡◌, drop, bit_or}
use Rattle.mp_clauses.specs.Signatures.{signature_of}
use Rattle.mp_store.specs.Clashing.{negations_beside}
use Rattle.mp_store.proofs.clashing.signature_beside.Given as goal

abbrev pub invariant-loop-lit : goal.invariant-loop-lit
invariant-loop-lit l = bit_or l.bits (signature_of (negations_beside l.variable (drop l.lit-index l.lit-items))) ≡ signature_of (negations_beside l.variable l.lit-items)
