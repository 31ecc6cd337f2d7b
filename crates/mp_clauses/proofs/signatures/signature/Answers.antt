use Rattle.std.proofs.Common.{◌∙◌, ap, arith}
use Rattle.mp_clauses.specs.Signatures.{bit_of}
use Rattle.mp_clauses.proofs.Signed.{bits-more, bits-end}
use Rattle.mp_clauses.proofs.signatures.signature.Goals as goal

pub loop-lit-preserved : goal.loop-lit-preserved
loop-lit-preserved c = bits-more c.args.clause.now c.loop-lit.lit-index c.lit-item.result c.loop-lit.bits c.bit-bits.result _ c.loop-lit-test.true c.loop-lit.invariant (c.bit-bits.ensures ∙ ap bit_of c.lit-item.is)

pub returns : goal.returns
returns c = bits-end c.args.clause.now c.loop-lit.lit-index c.loop-lit.bits _ (omega (arith, c.loop-lit-test.false)) c.loop-lit.invariant
