use Rattle.std.proofs.Common.{◌∙◌, ap, sym, bit_and}
use Rattle.std.specs.Prelude.{not}
use Rattle.std.proofs.lemmas.Bool.{eq-eqb}
use Rattle.mp_clauses.specs.Slots.{clause_of}
use Rattle.mp_store.proofs.Signatures.{no-bits}
use Rattle.mp_store.proofs.clashing.clashes_with.Goals as goal

pub returns-else-signature-bits-ne0 : goal.returns-else-signature-bits-ne0
returns-else-signature-bits-ne0 c =
    let zero = c.if-signature-bits-ne0.false in
    ap not (eq-eqb (bit_and c.signature.result c.args.bits) 0 zero) ∙ sym (no-bits c.args.variable c.args.hand.now (clause_of c.args.store.now.slots c.args.id) c.signature.result c.args.bits c.requires.live c.signature.ensures c.requires.bits zero)
