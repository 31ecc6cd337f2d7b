use Rattle.std.proofs.Common.{◌∙◌, ap, sym}
use Rattle.mp_logic.specs.Literal.{Literal, negation}
use Rattle.mp_clauses.specs.Signatures.{bit_of, signature_of}
use Rattle.mp_store.specs.Clashing.{negations_beside}
use Rattle.mp_store.proofs.Signatures.{gathered, gathered-all}
use Rattle.mp_store.proofs.clashing.signature_beside.Goals as goal
use Rattle.mp_store.proofs.clashing.signature_beside.Goals.{then-lit-variable, else-lit-variable}

pub loop-lit-preserved : goal.loop-lit-preserved
loop-lit-preserved c =
    let step = gathered c.args.variable c.literals-lit-items.result.now c.loop-lit.lit-index c.lit-item.result c.loop-lit.bits _ c.loop-lit-test.true c.lit-item.is c.loop-lit.invariant in
    let same = ap (λ (l : Literal). l.variable) c.lit.view_is in
    elim c.if-lit-variable.branch [
      | then-lit-variable w ↦
          let own = w.bit-bits.ensures ∙ ap bit_of w.negated.ensures ∙ ap (λ l. bit_of (negation l)) c.lit.view_is in
          rw w.bits-is (step.1 (λ e. w.if-lit-variable.true (same ∙ e)) w.bit-bits.result own)
      | else-lit-variable w ↦ rw w.bits-is (step.0 (sym same ∙ w.if-lit-variable.false))
    ]

pub returns : goal.returns
returns c =
    gathered-all c.args.variable c.literals-lit-items.result.now c.loop-lit.lit-index c.loop-lit.bits _ c.loop-lit-test.false c.loop-lit.invariant ∙ ap (λ x. signature_of (negations_beside c.args.variable x)) c.literals-lit-items.ensures
