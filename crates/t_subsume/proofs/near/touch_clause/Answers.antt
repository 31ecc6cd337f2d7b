use Rattle.std.proofs.Common.{false, sym, ◌∙◌, subst}
use Rattle.std.proofs.lemmas.List.{get_or_default}
use Rattle.mp_logic.specs.Literal.{Literal}
use Rattle.t_subsume.specs.Nearness.{AreTouched}
use Rattle.t_subsume.proofs.Nearby.{lits-more, lits-each}
use Rattle.t_subsume.proofs.near.touch_clause.Goals as goal

pub loop-lit-preserved : goal.loop-lit-preserved
loop-lit-preserved c =
    let at = get_or_default c.args.clause.now c.loop-lit.lit-index (record { variable = 0; negative = false }) c.lit-item.result c.loop-lit-test.true ∙ sym c.lit-item.is in
    record {
      len = c.touch_variable.ensures.len ∙ c.loop-lit.invariant.len;
      walked = c.touch_variable.ensures.walked;
      before = λ i m. c.touch_variable.ensures.before i (c.loop-lit.invariant.before i m);
      own = lits-more c.args.clause.now c.loop-lit.lit-index c.loop-lit.touched c.touch_variable.new.touched c.args.store.now.slots c.touch_variable.ensures.before c.loop-lit.invariant.own (subst (λ (k : Literal). AreTouched k.variable c.touch_variable.new.touched c.args.store.now.slots) (sym at) c.touch_variable.ensures.own);
    }

pub returns-clause-own : goal.returns-clause-own
returns-clause-own c = lits-each c.args.clause.now c.loop-lit.lit-index c.loop-lit.touched c.args.store.now.slots c.loop-lit-test.false c.loop-lit.invariant.own
