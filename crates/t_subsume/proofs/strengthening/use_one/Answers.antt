use Rattle.std.proofs.Common.{◌<◌, length, sym, ◌∙◌, inl, inr, arith}
use Rattle.mp_logic.specs.Literal.{negation}
use Rattle.mp_store.proofs.Runs.{run-same}
use Rattle.mp_turns.proofs.Pacing.{run-itself}
use Rattle.t_subsume.specs.Strengthening.{strengthening, self_subsumption}
use Rattle.t_subsume.specs.Shortening.{lit_at}
use Rattle.t_subsume.proofs.Strengthened.{strengthening-sound, none-useless, strengthened-fits, strengthened-run}
use Rattle.t_subsume.proofs.Parts.{negated-at, after-shortened, part-none, part-one}
use Rattle.t_subsume.proofs.strengthening.use_one.Goals as goal

pub returns-in_err-gone-clause-run : goal.returns-in_err-gone-clause-run
returns-in_err-gone-clause-run c = run-itself strengthening c.args.store.now strengthening-sound

pub returns-then-len-eq0-clause-run : goal.returns-then-len-eq0-clause-run
returns-then-len-eq0-clause-run c = run-itself strengthening c.args.store.now strengthening-sound

pub returns-then-len-eq0-clause-part : goal.returns-then-len-eq0-clause-part
returns-then-len-eq0-clause-part c n = part-none c.args.id c.args.lits.now c.args.store.now c.args.again.now c.requires.own

pub returns-then-len-eq0-clause-useless : goal.returns-then-len-eq0-clause-useless
returns-then-len-eq0-clause-useless c n = none-useless c.args.store.now c.args.id c.args.lits.now (lit_at c.args.lits.now c.args.place) c.in_ok-gone.gone c.in_ok-gone.ensures.found (sym c.len.ensures ∙ c.if-len-eq0.true)

pub shorten-requires-clause-valid : goal.shorten-requires-clause-valid
shorten-requires-clause-valid c =
    rw (negated-at c.args.lits.now c.find_strengthened.new.lits c.args.place c.literal_of-lit.result c.negated.result c.find_strengthened.ensures.lits c.literal_of-lit.ensures c.negated.ensures)
    (strengthened-fits c.args.store.now c.args.id c.args.lits.now (lit_at c.args.lits.now c.args.place) c.in_ok-gone.gone c.vars.ensures.sound c.in_ok-gone.ensures.found)

pub returns-in_err-shorten-clause-run : goal.returns-in_err-shorten-clause-run
returns-in_err-shorten-clause-run c =
    let lit = negated-at c.args.lits.now c.find_strengthened.new.lits c.args.place c.literal_of-lit.result c.negated.result c.find_strengthened.ensures.lits c.literal_of-lit.ensures c.negated.ensures in
    elim c.shorten.ensures.left [
      | inl e ↦ run-same self_subsumption.LeavesAlone c.args.store.now c.shorten.new.store strengthening-sound.itself e
      | inr e ↦ strengthened-run c.args.store.now c.shorten.new.store c.args.id c.args.lits.now (lit_at c.args.lits.now c.args.place) c.in_ok-gone.gone c.in_ok-gone.ensures.found (after-shortened c.args.store.now c.shorten.new.store c.in_ok-gone.gone c.negated.result (negation (lit_at c.args.lits.now c.args.place)) lit e)
    ]

pub returns-clause-run : goal.returns-clause-run
returns-clause-run c =
    let lit = negated-at c.args.lits.now c.find_strengthened.new.lits c.args.place c.literal_of-lit.result c.negated.result c.find_strengthened.ensures.lits c.literal_of-lit.ensures c.negated.ensures in
    strengthened-run c.args.store.now c.shorten.new.store c.args.id c.args.lits.now (lit_at c.args.lits.now c.args.place) c.in_ok-gone.gone c.in_ok-gone.ensures.found (after-shortened c.args.store.now c.shorten.new.store c.in_ok-gone.gone c.negated.result (negation (lit_at c.args.lits.now c.args.place)) lit c.in_ok-shorten.ensures.ok)

pub returns-clause-part : goal.returns-clause-part
returns-clause-part c n =
    let lit = negated-at c.args.lits.now c.find_strengthened.new.lits c.args.place c.literal_of-lit.result c.negated.result c.find_strengthened.ensures.lits c.literal_of-lit.ensures c.negated.ensures in
    let some : 0 < length c.in_ok-gone.gone = omega (arith, c.len.ensures, c.if-len-eq0.false) in
    (part-one c.args.store.now c.shorten.new.store c.args.id c.args.lits.now (lit_at c.args.lits.now c.args.place) c.in_ok-gone.gone c.args.again.now c.shorten.new.again c.in_ok-gone.ensures.found some (after-shortened c.args.store.now c.shorten.new.store c.in_ok-gone.gone c.negated.result (negation (lit_at c.args.lits.now c.args.place)) lit c.in_ok-shorten.ensures.ok) n c.in_ok-shorten.ensures.again).0

pub returns-clause-useless : goal.returns-clause-useless
returns-clause-useless c n =
    let lit = negated-at c.args.lits.now c.find_strengthened.new.lits c.args.place c.literal_of-lit.result c.negated.result c.find_strengthened.ensures.lits c.literal_of-lit.ensures c.negated.ensures in
    let some : 0 < length c.in_ok-gone.gone = omega (arith, c.len.ensures, c.if-len-eq0.false) in
    (part-one c.args.store.now c.shorten.new.store c.args.id c.args.lits.now (lit_at c.args.lits.now c.args.place) c.in_ok-gone.gone c.args.again.now c.shorten.new.again c.in_ok-gone.ensures.found some (after-shortened c.args.store.now c.shorten.new.store c.in_ok-gone.gone c.negated.result (negation (lit_at c.args.lits.now c.args.place)) lit c.in_ok-shorten.ensures.ok) n c.in_ok-shorten.ensures.again).1
