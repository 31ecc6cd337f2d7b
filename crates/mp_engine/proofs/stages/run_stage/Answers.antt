use Rattle.std.proofs.Common.{arith}
use Rattle.mp_store.specs.Held.{labelled_of}
use Rattle.mp_engine.specs.Bounds.{IsCounted}
use Rattle.mp_engine.proofs.Stepped.{runs_stage}
use Rattle.mp_engine.proofs.stages.run_stage.Goals as goal

pub returns-clause-step : goal.returns-clause-step
returns-clause-step g c =
    let k : IsCounted (labelled_of c.run_letter.new.store) = record {
      clauses = omega (arith, c.counts-counts.ensures.clauses);
      literals = omega (arith, c.counts-counts.ensures.literals);
      costs = omega (arith, c.counts-counts.ensures.costs);
      vars = omega (arith, c.vars-2.ensures.vars);
    } in
    runs_stage c.args.stage c.args.store.now c.run_letter.new.store c.in_ok-step.step.ending c.in_ok-step.step.changed c.vars-2.ensures.sound k c.in_ok-step.ensures.step
