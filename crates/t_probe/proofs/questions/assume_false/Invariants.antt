use Rattle.std.proofs.Common.{◌≡◌, take, map}
use Rattle.mp_logic.specs.Literal.{negation}
use Rattle.t_probe.proofs.questions.assume_false.Given as goal

abbrev pub invariant-loop-lit : goal.invariant-loop-lit
invariant-loop-lit l = record {
  vars : l.query.vars ≡ l.initial.query.vars;
  hard : l.query.hard ≡ l.initial.query.hard;
  budget : l.query.budget ≡ l.initial.query.budget;
  made : l.query.assumptions ≡ map negation (take l.lit-index l.lits);
}
