use Rattle.std.specs.Prelude.{All}
use Rattle.yardstick.specs.Drawn.{IsDrawn, variables_for}
use Rattle.yardstick.proofs.rewriting.drawn_clauses.Given as goal

abbrev pub invariant-draws : goal.invariant-draws
invariant-draws l = All (IsDrawn (variables_for l.many)) l.made
