use Rattle.std.proofs.Common.{◌≡◌, true, drop}
use Rattle.std.specs.List.{find}
use Rattle.t_blocked.specs.Dropping.{blocks}
use Rattle.t_blocked.proofs.elimination.blocking_literal.Given as goal

abbrev pub invariant-loop-lit : goal.invariant-loop-lit
invariant-loop-lit l = record {
  held : l.is_held ≡ true → l.hand ≡ l.clause;
  rest : find (blocks l.store l.clause) (drop l.lit-index l.clause) ≡ find (blocks l.store l.clause) l.clause;
}
