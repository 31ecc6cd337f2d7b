use Rattle.std.proofs.Common.{◌≡◌, ◌++◌, ◌∷◌, drop, map}
use Rattle.mp_logic.specs.Literal.{negation}
use Rattle.t_amo.proofs.joining.top_clause.Given as goal

abbrev pub invariant-loop-lit : goal.invariant-loop-lit
invariant-loop-lit l = l.top ++ map negation (drop l.lit-index l.chosen) ≡ l.fn.fresh ∷ map negation l.chosen
