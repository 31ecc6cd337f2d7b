use Rattle.std.proofs.Common.{inl, inr, sym, ◌∙◌}
use Rattle.core_solver.specs.Searching.{HasValue}
use Rattle.core_solver.proofs.Chosen.{value-of}
use Rattle.core_solver.proofs.decisions.open_literal.Goals as goal
use Rattle.core_solver.proofs.decisions.open_literal.Goals.{then-has-via-then-has, then-has-via-else-has+then-has-2}

pub returns-then-has : goal.returns-then-has
returns-then-has c = λ l w e.
    let lits = c.args.trail.now.lits in
    let known : HasValue lits c.new-lit.result =
    elim c.then-has.branch [
      | then-has-via-then-has w ↦ inl w.if-has.ensures.found
      | then-has-via-else-has+then-has-2 w ↦ inr (rw w.negated.ensures at w.if-has-2.ensures.found)
    ] in
    value-of lits c.new-lit.result l (e ∙ sym c.new-lit.ensures.variable) known
