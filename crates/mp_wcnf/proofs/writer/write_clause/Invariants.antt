use Rattle.std.proofs.Common.{◌≡◌, ◌++◌, drop}
use Rattle.mp_wcnf.specs.Writing.{clause_rest}
use Rattle.mp_wcnf.proofs.writer.write_clause.Given as goal

-- with the literals that are left the text is the whole line
abbrev pub invariant-loop-lit : goal.invariant-loop-lit
invariant-loop-lit l = l.text ++ clause_rest (drop l.lit-index l.lits) ≡ l.fn.text ++ clause_rest l.lits
