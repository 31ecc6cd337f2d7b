use Rattle.std.proofs.Common.{◌≡◌, ◌++◌, drop, map}
use Rattle.mp_text.specs.Lines.{text_of}
use Rattle.mp_wcnf.specs.Writing.{hard_line}
use Rattle.mp_wcnf.proofs.writer.write_hards.Given as goal

-- with the lines that are left the text is the whole one
abbrev pub invariant-loop-clause : goal.invariant-loop-clause
invariant-loop-clause l = l.text ++ text_of (map (hard_line l.form l.top) (drop l.clause-index l.clause-items)) ≡ l.fn.text ++ text_of (map (hard_line l.form l.top) l.clause-items)
