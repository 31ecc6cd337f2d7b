use Rattle.std.proofs.Common.{◌≡◌, ◌++◌, drop, map}
use Rattle.mp_text.specs.Lines.{text_of}
use Rattle.mp_wcnf.specs.Writing.{soft_line}
use Rattle.mp_wcnf.proofs.writer.write_softs.Given as goal

-- with the lines that are left the text is the whole one
abbrev pub invariant-loop-soft : goal.invariant-loop-soft
invariant-loop-soft l = l.text ++ text_of (map soft_line (drop l.soft-index l.soft-items)) ≡ l.fn.text ++ text_of (map soft_line l.soft-items)
