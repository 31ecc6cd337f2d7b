use Rattle.std.proofs.Common.{◌≡◌, ◌++◌, take}
use Rattle.mp_text.specs.Writing.{clause_words}
use Rattle.std.specs.List.{join_with_byte}
use Rattle.mp_map.proofs.Spellings.{clauses_behind}
use Rattle.mp_map.proofs.spelling.write_entry.Given as goal

abbrev pub invariant-loop-place : goal.invariant-loop-place
invariant-loop-place l = l.text ≡ l.fn.text ++ (join_with_byte 32 (clause_words l.entry.sets) ++ clauses_behind (take l.place l.entry.clauses))
