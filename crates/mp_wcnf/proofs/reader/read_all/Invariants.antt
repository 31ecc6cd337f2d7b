use Rattle.std.proofs.Common.{◌≡◌, ◌≤◌, length, true}
use Rattle.mp_text.specs.Tokens.{tokens_of}
use Rattle.mp_text.specs.Lines.{end_line}
use Rattle.mp_wcnf.specs.Reading.{read_on, fresh_reader}
use Rattle.mp_wcnf.proofs.reader.read_all.Given as goal

-- what the tokens left make of what was read is what all tokens give
abbrev pub invariant-loop-token : goal.invariant-loop-token
invariant-loop-token l = record {
  within : l.reader.weight ≤ l.limits.weight;
  same : read_on l.limits (end_line l.text) l.cursor l.reader ≡ read_on l.limits (end_line l.text) (tokens_of true l.text) fresh_reader;
}

abbrev pub decreases-loop-token : goal.decreases-loop-token
decreases-loop-token l = length l.cursor
