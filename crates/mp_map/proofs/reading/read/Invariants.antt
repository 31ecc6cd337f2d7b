use Rattle.std.proofs.Common.{◌≡◌, ◌≤◌, ◌+◌, length}
use Rattle.mp_map.specs.Pieces.{pieces_at}
use Rattle.mp_map.specs.Reading.{read_pieces, read_text}
use Rattle.mp_map.proofs.reading.read.Given as goal

abbrev pub invariant-loop-front : goal.invariant-loop-front
invariant-loop-front l = record {
  same : read_pieces l.reader l.line (pieces_at 10 l.rest) ≡ read_text l.text;
  first : 1 ≤ l.line;
  few : l.line + length l.rest ≤ length l.text + 1;
}

abbrev pub decreases-loop-front : goal.decreases-loop-front
decreases-loop-front l = length l.rest
