use Rattle.std.proofs.Common.{◌≡◌, ◌≤◌, ◌+◌, ◌^◌, length}
use Rattle.mp_text.specs.Fronts.{tokens_left}
use Rattle.mp_text.proofs.cursor.Cursor.next_token.Given as goal

abbrev pub invariant-loop-first : goal.invariant-loop-first
invariant-loop-first l = record {
  few : l.self-inside.line + length l.self-inside.rest.now ≤ 2 ^ 63;
  within : length l.self-inside.rest.now ≤ l.self-inside.end;
  same : l.fn.self ≡ tokens_left l.self-inside.comments l.self-inside.line l.self-inside.fresh l.self-inside.end l.self-inside.rest.now;
}

abbrev pub decreases-loop-first : goal.decreases-loop-first
decreases-loop-first l = length l.self-inside.rest.now
