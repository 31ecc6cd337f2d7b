use Rattle.std.proofs.Common.{◌≡◌, ◌≤◌, ◌+◌, ◌^◌, ◌++◌, length, map}
use Rattle.mp_map.specs.Solutions.{numbered, value_words, words_on}
use Rattle.mp_map.proofs.reporting.ValueWords.next_word.Given as goal

abbrev pub invariant-loop-word : goal.invariant-loop-word
invariant-loop-word l = record {
  same : numbered l.self-inside.line (map (λ w. w.text) l.self-inside.words) ++ value_words (l.self-inside.line + 1) (map words_on l.self-inside.lines) ≡ l.fn.self;
  few : l.self-inside.line + length l.self-inside.lines ≤ 2 ^ 63 + 1;
}

abbrev pub decreases-loop-word : goal.decreases-loop-word
decreases-loop-word l = length l.self-inside.lines
