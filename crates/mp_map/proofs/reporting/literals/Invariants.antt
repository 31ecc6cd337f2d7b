use Rattle.std.proofs.Common.{◌≡◌, length}
use Rattle.mp_map.specs.Marking.{mark_words, no_marks}
use Rattle.mp_map.specs.Solutions.{value_words, solution_lines}
use Rattle.mp_map.proofs.reporting.literals.Given as goal

abbrev pub invariant-loop-word : goal.invariant-loop-word
invariant-loop-word l = record {
  same : mark_words (record { positive = l.plain; negative = l.negated }) l.words ≡ mark_words (no_marks l.written) (value_words 1 (solution_lines l.text));
  len : length l.negated ≡ length l.plain;
}

abbrev pub decreases-loop-word : goal.decreases-loop-word
decreases-loop-word l = length l.words
