use Rattle.std.specs.Prelude.{◌≡◌, ◌<◌, ℕ, List, Some, slice_get}
use Rattle.mp_words.specs.Reading.{texts, HasValue}
use Rattle.mp_words.proofs.lines.option_of.Given as goal

abbrev pub invariant-loop-place : goal.invariant-loop-place
invariant-loop-place l = (k : ℕ) (name : List ℕ) → k < l.place → slice_get (texts l.names) k ≡ Some name → HasValue l.word name → ⊥
