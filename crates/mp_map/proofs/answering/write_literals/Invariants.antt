use Rattle.std.proofs.Common.{◌≡◌, ◌+◌, ◌++◌, ◌∷◌, drop}
use Rattle.std.specs.List.{flat_map}
use Rattle.mp_text.specs.Writing.{literal_word}
use Rattle.mp_map.specs.Solutions.{literals_from}
use Rattle.mp_map.proofs.answering.write_literals.Given as goal

abbrev pub invariant-loop-place : goal.invariant-loop-place
invariant-loop-place l = l.text ++ flat_map (λ k. 32 ∷ literal_word k) (literals_from (l.place + 1) (drop l.place l.values)) ≡ l.fn.text ++ flat_map (λ k. 32 ∷ literal_word k) (literals_from 1 l.values)
