use Rattle.std.proofs.Common.{◌≡◌, ◌++◌, ◌∷◌, [], take}
use Rattle.std.specs.List.{flat_map}
use Rattle.mp_text.specs.Writing.{literal_word}
use Rattle.mp_map.proofs.spelling.write_clause.Given as goal

abbrev pub invariant-loop-lit : goal.invariant-loop-lit
invariant-loop-lit l = l.text ≡ l.fn.text ++ flat_map (λ k. literal_word k ++ 32 ∷ []) (take l.lit-index l.clause)
