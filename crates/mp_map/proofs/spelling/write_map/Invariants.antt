use Rattle.std.proofs.Common.{◌≡◌, ◌++◌, take}
use Rattle.std.specs.List.{flat_map}
use Rattle.mp_text.specs.Lines.{line_text}
use Rattle.mp_map.specs.Maps.{entry_words}
use Rattle.mp_map.proofs.Spellings.{head_text}
use Rattle.mp_map.proofs.spelling.write_map.Given as goal

abbrev pub invariant-loop-entry : goal.invariant-loop-entry
invariant-loop-entry l = l.text ≡ head_text l.map ++ flat_map (λ e. line_text (entry_words e)) (take l.entry-index l.map.repairs)
