use Rattle.std.proofs.Common.{◌≡◌, ◌++◌, ◌∷◌, codes, decimal, take}
use Rattle.std.specs.List.{flat_map}
use Rattle.mp_map.proofs.spelling.write_names.Given as goal

abbrev pub invariant-loop-name : goal.invariant-loop-name
invariant-loop-name l = l.text ≡ l.fn.text ++ (codes "names" ++ flat_map (λ n. 32 ∷ decimal n) (take l.name-index l.names))
