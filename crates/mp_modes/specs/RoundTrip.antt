-- What preprocessing wrote and reconstructing printed fit together.
use Rattle.std.specs.Prelude.{◌≡◌, ◌≤◌, ◌+◌, ℕ, Bool, List, Option, Some}
use Rattle.mp_logic.specs.Carrying.{carried_back, IsOptimal}
use Rattle.mp_logic.specs.Truth.{IsHardModel, cost_of}
use Rattle.mp_engine.specs.declared.done.Done.{Done}
use Rattle.mp_map.specs.Maps.{reconstruction_of}
use Rattle.mp_map.specs.Solutions.{solution_text}
use Rattle.mp_map.specs.declared.solutions.Values.{Values}
use Rattle.mp_modes.specs.Preprocessing.{Choices, Preprocesses}
use Rattle.mp_modes.specs.Reconstructing.{Reconstructs, cost_back}

-- the law: where the map and the instance are those that `preprocess` wrote, and the solution gives a hard model of the
-- instance, the printed values are a hard model of the original at no more than its cost plus the offset; those of an
-- optimal one are optimal, at exactly the offset more; and where the original is read again, their cost is printed
abbrev pub AnswersComeBack : Type 0
AnswersComeBack = (chosen : Choices) (done : Done) (text map instance_out log : List ℕ) (form : Values) (again : Option (List ℕ)) (solution out : List ℕ) (values : List Bool)
    (p : Preprocesses chosen done text map instance_out log) (r : Reconstructs form again map solution out) → r.reported.values ≡ Some values → IsHardModel p.written.«instance» values
    → (out ≡ solution_text r.reported.answer (Some (carried_back (reconstruction_of p.way) values)) form (cost_back r.original (Some (carried_back (reconstruction_of p.way) values))))
    × (again ≡ Some text → r.original ≡ Some p.original)
    × IsHardModel p.original (carried_back (reconstruction_of p.way) values)
    × (cost_of p.original (carried_back (reconstruction_of p.way) values) ≤ cost_of p.written.«instance» values + p.way.offset)
    × (IsOptimal p.written.«instance» values → IsOptimal p.original (carried_back (reconstruction_of p.way) values)
    × (cost_of p.original (carried_back (reconstruction_of p.way) values) ≡ cost_of p.written.«instance» values + p.way.offset))
