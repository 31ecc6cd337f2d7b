-- The summary of a run on a workload.
use Rattle.std.specs.Prelude.{ℕ, List, ◌++◌, codes}
use Rattle.std.specs.Fmt.{decimal}
use Rattle.mp_workload.specs.declared.summary.Sizes.{Sizes}
use Rattle.mp_workload.specs.declared.summary.Summary.{Summary}

-- a blank and a number
abbrev pub size_text : ℕ → List ℕ
size_text n = codes " " ++ decimal n

abbrev pub sizes_text : Sizes → List ℕ
sizes_text s = ((size_text s.clauses ++ size_text s.literals) ++ size_text s.costs) ++ codes "\n"

-- the lines `c workload`, `c before`, `c after`, `c offset`, and the last line of the log
abbrev pub summary_of : Summary → List ℕ → List ℕ
summary_of s last =
    (((((((((codes "c workload" ++ size_text s.tasks) ++ codes "\n") ++ codes "c before") ++ sizes_text s.before) ++ codes "c after") ++ sizes_text s.after) ++ codes "c offset") ++ size_text s.offset) ++ codes "\n") ++ last
