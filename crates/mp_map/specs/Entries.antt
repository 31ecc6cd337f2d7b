-- Entries of a map: one set of literals with the clauses that mend by it.
use Rattle.std.specs.Prelude.{ℕ, Bool, true, false, ◌&&◌, List, [], ◌∷◌, ◌++◌, map, fold, if◌then◌else◌, nat_eq, nat_lt}
use Rattle.std.specs.Bool.{beq}
use Rattle.std.specs.List.{flat_map, list_all}
use Rattle.mp_logic.specs.Literal.{Literal}
use Rattle.mp_logic.specs.Repairs.{made_true}
use Rattle.mp_logic.specs.Truth.{clause_value}
use Rattle.mp_logic.specs.declared.instances.Repair.{Repair}
use Rattle.mp_map.specs.declared.maps.Entry.{Entry}

-- with each of the literals made true where some clause of the entry is false
abbrev pub mended_once : Entry → List Bool → List Bool
mended_once e a = if list_all (clause_value a) e.clauses then a else fold made_true a e.sets

-- the last entry is applied first
abbrev pub mended : List Entry → List Bool → List Bool
mended [] a = a
mended (e ∷ es) a = mended_once e (mended es a)

-- the repairs that an entry stands for: one for each of its clauses
abbrev pub repairs_in : Entry → List Repair
repairs_in e = map (λ c. record { sets = e.sets; clause = c }) e.clauses

-- the repairs that entries stand for, in order
abbrev pub repairs_of : List Entry → List Repair
repairs_of es = flat_map repairs_in es

-- the entry of one repair
abbrev pub entry_of : Repair → Entry
entry_of r = record { sets = r.sets; clauses = r.clause ∷ [] }

-- two lists are the same literals in the same order
abbrev pub same_literals : List Literal → List Literal → Bool
same_literals [] [] = true
same_literals [] (l ∷ ls) = false
same_literals (k ∷ ks) [] = false
same_literals (k ∷ ks) (l ∷ ls) = (nat_eq k.variable l.variable && beq k.negative l.negative) && same_literals ks ls

-- an entry before others; it takes the clauses of the first of them where that sets the same literals
abbrev pub put_before : Entry → List Entry → List Entry
put_before e [] = e ∷ []
put_before e (f ∷ es) = if same_literals e.sets f.sets then record { sets = e.sets; clauses = e.clauses ++ f.clauses } ∷ es else e ∷ (f ∷ es)

-- each longest run of neighbours that set the same literals is one entry, with their clauses in order
abbrev pub joined : List Entry → List Entry
joined [] = []
joined (e ∷ es) = put_before e (joined es)

-- one entry for each repair, or for each longest run of neighbours that set the same literals
abbrev pub entries_of : Bool → List Repair → List Entry
entries_of join repairs = if join then joined (map entry_of repairs) else map entry_of repairs

-- an entry of the first version has one clause, and one of the second has at least one
abbrev pub fits_version : ℕ → ℕ → Bool
fits_version version clauses = if nat_eq version 1 then nat_eq clauses 1 else nat_lt 0 clauses
