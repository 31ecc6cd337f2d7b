-- Maps and their one spelling.
use Rattle.std.specs.Prelude.{◌≡◌, ℕ, ◌-◌, ◌^◌, ◌<◌, ◌≤◌, Bool, false, IsTrue, All, List, [], ◌∷◌, ◌++◌, length, map, take, replicate, codes}
use Rattle.std.specs.Fmt.{decimal}
use Rattle.std.specs.List.{flat_map}
use Rattle.mp_logic.specs.Carrying.{ReconstructionMap, named}
use Rattle.mp_logic.specs.Labelled.{IsProper, names_rise}
use Rattle.mp_logic.specs.Weights.{weight_bound}
use Rattle.mp_text.specs.Lines.{text_of}
use Rattle.mp_text.specs.Writing.{clause_words}
use Rattle.mp_map.specs.Entries.{mended, repairs_of, joined, fits_version}
use Rattle.mp_map.specs.declared.maps.Entry.{Entry}
use Rattle.mp_map.specs.declared.maps.MapFile.{MapFile}

-- the greatest number of variables of an original instance
abbrev pub most_original : ℕ
most_original = 8388607

-- the greatest number of inner variables
abbrev pub most_inner : ℕ
most_inner = 16777215

-- the latest version
abbrev pub latest_version : ℕ
latest_version = 2

-- the greatest number of repairs, and so of clauses of all entries
abbrev pub most_repairs : ℕ
most_repairs = 2 ^ 64 - 1

-- the version is one of the two, each number is in its range, each variable of the written instance has its name, names
-- rise strictly from 1 to inner, entries have as many clauses as their version wants, and the repairs that they stand for
-- are proper for inner
pub record IsMap (m : MapFile) : Type 0 where
  pub first_version : 1 ≤ m.version
  pub last_version : m.version ≤ latest_version
  pub original : m.original ≤ most_original
  pub least_inner : m.original ≤ m.inner
  pub inner : m.inner ≤ most_inner
  pub written : m.written ≤ m.inner
  pub offset : m.offset < weight_bound
  pub each_named : length m.names ≡ m.written
  pub names_rising : IsTrue (names_rise 0 m.inner m.names)
  pub entries_fit : All (λ e. IsTrue (fits_version m.version (length e.clauses))) m.repairs
  pub repairs_few : length (repairs_of m.repairs) ≤ most_repairs
  pub repairs_proper : All (IsProper m.inner) (repairs_of m.repairs)

-- what a map makes of the values of the written variables: each name gets the value of its variable, all else is false,
-- the entries are applied, and the values of the original variables are kept
abbrev pub carried_back_by : MapFile → List Bool → List Bool
carried_back_by m values = take m.original (mended m.repairs (named m.names values (replicate m.inner false)))

-- what a map says of the way back, one repair for each clause
abbrev pub reconstruction_of : MapFile → ReconstructionMap
reconstruction_of m = record { original = m.original; inner = m.inner; offset = m.offset; names = m.names; repairs = repairs_of m.repairs }

-- the map of the latest version that says the same
abbrev pub upgraded : MapFile → MapFile
upgraded m = record m { version = latest_version; repairs = joined m.repairs }

-- the literals that are set, 0, and the literals of each clause, 0
abbrev pub entry_words : Entry → List (List ℕ)
entry_words e = clause_words e.sets ++ flat_map clause_words e.clauses

-- the words of each line
abbrev pub map_lines : MapFile → List (List (List ℕ))
map_lines m =
    (codes "maxpre-map" ∷ decimal m.version ∷ [])
    ∷ (codes "original" ∷ decimal m.original ∷ [])
    ∷ (codes "inner" ∷ decimal m.inner ∷ [])
    ∷ (codes "written" ∷ decimal m.written ∷ [])
    ∷ (codes "offset" ∷ decimal m.offset ∷ [])
    ∷ (codes "names" ∷ map decimal m.names)
    ∷ (codes "repairs" ∷ decimal (length m.repairs) ∷ [])
    ∷ (map entry_words m.repairs ++ (codes "end" ∷ []) ∷ [])

-- the one spelling of a map
abbrev pub map_text : MapFile → List ℕ
map_text m = text_of (map_lines m)
