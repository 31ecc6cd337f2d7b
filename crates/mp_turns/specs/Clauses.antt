-- Techniques whose candidates are clauses, by their ids.
use Rattle.std.specs.Prelude.{ℕ, List, [], Option, is_some, length, Contains}
use Rattle.std.specs.List.{range_with_len}
use Rattle.mp_logic.specs.Keeping.{State}
use Rattle.mp_logic.specs.Literal.{Literal}
use Rattle.mp_logic.specs.Sets.{Among}
use Rattle.mp_logic.specs.declared.instances.Repair.{Repair}
use Rattle.mp_store.specs.declared.rewrite.Rewrite.{Rewrite}
use Rattle.mp_clauses.specs.Occurrences.{ids_where}

-- the ids of the live clauses, rising
abbrev pub live_ids : List (Option (List Literal)) → List ℕ
live_ids slots = ids_where is_some 0 slots

-- the hard clauses, by their places from 0
abbrev pub clause_places : State → List ℕ
clause_places s = range_with_len 0 (length s.hard)

-- the rewrite that puts clauses in the place of others
abbrev pub replacing : List ℕ → List (List Literal) → List Repair → Rewrite
replacing gone added repairs = record { gone = gone; added = added; costs = []; shift = 0; repairs = repairs; fresh = 0 }

-- each clause of the one list has all literals of a clause of the other
abbrev pub AreShrunk : List (List Literal) → List (List Literal) → Type 0
AreShrunk cs ds = (c : List Literal) → Contains cs c → (d : List Literal) × Contains ds d × Among d c
