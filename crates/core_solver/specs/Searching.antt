-- A search, and what it does next.
use Rattle.std.specs.Prelude.{◌≡◌, ◌⊎◌, ◌<◌, ◌≤◌, ◌+◌, ◌++◌, ℕ, Bool, true, false, List, [], Contains, length, take}
use Rattle.mp_logic.specs.Literal.{Literal, negation, IsUpTo}
use Rattle.mp_logic.specs.Truth.{literal_value}
use Rattle.mp_logic.specs.Sets.{Among}
use Rattle.mp_logic.specs.Learning.{AreLessons, IsOver}
use Rattle.core_solver.specs.declared.query.Query.{Query}
use Rattle.core_solver.specs.declared.search.Search.{Search}
use Rattle.core_solver.specs.declared.decisions.Cursor.{Cursor}
use Rattle.core_solver.specs.declared.decisions.Choice.{Choice}
use Rattle.core_solver.specs.declared.decisions.Choice.TheVariants.{Decide, Refuted, Full}
use Rattle.core_solver.specs.Trails.{IsPositionOf}
use Rattle.core_solver.specs.History.{AssumesFirst}
use Rattle.core_solver.specs.Conflicts.{noted, is_seen}
use Rattle.core_solver.specs.Watching.{AreWatching, IsState, IsRising}

-- the search stands on the hard clauses and so many lessons
pub record IsSearching (q : Query) (s : Search) (learnt : ℕ) : Type 0 where
  pub ls : List (List Literal)
  pub clauses : s.clauses ≡ q.hard ++ ls
  pub count : length ls ≡ learnt
  pub lessons : AreLessons q.hard ls
  pub over : (d : List Literal) → Contains s.clauses d → IsOver q.hard d
  pub vars : s.trail.vars ≡ q.vars
  pub state : IsState s.clauses s.watches.pairs.items s.watches.lists.items s.trail
  pub rising : IsRising s.trail.marks
  pub early : AssumesFirst q.assumptions s.trail
  pub clear : (j : ℕ) → is_seen (noted s.analysis) j ≡ false
  pub empty : s.analysis.learnt ≡ []
  pub room : s.trail.vars + 1 ≤ length s.analysis.seen.items

-- the search before its first propagation: literals of unit clauses are true
pub record IsStarted (q : Query) (s : Search) : Type 0 where
  pub searching : IsSearching q s 0
  pub watching : AreWatching [] s.trail.lits s.watches.pairs.items

-- the assumptions before the cursor were true once the trail was as long as it says
pub record IsCursor (q : Query) (lits : List Literal) (c : Cursor) : Type 0 where
  pub assumptions : (k : ℕ) (l : Literal) → k < c.assumed → IsPositionOf q.assumptions l k → Contains (take c.settled lits) l
  pub settled : c.settled ≤ length lits

-- the variable has a value
abbrev pub HasValue : List Literal → Literal → Type 0
HasValue lits l = Contains lits l ⊎ Contains lits (negation l)

-- a literal of one of the variables, without a value
pub record IsOpenLiteral (vars : ℕ) (lits : List Literal) (l : Literal) : Type 0 where
  pub within : IsUpTo vars l
  pub not_true : Contains lits l → ⊥
  pub not_false : Contains lits (negation l) → ⊥

-- the choice is right: a literal without a value, which is an assumption while one isn't true; an assumption that is false;
-- or all assumptions are true and all variables have values
abbrev pub IsChoice : Query → List Literal → Choice → Type 0
IsChoice q lits (Decide l) = IsOpenLiteral q.vars lits l × (Contains q.assumptions l ⊎ Among q.assumptions lits)
IsChoice q lits (Refuted l) = Contains q.assumptions l × Contains lits (negation l)
IsChoice q lits Full = Among q.assumptions lits × ((l : Literal) → IsUpTo q.vars l → HasValue lits l)

-- the assignment makes the literals of the list true
abbrev pub IsGivenBy : List Literal → ℕ → List Bool → Type 0
IsGivenBy lits vars a = (l : Literal) → IsUpTo vars l → Contains lits l → literal_value a l ≡ true
