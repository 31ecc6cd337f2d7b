-- What the technique promises: at-most-ones among labels that are already said by clauses of two literals.
use Rattle.std.specs.Prelude.{◌≡◌, ℕ, ◌+◌, ◌≤◌, List, [], Contains}
use Rattle.mp_logic.specs.Keeping.{State}
use Rattle.mp_logic.specs.Sets.{Among}
use Rattle.mp_logic.specs.declared.instances.Cost.{Cost}
use Rattle.mp_logic.specs.declared.instances.Repair.{Repair}
use Rattle.mp_clauses.specs.Places.{place_of}
use Rattle.mp_store.specs.Held.{labelled_of}
use Rattle.mp_store.specs.Techniques.{Technique}
use Rattle.mp_turns.specs.Turning.{Turning}
use Rattle.t_amo.specs.Labels.{label_places, are_clause, IsPaired, pairs_of}

-- how many pairs of cost literals are a hard clause
abbrev pub label_pairs : State → ℕ
label_pairs s = pairs_of (are_clause s.hard) s.costs

-- no hard clause is a pair of two cost literals
abbrev pub NoLabelPair : State → Type 0
NoLabelPair s = (p : Cost) → Contains s.costs p → IsPaired p s → ⊥

-- some hard clause is a pair of two cost literals
abbrev pub HasLabelPair : State → Type 0
HasLabelPair s = (p : Cost) × Contains s.costs p × IsPaired p s

-- no repair comes, all clauses stay, and no more variables come than pairs of cost literals go
pub record LeavesClauses (s t : State) (added : List Repair) : Type 0 where
  pub repairs : added ≡ []
  pub clauses : Among s.hard t.hard
  pub vars : t.vars + label_pairs t ≤ s.vars + label_pairs s

-- the candidates are the cost literals, and each change lowers the number of pairs; room for a variable is wanted where a
-- pair is left
abbrev pub at_most_one_labels : Technique
at_most_one_labels = record {
  HasEndState = NoLabelPair;
  candidates = label_places;
  size = label_pairs;
  IsIdle = λ s k. (p : Cost) → Contains s.costs p → place_of p.lit ≡ k → IsPaired p s → ⊥;
  LeavesAlone = LeavesClauses;
  WantsRoom = HasLabelPair;
}

-- the technique by turns, over places of literals, of which each adds no more than one variable
abbrev pub joining : Turning
joining = record {
  technique = at_most_one_labels;
  candidates = λ h. label_places (labelled_of h);
  IsIdle = λ h k. (p : Cost) → Contains (labelled_of h).costs p → place_of p.lit ≡ k → IsPaired p (labelled_of h) → ⊥;
  stays = λ n h k. k.vars ≤ h.vars + n;
}
