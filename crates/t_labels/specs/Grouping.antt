-- Inside the technique: clauses of a label, the walk over them, and what the test of a turn finds.
use Rattle.std.specs.Prelude.{◌≡◌, ◌-◌, Bool, true, false, ℕ, List, [], ◌∷◌, ◌++◌, Option, Some, None, nat_lt, if◌then◌else◌}
use Rattle.std.specs.List.{filter, list_any, list_all}
use Rattle.mp_logic.specs.Literal.{Literal}
use Rattle.mp_clauses.specs.Places.{place_of, has}
use Rattle.mp_clauses.specs.Slots.{clause_of, live_clauses}
use Rattle.mp_clauses.specs.Weighing.{weight_in}
use Rattle.mp_store.specs.Held.{Held, labelled_of}
use Rattle.mp_store.specs.Fixing.{meets}
use Rattle.t_labels.specs.Labels.{may_cover}
use Rattle.t_labels.specs.Covers.{cost_in}
use Rattle.t_labels.specs.Groups.{AreInOrder, HasNoGroup}

abbrev pub clause_in : Option (List Literal) → List (List Literal)
clause_in None = []
clause_in (Some c) = c ∷ []

-- the live clauses of these ids, in their order
abbrev pub clauses_at : List (Option (List Literal)) → List ℕ → List (List Literal)
clauses_at slots [] = []
clauses_at slots (id ∷ ids) = clause_in (clause_of slots id) ++ clauses_at slots ids

-- the clauses of a label
abbrev pub clauses_with : Literal → Held → List (List Literal)
clauses_with l h = filter (has (place_of l)) (live_clauses h.slots)

-- another plain label of a store
abbrev pub may_cover_at : Held → Literal → Literal → Bool
may_cover_at h l k = may_cover (weight_in h.weights) (live_clauses h.slots) l k

-- the clause has another plain label
abbrev pub slot_may_be_met : Held → Literal → Option (List Literal) → Bool
slot_may_be_met h l None = true
slot_may_be_met h l (Some c) = list_any (may_cover_at h l) c

-- each of the clauses of these ids has one
abbrev pub each_may_be_met : Held → Literal → List ℕ → Bool
each_may_be_met h l ids = list_all (λ id. slot_may_be_met h l (clause_of h.slots id)) ids

-- the lighter of a literal found before and another one, at these prices; the earlier one where both weigh the same
abbrev pub lighter : (Literal → ℕ) → Option Literal → Literal → Option Literal
lighter price None k = Some k
lighter price (Some b) k = if nat_lt (price k) (price b) then Some k else Some b

-- the lightest literal of a clause that passes a test, the earliest where several are
abbrev pub lightest : (Literal → ℕ) → (Literal → Bool) → Option Literal → List Literal → Option Literal
lightest price may best [] = best
lightest price may best (k ∷ c) = lightest price may (if may k then lighter price best k else best) c

-- one more is chosen, unless there is none or it weighs more than is left
abbrev pub choose : (Literal → ℕ) → List Literal → ℕ → (List Literal → ℕ → Bool) → Option Literal → Bool
choose price chosen left go None = false
choose price chosen left go (Some b) = if nat_lt left (price b) then false else go (chosen ++ b ∷ []) (left - price b)

abbrev pub covers_greedily : (Literal → ℕ) → (Literal → Bool) → List (List Literal) → List Literal → ℕ → Bool
covers_greedily price may [] chosen left = true
covers_greedily price may (c ∷ cs) chosen left = if meets chosen c then covers_greedily price may cs chosen left else choose price chosen left (covers_greedily price may cs) (lightest price may None c)

-- the walk over these clauses spends no more than the label weighs
abbrev pub is_covered_by_group : Held → Literal → List (List Literal) → Bool
is_covered_by_group h l cs = covers_greedily (weight_in h.weights) (may_cover_at h l) cs [] (weight_in h.weights l)

-- what a test finds: the walk over the label's clauses in order does not fail; or its greedy cover does
abbrev pub IsTested : Held → Literal → Bool → Type 0
IsTested h l true = (cs : List (List Literal)) × AreInOrder (clauses_with l h) cs × (is_covered_by_group h l cs ≡ true)
IsTested h l false = HasNoGroup (cost_in h.weights l) (labelled_of h)
