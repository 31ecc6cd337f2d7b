-- Clauses joined, and the repairs of two labels.
use Rattle.std.specs.Prelude.{◌≡◌, ◌≢◌, ◌⊎◌, ◌↔◌, ◌==◌, ℕ, not, List, [], ◌∷◌, ◌++◌, Option, Some, None, IsTrue, Contains}
use Rattle.std.specs.List.{filter}
use Rattle.std.specs.List.Sorted.{IsPermutation, IsSortedByKey}
use Rattle.std.specs.Cmp.Lexicographic.{slice_cmp}
use Rattle.mp_logic.specs.Literal.{Literal}
use Rattle.mp_logic.specs.Normal.{lit_cmp, literals_rise, IsTautology}
use Rattle.mp_logic.specs.LabelMatching.{matching_repairs}
use Rattle.mp_logic.specs.declared.instances.Repair.{Repair}
use Rattle.mp_clauses.specs.Places.{place_of}
use Rattle.mp_clauses.specs.Slots.{clause_of}

-- the literals of a clause but one
abbrev pub others : Literal → List Literal → List Literal
others m c = filter (λ k. not (place_of k == place_of m)) c

abbrev pub clause_in : Option (List Literal) → List (List Literal)
clause_in None = []
clause_in (Some c) = c ∷ []

-- the live clauses of these ids, in their order
abbrev pub clauses_at : List (Option (List Literal)) → List ℕ → List (List Literal)
clauses_at slots [] = []
clauses_at slots (id ∷ ids) = clause_in (clause_of slots id) ++ clauses_at slots ids

-- the literals of c, and those of d but m, in order and each once
pub record IsJoinOf (c d : List Literal) (m : Literal) (r : List Literal) : Type 0 where
  pub rising : IsTrue (literals_rise r)
  pub each : (k : Literal) → Contains r k ↔ (Contains c k ⊎ (Contains d k × (k ≢ m)))

-- the clause stands last, or is a tautology
abbrev pub IsPutUnlessTautology : List Literal → List (List Literal) → List (List Literal) → Type 0
IsPutUnlessTautology r old new = (IsTautology r × (new ≡ old)) ⊎ ((IsTautology r → ⊥) × (new ≡ old ++ r ∷ []))

-- the joins of c with each of ds, in order, tautologies left out
abbrev pub AreJoinsOf : List Literal → Literal → List (List Literal) → List (List Literal) → Type 0
AreJoinsOf c m [] rs = rs ≡ []
AreJoinsOf c m (d ∷ ds) rs = (r : List Literal) × IsJoinOf c d m r × ((IsTautology r × AreJoinsOf c m ds rs) ⊎ ((IsTautology r → ⊥) × ((rest : List (List Literal)) × (rs ≡ r ∷ rest) × AreJoinsOf c m ds rest)))

abbrev pub JoinsFollow : List Literal → Literal → List (List Literal) → List (List Literal) → List (List Literal) → Type 0
JoinsFollow c m ds old new = (more : List (List Literal)) × (new ≡ old ++ more) × AreJoinsOf c m ds more

-- the joins of each of cs with each of ds, in order
abbrev pub AreAllJoins : List (List Literal) → Literal → List (List Literal) → List (List Literal) → Type 0
AreAllJoins [] m ds rs = rs ≡ []
AreAllJoins (c ∷ cs) m ds rs = (first : List (List Literal)) × (rest : List (List Literal)) × (rs ≡ first ++ rest) × AreJoinsOf c m ds first × AreAllJoins cs m ds rest

-- the same clauses, in clause order
pub record AreInOrder (cs ds : List (List Literal)) : Type 0 where
  pub moved : IsPermutation cs ds
  pub sorted : IsSortedByKey (λ (c : List Literal). c) (slice_cmp lit_cmp) ds

-- the repairs of two labels l and m follow, for the clauses of l and of m in clause order
abbrev pub SplitRepairsFollow : Literal → Literal → List (List Literal) → List (List Literal) → List Repair → List Repair → Type 0
SplitRepairsFollow l m cs ds old new = (cs' : List (List Literal)) × (ds' : List (List Literal)) × AreInOrder cs cs' × AreInOrder ds ds' × (new ≡ old ++ matching_repairs l m cs' ds')
