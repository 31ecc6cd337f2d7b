-- Clauses that each have all literals of some clause of another list.
use Rattle.std.proofs.Common.{◌≡◌, ℕ, ◌<◌, ◌≤◌, true, List, [], ◌∷◌, length, ap, inl, inr, Contains, sum_by}
use Rattle.mp_logic.specs.Literal.{Literal}
use Rattle.mp_logic.specs.Keeping.{State}
use Rattle.mp_logic.specs.Sets.{Among, Entails}
use Rattle.mp_logic.specs.declared.instances.Cost.{Cost}
use Rattle.mp_logic.proofs.Members.{satisfied, IsSatisfied-from, witness, true_by}
use Rattle.mp_store.specs.Measures.{occurs, occurring, is_covered, uncovered, IsLower, IsSmaller}
use Rattle.mp_store.proofs.Measured.{occurs-by, occurs-found, occurring-le, uncovered-le, covered-only, only-covered, lower-or-same}
use Rattle.mp_clauses.proofs.Found.{any-by, any-found}
use Rattle.mp_turns.specs.Clauses.{AreShrunk}
use Rattle.std.proofs.Common.{Bool}
use Rattle.std.specs.Prelude.{◌==◌, ◌||◌}
use Rattle.std.specs.List.{list_all}
use Rattle.mp_clauses.specs.Places.{place_of}

-- a model of the smaller clauses is one of the larger
pub shrunk-entails : (cs ds : List (List Literal)) → AreShrunk cs ds → Entails ds cs
shrunk-entails cs ds h a m = IsSatisfied-from a cs (λ c i.
    let d = h c i in
    let w = witness a d.0 (satisfied a ds d.0 m d.1) in
    true_by a c w.0 (d.2 w.0 w.1) w.2)

shrunk-covers : (cs ds : List (List Literal)) (a b : Literal) → AreShrunk cs ds → is_covered cs a b ≡ true → is_covered ds a b ≡ true
shrunk-covers cs ds a b h t =
    let test : List Literal → Bool = λ c. list_all (λ k. (place_of k == place_of a) || (place_of k == place_of b)) c in
    let w = any-found test cs t in
    let d = h w.0 w.1 in
    any-by test ds d.0 d.1 (only-covered a b d.0 (λ k i. covered-only a b w.0 w.2 k (d.2 k i)))

-- where each clause that there is now has only literals of an earlier one, no variable begins to occur
occurs-back : (v : ℕ) (cs ds : List (List Literal)) → ((d : List Literal) → Contains ds d → (c : List Literal) × Contains cs c × Among d c) → occurs v ds ≡ true → occurs v cs ≡ true
occurs-back v cs ds h t =
    let o = occurs-found v ds t in
    let c = h o.clause o.live in
    occurs-by v cs c.0 o.literal c.1 (c.2 o.literal o.has) o.variable

abbrev clauses_on : State → List ℕ
clauses_on s = length s.hard ∷ (occurring s.vars s.hard ∷ (sum_by length s.hard ∷ []))

-- where costs stay and no pair is uncovered that was covered, clauses alone may decide
smaller-on : (s t : State) → t.costs ≡ s.costs → AreShrunk s.hard t.hard → IsLower (clauses_on t) (clauses_on s) → IsSmaller t s
smaller-on s t e h rest =
    let pairs : uncovered t.hard t.costs ≤ uncovered s.hard s.costs = rw e (uncovered-le s.hard t.hard s.costs (λ p q i j. shrunk-covers s.hard t.hard p.lit q.lit h)) in
    let weights : sum_by (λ (c : Cost). c.weight) t.costs ≡ sum_by (λ (c : Cost). c.weight) s.costs = ap (sum_by (λ (c : Cost). c.weight)) e in
    let number : length t.costs ≡ length s.costs = ap (λ (ps : List Cost). length ps) e in
    inr (weights, inr (number, lower-or-same (uncovered t.hard t.costs) (uncovered s.hard s.costs) (clauses_on t) (clauses_on s) pairs rest))

-- costs stay, and there are fewer clauses, each of the earlier ones with all literals of one
pub smaller-dropped : (s t : State) → t.costs ≡ s.costs → AreShrunk s.hard t.hard → length t.hard < length s.hard → IsSmaller t s
smaller-dropped s t e h less = smaller-on s t e h (inl less)

-- costs stay, and there are so many clauses, which have fewer literals, and those of earlier ones
pub smaller-shortened : (s t : State) → t.costs ≡ s.costs → t.vars ≡ s.vars → AreShrunk s.hard t.hard → ((d : List Literal) → Contains t.hard d → (c : List Literal) × Contains s.hard c × Among d c) → length t.hard ≡ length s.hard → sum_by length t.hard < sum_by length s.hard → IsSmaller t s
smaller-shortened s t e v h back same less =
    let variables : occurring t.vars t.hard ≤ occurring s.vars s.hard = rw v (occurring-le s.vars s.hard t.hard (λ x. occurs-back x s.hard t.hard back)) in
    let last : IsLower (sum_by length t.hard ∷ []) (sum_by length s.hard ∷ []) = inl less in
    smaller-on s t e h (inr (same, lower-or-same (occurring t.vars t.hard) (occurring s.vars s.hard) (sum_by length t.hard ∷ []) (sum_by length s.hard ∷ []) variables last))
