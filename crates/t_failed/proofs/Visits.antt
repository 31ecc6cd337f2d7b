-- Going over clauses, each of which is settled.
use Rattle.std.proofs.Common.{◌≡◌, ℕ, ◌+◌, ◌<◌, ◌≤◌, Bool, true, false, List, [], ◌∷◌, ◌++◌, All, IsTrue, length, get_or, take, refl, sym, ◌∙◌, ap, subst, arith, inl, inr, Contains}
use Rattle.std.specs.Prelude.{Option, Some, None, is_some, MatchBool}
use Rattle.std.proofs.lemmas.Bool.{cases_lt, true≢false}
use Rattle.std.proofs.lemmas.List.{take_all, get_or_past}
use Rattle.std.proofs.lemmas.List.Elements.{Contains-get_or, All-contains}
use Rattle.mp_logic.specs.Literal.{Literal, negation, IsUpTo}
use Rattle.mp_logic.specs.Normal.{rises}
use Rattle.mp_logic.specs.Learning.{IsConsistent, IsPropagated, IsAtRest, MakesFalse}
use Rattle.mp_logic.proofs.Members.{Contains-none}
use Rattle.mp_clauses.specs.Slots.{clause_of, is_live, live_clauses}
use Rattle.mp_clauses.specs.Occurrences.{AreExactOccurrences}
use Rattle.mp_clauses.proofs.Steps.{get_or-any}
use Rattle.mp_store.specs.Held.{Held}
use Rattle.mp_store.specs.Soundness.{IsStore}
use Rattle.mp_store.proofs.KeptFixing.{live-at, live-id}
use Rattle.t_failed.specs.Propagating.{AreUpTo, IsSettled, AreSettled, AreSettledBelow, OthersAreFalse, IsExtended, IsRefuted}
use Rattle.t_failed.proofs.Settling.{conflict-refutes, extended-one, unit-settled, settled-less, settled-propagated, extended-longer, extended-settled, refuted-before}
use Rattle.t_failed.proofs.Searching.{take-more}

some-is : (c d : List Literal) → Some c ≡ Some d → d ≡ c
some-is c d e = cc

-- a look at the clause of an id
pub look-rises : (h : Held) (id : ℕ) (c : List Literal) → IsStore h → Some c ≡ clause_of h.slots id → rises 0 c ≡ true
look-rises h id c s e = All-contains (λ c. IsTrue (rises 0 c)) (live_clauses h.slots) c s.labelled.hard_normal (live-at h.slots id c (sym e))

pub look-rest : (slots : List (Option (List Literal))) (id n : ℕ) (p c : List Literal) → Some c ≡ clause_of slots id → IsAtRest p c → (d : List Literal) → clause_of slots id ≡ Some d → IsSettled p n d
look-rest slots id n p c e r d f = inl (subst (IsAtRest p) (sym (some-is c d (e ∙ f))) r)

pub look-refuted : (slots : List (Option (List Literal))) (id : ℕ) (p c : List Literal) → Some c ≡ clause_of slots id → MakesFalse p c → IsRefuted (live_clauses slots) p
look-refuted slots id p c e f = conflict-refutes (live_clauses slots) p c (live-at slots id c (sym e)) f

pub look-extended : (h : Held) (id : ℕ) (p new c : List Literal) (l : Literal) → IsStore h → Some c ≡ clause_of h.slots id → Contains c l → OthersAreFalse p c l → new ≡ p ++ l ∷ [] → IsExtended h.vars (live_clauses h.slots) p new
look-extended h id p new c l s e i f g =
    let m = live-at h.slots id c (sym e) in
    extended-one h.vars (live_clauses h.slots) p new c l m (All-contains (All (IsUpTo h.vars)) (live_clauses h.slots) c s.labelled.hard_within m) i f g

pub look-settled : (slots : List (Option (List Literal))) (id : ℕ) (p new c : List Literal) (l : Literal) → Some c ≡ clause_of slots id → Contains c l → new ≡ p ++ l ∷ [] → (d : List Literal) → clause_of slots id ≡ Some d → IsSettled new (length p) d
look-settled slots id p new c l e i g d f = unit-settled p new d l (subst (λ xs. Contains xs l) (sym (some-is c d (e ∙ f))) i) g

-- the clause of an id is settled, if the answer says so
abbrev pub Settles : List (List Literal) → List (Option (List Literal)) → ℕ → List Literal → List Literal → Bool → Type 0
Settles cs slots id old new rests = MatchBool rests ((c : List Literal) → clause_of slots id ≡ Some c → IsSettled new (length old) c) (IsRefuted cs old)

settles-true : (cs : List (List Literal)) (slots : List (Option (List Literal))) (id : ℕ) (old new : List Literal) (b : Bool) → Settles cs slots id old new b → b ≡ true → (c : List Literal) → clause_of slots id ≡ Some c → IsSettled new (length old) c
settles-true cs slots id old new b s t = subst (Settles cs slots id old new) t s

settles-false : (cs : List (List Literal)) (slots : List (Option (List Literal))) (id : ℕ) (old new : List Literal) (b : Bool) → Settles cs slots id old new b → b ≡ false → IsRefuted cs old
settles-false cs slots id old new b s t = subst (Settles cs slots id old new) t s

-- the clauses of these ids are settled
abbrev pub AreSettledAt : List (Option (List Literal)) → List ℕ → List Literal → ℕ → Type 0
AreSettledAt slots ids p n = (id : ℕ) (c : List Literal) → Contains ids id → clause_of slots id ≡ Some c → IsSettled p n c

pub visit-start : (slots : List (Option (List Literal))) (p : List Literal) (n : ℕ) → AreSettledAt slots [] p n
visit-start slots p n id c i e = absurd (Contains-none id i)

pub visit-more : (vars : ℕ) (slots : List (Option (List Literal))) (ids : List ℕ) (i id : ℕ) (start old new : List Literal) (b : Bool) → i < length ids → id ≡ get_or ids i 0 → IsExtended vars (live_clauses slots) start old → IsExtended vars (live_clauses slots) old new → Settles (live_clauses slots) slots id old new b → b ≡ true
    → AreSettledAt slots (take i ids) old (length start) → AreSettledAt slots (take (i + 1) ids) new (length start)
visit-more vars slots ids i id start old new b h e f g s t before j c m r =
    let longer = extended-longer vars (live_clauses slots) start old f in
    elim (take-more ids i id j h (e ∙ get_or-any ids i 0 id h) m) [
      | inl was ↦ extended-settled vars (live_clauses slots) old new (length start) c longer g (before j c was r)
      | inr same ↦ settled-less new (length start) (length old) c longer (settles-true (live_clauses slots) slots id old new b s t c (sym (ap (clause_of slots) same) ∙ r))
    ]

pub visit-refuted : (vars : ℕ) (slots : List (Option (List Literal))) (id : ℕ) (start old new : List Literal) (b : Bool) → IsExtended vars (live_clauses slots) start old → Settles (live_clauses slots) slots id old new b → b ≡ false → IsRefuted (live_clauses slots) start
visit-refuted vars slots id start old new b f s t = refuted-before vars (live_clauses slots) start old f (settles-false (live_clauses slots) slots id old new b s t)

pub visit-done : (slots : List (Option (List Literal))) (l k : Literal) (ids : List ℕ) (i : ℕ) (p : List Literal) (n : ℕ) → k ≡ negation l → AreExactOccurrences k slots ids → length ids ≤ i → AreSettledAt slots (take i ids) p n → (c : List Literal) → Contains (live_clauses slots) c → Contains c (negation l) → IsSettled p n c
visit-done slots l k ids i p n same x h s c m j =
    let w = live-id slots c m in
    let there : Contains ids w.0 = (x.each w.0).1 (c, w.1, subst (Contains c) (sym same) j) in
    s w.0 c (subst (λ ys. Contains ys w.0) (sym (take_all i ids h)) there) w.1

some-live : (o : Option (List Literal)) (c : List Literal) → o ≡ Some c → is_some o ≡ true
some-live o c e = rw e refl

pub visit-live : (slots : List (Option (List Literal))) (k : Literal) (ids : List ℕ) (i : ℕ) → AreExactOccurrences k slots ids → i < length ids → is_live slots (get_or ids i 0) ≡ true
visit-live slots k ids i x h = let w = (x.each (get_or ids i 0)).0 (Contains-get_or ids i 0 h) in some-live (clause_of slots (get_or ids i 0)) w.0 w.1

-- ids in order
pub below-more : (vars : ℕ) (slots : List (Option (List Literal))) (id : ℕ) (start old new : List Literal) (b : Bool) → IsExtended vars (live_clauses slots) start old → IsExtended vars (live_clauses slots) old new → Settles (live_clauses slots) slots id old new b → b ≡ true → AreSettledBelow slots id old (length start) → AreSettledBelow slots (id + 1) new (length start)
below-more vars slots id start old new b f g s t before j c less r =
    let longer = extended-longer vars (live_clauses slots) start old f in
    elim (cases_lt j id) [
      | inl a ↦ extended-settled vars (live_clauses slots) old new (length start) c longer g (before j c a r)
      | inr a ↦
          let same : j ≡ id = omega arith in
          settled-less new (length start) (length old) c longer (settles-true (live_clauses slots) slots id old new b s t c (sym (ap (clause_of slots) same) ∙ r))
    ]

pub none-some : (o : Option (List Literal)) (c : List Literal) → is_some o ≡ false → o ≡ Some c → ⊥
none-some None c f e = cc
none-some (Some d) c f e = true≢false f

pub below-dead : (slots : List (Option (List Literal))) (id n : ℕ) (p : List Literal) → is_live slots id ≡ false → AreSettledBelow slots id p n → AreSettledBelow slots (id + 1) p n
below-dead slots id n p dead before j c less r =
    elim (cases_lt j id) [
      | inl a ↦ before j c a r
      | inr a ↦
          let same : j ≡ id = omega arith in
          absurd (none-some (clause_of slots id) c dead (sym (ap (clause_of slots) same) ∙ r))
    ]

pub below-all : (slots : List (Option (List Literal))) (id n : ℕ) (p : List Literal) → length slots ≤ id → AreSettledBelow slots id p n → AreSettled (live_clauses slots) p n
below-all slots id n p h s c m =
    let w = live-id slots c m in
    s w.0 c (elim (cases_lt w.0 id) [
      | inl a ↦ a
      | inr a ↦ absurd (let z : clause_of slots w.0 ≡ None = get_or_past slots w.0 None (omega (arith, h, a)) in none-some (clause_of slots w.0) c (rw z refl) w.1)
    ]) w.1

-- the end of a propagation
pub propagated-end : (p : List Literal) (cs : List (List Literal)) (head : ℕ) → IsConsistent p → length p ≤ head → head ≤ length p → AreSettled cs p head → IsPropagated p cs
propagated-end p cs head k a b s = settled-propagated p cs k (let same : head ≡ length p = omega arith in subst (AreSettled cs p) same s)

-- an answer over a list that grew
pub answer-before : (X : Type 0) (vars : ℕ) (cs : List (List Literal)) (p q : List Literal) (b : Bool) → IsExtended vars cs p q → MatchBool b X (IsRefuted cs q) → MatchBool b X (IsRefuted cs p)
answer-before X vars cs p q b f m =
    let cases : (t : Bool) → MatchBool t X (IsRefuted cs q) → MatchBool t X (IsRefuted cs p) = λ (t : Bool). elim t as (λ x. MatchBool x X (IsRefuted cs q) → MatchBool x X (IsRefuted cs p)) [ true ↦ λ x. x | false ↦ λ r. refuted-before vars cs p q f r ] in
    cases b m

-- what an answer says
pub answer-true : (X Y : Type 0) (b : Bool) → b ≡ true → MatchBool b X Y → X
answer-true X Y b t m = subst (λ x. MatchBool x X Y) t m

pub answer-false : (X Y : Type 0) (b : Bool) → b ≡ false → MatchBool b X Y → Y
answer-false X Y b f m = subst (λ x. MatchBool x X Y) f m

-- a literal that was read
pub read-up : (vars : ℕ) (p : List Literal) (i : ℕ) (l : Literal) → i < length p → l ≡ get_or p i l → AreUpTo vars p → l.variable ≤ vars
read-up vars p i l h e u = (u l (i, h, sym e)).1
