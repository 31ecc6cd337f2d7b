-- Passing over what nothing touched.
use Rattle.std.proofs.Common.{◌≡◌, ℕ, ◌<◌, Bool, true, false, List, length, get_or, refl, sym, ◌∙◌, ap, subst, arith, inl, inr, Contains}
use Rattle.std.specs.Prelude.{Some, Option, IfSome, ◌&&◌, ◌==◌, not}
use Rattle.std.specs.List.{find}
use Rattle.std.proofs.lemmas.Bool.{cases_Bool, eq-eqb, and_parts, true≢false}
use Rattle.std.proofs.lemmas.List.Elements.{Contains-get_or}
use Rattle.mp_logic.specs.Literal.{Literal, negation}
use Rattle.mp_logic.specs.EndStates.{NoBlocked}
use Rattle.mp_logic.proofs.Literals.{negation-negation}
use Rattle.mp_clauses.specs.Places.{place_of, has}
use Rattle.mp_clauses.specs.Slots.{clause_of, live_clauses}
use Rattle.mp_clauses.specs.Occurrences.{ids_with}
use Rattle.mp_clauses.specs.Tables.{marked}
use Rattle.mp_clauses.specs.Weighing.{costs_of, weight_in}
use Rattle.mp_store.specs.Clashing.{all_clash}
use Rattle.mp_store.specs.Held.{Held, labelled_of}
use Rattle.mp_store.specs.Soundness.{IsStore}
use Rattle.mp_store.specs.Techniques.{IsAnswer, IsEnd}
use Rattle.mp_store.specs.declared.ran.Ran.{Ran}
use Rattle.mp_store.specs.declared.ran.Ending.TheVariants.{Finished}
use Rattle.mp_clauses.proofs.Found.{any-by}
use Rattle.mp_store.proofs.KeptFixing.{live-at, live-id}
use Rattle.mp_store.proofs.Clashes.{free-literal}
use Rattle.mp_store.proofs.Runs.{none-empty}
use Rattle.mp_resting.specs.declared.seen.Seen.{Seen}
use Rattle.mp_resting.specs.Resting.{IsSeen, IsRested, IsRestedBy}
use Rattle.mp_resting.proofs.Rested.{rested-now, rested-by-run}
use Rattle.t_blocked.specs.BlockedClauses.{blocked_clauses, blocking, IsIdle}
use Rattle.t_blocked.specs.Dropping.{blocks, IsDropped}
use Rattle.t_blocked.proofs.Dropped.{blocks-blocked, not-blocks, dropped-run, other-stays}

-- a clause that was not blocked on a literal is not where each clause with its negation is still there
pub kept-unblocked : (seen : Seen) (marks : List Bool) (now : Held) (id : ℕ) (l : Literal) → IsRestedBy blocking.IsIdle seen marks now → id < seen.mark → marked marks (place_of (negation l)) ≡ true → (c : List Literal) → clause_of now.slots id ≡ Some c → Contains c l → blocks now c l ≡ false
kept-unblocked seen marks now id l rested old kept c e own =
    elim rested [
      | inl n ↦ absurd (omega (arith, n, old))
      | inr w ↦ elim (cases_Bool (blocks now c l)) [
        | inl t ↦
            let mark = w.1.mark in
            let was : clause_of (w.0).slots id ≡ Some c = w.1.before_is.ids id c (omega (arith, mark, old)) e in
            let all = w.3 (negation l) kept in
            let free : weight_in (w.0).weights l ≡ 0 = ap (weight_in (w.0).weights) (sym (negation-negation l)) ∙ all.free.turned in
            let d = w.2 id c was l own (free-literal (w.0).weights l free) in
            let at = live-id (w.0).slots d.0 d.1 in
            absurd (d.3 ((blocks-blocked now c l t).1 d.0 (live-at now.slots at.0 d.0 (all.clauses at.0 d.0 at.1 d.2)) d.2))
        | inr f ↦ f
      ]
    ]

-- a literal that is still marked is not one of the dropped clause, whose literals lost their marks
pub still-marked : (marks left : List Bool) (hand : List Literal) (l : Literal) → ((p : ℕ) → marked left p ≡ (marked marks p && not (has p hand))) → marked left (place_of l) ≡ true → (marked marks (place_of l) ≡ true) × (Contains hand l → ⊥)
still-marked marks left hand l lost t =
    let both = and_parts (marked marks (place_of l)) (not (has (place_of l) hand)) (sym (lost (place_of l)) ∙ t) in
    (both.0, λ i. true≢false (sym both.1 ∙ ap not (any-by (λ (k : Literal). place_of k == place_of l) hand l i (eq-eqb (place_of l) (place_of l) refl))))

-- what is remembered, once a clause is dropped whose literals lost their marks
pub dropped-rested : (seen : Seen) (marks left : List Bool) (id : ℕ) (old new : Held) (near : List ℕ) (hand : List Literal) → IsStore old → (d : IsDropped id old new near) → clause_of old.slots id ≡ Some hand → IsRestedBy blocking.IsIdle seen marks old
    → ((p : ℕ) → marked left p ≡ (marked marks p && not (has p hand))) → IsRestedBy blocking.IsIdle seen left new
dropped-rested seen marks left id old new near hand s d live rested lost =
    let both : Some d.clause ≡ Some hand = sym d.live ∙ live in
    let same : d.clause ≡ hand = cc in
    rested-by-run blocking.IsIdle blocked_clauses.LeavesAlone seen marks left old new rested (dropped-run id old new near s d) (λ l t.
    let own = still-marked marks left hand l lost t in
    (own.0, λ k c here i. other-stays id k old new near c d here (λ e. own.1 (subst (λ x. Contains x l) (sym e ∙ same) i))))

-- the test of a literal without cost, with the clause in hand
pub blocks-in_hand : (h : Held) (c hand : List Literal) (l : Literal) (b : Bool) → weight_in h.weights l ≡ 0 → hand ≡ c → b ≡ all_clash l.variable hand h.slots (ids_with (place_of (negation l)) h.slots) → blocks h c l ≡ b
blocks-in_hand h c hand l b free same e =
    let ids = ids_with (place_of (negation l)) h.slots in
    ap (λ t. t && all_clash l.variable c h.slots ids) (eq-eqb (weight_in h.weights l) 0 free) ∙ sym (e ∙ ap (λ x. all_clash l.variable x h.slots ids) same)

pub own-literal : (c : List Literal) (i : ℕ) (l : Literal) → i < length c → l ≡ get_or c i l → Contains c l
own-literal c i l lt e = subst (Contains c) (sym e) (Contains-get_or c i l lt)

-- the clause in hand is that of the id, and the literal is the lowest on which it is blocked
pub record IsFound (h : Held) (id : ℕ) (hand : List Literal) (l : Literal) : Type 0 where
  pub live : clause_of h.slots id ≡ Some hand
  pub found : find (blocks h hand) hand ≡ Some l

pub held-found : (h : Held) (id : ℕ) (c hand : List Literal) (found : Option Literal) (l : Literal) → Some c ≡ clause_of h.slots id → found ≡ find (blocks h c) c → IfSome found (λ k. hand ≡ c) → found ≡ Some l → IsFound h id hand l
held-found h id c hand found l live e same is =
    let here : hand ≡ c = rw is at same in
    record { live = sym live ∙ ap (λ x. Some x) (sym here); found = subst (λ x. find (blocks h x) x ≡ Some l) (sym here) (sym e ∙ is) }

-- where no clause is blocked each id is idle
pub ends-idle : (h : Held) → IsStore h → NoBlocked (costs_of h.weights) (live_clauses h.slots) → (id : ℕ) → IsIdle h id
ends-idle h s none id c e =
    let m = live-at h.slots id c e in
    not-blocks h c s m (λ l own. elim (cases_Bool (blocks h c l)) [
      | inl t ↦ let b = blocks-blocked h c l t in absurd (none c l m own b.0 b.1)
      | inr f ↦ f
    ])

-- so what is remembered of a store after a run to the end tells that all were idle
pub finished-rested : (budget : Option ℕ) (old h : Held) (ran : Ran) (seen : Seen) → IsStore h → h.refuted ≡ false → IsAnswer blocked_clauses budget old h ran → ran.ending ≡ Finished → IsSeen seen h h → IsRested blocking.IsIdle seen h
finished-rested budget old h ran seen s n answer e own =
    let ended : IsEnd blocked_clauses budget h.inner (labelled_of old) (labelled_of h) Finished = subst (IsEnd blocked_clauses budget h.inner (labelled_of old) (labelled_of h)) e answer.ending in
    elim ended [
      | inl m ↦ absurd (none-empty h s n m)
      | inr none ↦ rested-now blocking.IsIdle seen h own (ends-idle h s none)
    ]
