-- Dropping a blocked clause.
use Rattle.std.proofs.Common.{◌≡◌, ◌⊎◌, ℕ, ◌+◌, ◌*◌, ◌-◌, ◌<◌, ◌≤◌, Bool, true, false, cond, List, [], ◌∷◌, ◌++◌, length, get_or, drop, refl, sym, ◌∙◌, ap, subst, arith, sum_by, inl, inr, Contains, All, IsTrue, append_assoc, add-one, drop-cons}
use Rattle.std.specs.Prelude.{Option, Some, None, IfSome, is_some, ◌==◌, ◌&&◌}
use Rattle.std.specs.List.{find}
use Rattle.std.specs.List.Sorted.{IsStrictlyIncreasing}
use Rattle.std.proofs.Math.Nat.{mul-le-mul_left}
use Rattle.std.proofs.lemmas.Bool.{cases_Bool, eqb-true, eq-eqb, or_cases, or_left, and_parts, true≢false, false≢true}
use Rattle.std.proofs.lemmas.List.{append-nil}
use Rattle.std.proofs.lemmas.List.Elements.{All-contains, Contains-append_cases, Contains-append_left, Contains-append_right}
use Rattle.std.proofs.lemmas.List.Sums.{sum_by-cons}
use Rattle.mp_logic.specs.Literal.{Literal, negation, IsUpTo}
use Rattle.mp_logic.specs.Labelled.{IsProper}
use Rattle.mp_logic.specs.Normal.{rises}
use Rattle.mp_logic.specs.Keeping.{State}
use Rattle.mp_logic.specs.Sets.{IsWith, with_hard}
use Rattle.mp_logic.specs.Rewrites.{set_repair, IsNoCost}
use Rattle.mp_logic.specs.Blocking.{IsBlocked, IsUnblocked, ClashesBeside}
use Rattle.mp_logic.specs.EndStates.{NoBlocked}
use Rattle.mp_logic.specs.declared.instances.Repair.{Repair}
use Rattle.mp_logic.proofs.Members.{Contains-none, Contains-first, Contains-later, Contains-cases}
use Rattle.mp_logic.proofs.Literals.{negation-negation, same_or_negation}
use Rattle.mp_logic.proofs.Rising.{rising_is_normal}
use Rattle.mp_logic.proofs.Blocked.{blocked_keeps, unblocked_stays}
use Rattle.mp_clauses.specs.Places.{place_of, is_in}
use Rattle.mp_store.specs.Held.{Held, labelled_of, IsUntouched}
use Rattle.mp_clauses.specs.Slots.{clause_of, is_live, live_clauses, cleared}
use Rattle.mp_clauses.specs.Weighing.{costs_of, weight_in}
use Rattle.mp_store.specs.Clashing.{all_clash, clash_beside}
use Rattle.mp_clauses.specs.Occurrences.{ids_with}
use Rattle.mp_store.specs.Rewriting.{changed_by, after}
use Rattle.mp_store.specs.Soundness.{IsStore}
use Rattle.mp_store.specs.Measures.{IsSmaller}
use Rattle.mp_store.specs.Replacing.{replaced, clauses_after, IsReplacement, slot_worth, CoversStay}
use Rattle.mp_store.specs.Techniques.{IsRun, KeepsIds}
use Rattle.mp_clauses.proofs.Found.{exact-ids}
use Rattle.mp_store.proofs.KeptFixing.{live-at, live-id, store-variables, cleared-other}
use Rattle.mp_store.proofs.Replaced.{replacing_leaves, replaced_clauses, replaced_sums, replaced_count, replacing_is_smaller}
use Rattle.mp_store.proofs.Runs.{run-same}
use Rattle.mp_store.proofs.Clashes.{free-literal, free-weight, clash-found, clash-by, all_clash-found, all_clash-missed, all-one, all-none, proper-set, find-some, find-none}
use Rattle.mp_turns.specs.Clauses.{live_ids, clause_places}
use Rattle.mp_turns.specs.Leaving.{DropsClauses}
use Rattle.mp_turns.specs.Turning.{IsTurning}
use Rattle.mp_turns.specs.Turned.{IsTurn}
use Rattle.mp_turns.specs.Underway.{StaysWithin}
use Rattle.mp_turns.specs.declared.turn.Turned.TheVariants.{Changed}
use Rattle.mp_turns.proofs.ClausePlaces.{live-placed, length-places, live-once, live-others, first-idle}
use Rattle.mp_turns.proofs.Replacing.{replacing-run, left-clause}
use Rattle.mp_turns.proofs.Subsets.{rising-few}
use Rattle.t_blocked.specs.BlockedClauses.{blocked_clauses, IsIdle, DropsFew, blocking}
use Rattle.t_blocked.specs.Dropping.{blocks, dropping_of, near_in, AreNear, IsDropped}

-- what holds of each live clause
pub live-normal : (h : Held) (c : List Literal) → IsStore h → Contains (live_clauses h.slots) c → IsTrue (rises 0 c)
live-normal h c s m = All-contains (λ c. IsTrue (rises 0 c)) (live_clauses h.slots) c s.labelled.hard_normal m

pub live-within : (h : Held) (c : List Literal) → IsStore h → Contains (live_clauses h.slots) c → All (IsUpTo h.vars) c
live-within h c s m = All-contains (All (IsUpTo h.vars)) (live_clauses h.slots) c s.labelled.hard_within m

pub literal-within : (h : Held) (c : List Literal) (l : Literal) → IsStore h → Contains (live_clauses h.slots) c → Contains c l → IsUpTo h.vars l
literal-within h c l s m i = All-contains (IsUpTo h.vars) c l (live-within h c s m) i

-- the test
pub blocks-blocked : (h : Held) (c : List Literal) (l : Literal) → blocks h c l ≡ true → IsNoCost l (costs_of h.weights) × IsBlocked l c (live_clauses h.slots)
blocks-blocked h c l t =
    let parts = and_parts (weight_in h.weights l == 0) (all_clash l.variable c h.slots (ids_with (place_of (negation l)) h.slots)) t in (
      free-literal h.weights l (eqb-true (weight_in h.weights l) 0 parts.0),
      λ d m i.
          let k = clash-found l.variable c d (all_clash-found l.variable c h.slots (negation l) parts.1 d m i) in
          (k.0, k.2, λ e. k.1 (ap (λ (x : Literal). x.variable) e), k.3),
    )

beside-clash : (c d : List Literal) (l : Literal) → ((k : Literal) → Contains c k → 1 ≤ k.variable) → IsTrue (rises 0 c) → Contains c l → ClashesBeside l c d → clash_beside l.variable c d ≡ true
beside-clash c d l vs normal own k =
    clash-by l.variable c d k.0
    (λ e. elim (same_or_negation k.0 l e) [
      | inl s ↦ k.2 s
      | inr n ↦ (rising_is_normal c vs).1 normal (l, own, subst (Contains c) n k.1)
    ])
    k.1 k.3

pub not-blocks : (h : Held) (c : List Literal) → IsStore h → Contains (live_clauses h.slots) c → ((l : Literal) → Contains c l → blocks h c l ≡ false) → IsUnblocked (costs_of h.weights) (live_clauses h.slots) c
not-blocks h c s m misses l own free =
    let z : (weight_in h.weights l == 0) ≡ true = eq-eqb (weight_in h.weights l) 0 (free-weight h.weights l free) in
    let f : all_clash l.variable c h.slots (ids_with (place_of (negation l)) h.slots) ≡ false = sym (ap (λ b. b && all_clash l.variable c h.slots (ids_with (place_of (negation l)) h.slots)) z) ∙ misses l own in
    let d = all_clash-missed l.variable c h.slots (negation l) f in
    (d.0, d.1, d.2, λ k. true≢false (sym (beside-clash c d.0 l (λ j i. (literal-within h c j s m i).0) (live-normal h c s m) own k) ∙ d.3))

pub unblocked-idle : (h : Held) (id : ℕ) (c : List Literal) → IsStore h → clause_of h.slots id ≡ Some c → find (blocks h c) c ≡ None → IsIdle h id
unblocked-idle h id c s e none d f =
    let same : c ≡ d = let both : Some c ≡ Some d = sym e ∙ f in cc in
    subst (IsUnblocked (costs_of h.weights) (live_clauses h.slots)) same (not-blocks h c s (live-at h.slots id c e) (λ l i. find-none (blocks h c) c l none i))

pub dead-idle : (h : Held) (id : ℕ) → is_live h.slots id ≡ false → IsIdle h id
dead-idle h id f c e = absurd (true≢false (sym (ap is_some e) ∙ f))

-- the rewrite
pub dropping-fits : (h : Held) (id : ℕ) (l : Literal) (c : List Literal) → IsStore h → clause_of h.slots id ≡ Some c → Contains c l → IsReplacement (dropping_of id l c) h
dropping-fits h id l c s e i =
    let m = live-at h.slots id c e in
    record {
      keeps_costs = record { costs = refl; shift = refl; fresh = refl };
      gone_live = all-one (λ id. is_live h.slots id ≡ true) id (ap is_some e);
      gone_distinct = refl;
      added_normal = all-none (λ c. IsTrue (rises 0 c));
      added_within = all-none (All (IsUpTo h.vars));
      repairs_proper = all-one (IsProper h.vars) (set_repair l c) (proper-set h.vars l c (literal-within h c l s m i) (live-normal h c s m) (live-within h c s m));
    }

one-in : (id k : ℕ) → is_in k (id ∷ []) ≡ true → id ≡ k
one-in id k t = elim (or_cases (id == k) false t) [ inl e ↦ eqb-true id k e | inr f ↦ absurd (false≢true f) ]

left-with : (h : Held) (id : ℕ) (c : List Literal) → clause_of h.slots id ≡ Some c → IsWith c (live_clauses (replaced (id ∷ []) [] h.slots)) (live_clauses h.slots)
left-with h id c e =
    let all = replaced_clauses (id ∷ []) [] h.slots in
    record {
      rest = λ d m. elim (all.only d m) [ inl w ↦ live-at h.slots w.0 d w.1 | inr n ↦ absurd (Contains-none d n) ];
      own = live-at h.slots id c e;
      only = λ d m.
          let at = live-id h.slots d m in
          elim (cases_Bool (is_in at.0 (id ∷ []))) [
            | inl t ↦ let both : Some c ≡ Some d = sym e ∙ (ap (clause_of h.slots) (one-in id at.0 t) ∙ at.1) in let same : c ≡ d = cc in inr (sym same)
            | inr f ↦ inl (all.kept at.0 d at.1 f)
          ];
    }

-- the state once a clause is dropped
pub dropped-state : (id : ℕ) (old new : Held) (near : List ℕ) → (d : IsDropped id old new near) → labelled_of new ≡ with_hard (labelled_of old) (live_clauses (replaced (id ∷ []) [] old.slots))
dropped-state id old new near d = ap labelled_of d.is ∙ replacing_leaves (dropping_of id d.lit d.clause) old (record { costs = refl; shift = refl; fresh = refl })

pub dropped-run : (id : ℕ) (old new : Held) (near : List ℕ) → IsStore old → IsDropped id old new near → IsRun blocked_clauses.LeavesAlone old new
dropped-run id old new near s d =
    let w = left-with old id d.clause d.live in
    replacing-run blocked_clauses.LeavesAlone (id ∷ []) [] (set_repair d.lit d.clause ∷ []) old new d.is
    (blocked_keeps (labelled_of old) d.lit d.clause (live_clauses (replaced (id ∷ []) [] old.slots)) (store-variables old s) w d.has (λ x m i. d.blocked x (w.rest x m) i) d.free)
    (record { costs = record { vars = refl; costs = refl; offset = refl }; clauses = w.rest })

pub dropped-by : (id : ℕ) (old new : Held) (c : List Literal) (l : Literal) (near : List ℕ) → clause_of old.slots id ≡ Some c → find (blocks old c) c ≡ Some l → IsUntouched (after (dropping_of id l c) old) new → AreNear c old.slots near → IsDropped id old new near
dropped-by id old new c l near live found is named =
    let own = find-some (blocks old c) c l found in
    let test = blocks-blocked old c l own.1 in
    record { clause = c; lit = l; live = live; has = own.0; free = test.0; blocked = test.1; is = is; named = named }

new-slots : (id : ℕ) (old new : Held) (near : List ℕ) → (d : IsDropped id old new near) → new.slots ≡ replaced (id ∷ []) [] old.slots
new-slots id old new near d = ap (λ (h : Held). h.slots) d.is

-- another clause than the dropped one stays
pub other-stays : (id k : ℕ) (old new : Held) (near : List ℕ) (c : List Literal) → (d : IsDropped id old new near) → clause_of old.slots k ≡ Some c → (d.clause ≡ c → ⊥) → clause_of new.slots k ≡ Some c
other-stays id k old new near c d live other =
    elim (cases_Bool (is_in k (id ∷ []))) [
      | inl t ↦ let both : Some d.clause ≡ Some c = sym d.live ∙ (ap (clause_of old.slots) (one-in id k t) ∙ live) in let same : d.clause ≡ c = cc in absurd (other same)
      | inr f ↦ ap (λ s. clause_of s k) (new-slots id old new near d) ∙ (ap (λ s. clause_of s k) (append-nil (cleared (id ∷ []) old.slots)) ∙ (cleared-other (id ∷ []) old.slots k f ∙ live))
    ]

pub dropped-idle : (id : ℕ) (old new : Held) (near : List ℕ) → IsDropped id old new near → IsIdle new id
dropped-idle id old new near d c e =
    let w = left-clause (id ∷ []) old.slots id c (sym (ap (λ s. clause_of s id) (new-slots id old new near d)) ∙ e) in
    absurd (true≢false (sym (or_left (id == id) false (eq-eqb id id refl)) ∙ w.1))

pub idle-or-near : (id other : ℕ) (old new : Held) (near : List ℕ) → IsDropped id old new near → IsIdle old other → IsIdle new other ⊎ Contains near other
idle-or-near id other old new near d idle =
    let ds = live_clauses (replaced (id ∷ []) [] old.slots) in
    let was : (c : List Literal) → clause_of new.slots other ≡ Some c → clause_of old.slots other ≡ Some c = λ c e.
    (left-clause (id ∷ []) old.slots other c (sym (ap (λ s. clause_of s other) (new-slots id old new near d)) ∙ e)).0 in
    let state : labelled_of new ≡ with_hard (labelled_of old) ds = dropped-state id old new near d in
    let step : (slot : Option (List Literal)) → clause_of old.slots other ≡ slot → IsIdle new other ⊎ Contains near other =
    λ (t : Option (List Literal)). elim t as (λ slot. clause_of old.slots other ≡ slot → IsIdle new other ⊎ Contains near other) [
      | None ↦ λ e. inl (λ c f. let g = was c f in absurd (cc))
      | Some x ↦ λ e.
          elim (unblocked_stays (costs_of old.weights) d.clause x (live_clauses old.slots) ds (left-with old id d.clause d.live) (idle x e)) [
            | inl n ↦ inr (d.named.each other x e n)
            | inr u ↦ inl (λ c f.
                let g : Some x ≡ Some c = sym e ∙ was c f in
                let same : x ≡ c = cc in
                let P : State → Type 0 = λ s. IsUnblocked s.costs s.hard c in
                subst P (sym state) (subst (IsUnblocked (costs_of old.weights) ds) same u))
          ]
    ] in
    step (clause_of old.slots other) refl

some-long : (c : List Literal) (l : Literal) → Contains c l → 1 ≤ length c
some-long [] l i = absurd (Contains-none l i)
some-long (k ∷ c) l i = omega arith

pub dropped-smaller : (id : ℕ) (old new : Held) (near : List ℕ) → IsStore old → IsDropped id old new near → IsSmaller (labelled_of new) (labelled_of old) × (sum_by length (live_clauses new.slots) < sum_by length (live_clauses old.slots))
dropped-smaller id old new near s d =
    let r = dropping_of id d.lit d.clause in
    let ds = live_clauses (replaced (id ∷ []) [] old.slots) in
    let state : labelled_of new ≡ with_hard (labelled_of old) ds = dropped-state id old new near d in
    let fits = dropping-fits old id d.lit d.clause s d.live d.has in
    let cover : CoversStay (labelled_of old).costs old.slots r.gone (clauses_after r old) = λ k c g e.
    let both : Some d.clause ≡ Some c = sym d.live ∙ (ap (clause_of old.slots) (one-in id k g) ∙ e) in
    let same : d.clause ≡ c = cc in
    inl (d.lit, subst (λ x. Contains x d.lit) same d.has, d.free) in
    let smaller : IsSmaller (labelled_of (changed_by r old)) (labelled_of old) = replacing_is_smaller r old fits cover (inl (omega arith)) in
    let sums = replaced_sums length (id ∷ []) [] old.slots refl in
    let own : slot_worth length (clause_of old.slots id) ≡ length d.clause = ap (slot_worth length) d.live in
    let long = some-long d.clause d.lit d.has in
    let one = sum_by-cons (λ k. slot_worth length (clause_of old.slots k)) id [] in
    let less : sum_by length ds < sum_by length (live_clauses old.slots) = omega arith in
    let P : State → Type 0 = λ t. sum_by length t.hard < sum_by length (live_clauses old.slots) in
    let Q : Held → Type 0 = λ t. IsSmaller (labelled_of t) (labelled_of old) in
    (subst Q (sym d.is) smaller, subst P (sym state) less)

pub idle-ends : (h : Held) → ((id : ℕ) → IsIdle h id) → NoBlocked (costs_of h.weights) (live_clauses h.slots)
idle-ends h all c l m i free blocked =
    let at = live-id h.slots c m in
    let d = all at.0 c at.1 l i free in
    d.3 (blocked d.0 d.1 d.2)

-- the clauses that are near
near-in : (slots : List (Option (List Literal))) (c : List Literal) (l : Literal) (id : ℕ) → Contains c l → Contains (ids_with (place_of (negation l)) slots) id → Contains (near_in slots c) id
near-in slots [] l id i j = absurd (Contains-none l i)
near-in slots (k ∷ c) l id i j =
    elim (Contains-cases k c l i) [
      | inl e ↦ Contains-append_left (ids_with (place_of (negation k)) slots) (near_in slots c) id (subst (λ x. Contains (ids_with (place_of (negation x)) slots) id) e j)
      | inr r ↦ Contains-append_right (ids_with (place_of (negation k)) slots) (near_in slots c) id (near-in slots c l id r j)
    ]

in-near : (slots : List (Option (List Literal))) (c : List Literal) (id : ℕ) → Contains (near_in slots c) id → (l : Literal) × Contains c l × Contains (ids_with (place_of (negation l)) slots) id
in-near slots [] id j = absurd (Contains-none id j)
in-near slots (k ∷ c) id j =
    elim (Contains-append_cases (ids_with (place_of (negation k)) slots) (near_in slots c) id j) [
      | inl a ↦ (k, Contains-first k c, a)
      | inr b ↦ let w = in-near slots c id b in (w.0, Contains-later k c w.0 w.1, w.2)
    ]

pub near-is : (c : List Literal) (slots : List (Option (List Literal))) (ids : List ℕ) → IsStrictlyIncreasing ids → ((id : ℕ) → Contains ids id → Contains (near_in slots c) id) → ((id : ℕ) → Contains (near_in slots c) id → Contains ids id) → AreNear c slots ids
near-is c slots ids rising from to = record {
  rising = rising;
  each = λ id d e n.
      let own : Contains c (negation n.0) = n.2 in
      let there = ((exact-ids (negation (negation n.0)) slots).each id).1 (d, e, subst (Contains d) (sym (negation-negation n.0)) n.1) in
      to id (near-in slots c (negation n.0) id own there);
  only = λ id j.
      let w = in-near slots c id (from id j) in
      let d = ((exact-ids (negation w.0) slots).each id).0 w.2 in
      (d.0, d.1, (negation w.0, d.2, subst (Contains c) (sym (negation-negation w.0)) w.1));
}

pub near-step : (slots : List (Option (List Literal))) (us : List Literal) (i : ℕ) (u : Literal) (made a all : List ℕ) → i < length us → u ≡ get_or us i u → a ≡ ids_with (place_of (negation u)) slots → made ++ near_in slots (drop i us) ≡ all → (made ++ a) ++ near_in slots (drop (i + 1) us) ≡ all
near-step slots us i u made a all h e f k =
    let front : drop i us ≡ get_or us i u ∷ drop (i + 1) us = rw (add-one, drop-cons us i u) in
    let own : drop i us ≡ u ∷ drop (i + 1) us = front ∙ ap (λ x. x ∷ drop (i + 1) us) (sym e) in
    let was = rw own at k in
    rw f (append_assoc made (ids_with (place_of (negation u)) slots) (near_in slots (drop (i + 1) us)) ∙ was)

-- a search, one item on
pub find-step : (p : Literal → Bool) (us : List Literal) (i : ℕ) (u : Literal) (all : Option Literal) → i < length us → u ≡ get_or us i u → find p (drop i us) ≡ all → (p u ≡ true → all ≡ Some u) × (p u ≡ false → find p (drop (i + 1) us) ≡ all)
find-step p us i u all h e k =
    let front : drop i us ≡ get_or us i u ∷ drop (i + 1) us = rw (add-one, drop-cons us i u) in
    let own : drop i us ≡ u ∷ drop (i + 1) us = front ∙ ap (λ x. x ∷ drop (i + 1) us) (sym e) in
    let was : find p (u ∷ drop (i + 1) us) ≡ all = rw own at k in (
      λ t. sym was ∙ ap (λ b. cond b (Some u) (find p (drop (i + 1) us))) t,
      λ f. sym (ap (λ b. cond b (Some u) (find p (drop (i + 1) us))) f) ∙ was,
    )

-- the technique by turns
none_some : {X : Type 0} (o : Option X) (x : X) → o ≡ None → o ≡ Some x → ⊥
none_some o x e f = cc

drops-twice : (a b c : State) (x y : List Repair) → DropsClauses a b x → DropsClauses b c y → DropsClauses a c (x ++ y)
drops-twice a b c x y f g = record {
  costs = record { vars = g.costs.vars ∙ f.costs.vars; costs = g.costs.costs ∙ f.costs.costs; offset = g.costs.offset ∙ f.costs.offset };
  clauses = λ d m. f.clauses d (g.clauses d m);
}

untouched-few : (n : ℕ) (h u : Held) → IsUntouched h u → DropsFew n h u
untouched-few n h u e =
    let same : u.slots ≡ h.slots = ap (λ (x : Held). x.slots) e in
    let many = ap (λ s. length (live_clauses s)) same in
    record { ids = λ id c f. sym (ap (λ s. clause_of s id) same) ∙ f; few = omega arith }

few-twice : (m n : ℕ) (a b c : Held) → DropsFew m a b → DropsFew n b c → DropsFew (m + n) a c
few-twice m n a b c f g =
    let first = f.few in
    let last = g.few in
    record { ids = λ id x e. f.ids id x (g.ids id x e); few = omega arith }

untouched-idle : (h u : Held) (id : ℕ) → IsUntouched h u → IsIdle h id → IsIdle u id
untouched-idle h u id e idle = let P : Held → Type 0 = λ x. IsIdle x id in subst P (sym e) idle

pub blocking-sound : IsTurning blocking
blocking-sound = record {
  itself = λ s. record { costs = record { vars = refl; costs = refl; offset = refl }; clauses = λ c m. m };
  twice = drops-twice;
  stays_itself = untouched-few 0;
  stays_twice = few-twice;
  counted = λ h s. live-placed h;
  distinct = λ h s. live-once h.slots;
  others = λ h id s. elim (live-others h.slots id) [ inl m ↦ inl m | inr n ↦ inr (λ c e. absurd (none_some (clause_of h.slots id) c n e)) ];
  untouched = untouched-idle;
  ended = λ h s u idle. idle-ends h idle;
  idle = λ h first rest s e own. first-idle blocked_clauses h (IsIdle h) first rest refl e own (λ id k c p idle. (c, p.place, idle c p.clause));
}

near-few : (c : List Literal) (h : Held) (ids : List ℕ) → AreNear c h.slots ids → length ids ≤ length (clause_places (labelled_of h))
near-few c h ids a =
    let few = rising-few ids (live_ids h.slots) a.rising (λ i m.
    let w = a.only i m in
    elim (live-others h.slots i) [ inl l ↦ l | inr n ↦ absurd (none_some (clause_of h.slots i) w.0 n w.1) ]) in
    let same = live-placed h in
    omega (arith, few, same)

dropped-count : (id : ℕ) (old new : Held) (near : List ℕ) → IsDropped id old new near → length (live_clauses new.slots) + 1 ≡ length (live_clauses old.slots)
dropped-count id old new near d =
    let count = replaced_count (id ∷ []) [] old.slots (all-one (λ k. is_live old.slots k ≡ true) id (ap is_some d.live)) refl in
    let P : State → Type 0 = λ s. length s.hard + 1 ≡ length (live_clauses old.slots) in
    subst P (sym (dropped-state id old new near d)) (omega (arith, count))

-- a turn that leaves the store as it is
pub untouched-run : (h u : Held) → IsUntouched h u → IsRun blocked_clauses.LeavesAlone h u
untouched-run h u e = run-same blocked_clauses.LeavesAlone h u blocking-sound.itself e

-- what a turn leaves of ids and clauses
pub untouched-stays : (h u : Held) → IsUntouched h u → DropsFew 1 h u
untouched-stays h u e = untouched-few 1 h u e

pub dropped-stays : (id : ℕ) (old new : Held) (near : List ℕ) → IsDropped id old new near → DropsFew 1 old new
dropped-stays id old new near d =
    let count = dropped-count id old new near d in
    record {
      ids = λ k c e. (left-clause (id ∷ []) old.slots k c (sym (ap (λ s. clause_of s k) (new-slots id old new near d)) ∙ e)).0;
      few = omega arith;
    }

pub dropped-turned : (id : ℕ) (old new : Held) (near again : List ℕ) → IsStore old → IsDropped id old new near → again ≡ near → IsTurn blocking id old new again Changed
dropped-turned id old new near again s d e =
    let small = dropped-smaller id old new near s d in
    let lower = small.1 in
    let most = near-few d.clause old near d.named in
    let many = ap (λ (xs : List ℕ). length xs) e in
    let count = dropped-count id old new near d in
    let was = length-places (labelled_of old) in
    let now = length-places (labelled_of new) in
    let fall : ℕ = sum_by length (live_clauses old.slots) - sum_by length (live_clauses new.slots) in
    let wide : length (clause_places (labelled_of old)) * 1 ≤ length (clause_places (labelled_of old)) * fall = mul-le-mul_left {m = 1} {n = fall} (length (clause_places (labelled_of old))) (omega arith) in
    inr (record {
      kept = λ i idle. elim (idle-or-near id i old new near d idle) [ inl a ↦ inr a | inr b ↦ inl (subst (λ (xs : List ℕ). Contains xs i) (sym e) b) ];
      own = inr (dropped-idle id old new near d);
      falls = omega arith;
      few = omega (arith, wide, most, many);
      fewer = omega (arith, count, was, now);
      smaller = small.0;
    })

-- what the turns of a budget leave
pub stays-ids : (budget : Option ℕ) (h u : Held) → StaysWithin blocking budget h u → KeepsIds h u
stays-ids budget h u w = w.stays.ids

pub stays-few : (budget : Option ℕ) (h u : Held) → StaysWithin blocking budget h u → IfSome budget (λ b. length (live_clauses h.slots) ≤ length (live_clauses u.slots) + b)
stays-few None h u w = tt
stays-few (Some b) h u w = let few = w.stays.few in let within = w.within in omega arith
