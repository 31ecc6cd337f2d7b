-- What an elimination keeps, what it makes smaller, and which variables it leaves idle.
use Rattle.std.proofs.Common.{◌≡◌, ◌≢◌, ◌⊎◌, ℕ, ◌<◌, ◌≤◌, Bool, true, false, not, cond, List, [], ◌∷◌, ◌++◌, map, length, get_or, set, zero, suc, refl, sym, ◌∙◌, ap, subst, arith, inl, inr, Contains, All, IsTrue}
use Rattle.std.specs.Prelude.{Option, Some, None, is_some, ◌||◌, nat_lt}
use Rattle.std.specs.List.{filter}
use Rattle.std.proofs.lemmas.Bool.{cases_Bool, cases_eq, ne_eqb, and_parts, and_from, lt-ltb, true≢false, not-true}
use Rattle.std.proofs.lemmas.List.{length-append, append-nil}
use Rattle.std.proofs.lemmas.List.Elements.{Contains-append_cases}
use Rattle.mp_logic.specs.Literal.{Literal, IsUpTo}
use Rattle.mp_logic.specs.Labelled.{IsProper}
use Rattle.mp_logic.specs.Normal.{rises}
use Rattle.mp_logic.specs.Keeping.{State}
use Rattle.mp_logic.specs.Sets.{with_hard}
use Rattle.mp_logic.specs.Rewrites.{set_repair, IsNoCost}
use Rattle.mp_logic.specs.Eliminating.{elimination_repairs}
use Rattle.mp_logic.specs.Sets.{IsWithList}
use Rattle.mp_logic.proofs.Members.{Contains-first, Contains-later, Contains-one, All-from_contained}
use Rattle.mp_logic.proofs.Rising.{rising_is_normal}
use Rattle.mp_logic.proofs.Eliminated.{eliminating_keeps, Contains-map}
use Rattle.mp_clauses.specs.Places.{place_of, has, is_in, no_repeats}
use Rattle.mp_store.specs.Held.{Held, labelled_of}
use Rattle.mp_clauses.specs.Slots.{clause_of, is_live, live_clauses}
use Rattle.mp_clauses.specs.Occurrences.{slot_has, ids_with}
use Rattle.mp_clauses.specs.Slots.{cleared}
use Rattle.mp_store.specs.Soundness.{IsStore}
use Rattle.mp_store.specs.Measures.{occurs, occurring, IsSmaller}
use Rattle.mp_store.specs.Replacing.{replaced, clauses_after, IsReplacement, CoversStay, GetFewer}
use Rattle.mp_store.specs.Techniques.{IsRun}
use Rattle.mp_clauses.proofs.Found.{is_in-by, is_in-contains, ids_where-once, has-contains}
use Rattle.mp_store.proofs.Sound.{live-after}
use Rattle.mp_store.proofs.KeptFixing.{live-at, cleared-other, store-variables}
use Rattle.mp_store.proofs.Measured.{occurs-by, occurs-found, occurring-lower}
use Rattle.mp_store.proofs.Replaced.{replacing_leaves, replaced_clauses, replacing_is_smaller}
use Rattle.mp_turns.proofs.Replacing.{replacing-run, replacing-state}
use Rattle.mp_store.proofs.Clashes.{free-literal, proper-set}
use Rattle.mp_store.proofs.Fixes.{one-literal}
use Rattle.t_elim.specs.Resolving.{resolvents_of}
use Rattle.t_elim.specs.Eliminating.{positive, negative_of, having, PaysOff, IsIdleVariable, NoEliminable, variable_elimination}
use Rattle.t_elim.specs.Resolved.{is_candidate, ids_on, elimination_of, IsEliminatedAt}
use Rattle.t_elim.proofs.Resolved.{resolvent-normal, resolvent-within}
use Rattle.t_elim.proofs.Counted.{length-having, resolvents-count}
use Rattle.t_elim.proofs.Gone.{candidate-is, listed-at, other-idle, live-normal, live-within, literal-within, left_clauses, on-cases, on-clause, stays-off, parents, store-eliminated}

-- the rewrite may be applied
no_repeats-append : (xs ys : List ℕ) → no_repeats xs ≡ true → no_repeats ys ≡ true → ((k : ℕ) → Contains xs k → Contains ys k → ⊥) → no_repeats (xs ++ ys) ≡ true
no_repeats-append [] ys a b apart = b
no_repeats-append (x ∷ xs) ys a b apart =
    let parts = and_parts (not (is_in x xs)) (no_repeats xs) a in
    let rest = no_repeats-append xs ys parts.1 b (λ k i j. apart k (Contains-later x xs k i) j) in
    let own : is_in x (xs ++ ys) ≡ false =
    elim (cases_Bool (is_in x (xs ++ ys))) [
      | inr f ↦ f
      | inl t ↦ absurd (elim (Contains-append_cases xs ys x (is_in-contains (xs ++ ys) x t)) [
        | inl i ↦ true≢false (sym (is_in-by xs x i) ∙ not-true (is_in x xs) parts.0)
        | inr j ↦ apart x (Contains-first x xs) j
      ])
    ] in
    and_from (not (is_in x (xs ++ ys))) (no_repeats (xs ++ ys)) (ap not own) rest

never-both-signs : (v : ℕ) (h : Held) (c : List Literal) → IsStore h → Contains (live_clauses h.slots) c → Contains c (positive v) → Contains c (negative_of v) → ⊥
never-both-signs v h c s m i j = (rising_is_normal c (λ k n. (literal-within h c k s m n).0)).1 (live-normal h c s m) (positive v, i, j)

pub elimination-fits : (v : ℕ) (ws : List (List Literal)) (h : Held) → IsStore h → IsUpTo h.vars (positive v) → IsWithList (positive v) (live_clauses h.slots) ws → IsReplacement (elimination_of v ws h) h
elimination-fits v ws h s up w =
    let P = ids_with (place_of (positive v)) h.slots in
    let N = ids_with (place_of (negative_of v)) h.slots in
    let up_n : IsUpTo h.vars (negative_of v) = up in
    let n_normal : IsTrue (rises 0 (negative_of v ∷ [])) = and_from (nat_lt 0 v) true (lt-ltb 0 v up.0) refl in
    record {
      keeps_costs = record { costs = refl; shift = refl; fresh = refl };
      gone_live = All-from_contained (λ id. is_live h.slots id ≡ true) (ids_on v h.slots) (λ id i. elim (on-cases v h.slots id i) [ inl a ↦ ap is_some a.is | inr b ↦ ap is_some b.is ]);
      gone_distinct = no_repeats-append P N (ids_where-once (slot_has (place_of (positive v))) 0 h.slots) (ids_where-once (slot_has (place_of (negative_of v))) 0 h.slots) (λ id i j.
          let a = listed-at (positive v) h.slots id i in
          let b = listed-at (negative_of v) h.slots id j in
          let both : Some a.clause ≡ Some b.clause = sym a.is ∙ b.is in
          let same : a.clause ≡ b.clause = cc in
          never-both-signs v h a.clause s (live-at h.slots id a.clause a.is) a.has (subst (λ x. Contains x (negative_of v)) (sym same) b.has));
      added_normal = All-from_contained (λ c. IsTrue (rises 0 c)) (resolvents_of v h.slots P N) (λ r m.
          let q = parents v h r s m in
          subst (λ x. IsTrue (rises 0 x)) (sym q.made) (resolvent-normal v q.c q.d (live-normal h q.c s q.c_live) (live-normal h q.d s q.d_live)));
      added_within = All-from_contained (All (IsUpTo h.vars)) (resolvents_of v h.slots P N) (λ r m.
          let q = parents v h r s m in
          subst (All (IsUpTo h.vars)) (sym q.made) (resolvent-within h.vars v q.c q.d (live-within h q.c s q.c_live) (live-within h q.d s q.d_live)));
      repairs_proper = All-from_contained (IsProper h.vars) (elimination_repairs (positive v) ws) (λ r m.
          elim (Contains-append_cases (map (set_repair (positive v)) ws) (set_repair (negative_of v) (negative_of v ∷ []) ∷ []) r m) [
            | inl a ↦
                let c = Contains-map (set_repair (positive v)) ws r a in
                let live = (w.only c.0 c.1).0 in
                subst (IsProper h.vars) (sym c.2) (proper-set h.vars (positive v) c.0 up (live-normal h c.0 s live) (live-within h c.0 s live))
            | inr b ↦ subst (IsProper h.vars) (sym (Contains-one (set_repair (negative_of v) (negative_of v ∷ [])) r b)) (proper-set h.vars (negative_of v) (negative_of v ∷ []) up_n n_normal (one-literal h.vars (negative_of v) up_n))
          ]);
    }

-- it is a run
pub eliminated-run : (v : ℕ) (old new : Held) (near : List ℕ) → IsStore old → IsEliminatedAt v old new near → IsRun variable_elimination.LeavesAlone old new
eliminated-run v old new near s d =
    let c = candidate-is old v d.candidate in
    let keeps = eliminating_keeps (labelled_of old) (positive v) d.repaired (left_clauses v old) (store-variables old s) c.up.0 (free-literal old.weights (positive v) c.free) (free-literal old.weights (negative_of v) c.free_negative) d.repaired_with (store-eliminated v old s) in
    replacing-run variable_elimination.LeavesAlone (ids_on v old.slots) (resolvents_of v old.slots (ids_with (place_of (positive v)) old.slots) (ids_with (place_of (negative_of v)) old.slots)) (elimination_repairs (positive v) d.repaired) old new d.is keeps (record { vars = refl; costs = refl; offset = refl })

-- the state afterwards, where it is not refuted
pub eliminated-state : (v : ℕ) (old new : Held) (near : List ℕ) → new.refuted ≡ false → IsEliminatedAt v old new near → labelled_of new ≡ with_hard (labelled_of old) (left_clauses v old)
eliminated-state v old new near u d =
    replacing-state (ids_on v old.slots) (resolvents_of v old.slots (ids_with (place_of (positive v)) old.slots) (ids_with (place_of (negative_of v)) old.slots)) (elimination_repairs (positive v) d.repaired) old new d.is u

-- variables that occur afterwards occurred before, and the one that went does not
still-occurs : (v u : ℕ) (h : Held) → IsStore h → occurs u (left_clauses v h) ≡ true → occurs u (live_clauses h.slots) ≡ true
still-occurs v u h s t =
    let o = occurs-found u (left_clauses v h) t in
    let all = replaced_clauses (ids_on v h.slots) (resolvents_of v h.slots (ids_with (place_of (positive v)) h.slots) (ids_with (place_of (negative_of v)) h.slots)) h.slots in
    elim (all.only o.clause o.live) [
      | inl w ↦ occurs-by u (live_clauses h.slots) o.clause o.literal (live-at h.slots w.0 o.clause w.1) o.has o.variable
      | inr m ↦
          let q = parents v h o.clause s m in
          elim (q.is.only o.literal o.has).1 [
            | inl i ↦ occurs-by u (live_clauses h.slots) q.c o.literal q.c_live i o.variable
            | inr i ↦ occurs-by u (live_clauses h.slots) q.d o.literal q.d_live i o.variable
          ]
    ]

occurs-no-more : (v : ℕ) (h : Held) → IsStore h → occurs v (left_clauses v h) ≡ false
occurs-no-more v h s =
    elim (cases_Bool (occurs v (left_clauses v h))) [
      | inr f ↦ f
      | inl t ↦
          let o = occurs-found v (left_clauses v h) t in
          let all = replaced_clauses (ids_on v h.slots) (resolvents_of v h.slots (ids_with (place_of (positive v)) h.slots) (ids_with (place_of (negative_of v)) h.slots)) h.slots in
          absurd (elim (all.only o.clause o.live) [
            | inl w ↦ stays-off v h.slots w.0 o.clause w.1 w.2 o.literal o.has o.variable
            | inr m ↦ let q = parents v h o.clause s m in (q.is.only o.literal o.has).0 o.variable
          ])
    ]

fewer-occur : (v : ℕ) (h : Held) → IsStore h → is_candidate h v ≡ true → occurring h.vars (left_clauses v h) < occurring h.vars (live_clauses h.slots)
fewer-occur v h s t =
    let c = candidate-is h v t in
    occurring-lower h.vars (live_clauses h.slots) (left_clauses v h) v c.up.0 c.up.1 (λ x. still-occurs v x h s) c.occurs (occurs-no-more v h s)

-- a change makes the state smaller, and fewer variables occur
pub eliminated-smaller : (v : ℕ) (old new : Held) (near : List ℕ) → IsStore old → new.refuted ≡ false → IsEliminatedAt v old new near → IsSmaller (labelled_of new) (labelled_of old) × (variable_elimination.size (labelled_of new) < variable_elimination.size (labelled_of old))
eliminated-smaller v old new near s u d =
    let r = elimination_of v d.repaired old in
    let P = ids_with (place_of (positive v)) old.slots in
    let N = ids_with (place_of (negative_of v)) old.slots in
    let c = candidate-is old v d.candidate in
    let fits = elimination-fits v d.repaired old s c.up d.repaired_with in
    let less = fewer-occur v old s d.candidate in
    let cover : CoversStay (labelled_of old).costs old.slots r.gone (clauses_after r old) = λ id x g e. inl (elim (on-clause v old.slots id x e (is_in-contains (ids_on v old.slots) id g)) as (λ w. (l : Literal) × Contains x l × IsNoCost l (labelled_of old).costs) [
      | inl i ↦ (positive v, i, free-literal old.weights (positive v) c.free)
      | inr i ↦ (negative_of v, i, free-literal old.weights (negative_of v) c.free_negative)
    ]) in
    let count = resolvents-count v old.slots (positive v) (negative_of v) in
    let p = length-having (positive v) old.slots in
    let q = length-having (negative_of v) old.slots in
    let few = d.pays.1 in
    let gone = length-append P N in
    let most : length r.added ≤ length r.gone = omega arith in
    let fewer : GetFewer r old = elim (cases_eq (length r.added) (length r.gone)) [ inl e ↦ inr (e, inl less) | inr n ↦ inl (omega arith) ] in
    let smaller = replacing_is_smaller r old fits cover fewer in
    let state = eliminated-state v old new near u d in
    let left = replacing_leaves r old (record { costs = refl; shift = refl; fresh = refl }) in
    let S : State → Type 0 = λ t. IsSmaller t (labelled_of old) in
    let T : State → Type 0 = λ t. occurring t.vars t.hard < occurring old.vars (live_clauses old.slots) in
    (subst S (left ∙ sym state) smaller, subst T (sym state) less)

-- the variable is idle afterwards
pub turned-idle : (v : ℕ) (old new : Held) (near : List ℕ) → IsStore old → new.refuted ≡ false → IsEliminatedAt v old new near → IsIdleVariable (labelled_of new) v
turned-idle v old new near s u d =
    let state = eliminated-state v old new near u d in
    let P : State → Type 0 = λ x. IsIdleVariable x v in
    subst P (sym state) (λ o free pays. true≢false (sym o ∙ occurs-no-more v old s))

-- clauses with a literal are the same where none of them goes or comes
filter-append : (p : List Literal → Bool) (xs ys : List (List Literal)) → filter p (xs ++ ys) ≡ filter p xs ++ filter p ys
filter-append p [] ys = refl
filter-append p (x ∷ xs) ys =
    let rest = filter-append p xs ys in
    elim (p x) as (λ b. cond b (x ∷ filter p (xs ++ ys)) (filter p (xs ++ ys)) ≡ cond b (x ∷ filter p xs) (filter p xs) ++ filter p ys) [ true ↦ ap (λ zs. x ∷ zs) rest | false ↦ rest ]

filter-none : (p : List Literal → Bool) (xs : List (List Literal)) → ((x : List Literal) → Contains xs x → p x ≡ false) → filter p xs ≡ []
filter-none p [] h = refl
filter-none p (x ∷ xs) h = ap (λ b. cond b (x ∷ filter p xs) (filter p xs)) (h x (Contains-first x xs)) ∙ filter-none p xs (λ y i. h y (Contains-later x xs y i))

filter-set : (p : List Literal → Bool) (s : List (Option (List Literal))) (k : ℕ) → ((c : List Literal) → get_or s k None ≡ Some c → p c ≡ false) → filter p (live_clauses (set s k None)) ≡ filter p (live_clauses s)
filter-set p [] k h = refl
filter-set p (None ∷ s) zero h = refl
filter-set p (Some c ∷ s) zero h = sym (ap (λ b. cond b (c ∷ filter p (live_clauses s)) (filter p (live_clauses s))) (h c refl))
filter-set p (None ∷ s) (suc k) h = filter-set p s k h
filter-set p (Some c ∷ s) (suc k) h = ap (λ zs. cond (p c) (c ∷ zs) zs) (filter-set p s k h)

set-none : (s : List (Option (List Literal))) (g : ℕ) → get_or (set s g None) g None ≡ None
set-none [] g = refl
set-none (x ∷ s) zero = refl
set-none (x ∷ s) (suc g) = set-none s g

was-there : (s : List (Option (List Literal))) (g k : ℕ) (c : List Literal) → clause_of (set s g None) k ≡ Some c → clause_of s k ≡ Some c
was-there s g k c e =
    elim (cases_eq g k) [
      | inl f ↦ let n : clause_of (set s g None) k ≡ None = ap (clause_of (set s g None)) (sym f) ∙ set-none s g in absurd (cc)
      | inr n ↦ sym (cleared-other (g ∷ []) s k (ap (λ b. b || false) (ne_eqb g k n))) ∙ e
    ]

filter-cleared : (p : List Literal → Bool) (gone : List ℕ) (s : List (Option (List Literal))) → ((id : ℕ) (c : List Literal) → Contains gone id → clause_of s id ≡ Some c → p c ≡ false) → filter p (live_clauses (cleared gone s)) ≡ filter p (live_clauses s)
filter-cleared p [] s h = refl
filter-cleared p (g ∷ gs) s h =
    filter-cleared p gs (set s g None) (λ id c i e. h id c (Contains-later g gs id i) (was-there s g id c e)) ∙ filter-set p s g (λ c e. h g c (Contains-first g gs) e)

pub having-stays : (l : Literal) (gone : List ℕ) (added : List (List Literal)) (slots : List (Option (List Literal))) → ((id : ℕ) (c : List Literal) → Contains gone id → clause_of slots id ≡ Some c → has (place_of l) c ≡ false) → ((c : List Literal) → Contains added c → has (place_of l) c ≡ false)
    → having l (live_clauses (replaced gone added slots)) ≡ having l (live_clauses slots)
having-stays l gone added slots away none =
    let p = has (place_of l) in
    ap (filter p) (live-after gone added slots) ∙ (filter-append p (live_clauses (cleared gone slots)) added ∙ (ap (λ zs. filter p (live_clauses (cleared gone slots)) ++ zs) (filter-none p added none) ∙ (append-nil (filter p (live_clauses (cleared gone slots))) ∙ filter-cleared p gone slots away)))

lacks-has : (c : List Literal) (l : Literal) (u : ℕ) → l.variable ≡ u → ((k : Literal) → Contains c k → k.variable ≢ u) → has (place_of l) c ≡ false
lacks-has c l u e far = elim (cases_Bool (has (place_of l) c)) [ inr f ↦ f | inl t ↦ absurd (far l (has-contains c l t) e) ]

-- a variable in no clause that went has the same clauses as before
untouched : (v u : ℕ) (h : Held) → IsStore h → ((id : ℕ) (c : List Literal) (k : Literal) → Contains (ids_on v h.slots) id → clause_of h.slots id ≡ Some c → Contains c k → k.variable ≢ u) → (l : Literal) → l.variable ≡ u → having l (left_clauses v h) ≡ having l (live_clauses h.slots)
untouched v u h s far l e =
    having-stays l (ids_on v h.slots) (resolvents_of v h.slots (ids_with (place_of (positive v)) h.slots) (ids_with (place_of (negative_of v)) h.slots)) h.slots
    (λ id c i f. lacks-has c l u e (λ k j. far id c k i f j))
    (λ r m.
    let q = parents v h r s m in
    lacks-has r l u e (λ k j. elim (q.is.only k j).1 [ inl i ↦ far q.c_id q.c k q.c_on q.c_at i | inr i ↦ far q.d_id q.d k q.d_on q.d_at i ]))

-- what was idle stays so or is near
pub idle-stays : (v u : ℕ) (old new : Held) (near : List ℕ) → IsStore old → IsStore new → new.refuted ≡ false → IsEliminatedAt v old new near → IsIdleVariable (labelled_of old) u → IsIdleVariable (labelled_of new) u ⊎ Contains near u
idle-stays v u old new near s w r d idle =
    elim (cases_Bool (is_candidate new u)) [
      | inr f ↦ inl (other-idle new u w f)
      | inl t ↦ elim (cases_Bool (is_in u near)) [
        | inl i ↦ inr (is_in-contains near u i)
        | inr o ↦
            let far : (id : ℕ) (c : List Literal) (k : Literal) → Contains (ids_on v old.slots) id → clause_of old.slots id ≡ Some c → Contains c k → k.variable ≢ u = λ id c k i e j f.
            true≢false (sym (is_in-by near u (d.named.each u (id, c, k, i, e, j, f) t)) ∙ o) in
            let state = eliminated-state v old new near r d in
            let a = untouched v u old s far (positive u) refl in
            let b = untouched v u old s far (negative_of u) refl in
            let P : State → Type 0 = λ x. IsIdleVariable x u in
            inl (subst P (sym state) (λ occ free pays.
            let Q : List (List Literal) → Type 0 = λ x. PaysOff u x (having (negative_of u) (left_clauses v old)) in
            let R : List (List Literal) → Type 0 = λ x. PaysOff u (having (positive u) (live_clauses old.slots)) x in
            idle (still-occurs v u old s occ) free (subst R b (subst Q a pays))))
      ]
    ]

-- where the variables of a store are idle, no variable is worth it
pub idle-all-ends : (h : Held) → IsStore h → ((v : ℕ) → 1 ≤ v → v ≤ h.vars → IsIdleVariable (labelled_of h) v) → NoEliminable (labelled_of h)
idle-all-ends h s all v t =
    let o = occurs-found v (live_clauses h.slots) t in
    let up = literal-within h o.clause o.literal s o.live o.has in
    let same = o.variable in
    all v (omega (arith, up.0, same)) (omega (arith, up.1, same)) t

-- what occurs after a turn occurred before it
pub turned-occurs : (v u : ℕ) (old new : Held) (near : List ℕ) → IsStore old → new.refuted ≡ false → IsEliminatedAt v old new near → occurs u (live_clauses new.slots) ≡ true → occurs u (live_clauses old.slots) ≡ true
turned-occurs v u old new near s r d o =
    let state = eliminated-state v old new near r d in
    let hard : live_clauses new.slots ≡ left_clauses v old = ap (λ (x : State). x.hard) state in
    still-occurs v u old s (sym (ap (occurs u) hard) ∙ o)
