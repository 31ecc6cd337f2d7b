-- The rewrite of a turn: it keeps models and costs, and may be applied.
use Rattle.std.proofs.Common.{◌≡◌, ◌≢◌, ℕ, ◌+◌, ◌*◌, ◌<◌, ◌≤◌, Bool, true, false, not, cond, List, [], ◌∷◌, ◌++◌, length, take, get_or, replicate, zero, suc, All, Contains, refl, ap, sym, ◌∙◌, subst, arith, inl, inr, sum, sum_by, add-zero}
use Rattle.std.specs.Prelude.{Option, Some, None, ◌==◌, is_some, nat_lt}
use Rattle.std.proofs.lemmas.Bool.{cases_Bool, cases_lt, true≢false, eqb-true, eq-eqb, and_from, lt-ltb}
use Rattle.std.proofs.lemmas.List.{append-nil, get_or_past, take_all}
use Rattle.std.proofs.lemmas.List.Elements.{All-contains}
use Rattle.std.proofs.lemmas.List.Sums.{sum_by-cons}
use Rattle.mp_logic.specs.Literal.{Literal, negation, IsUpTo}
use Rattle.mp_logic.specs.Truth.{literal_value}
use Rattle.mp_logic.specs.Normal.{rises}
use Rattle.mp_logic.specs.Keeping.{charged, Keeps}
use Rattle.mp_logic.specs.Labelled.{IsProper}
use Rattle.mp_logic.specs.Rewrites.{set_repair}
use Rattle.mp_logic.specs.declared.instances.Cost.{Cost}
use Rattle.mp_logic.proofs.Literals.{literal_value-negation}
use Rattle.mp_logic.proofs.Members.{Contains-first, Contains-later, Contains-none, Contains-cases, All-from_contained}
use Rattle.mp_clauses.specs.Places.{place_of, literal_at, is_in, width}
use Rattle.mp_clauses.specs.Slots.{clause_of, is_live, live_clauses}
use Rattle.mp_clauses.specs.Weighing.{costs_from, costs_of, weighted}
use Rattle.mp_clauses.proofs.Found.{is_in-by, is_in-contains, ids_where-at, ids_where-once, any-by}
use Rattle.mp_clauses.proofs.Pricing.{literal-place, same-place, sum-costs}
use Rattle.mp_store.specs.declared.rewrite.Rewrite.{Rewrite}
use Rattle.mp_store.specs.Held.{Held, labelled_of}
use Rattle.mp_store.specs.Rewriting.{weights_after, changed_by, HasOneCostEach, IsValid}
use Rattle.mp_store.specs.Soundness.{IsStore}
use Rattle.mp_store.specs.Replacing.{clauses_after}
use Rattle.mp_store.proofs.KeptFixing.{live-at, live-id, store-variables}
use Rattle.mp_store.proofs.Clashes.{proper-set}
use Rattle.mp_store.proofs.Replaced.{replaced_clauses}
use Rattle.t_equiv.specs.Substituting.{HasImages, AreSubstituted, imaged, IsPaidByImages, positive, image_repairs}
use Rattle.t_equiv.specs.Images.{image_in, StaysKnown}
use Rattle.t_equiv.specs.Pooling.{worth, image_place, IsOpposite}
use Rattle.t_equiv.specs.Substitutions.{moves, slot_moves, moved_ids, AreSound, IsImageRewrite}
use Rattle.t_equiv.proofs.Imaged.{substituting_all_keeps}
use Rattle.t_equiv.proofs.Pooled.{worth-same, worth-all, noted-all}

-- a clause none of whose literals moves is its own image
pub not-moved : (im : List Literal) (l : Literal) → moves im l ≡ false → image_in im l ≡ l
not-moved im l e = elim (cases_Bool (place_of (image_in im l) == place_of l)) [
  | inl t ↦ same-place (image_in im l) l (eqb-true (place_of (image_in im l)) (place_of l) t)
  | inr f ↦ absurd (true≢false (sym (ap not f) ∙ e))
]

pub stays-put : (im : List Literal) (c : List Literal) → slot_moves im (Some c) ≡ false → (k : Literal) → Contains c k → image_in im k ≡ k
stays-put im c e k i = not-moved im k (elim (cases_Bool (moves im k)) [ inl t ↦ absurd (true≢false (sym (any-by (moves im) c k i t) ∙ e)) | inr f ↦ f ])

own-images : (im : List Literal) (c : List Literal) → slot_moves im (Some c) ≡ false → HasImages (image_in im) c c
own-images im c e = record {
  on = λ k i. subst (Contains c) (sym (stays-put im c e k i)) i;
  back = λ m i. (m, i, sym (stays-put im c e m i));
}

pub moved-at : (im : List Literal) (h : Held) (r : Rewrite) (id : ℕ) → r.gone ≡ moved_ids im h.slots → is_in id r.gone ≡ slot_moves im (clause_of h.slots id)
moved-at im h r id e = ap (is_in id) e ∙ ids_where-at (slot_moves im) h.slots id refl

pub rewrite-substitutes : (im : List Literal) (vs : List ℕ) (h : Held) (r : Rewrite) → IsImageRewrite im vs h r → AreSubstituted (image_in im) (live_clauses h.slots) (clauses_after r h)
rewrite-substitutes im vs h r w =
    let all = replaced_clauses r.gone r.added h.slots in
    record {
      made = λ c m.
          let at = live-id h.slots c m in
          elim (cases_Bool (is_in at.0 r.gone)) [
            | inl t ↦ elim (w.added.made at.0 c (is_in-contains r.gone at.0 t) at.1) [ inl o ↦ inl o | inr d ↦ inr (d.0, all.come d.0 d.1, d.2) ]
            | inr f ↦ inr (c, all.kept at.0 c at.1 f, own-images im c (sym (ap (slot_moves im) at.1) ∙ sym (moved-at im h r at.0 w.gone) ∙ f))
          ];
      only = λ d m. elim (all.only d m) [
        | inl k ↦ (d, live-at h.slots k.0 d k.1, own-images im d (sym (ap (slot_moves im) k.1) ∙ sym (moved-at im h r k.0 w.gone) ∙ k.2))
        | inr a ↦ let v = w.added.only d a in (v.1, live-at h.slots v.0 v.1 v.3, v.4)
      ];
    }

live-moved : (im : List Literal) (s : List (Option (List Literal))) (id : ℕ) → slot_moves im (clause_of s id) ≡ true → is_live s id ≡ true
live-moved im s id e =
    let step : (o : Option (List Literal)) → slot_moves im o ≡ true → is_some o ≡ true = λ (o : Option (List Literal)). elim o as (λ o. slot_moves im o ≡ true → is_some o ≡ true) [ None ↦ λ f. absurd (true≢false (sym f)) | Some c ↦ λ f. refl ] in
    step (clause_of s id) e

zero-either : (t : Bool) (w : ℕ) → w ≡ 0 → cond t w 0 ≡ 0
zero-either true w e = e
zero-either false w e = refl

-- what an assignment pays of a table
paid-first : (f : Cost → ℕ) (i w : ℕ) (ws : List ℕ) (t : Bool) → f (record { lit = literal_at i; weight = w }) ≡ cond t w 0 → sum_by f (costs_from i (w ∷ ws)) ≡ cond t w 0 + sum_by f (costs_from (i + 1) ws)
paid-first f i w ws t e =
    let c : Cost = record { lit = literal_at i; weight = w } in
    let step : (b : Bool) → (w == 0) ≡ b → sum_by f (cond b (costs_from (i + 1) ws) (c ∷ costs_from (i + 1) ws)) ≡ cond t w 0 + sum_by f (costs_from (i + 1) ws) =
    λ (s : Bool). elim s as (λ b. (w == 0) ≡ b → sum_by f (cond b (costs_from (i + 1) ws) (c ∷ costs_from (i + 1) ws)) ≡ cond t w 0 + sum_by f (costs_from (i + 1) ws)) [
      | true ↦ λ g. let z : cond t w 0 ≡ 0 = zero-either t w (eqb-true w 0 g) in omega arith
      | false ↦ λ g. let s = sum_by-cons f c (costs_from (i + 1) ws) in omega arith
    ] in
    step (w == 0) refl

pub paid-worth : (f : Cost → ℕ) (b : ℕ → Bool) (i : ℕ) (ws : List ℕ) → ((j w : ℕ) → f (record { lit = literal_at j; weight = w }) ≡ cond (b j) w 0) → sum_by f (costs_from i ws) ≡ worth b i ws
paid-worth f b i [] e = refl
paid-worth f b i (w ∷ ws) e = let rest = paid-worth f b (i + 1) ws e in let first = paid-first f i w ws (b i) (e i w) in omega arith

-- the truth of the literal of each place
abbrev truth : List Bool → ℕ → Bool
truth a p = literal_value a (literal_at p)

lit-even : (v : ℕ) → literal_at (2 * v) ≡ positive v
lit-even v = let n : 2 * v + 0 ≡ 2 * v = omega arith in subst (λ p. literal_at p ≡ positive v) n (literal-place (positive v))

truth-opposite : (a : List Bool) → IsOpposite (truth a)
truth-opposite a v = ap (literal_value a) (literal-place (negation (positive v))) ∙ literal_value-negation a (positive v) ∙ ap not (ap (literal_value a) (sym (lit-even v)))

-- the new weights
pub record NewWeights (im : List Literal) (h : Held) (r : Rewrite) : Type 0 where
  pub now : List ℕ
  pub is : weights_after r h ≡ now
  pub long : length now ≡ width h.vars
  pub paid : (b : ℕ → Bool) → IsOpposite b → r.shift + worth b 0 now ≡ worth (λ p. b (image_place im p)) 0 h.weights
  pub from : (q : ℕ) → get_or now q 0 ≢ 0 → worth (λ p. image_place im p == q) 0 h.weights ≢ 0
  pub total : r.shift + sum now ≤ sum h.weights
  pub apart : HasOneCostEach now

worth-at : (q n i : ℕ) (ws : List ℕ) → n ≡ i + q → get_or ws q 0 ≤ worth (λ p. p == n) i ws
worth-at q n i [] e = omega arith
worth-at zero n i (w ∷ ws) e = let f : (i == n) ≡ true = eq-eqb i n (omega arith) in rw f (omega arith)
worth-at (suc q) n i (w ∷ ws) e = let rest = worth-at q n (i + 1) ws (omega arith) in omega (arith, rest)

pub new-weights : (im : List Literal) (vs : List ℕ) (h : Held) (r : Rewrite) → IsStore h → IsImageRewrite im vs h r → NewWeights im h r
new-weights im vs h r s w =
    let p = w.pooled in
    let now = p.now in
    let len = s.weights.len in
    let long : length now ≡ width h.vars = p.is_cancelled.many ∙ p.is_moved.many ∙ len in
    let all : take (length h.weights) h.weights ≡ h.weights = take_all (length h.weights) h.weights (omega arith) in
    let base : h.weights ++ replicate (2 * r.fresh) 0 ≡ h.weights = ap (λ n. h.weights ++ replicate (2 * n) 0) w.fresh ∙ append-nil h.weights in
    let moved : (b : ℕ → Bool) → worth b 0 p.moved ≡ worth (λ p. b (image_place im p)) 0 h.weights = λ b. p.is_moved.same b ∙ ap (worth (λ p. b (image_place im p)) 0) all in
    record {
      now = now;
      is = ap (weighted r.costs) base ∙ noted-all h.vars h.weights now (width h.vars) r.costs len long p.is_noted;
      long = long;
      paid = λ b o. p.is_cancelled.same b o ∙ moved b;
      from = λ q n z.
          let a = worth-at q q 0 p.moved (omega arith) in
          let b = p.is_cancelled.most q in
          let c = moved (λ x. x == q) in
          n (omega arith);
      total =
          let a = p.is_cancelled.total in
          let b = moved (λ x. true) in
          let c = worth-all 0 now in
          let d = worth-all 0 h.weights in
          omega arith;
      apart = λ v. elim (cases_lt v (h.vars + 1)) [
        | inl l ↦ p.is_cancelled.apart v l
        | inr g ↦ inl (get_or_past now (2 * v) 0 (omega arith))
      ];
    }

-- costs come to what the images do
pub rewrite-pays : (im : List Literal) (vs : List ℕ) (h : Held) (r : Rewrite) → IsStore h → IsImageRewrite im vs h r → IsPaidByImages (image_in im) (labelled_of h) (labelled_of (changed_by r h))
rewrite-pays im vs h r s w =
    let n = new-weights im vs h r s w in
    record {
      same = λ a.
          let after : sum_by (charged a) (costs_of (weights_after r h)) ≡ worth (truth a) 0 n.now = ap (λ ws. sum_by (charged a) (costs_of ws)) n.is ∙ paid-worth (charged a) (truth a) 0 n.now (λ j x. refl) in
          let before = paid-worth (λ p. charged a (imaged (image_in im) p)) (λ p. literal_value a (image_in im (literal_at p))) 0 h.weights (λ j x. refl) in
          let images = worth-same (λ p. truth a (image_place im p)) (λ p. literal_value a (image_in im (literal_at p))) 0 h.weights (λ p. ap (literal_value a) (literal-place (image_in im (literal_at p)))) in
          let paid = n.paid (truth a) (truth-opposite a) in
          omega arith;
      total =
          let after : sum_by (λ (c : Cost). c.weight) (costs_of (weights_after r h)) ≡ sum n.now = ap (λ ws. sum_by (λ (c : Cost). c.weight) (costs_of ws)) n.is ∙ sum-costs 0 n.now in
          let before = sum-costs 0 h.weights in
          let less = n.total in
          omega arith;
    }

pub rewrite-keeps : (im : List Literal) (vs : List ℕ) (h : Held) (r : Rewrite) → IsStore h → AreSound h.vars (live_clauses h.slots) im vs → IsImageRewrite im vs h r → Keeps (labelled_of h) (labelled_of (changed_by r h)) r.repairs
rewrite-keeps im vs h r s a w =
    let vars : h.vars + r.fresh ≡ h.vars = ap (λ n. h.vars + n) w.fresh ∙ add-zero h.vars in
    subst (Keeps (labelled_of h) (labelled_of (changed_by r h))) (sym w.repairs) (substituting_all_keeps (labelled_of h) (labelled_of (changed_by r h)) (image_in im) vs (store-variables h s) a.substitution a.values (rewrite-substitutes im vs h r w) (rewrite-pays im vs h r s w) vars)

-- the repairs are proper
two-rise : (a b : Literal) → 1 ≤ a.variable → a.variable < b.variable → rises 0 (a ∷ (b ∷ [])) ≡ true
two-rise a b p q = and_from (nat_lt 0 a.variable) (rises a.variable (b ∷ [])) (lt-ltb 0 a.variable p) (and_from (nat_lt a.variable b.variable) true (lt-ltb a.variable b.variable q) refl)

two-within : (n : ℕ) (a b : Literal) → IsUpTo n a → IsUpTo n b → All (IsUpTo n) (a ∷ (b ∷ []))
two-within n a b p q = All-from_contained (IsUpTo n) (a ∷ (b ∷ [])) (λ k i. elim (Contains-cases a (b ∷ []) k i) [ inl e ↦ subst (IsUpTo n) (sym e) p | inr j ↦ elim (Contains-cases b [] k j) [ inl e ↦ subst (IsUpTo n) (sym e) q | inr z ↦ absurd (Contains-none k z) ] ])

repairs-proper : (n : ℕ) (im : List Literal) (vs : List ℕ) → StaysKnown n im → ((v : ℕ) → Contains vs v → IsUpTo n (positive v) × ((image_in im (positive v)).variable < v)) → All (IsProper n) (image_repairs (image_in im) vs)
repairs-proper n im [] known low = All-from_contained (IsProper n) [] (λ r i. absurd (Contains-none r i))
repairs-proper n im (v ∷ vs) known low =
    let x = positive v in
    let t = image_in im x in
    let own = low v (Contains-first v vs) in
    let up = own.0 in
    let ut = known x up in
    let rest = repairs-proper n im vs known (λ u i. low u (Contains-later v vs u i)) in
    let first = proper-set n x (negation t ∷ (x ∷ [])) up (two-rise (negation t) x ut.0 own.1) (two-within n (negation t) x (ut.0, ut.1) up) in
    let second = proper-set n (negation x) (t ∷ (negation x ∷ [])) (up.0, up.1) (two-rise t (negation x) ut.0 own.1) (two-within n t (negation x) ut (up.0, up.1)) in
    All-from_contained (IsProper n) (image_repairs (image_in im) (v ∷ vs)) (λ r i. elim (Contains-cases (set_repair x (negation t ∷ (x ∷ []))) (set_repair (negation x) (t ∷ (negation x ∷ [])) ∷ image_repairs (image_in im) vs) r i) [
      | inl e ↦ subst (IsProper n) (sym e) first
      | inr j ↦ elim (Contains-cases (set_repair (negation x) (t ∷ (negation x ∷ []))) (image_repairs (image_in im) vs) r j) [
        | inl e ↦ subst (IsProper n) (sym e) second
        | inr k ↦ All-contains (IsProper n) (image_repairs (image_in im) vs) r rest k
      ]
    ])

pub moved-live : (im : List Literal) (s : List (Option (List Literal))) → All (λ id. is_live s id ≡ true) (moved_ids im s)
moved-live im s = All-from_contained (λ id. is_live s id ≡ true) (moved_ids im s) (λ id i. live-moved im s id (sym (ids_where-at (slot_moves im) s id refl) ∙ is_in-by (moved_ids im s) id i))

-- the rewrite may be applied
pub rewrite-valid : (im : List Literal) (vs : List ℕ) (h : Held) (r : Rewrite) → IsStore h → AreSound h.vars (live_clauses h.slots) im vs → IsImageRewrite im vs h r → IsValid r h
rewrite-valid im vs h r s a w =
    let vars : h.vars + r.fresh ≡ h.vars = ap (λ n. h.vars + n) w.fresh ∙ add-zero h.vars in
    let n = new-weights im vs h r s w in
    let fresh = w.fresh in
    let limit = s.limit in
    let total = n.total in
    let sums : sum (weights_after r h) ≡ sum n.now = ap sum n.is in
    record {
      gone_live = rw w.gone (moved-live im h.slots);
      gone_distinct = rw w.gone (ids_where-once (slot_moves im) 0 h.slots);
      added_normal = w.added.normal;
      fresh = omega arith;
      limit = omega arith;
      added_within = rw vars (All-from_contained (All (IsUpTo h.vars)) r.added (λ d m.
          let v = w.added.only d m in
          let all = All-contains (All (IsUpTo h.vars)) (live_clauses h.slots) v.1 s.labelled.hard_within (live-at h.slots v.0 v.1 v.3) in
          All-from_contained (IsUpTo h.vars) d (λ l i. let k = v.4.back l i in subst (IsUpTo h.vars) (sym k.2) (a.known k.0 (All-contains (IsUpTo h.vars) v.1 k.0 all k.1)))));
      costs_within = rw vars w.pooled.is_noted.within;
      costs_distinct = w.pooled.is_noted.once;
      repairs_proper = rw (vars, w.repairs) (repairs-proper h.vars im vs a.known (λ v i. ((a.substitution.from_one v i, (a.lower v i).0), (a.lower v i).1)));
      apart = rw n.is n.apart;
      total = omega arith;
    }
