-- What the rewrite of two labels that match does to a store.
use Rattle.std.proofs.Common.{◌≡◌, ◌≢◌, ◌⊎◌, ℕ, ◌+◌, true, false, List, [], ◌∷◌, refl, sym, ◌∙◌, ap, subst, arith, inl, inr, Contains, All, IsTrue}
use Rattle.std.proofs.lemmas.Bool.{true≢false}
use Rattle.std.proofs.lemmas.List.Elements.{All-contains}
use Rattle.mp_logic.specs.Literal.{Literal, negation, IsUpTo}
use Rattle.mp_logic.specs.Normal.{rises, IsTautology}
use Rattle.mp_logic.specs.Keeping.{State, Keeps}
use Rattle.mp_logic.specs.Labelled.{IsProper}
use Rattle.mp_logic.specs.Sets.{IsWithList}
use Rattle.mp_logic.specs.SubsumedLabels.{IsPlain}
use Rattle.mp_logic.specs.LabelMatching.{IsMatched, IsPaidOnce, IsRenamed, matching_repairs}
use Rattle.mp_logic.specs.declared.instances.Cost.{Cost}
use Rattle.mp_logic.specs.declared.instances.Repair.{Repair}
use Rattle.mp_logic.proofs.Members.{Contains-first, Contains-one, All-from_contained}
use Rattle.mp_logic.proofs.Literals.{cases_literal, cases_contains, negation-negation, same_or_negation}
use Rattle.mp_logic.proofs.Matched.{matching_keeps}
use Rattle.mp_store.specs.declared.rewrite.Rewrite.{Rewrite}
use Rattle.mp_clauses.specs.Places.{place_of}
use Rattle.mp_store.specs.Held.{Held, labelled_of, IsUntouched}
use Rattle.mp_clauses.specs.Slots.{live_clauses, has_empty}
use Rattle.mp_clauses.specs.Weighing.{costs_of, weight_in}
use Rattle.mp_clauses.specs.Occurrences.{ids_with, slot_has}
use Rattle.mp_store.specs.Rewriting.{weights_after, changed_by, after, IsValid}
use Rattle.mp_store.specs.Soundness.{IsStore}
use Rattle.mp_clauses.proofs.Found.{ids_where-once}
use Rattle.mp_store.proofs.Fixes.{set-zero, sum-set-zero, one_each-zeros}
use Rattle.mp_store.proofs.KeptFixing.{live-id, live-at, store-variables}
use Rattle.mp_store.proofs.Replaced.{replaced_clauses, after-plain}
use Rattle.mp_store.proofs.Rewritten.{run-after}
use Rattle.mp_store.proofs.Runs.{run-untouched}
use Rattle.mp_store.proofs.Changes.{ones}
use Rattle.t_matching.specs.Joins.{clauses_at, IsJoinOf, AreJoinsOf}
use Rattle.t_matching.specs.Matching.{AreMatching, matching_rewrite, IsMatchingRewrite, IsMatchStep, LeavesOffset}
use Rattle.t_matching.specs.Labels.{IsUnused}
use Rattle.t_matching.proofs.Labels.{cost-weight, weight-cost, label-within, id-out, ids-live, with-has, with-only, live-within, live-untautologous}
use Rattle.t_matching.proofs.Splits.{joins-from, joins-has, join-normal, none-empty, order-has, order-only, split-proper}
use Rattle.t_matching.proofs.Zeroed.{table-zeroed, one-cost, zero-one, negation-other, id-is-in, zeroed-once, costs-left-in}

-- the labels of a match are labels of the store
pub record Both (l m : Literal) (w : ℕ) (h : Held) : Type 0 where
  pub up_l : IsUpTo h.vars l
  pub up_m : IsUpTo h.vars m
  pub weight_l : weight_in h.weights l ≡ w
  pub weight_m : weight_in h.weights m ≡ w
  pub some : w ≢ 0

pub both-labels : (h : Held) (l m : Literal) → IsStore h → (match : AreMatching l m (labelled_of h)) → Both l m match.weight.0 h
both-labels h l m s match =
    let w = match.weight in
    let a = cost-weight h.weights (record { lit = l; weight = w.0 }) w.1 in
    let b = cost-weight h.weights (record { lit = m; weight = w.0 }) w.2 in
    record {
      up_l = label-within h l s (λ z. a.1 (sym a.0 ∙ z));
      up_m = label-within h m s (λ z. b.1 (sym b.0 ∙ z));
      weight_l = a.0;
      weight_m = b.0;
      some = a.1;
    }

-- a join of the label alone with a clause
alone-within : (h : Held) (l : Literal) → IsUpTo h.vars l → (k : Literal) → Contains (l ∷ []) k → IsUpTo h.vars k
alone-within h l u k i = rw (Contains-one l k i) u

record Renaming (l m : Literal) (h : Held) (r : List Literal) : Type 0 where
  clause : List Literal
  live : Contains (live_clauses h.slots) clause
  own : Contains clause m
  join : IsJoinOf (l ∷ []) clause m r
  no_tautology : IsTautology r → ⊥

added-from : (h : Held) (l m : Literal) (added : List (List Literal)) → AreJoinsOf (l ∷ []) m (clauses_at h.slots (ids_with (place_of m) h.slots)) added → (r : List Literal) → Contains added r → Renaming l m h r
added-from h l m added joins r i =
    let w = joins-from (l ∷ []) m (clauses_at h.slots (ids_with (place_of m) h.slots)) added r joins i in
    let o = with-only m h.slots w.0 w.1 in
    record { clause = w.0; live = o.0; own = o.1; join = w.2; no_tautology = w.3 }

added-within : (h : Held) (l m : Literal) (r : List Literal) → IsStore h → IsUpTo h.vars l → Renaming l m h r → All (IsUpTo h.vars) r × (rises 0 r ≡ true)
added-within h l m r s u n = join-normal h.vars (l ∷ []) n.clause m r (alone-within h l u) (λ k i. All-contains (IsUpTo h.vars) n.clause k (live-within h n.clause s n.live) i) n.join n.no_tautology

pub matching-valid : (h : Held) (l m : Literal) (added : List (List Literal)) (repairs : List Repair) → IsStore h → IsUpTo h.vars l → IsUpTo h.vars m
    → AreJoinsOf (l ∷ []) m (clauses_at h.slots (ids_with (place_of m) h.slots)) added → ((r : Repair) → Contains repairs r → IsProper h.vars r) → IsValid (matching_rewrite m h added repairs) h
matching-valid h l m added repairs s ul um joins proper =
    let same : h.vars + 0 ≡ h.vars = omega arith in
    let table = table-zeroed h.weights m in
    let each = λ (r : List Literal) (i : Contains added r). added-within h l m r s ul (added-from h l m added joins r i) in
    record {
      gone_live = ids-live m h.slots;
      gone_distinct = ids_where-once (slot_has (place_of m)) 0 h.slots;
      added_normal = All-from_contained (λ c. IsTrue (rises 0 c)) added (λ r i. (each r i).1);
      fresh = omega arith;
      limit = rw same s.limit;
      added_within = rw same (All-from_contained (All (IsUpTo h.vars)) added (λ r i. (each r i).0));
      costs_within = rw same (one-cost h.vars m um);
      costs_distinct = refl;
      repairs_proper = rw same (All-from_contained (IsProper h.vars) repairs proper);
      apart = rw table (one_each-zeros (record { lit = m; weight = 0 } ∷ []) h.weights (zero-one m) s.weights.one_each);
      total = rw table (omega (arith, sum-set-zero h.weights (place_of m)));
    }

-- l stands in the place of m
renamed-by : (h : Held) (l m : Literal) (d r : List Literal) → IsStore h → AreMatching l m (labelled_of h) → Contains (live_clauses h.slots) d → Contains d m → IsJoinOf (l ∷ []) d m r → IsRenamed l m d r
renamed-by h l m d r s match live own join = record {
  on = λ k i. elim (cases_literal k m) [ inl e ↦ inr e | inr n ↦ inl ((join.each k).1 (inr (i, n))) ];
  own = (join.each l).1 (inl (Contains-first l []));
  back = λ k i. elim ((join.each k).0 i) [
    | inl a ↦ inr (Contains-one l k a)
    | inr b ↦ inl (b.0, λ e. elim (same_or_negation k m e) [ inl f ↦ b.1 f | inr f ↦ match.plain_m d live k b.0 f ])
  ];
}

no-tautology : (h : Held) (l m : Literal) (d r : List Literal) → IsStore h → AreMatching l m (labelled_of h) → Contains (live_clauses h.slots) d → IsJoinOf (l ∷ []) d m r → IsTautology r → ⊥
no-tautology h l m d r s match live join t =
    let other = negation t.0 in
    elim ((join.each t.0).0 t.1) [
      | inl a ↦ elim ((join.each other).0 t.2) [
        | inl b ↦ let e : negation l ≡ l = sym (ap negation (Contains-one l t.0 a)) ∙ Contains-one l other b in negation-other l e
        | inr b ↦ match.plain_l d live other b.0 (ap negation (Contains-one l t.0 a))
      ]
      | inr a ↦ elim ((join.each other).0 t.2) [
        | inl b ↦ match.plain_l d live t.0 a.0 (sym (negation-negation t.0) ∙ ap negation (Contains-one l other b))
        | inr b ↦ live-untautologous h d s live (t.0, a.0, b.0)
      ]
    ]

-- after the rewrite
abbrev after-match : Literal → Held → List (List Literal) → List Repair → State
after-match m h added repairs = labelled_of (changed_by (matching_rewrite m h added repairs) h)

pub store-matched : (h : Held) (l m : Literal) (added : List (List Literal)) (repairs : List Repair) → IsStore h → AreMatching l m (labelled_of h)
    → AreJoinsOf (l ∷ []) m (clauses_at h.slots (ids_with (place_of m) h.slots)) added → IsMatched l m (live_clauses h.slots) (after-match m h added repairs).hard
store-matched h l m added repairs s match joins =
    let change = replaced_clauses (ids_with (place_of m) h.slots) added h.slots in
    record {
      plain_l = match.plain_l;
      plain_m = match.plain_m;
      apart = match.apart;
      conflict = match.conflict;
      kept = λ c i lacks. let w = live-id h.slots c i in change.kept w.0 c w.1 (id-out m h.slots w.0 c w.1 lacks);
      renamed = λ d i own.
          let w = joins-has (l ∷ []) m (clauses_at h.slots (ids_with (place_of m) h.slots)) added d joins (with-has m h.slots d i own) in
          elim w.2 [
            | inl t ↦ absurd (no-tautology h l m d w.0 s match i w.1 t)
            | inr j ↦ (w.0, change.come w.0 j, renamed-by h l m d w.0 s match i own w.1)
          ];
      only = λ r i. elim (change.only r i) [
        | inl a ↦ inl (
          live-at h.slots a.0 r a.1,
          λ own. true≢false (sym (id-is-in m h.slots a.0 r a.1 own) ∙ a.2),
        )
        | inr b ↦ let n = added-from h l m added joins r b in inr (n.clause, n.live, n.own, renamed-by h l m n.clause r s match n.live n.own n.join)
      ];
    }

costs-once : (h : Held) (l m : Literal) (w : ℕ) (added : List (List Literal)) (repairs : List Repair) → IsStore h → l.variable ≢ m.variable → Both l m w h → IsValid (matching_rewrite m h added repairs) h → IsPaidOnce l m w (costs_of h.weights) (after-match m h added repairs).costs
costs-once h l m w added repairs s names b v = zeroed-once h l m w (matching_rewrite m h added repairs) s names b.weight_l b.weight_m b.some v (table-zeroed h.weights m) refl

split-proper-all : (h : Held) (l m : Literal) (r : Rewrite) → IsStore h → IsUpTo h.vars l → IsUpTo h.vars m → (w : IsMatchingRewrite l m h r) → (p : Repair) → Contains w.repairs p → IsProper h.vars p
split-proper-all h l m r s ul um w p i =
    let x = w.split in
    split-proper h l m x.0 x.1 s ul um
    (λ c j. (with-only l h.slots c (order-only (clauses_at h.slots (ids_with (place_of l) h.slots)) x.0 c x.2 j)).0)
    (λ d j. (with-only m h.slots d (order-only (clauses_at h.slots (ids_with (place_of m) h.slots)) x.1 d x.3 j)).0)
    p (subst (λ (ps : List Repair). Contains ps p) x.4 i)

pub matching-is-valid : (h : Held) (l m : Literal) (r : Rewrite) → IsStore h → AreMatching l m (labelled_of h) → IsMatchingRewrite l m h r → IsValid r h
matching-is-valid h l m r s match w =
    let b = both-labels h l m s match in
    rw w.is (matching-valid h l m w.added w.repairs s b.up_l b.up_m w.joins (split-proper-all h l m r s b.up_l b.up_m w))

costs-left : (h : Held) (m : Literal) (added : List (List Literal)) (repairs : List Repair) (c : Cost) → Contains (after-match m h added repairs).costs c → Contains (costs_of h.weights) c
costs-left h m added repairs c i = costs-left-in h m (weights_after (matching_rewrite m h added repairs) h) (table-zeroed h.weights m) c i

-- what a clause becomes
record Image (l m : Literal) (c : List Literal) (ds : List (List Literal)) : Type 0 where
  clause : List Literal
  live : Contains ds clause
  on : (k : Literal) → Contains c k → k ≢ m → Contains clause k
  back : (k : Literal) → Contains clause k → Contains c k ⊎ (k ≡ l)

image : (l m : Literal) (cs ds : List (List Literal)) → IsMatched l m cs ds → (c : List Literal) → Contains cs c → Image l m c ds
image l m cs ds h c i =
    elim (cases_contains m c) [
      | inr lacks ↦ record { clause = c; live = h.kept c i lacks; on = λ k j n. j; back = λ k j. inl j }
      | inl own ↦
          let r = h.renamed c i own in
          record {
            clause = r.0;
            live = r.1;
            on = λ k j n. elim (r.2.on k j) [ inl a ↦ a | inr e ↦ absurd (n e) ];
            back = λ k j. elim (r.2.back k j) [ inl a ↦ inl a.0 | inr e ↦ inr e ];
          }
    ]

-- no label is plain, and none is in no clause, that was not so before
plain-before : (s t : State) (l m : Literal) → IsMatched l m s.hard t.hard → (x : Literal) → x.variable ≢ m.variable → IsPlain x t.hard → IsPlain x s.hard
plain-before s t l m h x far p c i k j e =
    let d = image l m s.hard t.hard h c i in
    p d.clause d.live k (d.on k j (λ f. far (ap (λ (y : Literal). y.variable) (sym e ∙ f)))) e

unused-before : (s t : State) (l m : Literal) → IsMatched l m s.hard t.hard → (x : Literal) → x.variable ≢ m.variable → IsUnused x t.hard → IsUnused x s.hard
unused-before s t l m h x far u c i j =
    let d = image l m s.hard t.hard h c i in
    u d.clause d.live (d.on x j (λ f. far (ap (λ (y : Literal). y.variable) f)))

-- no two labels match that did not before
match-before : (s t : State) (l m a b : Literal) → IsMatched l m s.hard t.hard → ((c : Cost) → Contains t.costs c → Contains s.costs c) → ((c : Cost) → Contains t.costs c → c.lit.variable ≢ m.variable) → AreMatching a b t → AreMatching a b s
match-before s t l m a b h costs none match =
    let w = match.weight in
    let far_a : a.variable ≢ m.variable = none (record { lit = a; weight = w.0 }) w.1 in
    let far_b : b.variable ≢ m.variable = none (record { lit = b; weight = w.0 }) w.2 in
    let not_m : (k : Literal) → k.variable ≢ m.variable → k ≢ m = λ k n e. n (ap (λ (x : Literal). x.variable) e) in
    let plain : (x : Literal) → x.variable ≢ m.variable → IsPlain x t.hard → IsPlain x s.hard = plain-before s t l m h in
    record {
      weight = (w.0, costs (record { lit = a; weight = w.0 }) w.1, costs (record { lit = b; weight = w.0 }) w.2);
      names = match.names;
      plain_l = plain a far_a match.plain_l;
      plain_m = plain b far_b match.plain_m;
      apart = λ c i j k. let d = image l m s.hard t.hard h c i in match.apart d.clause d.live (d.on a j (not_m a far_a)) (d.on b k (not_m b far_b));
      conflict = λ c d i j p q.
          let x = image l m s.hard t.hard h c i in
          let y = image l m s.hard t.hard h d j in
          let k = match.conflict x.clause y.clause x.live y.live (x.on a p (not_m a far_a)) (y.on b q (not_m b far_b)) in
          elim (x.back k.0 k.3) [
            | inl u ↦ elim (y.back (negation k.0) k.4) [
              | inl v ↦ (k.0, k.1, k.2, u, v)
              | inr e ↦ absurd (h.plain_l c i k.0 u (sym (negation-negation k.0) ∙ ap negation e))
            ]
            | inr e ↦ elim (y.back (negation k.0) k.4) [
              | inl v ↦ absurd (h.plain_l d j (negation k.0) v (ap negation e))
              | inr f ↦ absurd (negation-other l (sym (ap negation e) ∙ f))
            ]
          ];
    }

steps-changed : (h : Held) (l m : Literal) (r : Rewrite) → IsStore h → h.refuted ≡ false → AreMatching l m (labelled_of h) → (w : IsMatchingRewrite l m h r) → has_empty w.added ≡ false → IsMatchStep l m h (changed_by (matching_rewrite m h w.added w.repairs) h)
steps-changed h l m r s u match w full =
    let b = both-labels h l m s match in
    let q = matching_rewrite m h w.added w.repairs in
    let valid : IsValid q h = matching-valid h l m w.added w.repairs s b.up_l b.up_m w.joins (split-proper-all h l m r s b.up_l b.up_m w) in
    let matched = store-matched h l m w.added w.repairs s match w.joins in
    let paid = costs-once h l m match.weight.0 w.added w.repairs s match.names b valid in
    let x = w.split in
    let old = labelled_of h in
    let new = after-match m h w.added w.repairs in
    let ids = λ (k : Literal). clauses_at h.slots (ids_with (place_of k) h.slots) in
    let has_l : IsWithList l old.hard x.0 = record {
      has = λ c i j. order-has (ids l) x.0 c x.2 (with-has l h.slots c i j);
      only = λ c i. with-only l h.slots c (order-only (ids l) x.0 c x.2 i);
    } in
    let has_m : IsWithList m old.hard x.1 = record {
      has = λ c i j. order-has (ids m) x.1 c x.3 (with-has m h.slots c i j);
      only = λ c i. with-only m h.slots c (order-only (ids m) x.1 c x.3 i);
    } in
    let offset : new.offset ≡ old.offset = omega arith in
    let vars : new.vars ≡ old.vars = omega arith in
    let keeps : Keeps old new (matching_repairs l m x.0 x.1) = matching_keeps old new l m match.weight.0 x.0 x.1 (store-variables h s) b.up_l.0 b.up_m.0 match.names matched paid offset vars has_l has_m in
    let costs = costs-left h m w.added w.repairs in
    let whole = weights_after q h in
    let far : (a : Literal) → weight_in whole a ≢ 0 → a.variable ≢ m.variable = λ a n. paid.none (record { lit = a; weight = weight_in whole a }) (weight-cost whole a n) in
    record {
      run = run-after LeavesOffset q h (changed_by q h) (subst (λ (x : Held). IsUntouched x (changed_by q h)) (sym (after-plain q h full)) refl) (subst (Keeps old new) (sym x.4) keeps) (record { vars = vars; offset = offset; costs = costs });
      standing = u;
      smaller = inl (let all = paid.own (λ (c : Cost). c.weight) in let some = b.some in omega arith);
      size = let all = paid.own (λ (c : Cost). 1) in omega (arith, all, ones old.costs, ones new.costs);
      costs = costs;
      lost = ap (λ y. weight_in y m) (table-zeroed h.weights m) ∙ set-zero h.weights (place_of m);
      fewer = λ a c k. match-before old new l m a c matched costs paid.none k;
      plain = λ a n. plain-before old new l m matched a (far a n);
      unused = λ a n. unused-before old new l m matched a (far a n);
    }

match-untouched : (l m : Literal) (h k u : Held) → IsMatchStep l m h k → IsUntouched k u → IsMatchStep l m h u
match-untouched l m h k u s e = rw e (record {
  run = run-untouched LeavesOffset h k (record k { prepared = u.prepared; arena = u.arena; places = u.places }) s.run refl;
  standing = s.standing;
  smaller = s.smaller;
  size = s.size;
  costs = s.costs;
  lost = s.lost;
  fewer = s.fewer;
  plain = s.plain;
  unused = s.unused;
})

pub matching-steps : (h u : Held) (l m : Literal) (r : Rewrite) → IsStore h → h.refuted ≡ false → AreMatching l m (labelled_of h) → IsMatchingRewrite l m h r → IsUntouched (after r h) u → IsMatchStep l m h u
matching-steps h u l m r s n match w e =
    let q = matching_rewrite m h w.added w.repairs in
    let full : has_empty w.added ≡ false = none-empty w.added l (λ c i. let n = added-from h l m w.added w.joins c i in (n.join.each l).1 (inl (Contains-first l []))) in
    let same : after r h ≡ changed_by q h = ap (λ (x : Rewrite). after x h) w.is ∙ after-plain q h full in
    match-untouched l m h (changed_by q h) u (steps-changed h l m r s n match w full) (subst (λ (x : Held). IsUntouched x u) same e)
