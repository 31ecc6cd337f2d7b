-- Group-subsumed labels by turns: the greedy cover of a label that is not near one that became false is what it was.
use Rattle.std.proofs.Common.{◌≡◌, ◌≢◌, ◌⊎◌, ℕ, Bool, true, false, cond, List, [], ◌∷◌, ◌++◌, set, zero, suc, refl, sym, ◌∙◌, ap, subst, arith, inl, inr, Contains, All}
use Rattle.std.specs.Prelude.{Option, Some, None, ◌||◌}
use Rattle.std.specs.List.{filter}
use Rattle.std.proofs.lemmas.Bool.{cases_Bool, or_cases, true≢false}
use Rattle.std.proofs.lemmas.List.Sorted.{Contains-permutation, IsPermutation-sym}
use Rattle.mp_logic.specs.Literal.{Literal, negation, IsUpTo}
use Rattle.mp_logic.specs.Fixing.{Bends, IsFixed}
use Rattle.mp_logic.specs.SubsumedLabels.{IsPlain}
use Rattle.mp_logic.specs.declared.instances.Cost.{Cost}
use Rattle.mp_logic.proofs.Literals.{negation-negation}
use Rattle.mp_logic.proofs.Members.{Contains-first, Contains-later, All-from_contained}
use Rattle.mp_logic.proofs.Covered.{group_cover_bends}
use Rattle.mp_clauses.specs.Places.{place_of, has, is_in}
use Rattle.mp_clauses.specs.Slots.{clause_of, live_clauses, cleared}
use Rattle.mp_clauses.specs.Weighing.{costs_of, weight_in}
use Rattle.mp_clauses.specs.Occurrences.{ids_with}
use Rattle.mp_clauses.proofs.Found.{any-by, any-found, has-by, has-contains, is_in-by}
use Rattle.mp_store.specs.Held.{Held, labelled_of}
use Rattle.mp_store.specs.Soundness.{IsStore}
use Rattle.mp_store.specs.Fixing.{meets, clashes, slot_touched, touched_by, shortened}
use Rattle.mp_clauses.proofs.Found.{ids_where-at}
use Rattle.mp_store.proofs.Clashes.{not-all}
use Rattle.mp_store.proofs.Fixes.{filter-from, filter-has, shortened-from}
use Rattle.mp_store.proofs.KeptFixing.{live-at, store-fixed, store-variables, cleared-out, cleared-other, meets-one, negated-one, is-without, untouched-live}
use Rattle.mp_store.proofs.Sound.{live-after}
use Rattle.mp_turns.specs.Turning.{IsTurning}
use Rattle.mp_turns.specs.Turned.{IsChangeOf, IsTurn}
use Rattle.mp_turns.specs.declared.turn.Turned.TheVariants.{Changed}
use Rattle.t_labels.specs.Covers.{cost_in}
use Rattle.t_labels.specs.Lowering.{IsLowered, AreWith, AreNear}
use Rattle.t_labels.specs.Groups.{IsOther, IsLightest, AreChosen, AreInOrder, HasNoGroup, group_covering}
use Rattle.t_labels.specs.Grouping.{clauses_at, may_cover_at, clauses_with, slot_may_be_met, each_may_be_met, is_covered_by_group, IsTested}
use Rattle.t_labels.proofs.Labels.{cost-some, weight-cost, at-place, id-of, live-within, live-normal}
use Rattle.t_labels.proofs.Lowered.{negation-free, AfterLowering, after-lowering, cost-left, cost-stays}
use Rattle.t_labels.proofs.Rounds.{labels-sound, labels-change, plain-back}
use Rattle.t_labels.proofs.LabelClauses.{clauses-are}
use Rattle.t_labels.proofs.Greedy.{greedy-cover}
use Rattle.t_labels.proofs.Choices.{may-of, no-choice}

-- the clauses of a label in order
order-has : (cs ds : List (List Literal)) (c : List Literal) → AreInOrder cs ds → Contains cs c → Contains ds c
order-has cs ds c h i = Contains-permutation cs ds c h.moved i

order-only : (cs ds : List (List Literal)) (c : List Literal) → AreInOrder cs ds → Contains ds c → Contains cs c
order-only cs ds c h i = Contains-permutation ds cs c (IsPermutation-sym cs ds h.moved) i

with-only : (h : Held) (l : Literal) (c : List Literal) → Contains (clauses_with l h) c → Contains (live_clauses h.slots) c × Contains c l
with-only h l c i = let w = filter-from (has (place_of l)) (live_clauses h.slots) c i in (w.0, has-contains c l w.1)

pub order-within : (h : Held) (l : Literal) (cs : List (List Literal)) → IsStore h → AreInOrder (clauses_at h.slots (ids_with (place_of l) h.slots)) cs → All (All (IsUpTo h.vars)) cs
order-within h l cs s order = All-from_contained (All (IsUpTo h.vars)) cs (λ c i. live-within h c s (with-only h l c (subst (λ (xs : List (List Literal)). Contains xs c) (clauses-are h l) (order-only (clauses_at h.slots (ids_with (place_of l) h.slots)) cs c order i))).0)

-- the tests
pub tested-bare : (h : Held) (l : Literal) (ids : List ℕ) (t : Bool) → ids ≡ ids_with (place_of l) h.slots → t ≡ each_may_be_met h l ids → t ≡ false → IsTested h l false
tested-bare h l ids t e f none =
    let w = not-all (λ id. slot_may_be_met h l (clause_of h.slots id)) ids (sym f ∙ none) in
    let o = id-of l h.slots w.0 (subst (λ (xs : List ℕ). Contains xs w.0) e w.1) in
    let bare : slot_may_be_met h l (Some o.0) ≡ false = ap (slot_may_be_met h l) (sym o.1) ∙ w.2 in
    inl (
      o.0,
      live-at h.slots w.0 o.0 o.1,
      o.2,
      λ q other i. true≢false (sym (any-by (may_cover_at h l) o.0 q.lit i (may-of h l q other)) ∙ bare),
    )

pub tested-whole : (h : Held) (l : Literal) (ids : List ℕ) (cs : List (List Literal)) (t : Bool) → IsStore h → ids ≡ ids_with (place_of l) h.slots → AreInOrder (clauses_at h.slots ids) cs → t ≡ is_covered_by_group h l cs → IsTested h l t
tested-whole h l ids cs t s e order is =
    let own : AreInOrder (clauses_with l h) cs = subst (λ (xs : List (List Literal)). AreInOrder xs cs) (ap (clauses_at h.slots) e ∙ clauses-are h l) order in
    let step : (b : Bool) → t ≡ b → IsTested h l b = λ (b : Bool). elim b as (λ b. t ≡ b → IsTested h l b) [
      | true ↦ λ y. (cs, own, sym is ∙ y)
      | false ↦ λ n. inr (cs, own, λ qs cover. no-choice h l cs [] (weight_in h.weights l) qs s (λ c i. live-normal h c s (with-only h l c (order-only (clauses_with l h) cs c own i)).0) (sym is ∙ n) (omega arith) cover.0 cover.1)
    ] in
    step t refl

pub tested-bends : (h : Held) (l : Literal) → IsStore h → weight_in h.weights l ≢ 0 → IsTested h l true → Bends (labelled_of h) (negation l)
tested-bends h l s n t =
    let g = greedy-cover h l t.0 s n (λ c i j. order-has (clauses_with l h) t.0 c t.1 (filter-has (has (place_of l)) (live_clauses h.slots) c i (has-by c l j))) t.2 in
    group_cover_bends (labelled_of h) (cost_in h.weights l) g.0 (store-variables h s) s.labelled.costs_apart (weight-cost h.weights l n) g.1

-- clauses that stay
lacks-both : (l : Literal) (c : List Literal) → (Contains c (negation l) → ⊥) → (Contains c l → ⊥) → (meets (negation l ∷ []) c ≡ false) × (clashes (negation l ∷ []) c ≡ false)
lacks-both l c far off = (
  elim (cases_Bool (meets (negation l ∷ []) c)) [ inl t ↦ absurd (far (meets-one (negation l) c t)) | inr f ↦ f ],
  elim (cases_Bool (clashes (negation l ∷ []) c)) [
    | inr f ↦ f
    | inl t ↦ let w = any-found (λ k. has (place_of (negation k)) (negation l ∷ [])) c t in absurd (off (subst (Contains c) (negated-one (negation l) w.0 w.2 ∙ negation-negation l) w.1))
  ],
)

filter-gone : (p : List Literal → Bool) (s : List (Option (List Literal))) (k : ℕ) → ((c : List Literal) → clause_of s k ≡ Some c → p c ≡ false) → filter p (live_clauses (set s k None)) ≡ filter p (live_clauses s)
filter-gone p [] k h = refl
filter-gone p (None ∷ s) zero h = refl
filter-gone p (Some c ∷ s) zero h = sym (ap (λ b. cond b (c ∷ filter p (live_clauses s)) (filter p (live_clauses s))) (h c refl))
filter-gone p (None ∷ s) (suc k) h = filter-gone p s k h
filter-gone p (Some c ∷ s) (suc k) h = ap (λ xs. cond (p c) (c ∷ xs) xs) (filter-gone p s k h)

set-some : (s : List (Option (List Literal))) (g k : ℕ) (c : List Literal) → clause_of (set s g None) k ≡ Some c → clause_of s k ≡ Some c
set-some s g k c e =
    elim (cases_Bool (is_in k (g ∷ []))) [
      | inl t ↦ let none = cleared-out (g ∷ []) s k t in absurd (cc)
      | inr f ↦ sym (cleared-other (g ∷ []) s k f) ∙ e
    ]

filter-cleared : (p : List Literal → Bool) (gone : List ℕ) (s : List (Option (List Literal))) → ((k : ℕ) (c : List Literal) → Contains gone k → clause_of s k ≡ Some c → p c ≡ false) → filter p (live_clauses (cleared gone s)) ≡ filter p (live_clauses s)
filter-cleared p [] s h = refl
filter-cleared p (g ∷ gs) s h =
    filter-cleared p gs (set s g None) (λ k c i e. h k c (Contains-later g gs k i) (set-some s g k c e))
    ∙ filter-gone p s g (λ c e. h g c (Contains-first g gs) e)

filter-none : (p : List Literal → Bool) (xs ys : List (List Literal)) → ((c : List Literal) → Contains ys c → p c ≡ false) → filter p (xs ++ ys) ≡ filter p xs
filter-none p [] [] h = refl
filter-none p [] (y ∷ ys) h = ap (λ b. cond b (y ∷ filter p ys) (filter p ys)) (h y (Contains-first y ys)) ∙ filter-none p [] ys (λ c i. h c (Contains-later y ys c i))
filter-none p (x ∷ xs) ys h = ap (λ zs. cond (p x) (x ∷ zs) zs) (filter-none p xs ys h)

-- a literal none of whose clauses goes or is shortened has the same ones
same-clauses : (h u : Held) (l k : Literal) → AfterLowering l h u → ((c : List Literal) → Contains (live_clauses h.slots) c → Contains c k → (Contains c (negation l) → ⊥) × (Contains c l → ⊥)) → clauses_with k u ≡ clauses_with k h
same-clauses h u l k a away =
    let ids = touched_by (negation l ∷ []) h.slots in
    let p : List Literal → Bool = has (place_of k) in
    let lacks : (c : List Literal) → Contains (live_clauses h.slots) c → ((Contains c (negation l)) ⊎ (Contains c l)) → p c ≡ false = λ c i m.
    elim (cases_Bool (p c)) [
      | inr f ↦ f
      | inl t ↦ let w = away c i (has-contains c k t) in absurd (elim m [ inl x ↦ w.0 x | inr y ↦ w.1 y ])
    ] in
    let out : (id : ℕ) (c : List Literal) → Contains ids id → clause_of h.slots id ≡ Some c → p c ≡ false = λ id c i e.
    let test : slot_touched (negation l ∷ []) (clause_of h.slots id) ≡ true = sym (ids_where-at (slot_touched (negation l ∷ [])) h.slots id refl) ∙ is_in-by ids id i in
    let own : (meets (negation l ∷ []) c || clashes (negation l ∷ []) c) ≡ true = rw e at test in
    lacks c (live-at h.slots id c e) (elim (or_cases (meets (negation l ∷ []) c) (clashes (negation l ∷ []) c) own) [
      | inl x ↦ inl (meets-one (negation l) c x)
      | inr y ↦ let w = any-found (λ j. has (place_of (negation j)) (negation l ∷ [])) c y in inr (subst (Contains c) (negated-one (negation l) w.0 w.2 ∙ negation-negation l) w.1)
    ]) in
    let short : (d : List Literal) → Contains (shortened (negation l ∷ []) h.slots) d → p d ≡ false = λ d i.
    let f = shortened-from (negation l ∷ []) h.slots d i in
    let w = any-found (λ j. has (place_of (negation j)) (negation l ∷ [])) f.clause f.clash in
    let old = lacks f.clause f.live (inr (subst (Contains f.clause) (negated-one (negation l) w.0 w.2 ∙ negation-negation l) w.1)) in
    elim (cases_Bool (p d)) [
      | inr g ↦ g
      | inl t ↦
          let there = ((is-without (negation l) f.clause).only k (subst (λ (x : List Literal). Contains x k) f.is (has-contains d k t))).0 in
          absurd (true≢false (sym (has-by f.clause k there) ∙ old))
    ] in
    ap (λ s. filter p (live_clauses s)) a.slots
    ∙ (ap (filter p) (live-after ids (shortened (negation l ∷ []) h.slots) h.slots)
    ∙ (filter-none p (live_clauses (cleared ids h.slots)) (shortened (negation l ∷ []) h.slots) short ∙ filter-cleared p ids h.slots out))

plain-on : (l b : Literal) (cs ds : List (List Literal)) → IsFixed (negation l) cs ds → IsPlain b cs → IsPlain b ds
plain-on l b cs ds fixed plain d i k j z = let c = fixed.only d i in plain c.0 c.1 k (c.2.only k j).0 z

-- what may cover a label that is not near
record Steady (h u : Held) (l : Literal) (gone cut : List Literal) (near : List ℕ) (p : Cost) : Type 0 where
  store : IsStore h
  label : weight_in h.weights l ≢ 0
  after : AfterLowering l h u
  beside : AreWith (negation l) (live_clauses h.slots) gone
  shorter : AreWith l (live_clauses h.slots) cut
  named : AreNear gone cut u near
  cost : Contains (costs_of u.weights) p
  far : Contains near (place_of p.lit) → ⊥

steady-away : (h u : Held) (l : Literal) (gone cut : List Literal) (near : List ℕ) (p : Cost) → Steady h u l gone cut near p → (c : List Literal) → Contains (live_clauses h.slots) c → Contains c p.lit → (Contains c (negation l) → ⊥) × (Contains c l → ⊥)
steady-away h u l gone cut near p s c i j =
    let weighs = cost-some u.weights p s.cost in (
      λ g. s.far (s.named.each p.lit weighs (inl (s.beside.each p.lit (c, i, g, j)))),
      λ g. s.far (s.named.each p.lit weighs (inr (inl (s.shorter.each p.lit (c, i, g, j))))),
    )

steady-stays : (h u : Held) (l : Literal) (gone cut : List Literal) (near : List ℕ) (p : Cost) → Steady h u l gone cut near p → (c : List Literal) → Contains (live_clauses h.slots) c → Contains c p.lit → Contains (live_clauses u.slots) c
steady-stays h u l gone cut near p s c i j =
    let w = steady-away h u l gone cut near p s c i j in
    let clear = lacks-both l c w.0 w.1 in
    subst (λ x. Contains (live_clauses x) c) (sym s.after.slots) (untouched-live (negation l) h c i clear.0 clear.1)

-- the other plain labels of its clauses are the same ones
steady-back : (h u : Held) (l : Literal) (gone cut : List Literal) (near : List ℕ) (p : Cost) → Steady h u l gone cut near p → (c : List Literal) → Contains (live_clauses h.slots) c → Contains c p.lit → (q : Cost) → Contains c q.lit → IsOther p q (labelled_of u) → IsOther p q (labelled_of h)
steady-back h u l gone cut near p s c i j q m o =
    let fixed : IsFixed (negation l) (live_clauses h.slots) (live_clauses u.slots) = rw s.after.slots (store-fixed (negation l) h) in
    let was = (cost-left h u l q s.after o.cost).0 in
    let away : q.lit ≢ negation l = λ e. cost-some h.weights q was (ap (weight_in h.weights) e ∙ negation-free h l s.store s.label) in
    let there = steady-stays h u l gone cut near p s c i j in
    record {
      cost = was;
      other = o.other;
      plain = plain-back l q.lit (live_clauses h.slots) (live_clauses u.slots) fixed away (λ y k v g. s.far (s.named.each p.lit (cost-some u.weights p s.cost) (inr (inr (q.lit, record { label = cost-some u.weights q o.cost; was = s.beside.each (negation q.lit) (y, k, g, v); plain = o.plain }, (c, there, m, j)))))) o.plain;
    }

steady-on : (h u : Held) (l : Literal) (gone cut : List Literal) (near : List ℕ) (p : Cost) → Steady h u l gone cut near p → (c : List Literal) → Contains (live_clauses h.slots) c → Contains c p.lit → (q : Cost) → Contains c q.lit → IsOther p q (labelled_of h) → IsOther p q (labelled_of u)
steady-on h u l gone cut near p s c i j q m o =
    let fixed : IsFixed (negation l) (live_clauses h.slots) (live_clauses u.slots) = rw s.after.slots (store-fixed (negation l) h) in
    let differ : q.lit ≢ l = λ e. (steady-away h u l gone cut near p s c i j).1 (subst (Contains c) e m) in
    record {
      cost = cost-stays h u l q s.after o.cost differ;
      other = o.other;
      plain = plain-on l q.lit (live_clauses h.slots) (live_clauses u.slots) fixed o.plain;
    }

lightest-back : (h u : Held) (l : Literal) (gone cut : List Literal) (near : List ℕ) (p : Cost) → Steady h u l gone cut near p → (c : List Literal) → Contains (live_clauses h.slots) c → Contains c p.lit → (q : Cost) → IsLightest p (labelled_of u) c q → IsLightest p (labelled_of h) c q
lightest-back h u l gone cut near p s c i j q light = record {
  is = steady-back h u l gone cut near p s c i j q light.inside light.is;
  inside = light.inside;
  least = λ r o k. light.least r (steady-on h u l gone cut near p s c i j r k o) k;
}

chosen-back : (h u : Held) (l : Literal) (gone cut : List Literal) (near : List ℕ) (p : Cost) (cs : List (List Literal)) (chosen qs : List Cost) → Steady h u l gone cut near p → ((c : List Literal) → Contains cs c → Contains (live_clauses h.slots) c × Contains c p.lit) → AreChosen p (labelled_of u) cs chosen qs → AreChosen p (labelled_of h) cs chosen qs
chosen-back h u l gone cut near p [] chosen qs s own a = a
chosen-back h u l gone cut near p (c ∷ cs) chosen qs s own a =
    let first = own c (Contains-first c cs) in
    let later : (d : List Literal) → Contains cs d → Contains (live_clauses h.slots) d × Contains d p.lit = λ d i. own d (Contains-later c cs d i) in
    elim a [
      | inl x ↦ inl (x.0, chosen-back h u l gone cut near p cs chosen qs s later x.1)
      | inr x ↦ inr (x.0, (x.1.0, lightest-back h u l gone cut near p s c first.0 first.1 x.1.0 x.1.1, chosen-back h u l gone cut near p cs (chosen ++ x.1.0 ∷ []) qs s later x.1.2))
    ]

group-stays : (h u : Held) (l : Literal) (gone cut : List Literal) (near : List ℕ) (p : Cost) → Steady h u l gone cut near p → HasNoGroup p (labelled_of h) → HasNoGroup p (labelled_of u)
group-stays h u l gone cut near p s idle = elim idle [
  | inl b ↦ inl (b.0, steady-stays h u l gone cut near p s b.0 b.1 b.2, b.2, λ q o i. b.3 q (steady-back h u l gone cut near p s b.0 b.1 b.2 q i o) i)
  | inr g ↦
      let clauses = same-clauses h u l p.lit s.after (steady-away h u l gone cut near p s) in
      let order : AreInOrder (clauses_with p.lit u) g.0 = subst (λ (xs : List (List Literal)). AreInOrder xs g.0) (sym clauses) g.1 in
      inr (g.0, order, λ qs cover. g.2 qs (chosen-back h u l gone cut near p g.0 [] qs s (λ c i. with-only h p.lit c (order-only (clauses_with p.lit h) g.0 c g.1 i)) cover.0, cover.1))
]

pub group-sound : IsTurning group_covering
group-sound = labels-sound HasNoGroup

-- a label whose cover fails is idle
pub group-idle : (h : Held) (l : Literal) (item : ℕ) → place_of l ≡ item → IsTested h l false → group_covering.IsIdle h item
group-idle h l item at t p i e =
    let same : p ≡ cost_in h.weights l = at-place h.weights l p i (e ∙ sym at) in
    subst (λ (q : Cost). HasNoGroup q (labelled_of h)) (sym same) t

pub group-turned : (h u : Held) (l : Literal) (item : ℕ) (gone cut : List Literal) (near again : List ℕ) → IsStore h → weight_in h.weights l ≢ 0 → place_of l ≡ item → IsLowered l h u → AreWith (negation l) (live_clauses h.slots) gone → AreWith l (live_clauses h.slots) cut → AreNear gone cut u near → again ≡ near → IsTurn group_covering item h u again Changed
group-turned h u l item gone cut near again s n at e beside shorter named put =
    elim (cases_Bool u.refuted) [
      | inl t ↦ inl t
      | inr f ↦
          let a = after-lowering h u l s n e f in
          inr (subst (IsChangeOf group_covering item h u) (sym put) (labels-change HasNoGroup h u l item gone cut near s n at a named (λ p i idle far.
          group-stays h u l gone cut near p (record { store = s; label = n; after = a; beside = beside; shorter = shorter; named = named; cost = i; far = far }) idle)))
    ]
