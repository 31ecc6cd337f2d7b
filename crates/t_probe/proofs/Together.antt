-- Making literals true together that cost nothing themselves.
use Rattle.std.proofs.Common.{◌≡◌, ◌≢◌, ◌⊎◌, ℕ, ◌+◌, ◌<◌, ◌≤◌, Bool, true, false, not, cond, List, [], ◌∷◌, ◌++◌, length, get_or, set, refl, sym, ◌∙◌, ap, subst, arith, sum_by, inl, inr, Contains, All, add-zero}
use Rattle.std.specs.Prelude.{Option, Some, None, ◌==◌, map}
use Rattle.std.proofs.lemmas.Bool.{cases_Bool, true≢false, not-true, ne_eqb, eq-eqb}
use Rattle.std.proofs.lemmas.List.Elements.{All-contains, Contains-append_cases, Contains-append_left, Contains-append_right}
use Rattle.std.proofs.lemmas.List.Sums.{sum_by-cons}
use Rattle.mp_logic.specs.Literal.{Literal, negation, IsUpTo}
use Rattle.mp_logic.specs.Truth.{literal_value, IsSatisfied}
use Rattle.mp_logic.specs.Keeping.{State, IsModel, charged, full_cost, total_of, Keeps}
use Rattle.mp_logic.specs.Repairs.{repaired}
use Rattle.mp_logic.specs.Rewrites.{set_repair}
use Rattle.mp_logic.specs.Sets.{Among}
use Rattle.mp_logic.specs.declared.instances.Cost.{Cost}
use Rattle.mp_logic.proofs.Members.{Contains-none, Contains-first, Contains-later, Contains-cases, satisfied, IsSatisfied-from, witness, true_by, sum_by_le}
use Rattle.mp_logic.proofs.Literals.{same_or_negation, negation-negation, never_both, charged_le}
use Rattle.mp_logic.proofs.Charges.{charged_false}
use Rattle.mp_logic.proofs.Fixed.{Forced, forced}
use Rattle.mp_clauses.specs.Places.{place_of, literal_at, has, is_in}
use Rattle.mp_clauses.specs.Slots.{clause_of, live_clauses, cleared}
use Rattle.mp_clauses.specs.Weighing.{costs_of, weight_in, weighted}
use Rattle.mp_clauses.proofs.Found.{any-by, any-found, has-by, has-contains, ids_where-at}
use Rattle.mp_clauses.proofs.Pricing.{cost_at, has_cost, place-literal}
use Rattle.mp_store.specs.Held.{Held, labelled_of}
use Rattle.mp_store.specs.Rewriting.{weights_after, changed_by, IsValid}
use Rattle.mp_store.specs.Soundness.{IsStore}
use Rattle.mp_store.specs.Fixing.{meets, clashes, without, slot_touched, touched_by, shortened, paid_off_one, paid_off, fixing_of}
use Rattle.mp_store.specs.Changes.{weight_before}
use Rattle.mp_store.specs.Measures.{IsSmaller}
use Rattle.mp_store.proofs.Sound.{live-after, live-cleared}
use Rattle.mp_store.proofs.Fixes.{shortened-from, shortened-has, filter-from, filter-has, PaidOff, paid-from, AreDistinct, distinct-other, distinct-rest, set-zero, weighted-zeros, weights-fixed, fixing-valid}
use Rattle.mp_store.proofs.KeptFixing.{live-at, live-id, cleared-other, store-variables}
use Rattle.mp_store.proofs.Changes.{payments_change, totals_change}

-- the slots once the literals are true
abbrev pub slots_together : List Literal → Held → List (Option (List Literal))
slots_together us h = cleared (touched_by us h.slots) h.slots ++ map Some (shortened us h.slots)

abbrev pub AreTrue : List Bool → List Literal → Type 0
AreTrue a us = (u : Literal) → Contains us u → literal_value a u ≡ true

-- none of the literals costs
abbrev pub AreFree : List Literal → Held → Type 0
AreFree us h = (u : Literal) → Contains us u → weight_in h.weights u ≡ 0

-- a true literal is the negation of none of them
unspoilt : (us : List Literal) (a : List Bool) (k : Literal) → AreTrue a us → literal_value a k ≡ true → has (place_of (negation k)) us ≡ false
unspoilt us a k t v =
    elim (cases_Bool (has (place_of (negation k)) us)) [
      | inr f ↦ f
      | inl h ↦ absurd (never_both a k (negation k) (t (negation k) (has-contains us (negation k) h)) v (sym (negation-negation k)))
    ]

-- clauses
untouched-live : (us : List Literal) (h : Held) (c : List Literal) → Contains (live_clauses h.slots) c → meets us c ≡ false → clashes us c ≡ false → Contains (live_clauses (slots_together us h)) c
untouched-live us h c m a b =
    let w = live-id h.slots c m in
    let test : slot_touched us (clause_of h.slots w.0) ≡ false = rw w.1 (rw (a, b) refl) in
    let out : is_in w.0 (touched_by us h.slots) ≡ false = ids_where-at (slot_touched us) h.slots w.0 refl ∙ test in
    let stays = cleared-other (touched_by us h.slots) h.slots w.0 out ∙ w.1 in
    rw (live-after (touched_by us h.slots) (shortened us h.slots) h.slots) (Contains-append_left (live_clauses (cleared (touched_by us h.slots) h.slots)) (shortened us h.slots) c (live-at (cleared (touched_by us h.slots) h.slots) w.0 c stays))

shortened-live : (us : List Literal) (h : Held) (c : List Literal) → Contains (live_clauses h.slots) c → meets us c ≡ false → clashes us c ≡ true → Contains (live_clauses (slots_together us h)) (without us c)
shortened-live us h c m a b =
    rw (live-after (touched_by us h.slots) (shortened us h.slots) h.slots) (Contains-append_right (live_clauses (cleared (touched_by us h.slots) h.slots)) (shortened us h.slots) (without us c) (shortened-has us h.slots c m b a))

-- a model that makes them true is one of what is left
pub together-on : (us : List Literal) (h : Held) (a : List Bool) → AreTrue a us → IsSatisfied a (live_clauses h.slots) → IsSatisfied a (live_clauses (slots_together us h))
together-on us h a t m =
    IsSatisfied-from a (live_clauses (slots_together us h)) (λ d i.
    elim (Contains-append_cases (live_clauses (cleared (touched_by us h.slots) h.slots)) (shortened us h.slots) d (rw (live-after (touched_by us h.slots) (shortened us h.slots) h.slots) at i)) [
      | inl b ↦ satisfied a (live_clauses h.slots) d m (live-cleared (touched_by us h.slots) h.slots d b)
      | inr b ↦
          let f = shortened-from us h.slots d b in
          let w = witness a f.clause (satisfied a (live_clauses h.slots) f.clause m f.live) in
          true_by a d w.0 (subst (λ (x : List Literal). Contains x w.0) (sym f.is) (filter-has (λ l. not (has (place_of (negation l)) us)) f.clause w.0 w.1 (ap not (unspoilt us a w.0 t w.2)))) w.2
    ])

-- a model of what is left is one of all, once they are true
together-back : (us : List Literal) (h : Held) (a b : List Bool) → IsStore h → AreTrue b us → ((k : Literal) → 1 ≤ k.variable → literal_value a k ≡ true → has (place_of (negation k)) us ≡ false → literal_value b k ≡ true) → IsSatisfied a (live_clauses (slots_together us h)) → IsSatisfied b (live_clauses h.slots)
together-back us h a b s t keeps m =
    IsSatisfied-from b (live_clauses h.slots) (λ c i.
    let from_one : (k : Literal) → Contains c k → 1 ≤ k.variable = λ k j. (store-variables h s).hard c i k j in
    elim (cases_Bool (meets us c)) [
      | inl e ↦ let w = any-found (λ l. has (place_of l) us) c e in true_by b c w.0 w.1 (t w.0 (has-contains us w.0 w.2))
      | inr e ↦ elim (cases_Bool (clashes us c)) [
        | inl f ↦
            let w = witness a (without us c) (satisfied a (live_clauses (slots_together us h)) (without us c) m (shortened-live us h c i e f)) in
            let o = filter-from (λ l. not (has (place_of (negation l)) us)) c w.0 w.1 in
            true_by b c w.0 o.0 (keeps w.0 (from_one w.0 o.0) w.2 (not-true (has (place_of (negation w.0)) us) o.1))
        | inr f ↦
            let w = witness a c (satisfied a (live_clauses (slots_together us h)) c m (untouched-live us h c i e f)) in
            let clear : has (place_of (negation w.0)) us ≡ false = elim (cases_Bool (has (place_of (negation w.0)) us)) [
              | inr g ↦ g
              | inl g ↦ absurd (true≢false (sym (any-by (λ l. has (place_of (negation l)) us) c w.0 w.1 g) ∙ f))
            ] in
            true_by b c w.0 w.1 (keeps w.0 (from_one w.0 w.1) w.2 clear)
      ]
    ])

-- repairs
abbrev pub set_each : List Literal → List Bool → List Bool
set_each us a = repaired (map (λ u. set_repair u (u ∷ [])) us) a

record AreForced (us : List Literal) (a b : List Bool) : Type 0 where
  own : AreTrue b us
  others : (k : Literal) → 1 ≤ k.variable → ((u : Literal) → Contains us u → k.variable ≢ u.variable) → literal_value b k ≡ literal_value a k

are-forced : (us : List Literal) (a : List Bool) → AreDistinct us → ((u : Literal) → Contains us u → 1 ≤ u.variable) → AreForced us a (set_each us a)
are-forced [] a d p = record { own = λ u i. absurd (Contains-none u i); others = λ k q o. refl }
are-forced (u ∷ us) a d p =
    let rest = are-forced us a (distinct-rest u us d) (λ v i. p v (Contains-later u us v i)) in
    let f : Forced u (set_each us a) (set_each (u ∷ us) a) = forced u (set_each us a) (p u (Contains-first u us)) in
    record {
      own = λ v i. elim (Contains-cases u us v i) [
        | inl e ↦ subst (λ (x : Literal). literal_value (set_each (u ∷ us) a) x ≡ true) (sym e) f.own
        | inr j ↦ f.others v (p v i) (distinct-other u us d v j) ∙ rest.own v j
      ];
      others = λ k q o. f.others k q (o u (Contains-first u us)) ∙ rest.others k q (λ v j. o v (Contains-later u us v j));
    }

-- a literal is one of them, the negation of one, or on another variable than each
away-or-on : (us : List Literal) (k : Literal) → has (place_of k) us ≡ false → has (place_of (negation k)) us ≡ false → (u : Literal) → Contains us u → k.variable ≢ u.variable
away-or-on us k o n u i e =
    elim (same_or_negation k u e) [
      | inl s ↦ true≢false (sym (has-by us k (subst (Contains us) (sym s) i)) ∙ o)
      | inr s ↦ true≢false (sym (has-by us (negation k) (subst (Contains us) (sym (ap negation s ∙ negation-negation u)) i)) ∙ n)
    ]

forced-keeps : (us : List Literal) (a b : List Bool) → AreForced us a b → (k : Literal) → 1 ≤ k.variable → literal_value a k ≡ true → has (place_of (negation k)) us ≡ false → literal_value b k ≡ true
forced-keeps us a b f k p v n =
    elim (cases_Bool (has (place_of k) us)) [
      | inl t ↦ f.own k (has-contains us k t)
      | inr o ↦ f.others k p (away-or-on us k o n) ∙ v
    ]

-- costs
pub sum-none : {X : Type 0} (f : X → ℕ) (xs : List X) → ((x : X) → Contains xs x → f x ≡ 0) → sum_by f xs ≡ 0
sum-none f [] h = refl
sum-none f (x ∷ xs) h =
    let first = h x (Contains-first x xs) in
    let rest = sum-none f xs (λ y i. h y (Contains-later x xs y i)) in
    omega (arith, first, rest, sum_by-cons f x xs)

pub sum-has : {X : Type 0} (f : X → ℕ) (xs : List X) (x : X) → Contains xs x → f x ≤ sum_by f xs
sum-has f [] x h = absurd (Contains-none x h)
sum-has f (y ∷ xs) x h =
    elim (Contains-cases y xs x h) [
      | inl e ↦ let own : f x ≡ f y = ap f e in omega (arith, own, sum_by-cons f y xs)
      | inr r ↦ omega (arith, sum-has f xs x r, sum_by-cons f y xs)
    ]

cond-none : (b : Bool) (n : ℕ) → n ≡ 0 → cond b n 0 ≡ 0
cond-none true n e = e
cond-none false n e = refl

-- where they are true, the costs that go were not paid
unpaid : (us : List Literal) (h : Held) (a : List Bool) → AreFree us h → AreTrue a us → (c : Cost) → Contains (paid_off h.weights us) c → charged a (weight_before h.weights c) ≡ 0
unpaid us h a free t c i =
    let p = paid-from h.weights us c i in
    elim (same_or_negation c.lit p.literal p.variable) [
      | inl e ↦ cond-none (literal_value a c.lit) (weight_in h.weights c.lit) (ap (weight_in h.weights) e ∙ free p.literal p.from)
      | inr e ↦ charged_false a (weight_before h.weights c) (elim (cases_Bool (literal_value a c.lit)) [ inr f ↦ f | inl f ↦ absurd (never_both a c.lit p.literal (t p.literal p.from) f e) ])
    ]

zero-charged : (a : List Bool) (us : List Literal) (h : Held) (c : Cost) → Contains (paid_off h.weights us) c → charged a c ≡ 0
zero-charged a us h c i = cond-none (literal_value a c.lit) c.weight (paid-from h.weights us c i).weight

pub together-shift : (us : List Literal) (h : Held) → AreFree us h → sum_by (weight_in h.weights) us ≡ 0
together-shift us h free = sum-none (weight_in h.weights) us free

pub together-paid : (us : List Literal) (h : Held) (a : List Bool) → IsStore h → IsValid (fixing_of us h) h → AreFree us h → AreTrue a us → full_cost (labelled_of (changed_by (fixing_of us h) h)) a ≡ full_cost (labelled_of h) a
together-paid us h a s v free t =
    let r = fixing_of us h in
    let all = payments_change r h a s v in
    let gone = sum-none (λ (c : Cost). charged a (weight_before h.weights c)) (paid_off h.weights us) (unpaid us h a free t) in
    let come = sum-none (charged a) (paid_off h.weights us) (zero-charged a us h) in
    let shift = together-shift us h free in
    omega (arith, all, gone, come, shift)

-- each cost left is one that there was
pub together-costs : (us : List Literal) (h : Held) → Among (costs_of (weights_after (fixing_of us h) h)) (costs_of h.weights)
together-costs us h p m =
    let new = weights_after (fixing_of us h) h in
    let c = cost_at 0 new p m in
    let same : get_or new c.place 0 ≡ get_or (weighted (paid_off h.weights us) h.weights) c.place 0 = ap (λ w. get_or w c.place 0) (weights-fixed h us) in
    elim (weighted-zeros (paid_off h.weights us) h.weights c.place (λ d i. (paid-from h.weights us d i).weight)) [
      | inr z ↦ absurd (c.some (same ∙ z))
      | inl e ↦
          let value : get_or new c.place 0 ≡ get_or h.weights c.place 0 = same ∙ e in
          let there = has_cost 0 h.weights c.place (λ z. c.some (value ∙ z)) in
          let is : p ≡ record { lit = literal_at (0 + c.place); weight = get_or h.weights c.place 0 } = c.is ∙ ap (λ (n : ℕ). record { lit = literal_at (0 + c.place); weight = n }) value in
          subst (Contains (costs_of h.weights)) (sym is) there
    ]

-- the weight of a cost
pub cost-weight : (w : List ℕ) (p : Cost) → Contains (costs_of w) p → (weight_in w p.lit ≡ p.weight) × (p.weight ≢ 0)
cost-weight w p m =
    let c = cost_at 0 w p m in
    let n : 0 + c.place ≡ c.place = omega arith in
    let at : place_of p.lit ≡ c.place = ap (λ (q : Cost). place_of q.lit) c.is ∙ (place-literal (0 + c.place) ∙ n) in
    let own : p.weight ≡ get_or w c.place 0 = ap (λ (q : Cost). q.weight) c.is in
    (ap (λ k. get_or w k 0) at ∙ sym own, λ z. c.some (sym own ∙ z))

-- once they are true, what is left costs no more than before
together-cheaper : (us : List Literal) (h : Held) (a : List Bool) → IsStore h → AreFree us h → (b : List Bool) → AreForced us a b → (p : Cost) → Contains (costs_of (weights_after (fixing_of us h) h)) p → charged b p ≤ charged a p
together-cheaper us h a s free b f p m =
    let was = together-costs us h p m in
    let w = cost-weight h.weights p was in
    charged_le a b p (λ v.
    let no_own : has (place_of p.lit) us ≡ false = elim (cases_Bool (has (place_of p.lit) us)) [ inr n ↦ n | inl t ↦ absurd (w.1 (sym w.0 ∙ free p.lit (has-contains us p.lit t))) ] in
    sym (f.others p.lit ((store-variables h s).costs p was) (away-or-on us p.lit no_own (unspoilt us b p.lit f.own v))) ∙ v)

-- for each model some model of no greater cost makes them true
abbrev pub BendTogether : State → List Literal → Type 0
BendTogether s us = (a : List Bool) → IsModel s a → (b : List Bool) × IsModel s b × AreTrue b us × (full_cost s b ≤ full_cost s a)

pub together-keeps : (us : List Literal) (h : Held) → IsStore h → AreDistinct us → All (IsUpTo h.vars) us → AreFree us h → BendTogether (labelled_of h) us → Keeps (labelled_of h) (labelled_of (changed_by (fixing_of us h) h)) (map (λ u. set_repair u (u ∷ [])) us)
together-keeps us h s d up free bend =
    let v = fixing-valid us h s d up in
    let new = weights_after (fixing_of us h) h in
    record {
      down = λ a m.
          let f = are-forced us a d (λ u i. (All-contains (IsUpTo h.vars) us u up i).0) in
          let b = set_each us a in
          let less = sum_by_le (charged b) (charged a) (costs_of new) (together-cheaper us h a s free b f) in
          let same = together-paid us h b s v free f.own in
          (together-back us h a b s f.own (forced-keeps us a b f) m, omega (arith, less, same));
      up = λ a m.
          let b = bend a m in
          let same = together-paid us h b.0 s v free b.2 in
          (b.0, together-on us h b.0 b.2 b.1, omega (arith, same, b.3));
      vars = omega arith;
      total =
          let all = totals_change (fixing_of us h) h s v in
          let come = sum-none (λ (c : Cost). c.weight) (paid_off h.weights us) (λ c i. (paid-from h.weights us c i).weight) in
          let shift = together-shift us h free in
          omega (arith, all, come, shift);
    }

-- the cost of a negation goes
paid-off-has : (w : List ℕ) (us : List Literal) (u : Literal) → Contains us u → weight_in w u ≡ 0 → weight_in w (negation u) ≢ 0 → Contains (paid_off w us) (record { lit = negation u; weight = 0 })
paid-off-has w [] u i z n = absurd (Contains-none u i)
paid-off-has w (x ∷ us) u i z n =
    elim (Contains-cases x us u i) [
      | inr r ↦ Contains-append_right (paid_off_one w x) (paid_off w us) (record { lit = negation u; weight = 0 }) (paid-off-has w us u r z n)
      | inl e ↦
          let one : paid_off_one w u ≡ record { lit = negation u; weight = 0 } ∷ [] = rw (eq-eqb (weight_in w u) 0 z, ne_eqb (weight_in w (negation u)) 0 n) refl in
          let own : paid_off_one w x ≡ record { lit = negation u; weight = 0 } ∷ [] = ap (paid_off_one w) (sym e) ∙ one in
          Contains-append_left (paid_off_one w x) (paid_off w us) (record { lit = negation u; weight = 0 }) (subst (λ (cs : List Cost). Contains cs (record { lit = negation u; weight = 0 })) (sym own) (Contains-first (record { lit = negation u; weight = 0 }) []))
    ]

weighted-put : (cs : List Cost) (w : List ℕ) (c : Cost) → Contains cs c → ((d : Cost) → Contains cs d → d.weight ≡ 0) → get_or (weighted cs w) (place_of c.lit) 0 ≡ 0
weighted-put [] w c i z = absurd (Contains-none c i)
weighted-put (d ∷ cs) w c i z =
    let later : (e : Cost) → Contains cs e → e.weight ≡ 0 = λ e j. z e (Contains-later d cs e j) in
    elim (Contains-cases d cs c i) [
      | inr r ↦ weighted-put cs (set w (place_of d.lit) d.weight) c r later
      | inl e ↦
          let own : get_or (weighted cs (set w (place_of d.lit) d.weight)) (place_of d.lit) 0 ≡ 0 = elim (weighted-zeros cs (set w (place_of d.lit) d.weight) (place_of d.lit) later) [
            | inr f ↦ f
            | inl f ↦ f ∙ (ap (λ x. get_or (set w (place_of d.lit) x) (place_of d.lit) 0) (z d (Contains-first d cs)) ∙ set-zero w (place_of d.lit))
          ] in
          ap (λ (x : Cost). get_or (weighted cs (set w (place_of d.lit) d.weight)) (place_of x.lit) 0) e ∙ own
    ]

pub together-gone : (us : List Literal) (h : Held) (u : Literal) → Contains us u → weight_in h.weights u ≡ 0 → weight_in h.weights (negation u) ≢ 0 → weight_in (weights_after (fixing_of us h) h) (negation u) ≡ 0
together-gone us h u i z n =
    ap (λ w. weight_in w (negation u)) (weights-fixed h us) ∙ weighted-put (paid_off h.weights us) h.weights (record { lit = negation u; weight = 0 }) (paid-off-has h.weights us u i z n) (λ d j. (paid-from h.weights us d j).weight)

-- where one of them had a cost on its negation, the weights fall
pub together-smaller : (us : List Literal) (h : Held) (u : Literal) → IsStore h → AreDistinct us → All (IsUpTo h.vars) us → AreFree us h → Contains us u → weight_in h.weights (negation u) ≢ 0 → IsSmaller (labelled_of (changed_by (fixing_of us h) h)) (labelled_of h)
together-smaller us h u s d up free i n =
    let v = fixing-valid us h s d up in
    let all = totals_change (fixing_of us h) h s v in
    let come = sum-none (λ (c : Cost). c.weight) (paid_off h.weights us) (λ c j. (paid-from h.weights us c j).weight) in
    let shift = together-shift us h free in
    let some = sum-has (λ (c : Cost). weight_in h.weights c.lit) (paid_off h.weights us) (record { lit = negation u; weight = 0 }) (paid-off-has h.weights us u i (free u i) n) in
    inl (omega (arith, all, come, shift, some))
