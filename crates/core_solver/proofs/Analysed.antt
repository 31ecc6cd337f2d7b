-- A conflict is analysed: what is noted runs into the conflict under propagation, from its clause to the clause learnt.
use Rattle.std.proofs.Common.{◌≡◌, ◌≢◌, ◌⊎◌, ◌<◌, ◌≤◌, ◌+◌, ℕ, Bool, true, false, List, [], ◌∷◌, ◌++◌, take, length, get_or, set, Contains, refl, ap, sym, ◌∙◌, subst, arith, inl, inr}
use Rattle.std.proofs.lemmas.Bool.{cases_lt, cases_eq, true≢false, false≢true}
use Rattle.std.proofs.lemmas.List.{length-set, get_or-set_same, get_or-set_other, get_or_past, get_or_default, get_or-take, get_or_read, length-take-le}
use Rattle.std.proofs.lemmas.List.Elements.{Contains-push_cases, Contains-append_left, Contains-push, Contains-get_or}
use Rattle.mp_logic.specs.Literal.{Literal, negation}
use Rattle.mp_logic.specs.Learning.{IsConsistent, IsPropagated, MakesFalse}
use Rattle.mp_logic.proofs.Literals.{negation-negation}
use Rattle.mp_logic.proofs.Members.{Contains-none, Contains-one}
use Rattle.core_solver.specs.Trails.{IsPositionOf, IsDistinct}
use Rattle.core_solver.specs.History.{IsReason, IsLiteralOf}
use Rattle.core_solver.specs.Conflicts.{Noted, is_seen, IsFalseAt, IsAbsorbed, IsNotedLow, IsAnalysis, IsTaught}

-- a clause with all literals false clashes with a propagated list
pub never_false : (p : List Literal) (cs : List (List Literal)) (c : List Literal) → IsPropagated p cs → Contains cs c → MakesFalse p c → ⊥
never_false p cs c h i f =
    elim (h.at_rest c i) [
      | inl t ↦ h.consistent t.0 t.2 (f t.0 t.1)
      | inr o ↦ o.2.first_open (f o.0 o.2.first)
    ]

-- the only literal of a clause that isn't false is in a propagated list
pub unit_in : (p : List Literal) (cs : List (List Literal)) (c : List Literal) (l : Literal) → IsPropagated p cs → Contains cs c → ((k : Literal) → Contains c k → (k ≡ l) ⊎ Contains p (negation k)) → Contains p l
unit_in p cs c l h i f =
    let only : (k : Literal) → Contains c k → (Contains p (negation k) → ⊥) → k ≡ l = λ k j n. elim (f k j) [ inl e ↦ e | inr m ↦ absurd (n m) ] in
    elim (h.at_rest c i) [
      | inl t ↦ subst (λ x. Contains p x) (only t.0 t.1 (λ n. h.consistent t.0 t.2 n)) t.2
      | inr o ↦ absurd (o.2.apart (only o.0 o.2.first o.2.first_open ∙ sym (only o.1 o.2.second o.2.second_open)))
    ]

-- what stands at one position is one literal
pub same_there : (lits : List Literal) (k l : Literal) (i : ℕ) → IsPositionOf lits k i → IsPositionOf lits l i → k ≡ l
same_there lits k l i a b = sym a.1 ∙ (get_or_default lits i k l a.0 ∙ b.1)

pub in_front : (lits : List Literal) (n : ℕ) (l : Literal) (i : ℕ) → IsPositionOf lits l i → i < n → n ≤ length lits → Contains (take n lits) l
in_front lits n l i a less w = (i, omega (arith, less, length-take-le n lits w), get_or-take n lits i l less ∙ a.1)

pub front-position : (lits : List Literal) (n : ℕ) (l : Literal) → n ≤ length lits → Contains (take n lits) l → (i : ℕ) × IsPositionOf lits l i × (i < n)
front-position lits n l w h =
    let size = length-take-le n lits w in
    let k = h.1 in
    let less : h.0 < n = omega (arith, size, k) in
    (h.0, (omega (arith, less, w), sym (get_or-take n lits h.0 l less) ∙ h.2), less)

pub at_position : (lits : List Literal) (i : ℕ) → i < length lits → (l : Literal) × IsPositionOf lits l i
at_position lits i less =
    let l : Literal = get_or lits i (record { variable = 0; negative = false }) in
    (l, (less, get_or_default lits i l (record { variable = 0; negative = false }) less))

-- what a read of a clause gives
pub read-clause : (cs items : List (List Literal)) (id : ℕ) (c now : List Literal) → items ≡ cs → c ≡ get_or items id c → now ≡ c → id < length cs → (now ≡ get_or cs id []) × Contains cs now
read-clause cs items id c now e f g less =
    let at : c ≡ get_or cs id [] = get_or_read cs id c less (f ∙ ap (λ x. get_or x id c) e) [] in
    (g ∙ at, subst (λ x. Contains cs x) (sym (g ∙ at)) (Contains-get_or cs id [] less))

one : (lits : List Literal) (l k : Literal) (i j : ℕ) → IsDistinct lits → IsPositionOf lits (negation l) i → IsFalseAt lits (l ∷ []) k j → (k ≡ l) × (j ≡ i)
one lits l k i j d at h =
    let e : k ≡ l = Contains-one l k h.0 in
    (e, d (negation l) j i (subst (λ x. IsPositionOf lits (negation x) j) e h.1) at)

pub absorbed-open : (lits : List Literal) (mark : ℕ) (l : Literal) (a : Noted) → (Contains lits (negation l) → ⊥) → IsAbsorbed lits mark (l ∷ []) a a
absorbed-open lits mark l a n =
    let never : (k : Literal) (j : ℕ) → IsFalseAt lits (l ∷ []) k j → ⊥ = λ k j h. n (subst (λ x. Contains lits (negation x)) (Contains-one l k h.0) (j, h.1.0, h.1.1)) in
    record {
      size = refl;
      learnt_kept = λ k i. i;
      seen_kept = λ j s. s;
      low = λ k j h less. absurd (never k j h);
      high = λ k j h more. absurd (never k j h);
      learnt_from = λ k i. inl i;
      seen_from = λ j s. inl s;
      lower = omega arith;
      lowest_from = inl refl;
    }

pub absorbed-low : (lits : List Literal) (mark : ℕ) (l : Literal) (i : ℕ) (s : List Bool) (ls more : List Literal) (n : ℕ) → IsDistinct lits → IsPositionOf lits (negation l) i → i < mark → more ≡ ls ++ l ∷ []
    → IsAbsorbed lits mark (l ∷ []) (record { seen = s; learnt = ls; lowest = n }) (record { seen = s; learnt = more; lowest = n })
absorbed-low lits mark l i s ls more n d at less e = record {
  size = refl;
  learnt_kept = λ k h. subst (λ x. Contains x k) (sym e) (Contains-append_left ls (l ∷ []) k h);
  seen_kept = λ j h. h;
  low = λ k j h below. subst (λ x. Contains x k) (sym e) (subst (λ x. Contains (ls ++ l ∷ []) x) (sym (one lits l k i j d at h).0) (Contains-push ls l));
  high = λ k j h above. absurd (let f = (one lits l k i j d at h).1 in omega (arith, f, above, less));
  learnt_from = λ k h. elim (Contains-push_cases ls l k (subst (λ x. Contains x k) e h)) [
    | inl o ↦ inl o
    | inr f ↦ inr (i, ((0, omega arith, f), subst (λ x. IsPositionOf lits (negation x) i) f at), less)
  ];
  seen_from = λ j h. inl h;
  lower = omega arith;
  lowest_from = inl refl;
}

pub absorbed-known : (lits : List Literal) (mark : ℕ) (l : Literal) (i : ℕ) (a : Noted) → IsDistinct lits → IsPositionOf lits (negation l) i → i < mark → Contains a.learnt l → IsAbsorbed lits mark (l ∷ []) a a
absorbed-known lits mark l i a d at less own = record {
  size = refl;
  learnt_kept = λ k h. h;
  seen_kept = λ j h. h;
  low = λ k j h below. subst (λ x. Contains a.learnt x) (sym (one lits l k i j d at h).0) own;
  high = λ k j h above. absurd (let f = (one lits l k i j d at h).1 in omega (arith, f, above, less));
  learnt_from = λ k h. inl h;
  seen_from = λ j h. inl h;
  lower = omega arith;
  lowest_from = inl refl;
}

pub absorbed-one : (lits : List Literal) (mark : ℕ) (l : Literal) (i : ℕ) (a b : Noted) → IsDistinct lits → IsPositionOf lits (negation l) i → i < mark → IsNotedLow l a b → IsAbsorbed lits mark (l ∷ []) a b
absorbed-one lits mark l i a b d at less o =
    elim o [
      | inl known ↦ subst (IsAbsorbed lits mark (l ∷ []) a) (sym known.0) (absorbed-known lits mark l i a d at less known.1)
      | inr more ↦ subst (IsAbsorbed lits mark (l ∷ []) a) (sym more) (absorbed-low lits mark l i a.seen a.learnt (a.learnt ++ l ∷ []) a.lowest d at less refl)
    ]

pub absorbed-high : (lits : List Literal) (mark : ℕ) (l : Literal) (i : ℕ) (s : List Bool) (ls : List Literal) (n m : ℕ) → IsDistinct lits → IsPositionOf lits (negation l) i → mark ≤ i → i < length s
    → m ≤ n → m ≤ i → (m ≡ n) ⊎ (m ≡ i)
    → IsAbsorbed lits mark (l ∷ []) (record { seen = s; learnt = ls; lowest = n }) (record { seen = set s i true; learnt = ls; lowest = m })
absorbed-high lits mark l i s ls n m d at above inside lower here from =
    let now : get_or (set s i true) i false ≡ true = get_or-set_same s i true false inside in
    record {
      size = length-set s i true;
      learnt_kept = λ k h. h;
      seen_kept = λ j h. elim (cases_eq j i) [
        | inl e ↦ ap (λ x. get_or (set s i true) x false) e ∙ now
        | inr o ↦ get_or-set_other s i j true false o ∙ h
      ];
      low = λ k j h below. absurd (let f = (one lits l k i j d at h).1 in omega (arith, f, above, below));
      high = λ k j h more. ap (λ x. get_or (set s i true) x false) (one lits l k i j d at h).1 ∙ now;
      learnt_from = λ k h. inl h;
      seen_from = λ j h. elim (cases_eq j i) [
        | inl e ↦ inr (l, ((0, omega arith, refl), subst (λ x. IsPositionOf lits (negation l) x) (sym e) at), omega (arith, e, above), omega (arith, e, here))
        | inr o ↦ inl (sym (get_or-set_other s i j true false o) ∙ h)
      ];
      lower = lower;
      lowest_from = elim from [
        | inl e ↦ inl e
        | inr e ↦ inr (ap (λ x. get_or (set s i true) x false) e ∙ now)
      ];
    }

pub absorbed-more : (lits : List Literal) (mark : ℕ) (c : List Literal) (l : Literal) (a b d : Noted) → IsAbsorbed lits mark c a b → IsAbsorbed lits mark (l ∷ []) b d → IsAbsorbed lits mark (c ++ l ∷ []) a d
absorbed-more lits mark c l a b d f g =
    let wider : (k : Literal) (j : ℕ) → IsFalseAt lits c k j → IsFalseAt lits (c ++ l ∷ []) k j = λ k j h. (Contains-append_left c (l ∷ []) k h.0, h.1) in
    let last : (k : Literal) (j : ℕ) → IsFalseAt lits (l ∷ []) k j → IsFalseAt lits (c ++ l ∷ []) k j = λ k j h. (subst (λ x. Contains (c ++ l ∷ []) x) (sym (Contains-one l k h.0)) (Contains-push c l), h.1) in
    let back : (k : Literal) (j : ℕ) → IsFalseAt lits (c ++ l ∷ []) k j → IsFalseAt lits c k j ⊎ IsFalseAt lits (l ∷ []) k j =
    λ k j h. elim (Contains-push_cases c l k h.0) [ inl o ↦ inl (o, h.1) | inr e ↦ inr ((0, omega arith, e), h.1) ] in
    record {
      size = g.size ∙ f.size;
      learnt_kept = λ k h. g.learnt_kept k (f.learnt_kept k h);
      seen_kept = λ j h. g.seen_kept j (f.seen_kept j h);
      low = λ k j h less. elim (back k j h) [ inl o ↦ g.learnt_kept k (f.low k j o less) | inr o ↦ g.low k j o less ];
      high = λ k j h more. elim (back k j h) [ inl o ↦ g.seen_kept j (f.high k j o more) | inr o ↦ g.high k j o more ];
      learnt_from = λ k h. elim (g.learnt_from k h) [
        | inl o ↦ elim (f.learnt_from k o) [ inl q ↦ inl q | inr q ↦ inr (q.0, wider k q.0 q.1, q.2) ]
        | inr q ↦ inr (q.0, last k q.0 q.1, q.2)
      ];
      seen_from = λ j h. elim (g.seen_from j h) [
        | inl o ↦ elim (f.seen_from j o) [ inl q ↦ inl q | inr q ↦ let x = q.3 in let y = g.lower in inr (q.0, wider q.0 j q.1, q.2, omega (arith, x, y)) ]
        | inr q ↦ inr (q.0, last q.0 j q.1, q.2, q.3)
      ];
      lower = let x = g.lower in let y = f.lower in omega (arith, x, y);
      lowest_from = elim g.lowest_from [
        | inl e ↦ elim f.lowest_from [ inl o ↦ inl (e ∙ o) | inr o ↦ inr (ap (λ x. is_seen d x) e ∙ g.seen_kept b.lowest o) ]
        | inr o ↦ inr o
      ];
    }

-- what a clause that the trail makes false notes, a propagated list makes false
noted_false : (lits : List Literal) (mark : ℕ) (c p : List Literal) (a b : Noted) (k : Literal) (j n : ℕ) → IsAbsorbed lits mark c a b → Contains c k → IsPositionOf lits (negation k) j → j < n
    → MakesFalse p b.learnt → ((i : ℕ) (l : Literal) → i < n → is_seen b i ≡ true → IsPositionOf lits l i → Contains p l) → Contains p (negation k)
noted_false lits mark c p a b k j n h i at less f g =
    elim (cases_lt j mark) [
      | inl low ↦ f k (h.low k j (i, at) low)
      | inr high ↦ g j (negation k) less (h.high k j (i, at) high) at
    ]

pub analysis-begin : (cs : List (List Literal)) (lits : List Literal) (mark : ℕ) (c : List Literal) (a b : Noted) → IsPropagated (take mark lits) cs → mark ≤ length lits → Contains cs c → MakesFalse lits c
    → ((j : ℕ) → is_seen a j ≡ false) → a.learnt ≡ [] → a.lowest ≡ length lits → IsAbsorbed lits mark c a b → IsAnalysis cs lits mark (length lits) b
analysis-begin cs lits mark c a b h w i f clear empty top g =
    let fresh : (j : ℕ) → is_seen b j ≡ true → (k : Literal) × IsFalseAt lits c k j × (mark ≤ j) × (b.lowest ≤ j) =
    λ j s. elim (g.seen_from j s) [ inl o ↦ absurd (true≢false (sym o ∙ clear j)) | inr q ↦ q ] in
    let learnt : (k : Literal) → Contains b.learnt k → (j : ℕ) × IsFalseAt lits c k j × (j < mark) =
    λ k s. elim (g.learnt_from k s) [ inl o ↦ absurd (Contains-none k (subst (λ x. Contains x k) empty o)) | inr q ↦ q ] in
    record {
      runs_in = λ p r m s. never_false p cs c r i (λ k o. let at = f k o in noted_false lits mark c p a b k at.0 (length lits) g o (at.1, at.2) at.1 m s);
      low = λ k s. let q = learnt k s in (q.0, q.1.1, q.2);
      low_known = λ k s. let q = learnt k s in (c, i, q.1.0);
      seen_below = λ j s. (fresh j s).1.1.0;
      seen_above = λ j s. (fresh j s).2;
      seen_least = λ j s. (fresh j s).3;
      seen_known = λ j l s at. let q = fresh j s in (c, i, subst (λ x. Contains c x) (sym (negation-negation q.0) ∙ ap negation (same_there lits (negation q.0) l j q.1.1 at)) q.1.0);
      least = elim g.lowest_from [
        | inl e ↦ absurd (never_false (take mark lits) cs c h i (λ k o.
            let at = f k o in
            elim (cases_lt at.0 mark) [
              | inl less ↦ in_front lits mark (negation k) at.0 (at.1, at.2) less w
              | inr more ↦ absurd (let q = (fresh at.0 (g.high k at.0 (o, (at.1, at.2)) more)).3 in let z = at.1 in omega (arith, q, e, top, z))
            ]))
        | inr s ↦ s
      ];
      within = omega arith;
    }

pub analysis-step : (cs : List (List Literal)) (lits : List Literal) (mark n i : ℕ) (c : List Literal) (l : Literal) (s : List Bool) (ls : List Literal) (low : ℕ) (b : Noted)
    → IsConsistent lits → IsDistinct lits → IsAnalysis cs lits mark n (record { seen = s; learnt = ls; lowest = low }) → i + 1 ≡ n → low < i → get_or s i false ≡ true → IsPositionOf lits l i → IsReason (take i lits) l c → Contains cs c
    → IsAbsorbed lits mark c (record { seen = set s i false; learnt = ls; lowest = low }) b → IsAnalysis cs lits mark i b
analysis-step cs lits mark n i c l s ls low b k d h e less there at r known g =
    let old : (j : ℕ) → get_or (set s i false) j false ≡ true → (get_or s j false ≡ true) × (j ≢ i) =
    λ j t. elim (cases_eq j i) [
      | inl same ↦ absurd (false≢true (sym (elim (cases_lt i (length s)) [
        | inl inside ↦ get_or-set_same s i false false inside
        | inr past ↦ get_or_past (set s i false) i false (omega (arith, past, length-set s i false))
      ]) ∙ (ap (λ x. get_or (set s i false) x false) (sym same) ∙ t)))
      | inr o ↦ (sym (get_or-set_other s i j false false o) ∙ t, o)
    ] in
    let within : i ≤ length lits = let w = h.within in omega (arith, w, e) in
    let before : (x : Literal) (j : ℕ) → IsFalseAt lits c x j → j < i =
    λ x j f. elim (r.others x f.0) [
      | inl same ↦ absurd (k l (i, at.0, at.1) (subst (λ y. Contains lits (negation y)) same (j, f.1.0, f.1.1)))
      | inr front ↦ let q = front-position lits i (negation x) within front in let v = d (negation x) j q.0 f.1 q.1 in let z = q.2 in omega (arith, v, z)
    ] in
    record {
      runs_in = λ p q m t. h.runs_in p q (λ x o. m x (g.learnt_kept x o)) (λ j x below seen here.
          elim (cases_eq j i) [
            | inl same ↦
                let x_is : l ≡ x = same_there lits l x i at (subst (λ y. IsPositionOf lits x y) same here) in
                subst (λ y. Contains p y) x_is (unit_in p cs c l q known (λ y o. elim (r.others y o) [
                  | inl z ↦ inl z
                  | inr front ↦
                      let z = front-position lits i (negation y) within front in
                      inr (noted_false lits mark c p (record { seen = set s i false; learnt = ls; lowest = low }) b y z.0 i g o z.1 z.2 m t)
                ]))
            | inr other ↦ t j x (omega (arith, below, e, other)) (g.seen_kept j (get_or-set_other s i j false false other ∙ seen)) here
          ]);
      low = λ x o. elim (g.learnt_from x o) [ inl z ↦ h.low x z | inr z ↦ (z.0, z.1.1, z.2) ];
      low_known = λ x o. elim (g.learnt_from x o) [ inl z ↦ h.low_known x z | inr z ↦ (c, known, z.1.0) ];
      seen_below = λ j t. elim (g.seen_from j t) [ inl z ↦ let v = old j z in let y = h.seen_below j v.0 in let o = v.1 in omega (arith, y, e, o) | inr z ↦ before z.0 j z.1 ];
      seen_above = λ j t. elim (g.seen_from j t) [ inl z ↦ h.seen_above j (old j z).0 | inr z ↦ z.2 ];
      seen_least = λ j t. elim (g.seen_from j t) [ inl z ↦ let y = h.seen_least j (old j z).0 in let o = g.lower in omega (arith, y, o) | inr z ↦ z.3 ];
      seen_known = λ j x t here. elim (g.seen_from j t) [
        | inl z ↦ h.seen_known j x (old j z).0 here
        | inr z ↦ (c, known, subst (λ y. Contains c y) (sym (negation-negation z.0) ∙ ap negation (same_there lits (negation z.0) x j z.1.1 here)) z.1.0)
      ];
      least = elim g.lowest_from [
        | inl z ↦ ap (λ y. is_seen b y) z ∙ g.seen_kept low (get_or-set_other s i low false false (omega (arith, less)) ∙ h.least)
        | inr z ↦ z
      ];
      within = within;
    }

pub analysis-end : (cs : List (List Literal)) (lits : List Literal) (mark n : ℕ) (u l : Literal) (c : List Literal) (a : Noted) → IsAnalysis cs lits mark n a → n ≤ a.lowest + 1 → l ≡ get_or lits a.lowest l → u ≡ negation l → c ≡ a.learnt ++ u ∷ []
    → IsTaught cs lits mark c u a.lowest
analysis-end cs lits mark n u l c a h last e f g =
    let inside : a.lowest < length lits = let x = h.seen_below a.lowest h.least in let y = h.within in omega (arith, x, y) in
    let at : IsPositionOf lits l a.lowest = (inside, sym e) in
    let back : negation u ≡ l = ap negation f ∙ negation-negation l in
    let has : (x : Literal) → Contains c x → Contains a.learnt x ⊎ (u ≡ x) = λ x i. Contains-push_cases a.learnt u x (subst (λ y. Contains y x) g i) in
    let own : Contains c u = subst (λ y. Contains y u) (sym g) (Contains-push a.learnt u) in
    record {
      rup = λ p q m. h.runs_in p q (λ x i. m x (subst (λ y. Contains y x) (sym g) (Contains-append_left a.learnt (u ∷ []) x i))) (λ j x below seen here.
          let low = h.seen_least j seen in
          let same : j ≡ a.lowest = omega (arith, low, below, last) in
          let x_is : l ≡ x = same_there lits l x a.lowest at (subst (λ y. IsPositionOf lits x y) same here) in
          subst (λ y. Contains p y) (back ∙ x_is) (m u own));
      known = λ x i. elim (has x i) [ inl o ↦ h.low_known x o | inr s ↦ subst (λ y. IsLiteralOf cs y) (sym f ∙ s) (h.seen_known a.lowest l h.least at) ];
      own = own;
      last = subst (λ y. IsPositionOf lits y a.lowest) (sym back) at;
      above = h.seen_above a.lowest h.least;
      others = λ x i. elim (has x i) [ inl o ↦ inr (h.low x o) | inr s ↦ inl (sym s) ];
    }
