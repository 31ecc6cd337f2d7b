-- Going back, and taking a lesson in.
use Rattle.std.proofs.Common.{◌≡◌, ◌⊎◌, ◌<◌, ◌≤◌, ◌-◌, ℕ, List, [], ◌∷◌, ◌++◌, take, length, get_or, set, Contains, refl, ap, sym, ◌∙◌, subst, arith, inl, inr}
use Rattle.std.proofs.lemmas.Bool.{cases_lt, cases_eq}
use Rattle.std.proofs.lemmas.List.{length_push, length-set, get_or-set_same, get_or-set_other, get_or_read, get_or_default, get_or-take, get_or_append_left, get_or_push, length-take-le, take-append-le, take_all, take-take}
use Rattle.std.proofs.lemmas.List.Elements.{Contains-push_cases, Contains-append_left, Contains-push}
use Rattle.mp_logic.specs.Literal.{Literal, negation, IsUpTo}
use Rattle.mp_logic.proofs.Literals.{negation-negation, cases_literal}
use Rattle.core_solver.specs.declared.watches.Pair.{Pair}
use Rattle.core_solver.specs.Places.{place_of, width}
use Rattle.core_solver.specs.Trails.{Assigned, IsPositionOf, IsDistinct, IsRetreat, IsSound}
use Rattle.core_solver.specs.History.{clause_of, IsReason}
use Rattle.core_solver.specs.Conflicts.{IsTaught}
use Rattle.core_solver.specs.Watching.{IsPairOf, at, IsWatching, AreWatching, IsCovered, IsState, IsRising, IsLatest, IsLater, IsSecond, OthersAreFalse}
use Rattle.core_solver.proofs.Analysed.{front-position, in_front}
use Rattle.core_solver.proofs.Watched.{put, got, state-assign, watching-grown}

-- fronts

pub front-has : {X : Type 0} (n : ℕ) (xs : List X) (x : X) → Contains (take n xs) x → Contains xs x
front-has n xs x h =
    elim (cases_lt n (length xs)) [
      | inl less ↦ let size = length-take-le n xs (omega (arith, less)) in let k = h.1 in let inside : h.0 < n = omega (arith, size, k) in (h.0, omega (arith, inside, less), sym (get_or-take n xs h.0 x inside) ∙ h.2)
      | inr past ↦ subst (λ y. Contains y x) (take_all n xs past) h
    ]

-- marks

front-mark : (ms : List ℕ) (n m : ℕ) → n ≤ length ms → Contains (take n ms) m → (j : ℕ) × (j < n) × (get_or ms j 0 ≡ m)
front-mark ms n m w h =
    let g = got (take n ms) m h in
    let inside : g.0 < n = let x = g.1 in omega (arith, x, length-take-le n ms w) in
    (g.0, inside, sym (get_or-take n ms g.0 0 inside) ∙ g.2)

mark-front : (ms : List ℕ) (n m j : ℕ) → n ≤ length ms → j < n → get_or ms j 0 ≡ m → Contains (take n ms) m
mark-front ms n m j w less e = put (take n ms) m j (omega (arith, less, length-take-le n ms w)) (get_or-take n ms j 0 less ∙ e)

pub rising-take : (ms : List ℕ) (n : ℕ) → n ≤ length ms → IsRising ms → IsRising (take n ms)
rising-take ms n w h i j less inside =
    let j_in : j < n = omega (arith, inside, length-take-le n ms w) in
    let a : get_or (take n ms) i 0 ≡ get_or ms i 0 = get_or-take n ms i 0 (omega (arith, less, j_in)) in
    let b : get_or (take n ms) j 0 ≡ get_or ms j 0 = get_or-take n ms j 0 j_in in
    let c = h i j less (omega (arith, j_in, w)) in
    omega (arith, a, b, c)

below-mark : (ms : List ℕ) (j k : ℕ) → IsRising ms → k < length ms → get_or ms j 0 < get_or ms k 0 → j < length ms → j < k
below-mark ms j k h inside less j_in =
    elim (cases_lt j k) [
      | inl a ↦ a
      | inr b ↦ elim (cases_eq j k) [
        | inl e ↦ absurd (let z = ap (λ x. get_or ms x 0) e in omega (arith, z, less))
        | inr n ↦ absurd (let z = h k j (omega (arith, b, n)) j_in in omega (arith, z, less))
      ]
    ]

-- going back to the beginning of a level
pub state-cut : (cs : List (List Literal)) (ws : List Pair) (lists : List (List ℕ)) (t u : Assigned) (len levels : ℕ) → IsState cs ws lists t → IsRising t.marks → length t.reasons ≡ length t.lits → u.lits ≡ take len t.lits → u.reasons ≡ take len t.reasons
    → u.marks ≡ take levels t.marks → u.vars ≡ t.vars → levels < length t.marks → len ≡ get_or t.marks levels 0 → IsState cs ws lists u × AreWatching u.lits u.lits ws × (length u.lits ≡ len)
state-cut cs ws lists t u len levels h r n el er em ev less is =
    let mark : Contains t.marks len = put t.marks len levels less (sym is) in
    let short : len < length t.lits = h.marks len mark in
    let size : length u.lits ≡ len = ap length el ∙ length-take-le len t.lits (omega (arith, short)) in
    let old_mark : (m : ℕ) → Contains u.marks m → Contains t.marks m × (m < len) =
    λ m i.
    let f = front-mark t.marks levels m (omega (arith, less)) (subst (λ x. Contains x m) em i) in
    let j_less = f.1 in
    let up = r f.0 levels j_less less in
    let same = f.2 in
    (put t.marks m f.0 (omega (arith, j_less, less)) same, omega (arith, up, same, is)) in
    let front : (i : ℕ) → i ≤ len → take i u.lits ≡ take i t.lits = λ i w. ap (take i) el ∙ take-take i len t.lits w in (
      record {
        watches = h.watches;
        covered = h.covered;
        places = h.places ∙ ap width (sym ev);
        within = λ c i k j. subst (λ x. IsUpTo x k) (sym ev) (h.within c i k j);
        steps = λ i inside.
            let i_len : i < len = omega (arith, inside, size) in
            let reason : get_or u.reasons i 0 ≡ get_or t.reasons i 0 = ap (λ x. get_or x i 0) er ∙ get_or-take len t.reasons i 0 i_len in
            elim (h.steps i (omega (arith, i_len, short))) [
              | inl s ↦ inl (record {
                known = subst (λ x. x < length cs) (sym reason) s.known;
                forces = λ l p.
                    let old : IsPositionOf t.lits l i = (omega (arith, i_len, short), sym (get_or-take len t.lits i l i_len) ∙ (subst (λ x. get_or x i l ≡ l) el p.1)) in
                    subst (λ x. IsReason x l (clause_of cs (get_or u.reasons i 0))) (sym (front i (omega (arith, i_len)))) (subst (λ x. IsReason (take i t.lits) l (clause_of cs x)) (sym reason) (s.forces l old));
              })
              | inr s ↦ inr (record {
                reason = reason ∙ s.reason;
                level =
                    let g = got t.marks i s.level in
                    let j_in = g.1 in
                    let j_at = g.2 in
                    let low : g.0 < levels = below-mark t.marks g.0 levels r less (omega (arith, j_at, i_len, is)) j_in in
                    subst (λ x. Contains x i) (sym em) (mark-front t.marks levels i g.0 (omega (arith, less)) low j_at);
              })
            ];
        marks = λ m i. let o = (old_mark m i).1 in omega (arith, o, size);
        still = λ m i. let o = old_mark m i in let below = o.1 in subst (λ x. AreWatching x x ws) (sym (front m (omega (arith, below)))) (h.still m o.0);
      },
      subst (λ x. AreWatching x x ws) (sym el) (h.still len mark),
      size,
    )

-- one more clause

pair-push : (ws : List Pair) (v w : Pair) (k : ℕ) → IsPairOf (ws ++ v ∷ []) w k → IsPairOf ws w k ⊎ ((k ≡ length ws) × (w ≡ v))
pair-push ws v w k h =
    let inside = h.0 in
    elim (cases_lt k (length ws)) [
      | inl less ↦ inl (less, sym (get_or_append_left ws (v ∷ []) w k less) ∙ h.1)
      | inr past ↦ let e : k ≡ length ws = omega (arith, inside, past, length_push ws v) in inr (e, sym h.1 ∙ get_or_push ws v w k (sym e))
    ]

pub watching-push : (p q : List Literal) (ws : List Pair) (v : Pair) → AreWatching p q ws → IsWatching p q v → AreWatching p q (ws ++ v ∷ [])
watching-push p q ws v h o k w a = elim (pair-push ws v w k a) [ inl b ↦ h k w b | inr b ↦ subst (λ (x : Pair). IsWatching p q x) (sym b.1) o ]

pub state-add : (cs : List (List Literal)) (ws : List Pair) (lists more : List (List ℕ)) (t : Assigned) (c : List Literal) (v : Pair) → IsState cs ws lists t → Contains c v.first → Contains c v.second → ((l : Literal) → Contains c l → IsUpTo t.vars l)
    → ((m : ℕ) → Contains t.marks m → IsWatching (take m t.lits) (take m t.lits) v) → IsCovered (ws ++ v ∷ []) more → length more ≡ length lists → IsState (cs ++ c ∷ []) (ws ++ v ∷ []) more t
state-add cs ws lists more t c v h a b w still covered places =
    let old : (k : ℕ) → k < length cs → clause_of (cs ++ c ∷ []) k ≡ clause_of cs k = λ k less. get_or_append_left cs (c ∷ []) [] k less in
    let new : (k : ℕ) → k ≡ length ws → clause_of (cs ++ c ∷ []) k ≡ c = λ k e. get_or_push cs c [] k (sym h.watches.size ∙ sym e) in
    record {
      watches = record {
        size = omega (arith, h.watches.size, length_push ws v, length_push cs c);
        first = λ k x i. elim (pair-push ws v x k i) [
          | inl o ↦ let less = o.0 in subst (λ y. Contains y x.first) (sym (old k (omega (arith, less, h.watches.size)))) (h.watches.first k x o)
          | inr o ↦ subst (λ y. Contains y x.first) (sym (new k o.0)) (subst (λ (y : Pair). Contains c y.first) (sym o.1) a)
        ];
        second = λ k x i. elim (pair-push ws v x k i) [
          | inl o ↦ let less = o.0 in subst (λ y. Contains y x.second) (sym (old k (omega (arith, less, h.watches.size)))) (h.watches.second k x o)
          | inr o ↦ subst (λ y. Contains y x.second) (sym (new k o.0)) (subst (λ (y : Pair). Contains c y.second) (sym o.1) b)
        ];
      };
      covered = covered;
      places = places ∙ h.places;
      within = λ d i l j. elim (Contains-push_cases cs c d i) [ inl o ↦ h.within d o l j | inr e ↦ w l (subst (λ x. Contains x l) (sym e) j) ];
      steps = λ i less. elim (h.steps i less) [
        | inl s ↦
            let known = s.known in
            inl (record {
              known = omega (arith, known, length_push cs c);
              forces = λ l p. subst (λ x. IsReason (take i t.lits) l x) (sym (old (get_or t.reasons i 0) known)) (s.forces l p);
            })
        | inr s ↦ inr s
      ];
      marks = h.marks;
      still = λ m i. watching-push (take m t.lits) (take m t.lits) ws v (h.still m i) (still m i);
    }

-- the pair of a lesson, once its trail was cut
pub lesson-watching : (lits : List Literal) (l second : Literal) (back top m : ℕ) → IsDistinct lits → IsPositionOf lits (negation l) top → back ≤ top → m ≤ length lits → m < back → IsSecond lits l back second
    → IsWatching (take m lits) (take m lits) (record { first = l; second = second })
lesson-watching lits l second back top m d p w inside below s =
    let no_first : Contains (take m lits) (negation l) → ⊥ = λ i. let f = front-position lits m (negation l) inside i in let e = d (negation l) f.0 top f.1 p in let less = f.2 in omega (arith, e, less, w, below) in
    elim s [
      | inl z ↦ absurd (let e = z.0 in omega (arith, e, below))
      | inr z ↦
          let back_is = z.1 in
          record {
            first = λ i. absurd (no_first i);
            second = λ i. absurd (let f = front-position lits m (negation second) inside i in let e = d (negation second) f.0 z.0 f.1 z.2 in let less = f.2 in omega (arith, e, less, back_is, below));
            single = λ e. absurd (let q = d (negation second) z.0 top z.2 (subst (λ x. IsPositionOf lits (negation x) top) e p) in omega (arith, q, back_is, w));
          }
    ]

-- what is left of a retreat below a mark of the last level
pub retreat-levels : (t u : Assigned) (back : ℕ) → IsRising t.marks → 0 < length t.marks → back ≤ get_or t.marks (length t.marks - 1) 0 → (r : IsRetreat back t u) → (r.levels < length t.marks) × (r.len ≡ get_or t.marks r.levels 0) × (back ≤ r.len)
retreat-levels t u back h some low r =
    elim r.cut [
      | inl c ↦
          let e : r.levels - 1 ≡ length t.marks - 1 = let z = c.0 in omega (arith, z) in
          absurd (let k = r.kept (let z = c.0 in omega (arith, z, some)) in let s = ap (λ x. get_or t.marks x 0) e in omega (arith, k, s, low))
      | inr c ↦ (c.0, c.1, c.2)
    ]

pub retreat-below : (t u : Assigned) (back m : ℕ) → IsRising t.marks → (r : IsRetreat back t u) → r.levels ≤ length t.marks → Contains u.marks m → m < back
retreat-below t u back m h r w i =
    let f = front-mark t.marks r.levels m w (subst (λ x. Contains x m) r.marks i) in
    let less = f.1 in
    let is = f.2 in
    let top = r.kept (omega (arith, less)) in
    elim (cases_eq f.0 (r.levels - 1)) [
      | inl e ↦ let s = ap (λ x. get_or t.marks x 0) e in omega (arith, s, is, top)
      | inr n ↦ let up = h f.0 (r.levels - 1) (omega (arith, less, n)) (omega (arith, less, w)) in omega (arith, up, is, top)
    ]

-- latest positions

pub later-none : (lits : List Literal) (k l : Literal) (n : ℕ) → (k ≡ l) ⊎ (Contains lits (negation k) → ⊥) → IsLater lits k l n n
later-none lits k l n h = record {
  more = omega arith;
  below = λ j o p. elim h [ inl e ↦ absurd (o e) | inr no_one ↦ absurd (no_one (j, p.0, p.1)) ];
  some = inl refl;
}

pub latest-none : (lits : List Literal) (l : Literal) → IsLatest lits [] l 0
latest-none lits l = record { below = λ k j i o p. absurd (let z = i.1 in omega (arith, z)); some = inl refl }

pub latest-more : (lits c : List Literal) (k l : Literal) (old new : ℕ) → IsLatest lits c l old → IsLater lits k l old new → IsLatest lits (c ++ k ∷ []) l new
latest-more lits c k l old new h g = record {
  below = λ x j i o p. elim (Contains-push_cases c k x i) [
    | inl s ↦ let z = h.below x j s o p in let m = g.more in omega (arith, z, m)
    | inr e ↦ g.below j (λ s. o (sym e ∙ s)) (subst (λ y. IsPositionOf lits (negation y) j) (sym e) p)
  ];
  some = elim g.some [
    | inl e ↦ elim h.some [
      | inl z ↦ inl (e ∙ z)
      | inr z ↦ inr (z.0, z.1, Contains-append_left c (k ∷ []) z.0 z.2, z.3, z.4, e ∙ z.5)
    ]
    | inr z ↦ inr (k, z.1.0, Contains-push c k, z.0, z.1.1, z.1.2)
  ];
}

-- what holds once a search has gone back for a lesson
pub record IsBack (cs : List (List Literal)) (ws : List Pair) (lists : List (List ℕ)) (u : Assigned) (c : List Literal) (l second : Literal) : Type 0 where
  pub state : IsState cs ws lists u
  pub watching : AreWatching u.lits u.lits ws
  pub own : Contains c l
  pub other : Contains c second
  pub within : (k : Literal) → Contains c k → IsUpTo u.vars k
  pub not_true : Contains u.lits l → ⊥
  pub not_false : Contains u.lits (negation l) → ⊥
  pub others : OthersAreFalse u.lits c l
  pub still : (m : ℕ) → Contains u.marks m → IsWatching (take m u.lits) (take m u.lits) (record { first = l; second = second })
  pub rising : IsRising u.marks

pub back-for : (cs : List (List Literal)) (ws : List Pair) (lists : List (List ℕ)) (t u : Assigned) (c : List Literal) (l second : Literal) (back top : ℕ) → IsState cs ws lists t → IsSound t → IsRising t.marks → 0 < length t.marks
    → IsTaught cs t.lits (get_or t.marks (length t.marks - 1) 0) c l top → IsLatest t.lits c l back → IsSecond t.lits l back second → IsRetreat back t u → IsBack cs ws lists u c l second
back-for cs ws lists t u c l second back top h s r some taught late sec back_to =
    let mark : ℕ = get_or t.marks (length t.marks - 1) 0 in
    let mark_in : Contains t.marks mark = put t.marks mark (length t.marks - 1) (omega (arith, some)) refl in
    let low : back ≤ mark =
    elim late.some [
      | inl e ↦ omega (arith, e)
      | inr z ↦ elim (taught.others z.0 z.2) [
        | inl e ↦ absurd (z.3 e)
        | inr q ↦ let same = s.distinct (negation z.0) z.1 q.0 z.4 q.1 in let less = q.2 in let is = z.5 in omega (arith, same, less, is)
      ]
    ] in
    let levels = retreat-levels t u back r some low back_to in
    let cut = state-cut cs ws lists t u back_to.len back_to.levels h r s.reasons back_to.lits back_to.reasons back_to.marks back_to.vars levels.0 levels.1 in
    let len : ℕ = back_to.len in
    let len_in : Contains t.marks len = put t.marks len back_to.levels levels.0 (sym levels.1) in
    let len_short : len < length t.lits = h.marks len len_in in
    let len_low : len ≤ mark =
    elim (cases_eq back_to.levels (length t.marks - 1)) [
      | inl e ↦ let z = ap (λ x. get_or t.marks x 0) e in let is = levels.1 in omega (arith, z, is)
      | inr n ↦ let less = levels.0 in let z = r back_to.levels (length t.marks - 1) (omega (arith, less, n)) (omega (arith, some)) in let is = levels.1 in omega (arith, z, is)
    ] in
    let in_u : (k : Literal) (j : ℕ) → IsPositionOf t.lits k j → j < len → Contains u.lits k = λ k j p less. subst (λ x. Contains x k) (sym back_to.lits) (in_front t.lits len k j p less (omega (arith, len_short))) in
    let from_u : (k : Literal) → Contains u.lits k → (j : ℕ) × IsPositionOf t.lits k j × (j < len) = λ k i. front-position t.lits len k (omega (arith, len_short)) (subst (λ x. Contains x k) back_to.lits i) in
    let above = taught.above in
    record {
      state = cut.0;
      watching = cut.1;
      own = taught.own;
      other = elim sec [
        | inl z ↦ subst (λ x. Contains c x) (sym z.1) taught.own
        | inr z ↦ elim late.some [
          | inl e ↦ absurd (let is = z.1 in omega (arith, is, e))
          | inr q ↦
              let is = z.1 in
              let also = q.5 in
              let place : z.0 ≡ q.1 = omega (arith, is, also) in
              let there = subst (λ x. IsPositionOf t.lits (negation second) x) place z.2 in
              let same : negation second ≡ negation q.0 = sym there.1 ∙ (get_or_default t.lits q.1 (negation second) (negation q.0) there.0 ∙ q.4.1) in
              let k_is : q.0 ≡ second = sym (negation-negation q.0) ∙ (ap negation (sym same) ∙ negation-negation second) in
              subst (λ x. Contains c x) k_is q.2
        ]
      ];
      within = λ k i. let e = taught.known k i in subst (λ x. IsUpTo x k) (sym back_to.vars) (h.within e.0 e.1 k e.2);
      not_true = λ i. let f = from_u l i in s.consistent l (f.0, f.1.0, f.1.1) (top, taught.last.0, taught.last.1);
      not_false = λ i. let f = from_u (negation l) i in let e = s.distinct (negation l) f.0 top f.1 taught.last in let less = f.2 in omega (arith, e, less, len_low, above);
      others = λ k i. elim (cases_literal k l) [
        | inl e ↦ inl e
        | inr n ↦ elim (taught.others k i) [
          | inl e ↦ inl e
          | inr q ↦ let less = late.below k q.0 i n q.1 in let w = levels.2 in inr (in_u (negation k) q.0 q.1 (omega (arith, less, w)))
        ]
      ];
      still = λ m i.
          let less = levels.0 in
          let below = retreat-below t u back m r back_to (omega (arith, less)) i in
          let w = levels.2 in
          let e : take m u.lits ≡ take m t.lits = ap (take m) back_to.lits ∙ take-take m len t.lits (omega (arith, below, w)) in
          subst (λ x. IsWatching x x (record { first = l; second = second })) (sym e) (lesson-watching t.lits l second back top m s.distinct taught.last (omega (arith, low, above)) (omega (arith, below, w, len_short)) below sec);
      rising = let less = levels.0 in subst IsRising (sym back_to.marks) (rising-take t.marks back_to.levels (omega (arith, less)) r);
    }

pub lesson-taken : (cs : List (List Literal)) (ws : List Pair) (lists more : List (List ℕ)) (u v : Assigned) (c : List Literal) (l second : Literal) → IsBack cs ws lists u c l second → length u.reasons ≡ length u.lits → IsCovered (ws ++ (record { first = l; second = second }) ∷ []) more → length more ≡ length lists
    → v ≡ record u { lits = u.lits ++ l ∷ []; reasons = u.reasons ++ length cs ∷ [] }
    → IsState (cs ++ c ∷ []) (ws ++ (record { first = l; second = second }) ∷ []) more v × AreWatching (take (length u.lits) v.lits) v.lits (ws ++ (record { first = l; second = second }) ∷ [])
lesson-taken cs ws lists more u v c l second b n covered places e =
    let pair : Pair = record { first = l; second = second } in
    let grown : Assigned = record u { lits = u.lits ++ l ∷ []; reasons = u.reasons ++ length cs ∷ [] } in
    let added = state-add cs ws lists more u c pair b.state b.own b.other b.within b.still covered places in
    let is : clause_of (cs ++ c ∷ []) (length cs) ≡ c = get_or_push cs c [] (length cs) refl in
    let state : IsState (cs ++ c ∷ []) (ws ++ pair ∷ []) more grown =
    state-assign (cs ++ c ∷ []) (ws ++ pair ∷ []) more u grown l (length cs) added n refl refl refl refl (omega (arith, length_push cs c)) (subst (λ x. Contains x l) (sym is) b.own) (subst (λ x. OthersAreFalse u.lits x l) (sym is) b.others) in
    let front : take (length u.lits) (u.lits ++ l ∷ []) ≡ u.lits = take-append-le (length u.lits) u.lits (l ∷ []) (omega arith) ∙ take_all (length u.lits) u.lits (omega arith) in
    let own : IsWatching u.lits (u.lits ++ l ∷ []) pair = record { first = λ i. absurd (b.not_false i); second = λ i. Contains-push u.lits l; single = λ q. Contains-push u.lits l } in
    let watching : AreWatching (take (length u.lits) (u.lits ++ l ∷ [])) (u.lits ++ l ∷ []) (ws ++ pair ∷ []) =
    subst (λ x. AreWatching x (u.lits ++ l ∷ []) (ws ++ pair ∷ [])) (sym front) (watching-push u.lits (u.lits ++ l ∷ []) ws pair (watching-grown u.lits u.lits (l ∷ []) ws b.watching) own) in
    (subst (λ x. IsState (cs ++ c ∷ []) (ws ++ pair ∷ []) more x) (sym e) state, subst (λ (x : Assigned). AreWatching (take (length u.lits) x.lits) x.lits (ws ++ pair ∷ [])) (sym e) watching)

-- a new pair in the lists
pub covered-add : (ws news : List Pair) (lists : List (List ℕ)) (a b : Literal) (id : ℕ) (cell pushed cell2 pushed2 : List ℕ) → IsCovered ws lists → place_of a < length lists → place_of b < length lists → id ≡ length ws
    → news ≡ ws ++ (record { first = a; second = b }) ∷ [] → cell ≡ get_or lists (place_of a) cell → pushed ≡ cell ++ id ∷ [] → cell2 ≡ get_or (set lists (place_of a) pushed) (place_of b) cell2 → pushed2 ≡ cell2 ++ id ∷ []
    → IsCovered news (set (set lists (place_of a) pushed) (place_of b) pushed2)
covered-add ws news lists a b id cell pushed cell2 pushed2 h aw bw is e c1 p1 c2 p2 =
    let v : Pair = record { first = a; second = b } in
    let mid : List (List ℕ) = set lists (place_of a) pushed in
    let wide : place_of b < length mid = omega (arith, bw, length-set lists (place_of a) pushed) in
    let one : pushed ≡ at lists (place_of a) ++ id ∷ [] = p1 ∙ ap (λ x. x ++ id ∷ []) (get_or_read lists (place_of a) cell aw c1 []) in
    let two : pushed2 ≡ at mid (place_of b) ++ id ∷ [] = p2 ∙ ap (λ x. x ++ id ∷ []) (get_or_read mid (place_of b) cell2 wide c2 []) in
    let step : (xs : List (List ℕ)) (p : ℕ) (ys : List ℕ) → p < length xs → ys ≡ at xs p ++ id ∷ [] → (q k : ℕ) → (Contains (at xs q) k → Contains (at (set xs p ys) q) k) × (Contains (at (set xs p ys) q) k → Contains (at xs q) k ⊎ (id ≡ k)) =
    λ xs p ys less y q k. elim (cases_eq q p) [
      | inl s ↦
          let now : at (set xs p ys) q ≡ at xs q ++ id ∷ [] = ap (at (set xs p ys)) s ∙ (get_or-set_same xs p ys [] less ∙ (y ∙ ap (λ x. at xs x ++ id ∷ []) (sym s))) in
          (λ i. subst (λ x. Contains x k) (sym now) (Contains-append_left (at xs q) (id ∷ []) k i), λ i. Contains-push_cases (at xs q) id k (subst (λ x. Contains x k) now i))
      | inr n ↦
          let now : at (set xs p ys) q ≡ at xs q = get_or-set_other xs p q ys [] n in
          (λ i. subst (λ x. Contains x k) (sym now) i, λ i. inl (subst (λ x. Contains x k) now i))
    ] in
    let keeps : (q k : ℕ) → Contains (at lists q) k → Contains (at (set mid (place_of b) pushed2) q) k = λ q k i. (step mid (place_of b) pushed2 wide two q k).0 ((step lists (place_of a) pushed aw one q k).0 i) in
    let has_a : Contains (at (set mid (place_of b) pushed2) (place_of a)) id =
    (step mid (place_of b) pushed2 wide two (place_of a) id).0 (subst (λ x. Contains x id) (sym (get_or-set_same lists (place_of a) pushed [] aw ∙ one)) (Contains-push (at lists (place_of a)) id)) in
    let has_b : Contains (at (set mid (place_of b) pushed2) (place_of b)) id = subst (λ x. Contains x id) (sym (get_or-set_same mid (place_of b) pushed2 [] wide ∙ two)) (Contains-push (at mid (place_of b)) id) in
    subst (λ x. IsCovered x (set mid (place_of b) pushed2)) (sym e) (record {
      first = λ k w i. elim (pair-push ws v w k i) [
        | inl o ↦ keeps (place_of w.first) k (h.first k w o)
        | inr o ↦ subst (λ x. Contains (at (set mid (place_of b) pushed2) (place_of w.first)) x) (is ∙ sym o.0) (subst (λ (x : Pair). Contains (at (set mid (place_of b) pushed2) (place_of x.first)) id) (sym o.1) has_a)
      ];
      second = λ k w i. elim (pair-push ws v w k i) [
        | inl o ↦ keeps (place_of w.second) k (h.second k w o)
        | inr o ↦ subst (λ x. Contains (at (set mid (place_of b) pushed2) (place_of w.second)) x) (is ∙ sym o.0) (subst (λ (x : Pair). Contains (at (set mid (place_of b) pushed2) (place_of x.second)) id) (sym o.1) has_b)
      ];
      known = λ q k i.
          let size = length_push ws v in
          elim ((step mid (place_of b) pushed2 wide two q k).1 i) [
            | inl o ↦ elim ((step lists (place_of a) pushed aw one q k).1 o) [ inl z ↦ let y = h.known q k z in omega (arith, y, size) | inr z ↦ omega (arith, z, is, size) ]
            | inr z ↦ omega (arith, z, is, size)
          ];
    })
