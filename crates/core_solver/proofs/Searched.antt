-- What a search keeps from one step to the next, and what its exits say.
use Rattle.std.proofs.Common.{◌≡◌, ◌⊎◌, ◌<◌, ◌≤◌, ◌+◌, ◌-◌, ℕ, Bool, false, List, [], ◌∷◌, ◌++◌, take, drop, length, get_or, Contains, refl, ap, sym, ◌∙◌, subst, arith, inl, inr, append_assoc}
use Rattle.std.proofs.Math.Seq.{drop-append_seam}
use Rattle.std.proofs.lemmas.Bool.{cases_lt, cases_eq}
use Rattle.std.proofs.lemmas.List.{length_push, length-append, get_or_push, get_or_append_left, take_all, take-append-le, take-take, length-take-le, get_or-take}
use Rattle.std.proofs.lemmas.List.Elements.{Contains-push_cases, Contains-append_left, Contains-append_cases}
use Rattle.mp_logic.specs.Literal.{Literal, negation, IsUpTo}
use Rattle.mp_logic.specs.Truth.{IsSatisfied}
use Rattle.mp_logic.specs.Sets.{Among}
use Rattle.mp_logic.specs.Learning.{IsConsistent, IsPropagated, AreLessons, IsLesson, IsLearnt}
use Rattle.mp_logic.proofs.Lessons.{lessons_are_implied}
use Rattle.mp_logic.proofs.Members.{Contains-none, satisfied, IsSatisfied-from}
use Rattle.core_solver.specs.declared.watches.Pair.{Pair}
use Rattle.core_solver.specs.declared.query.Query.{Query}
use Rattle.core_solver.specs.declared.search.Search.{Search}
use Rattle.core_solver.specs.declared.decisions.Cursor.{Cursor}
use Rattle.core_solver.specs.Trails.{Assigned, IsPositionOf, IsDistinct, IsSound}
use Rattle.core_solver.specs.History.{IsForced, AssumesFirst, no_reason}
use Rattle.core_solver.specs.Conflicts.{noted, is_seen, IsExplained}
use Rattle.core_solver.specs.Watching.{AreWatching, IsState, IsRising, IsGrown, IsCutBack, IsClash}
use Rattle.core_solver.specs.Searching.{IsSearching, IsCursor, IsGivenBy}
use Rattle.core_solver.specs.Verdicts.{IsQuery, MakesTrue}
use Rattle.core_solver.proofs.Answered.{watching-propagated, refuted-for, core-for, model-clause}
use Rattle.core_solver.proofs.Lessons.{lesson-over}
use Rattle.core_solver.proofs.Sounded.{trail-short}
use Rattle.core_solver.proofs.Taken.{front-has}
use Rattle.core_solver.proofs.Tables.{consistent-push, position-cases}
use Rattle.core_solver.proofs.Watched.{put, got, front-in, watching-grown, forced-grown}

-- models of the hard clauses are models of all clauses

pub all_satisfied : (hard ls : List (List Literal)) → AreLessons hard ls → (a : List Bool) → IsSatisfied a hard → IsSatisfied a (hard ++ ls)
all_satisfied hard ls h a m = IsSatisfied-from a (hard ++ ls) (λ c i. elim (Contains-append_cases hard ls c i) [ inl j ↦ satisfied a hard c m j | inr j ↦ lessons_are_implied hard ls h c j a m ])

searched_satisfied : (q : Query) (s : Search) (n : ℕ) → IsSearching q s n → (a : List Bool) → IsSatisfied a q.hard → IsSatisfied a s.clauses
searched_satisfied q s n h a m = subst (IsSatisfied a) (sym h.clauses) (all_satisfied q.hard h.ls h.lessons a m)

hard_satisfied : (q : Query) (s : Search) (n : ℕ) → IsSearching q s n → (a : List Bool) → IsSatisfied a s.clauses → IsSatisfied a q.hard
hard_satisfied q s n h a m = IsSatisfied-from a q.hard (λ c i. satisfied a s.clauses c m (subst (λ x. Contains x c) (sym h.clauses) (Contains-append_left q.hard h.ls c i)))

-- the cursor

pub cursor-none : (q : Query) (lits : List Literal) → IsCursor q lits (record { assumed = 0; settled = 0 })
cursor-none q lits = record { assumptions = λ k l less. absurd (omega (arith, less)); settled = omega arith }

pub cursor-longer : (q : Query) (lits more : List Literal) (c : Cursor) → IsCursor q lits c → IsCursor q (lits ++ more) c
cursor-longer q lits more c h = record {
  assumptions = λ k l less i. subst (λ x. Contains x l) (sym (take-append-le c.settled lits more h.settled)) (h.assumptions k l less i);
  settled = let z = h.settled in omega (arith, z, length-append lits more);
}

pub cursor-grown : (q : Query) (t u : Assigned) (c : Cursor) → IsCursor q t.lits c → IsGrown t u → IsCursor q u.lits c
cursor-grown q t u c h g = subst (λ x. IsCursor q x c) (sym g.lits) (cursor-longer q t.lits g.more c h)

-- the search

position-kept : (lits more : List Literal) (l : Literal) (i : ℕ) → i < length lits → IsPositionOf (lits ++ more) l i → IsPositionOf lits l i
position-kept lits more l i less h = (less, sym (get_or_append_left lits more l i less) ∙ h.1)

early-grown : (assumed : List Literal) (t u : Assigned) → AssumesFirst assumed t → ((m : ℕ) → Contains t.marks m → m < length t.lits) → IsGrown t u → AssumesFirst assumed u
early-grown assumed t u h w g m l i at =
    let mark : Contains t.marks m = subst (λ x. Contains x m) g.marks i in
    let inside = w m mark in
    let front : take m u.lits ≡ take m t.lits = ap (take m) g.lits ∙ take-append-le m t.lits g.more (omega (arith, inside)) in
    elim (h m l mark (position-kept t.lits g.more l m inside (subst (λ x. IsPositionOf x l m) g.lits at))) [
      | inl o ↦ inl o
      | inr all ↦ inr (λ a j. subst (λ x. Contains x a) (sym front) (all a j))
    ]

pub searching-grown : (q : Query) (s v : Search) (n : ℕ) → IsSearching q s n → v.clauses ≡ s.clauses → v.analysis ≡ s.analysis → IsState s.clauses v.watches.pairs.items v.watches.lists.items v.trail → IsGrown s.trail v.trail → IsSearching q v n
searching-grown q s v n h e a state g = record {
  ls = h.ls;
  clauses = e ∙ h.clauses;
  count = h.count;
  lessons = h.lessons;
  over = λ d i. h.over d (subst (λ x. Contains x d) e i);
  vars = g.vars ∙ h.vars;
  state = subst (λ x. IsState x v.watches.pairs.items v.watches.lists.items v.trail) (sym e) state;
  rising = subst IsRising (sym g.marks) h.rising;
  early = early-grown q.assumptions s.trail v.trail h.early h.state.marks g;
  clear = λ j. ap (λ x. is_seen (noted x) j) a ∙ h.clear j;
  empty = ap (λ x. x.learnt) a ∙ h.empty;
  room = let z = ap (λ x. length x.seen.items) a in let y = h.room in omega (arith, z, y, g.vars);
}

-- a conflict

pub core-none : (q : Query) (s : Search) (n id : ℕ) (core : List Literal) → IsSearching q s n → s.trail.marks ≡ [] → IsClash s.clauses s.trail.lits id → core ≡ [] → Among core q.assumptions × ((a : List Bool) → IsSatisfied a q.hard → MakesTrue a core → ⊥)
core-none q s n id core h m c e = (
  λ l i. absurd (Contains-none l (subst (λ x. Contains x l) e i)),
  λ a sat t. refuted-for s.clauses s.trail id (λ i less. elim (h.state.steps i less) [ inl f ↦ f | inr d ↦ absurd (Contains-none i (subst (λ x. Contains x i) m d.level)) ]) c a (searched_satisfied q s n h a sat),
)

pub room-for : (q : Query) (s : Search) (n : ℕ) → IsSearching q s n → IsSound s.trail → length s.trail.lits ≤ length s.analysis.seen.items
room-for q s n h k = let short = trail-short s.trail k in let room = h.room in omega (arith, short, room)

pub last-inside : (q : Query) (s : Search) (n mark : ℕ) → IsSearching q s n → 0 < length s.trail.marks → mark ≡ get_or s.trail.marks (length s.trail.marks - 1) 0 → Contains s.trail.marks mark × (mark ≤ length s.trail.lits)
last-inside q s n mark h some e =
    let own : Contains s.trail.marks mark = put s.trail.marks mark (length s.trail.marks - 1) (omega (arith, some)) (sym e) in
    (own, let z = h.state.marks mark own in omega (arith, z))

pub forced-after : (q : Query) (s : Search) (n mark : ℕ) → IsSearching q s n → 0 < length s.trail.marks → mark ≡ get_or s.trail.marks (length s.trail.marks - 1) 0 → (i : ℕ) → mark < i → i < length s.trail.lits → IsForced s.clauses s.trail i
forced-after q s n mark h some e i more less =
    elim (h.state.steps i less) [
      | inl f ↦ f
      | inr d ↦
          let g = got s.trail.marks i d.level in
          let j_in = g.1 in
          let j_at = g.2 in
          elim (cases_eq g.0 (length s.trail.marks - 1)) [
            | inl same ↦ absurd (let z = ap (λ x. get_or s.trail.marks x 0) same in omega (arith, z, j_at, e, more))
            | inr ne ↦ absurd (let z = h.rising g.0 (length s.trail.marks - 1) (omega (arith, j_in, ne)) (omega (arith, some)) in omega (arith, z, j_at, e, more))
          ]
    ]

consistent-front : (lits : List Literal) (n : ℕ) → IsConsistent lits → IsConsistent (take n lits)
consistent-front lits n h l i j = h l (front-in lits n l i) (front-in lits n (negation l) j)

pub propagated-before : (q : Query) (s : Search) (n mark : ℕ) → IsSearching q s n → IsSound s.trail → 0 < length s.trail.marks → mark ≡ get_or s.trail.marks (length s.trail.marks - 1) 0 → IsPropagated (take mark s.trail.lits) s.clauses
propagated-before q s n mark h k some e = watching-propagated s.clauses s.watches.pairs.items (take mark s.trail.lits) h.state.watches (h.state.still mark (last-inside q s n mark h some e).0) (consistent-front s.trail.lits mark k.consistent)

-- one more lesson

lessons-push : (hard ls : List (List Literal)) (c : List Literal) → AreLessons hard ls → IsLesson hard (hard ++ ls) c → AreLessons hard (ls ++ c ∷ [])
lessons-push hard ls c h l k less =
    elim (cases_lt k (length ls)) [
      | inl low ↦
          let front : take k (ls ++ c ∷ []) ≡ take k ls = take-append-le k ls (c ∷ []) (omega (arith, low)) in
          let own : get_or (ls ++ c ∷ []) k [] ≡ get_or ls k [] = get_or_append_left ls (c ∷ []) [] k low in
          subst (λ x. IsLesson hard (hard ++ x) (get_or (ls ++ c ∷ []) k [])) (sym front) (subst (IsLesson hard (hard ++ take k ls)) (sym own) (h k low))
      | inr past ↦
          let is : k ≡ length ls = omega (arith, less, past, length_push ls c) in
          let front : take k (ls ++ c ∷ []) ≡ ls = take-append-le k ls (c ∷ []) (omega (arith, is)) ∙ take_all k ls past in
          let own : get_or (ls ++ c ∷ []) k [] ≡ c = get_or_push ls c [] k (sym is) in
          subst (λ x. IsLesson hard (hard ++ x) (get_or (ls ++ c ∷ []) k [])) (sym front) (subst (IsLesson hard (hard ++ ls)) (sym own) l)
    ]

lessons-more : (q : Query) (s : Search) (n : ℕ) (c : List Literal) (h : IsSearching q s n) → IsLesson s.clauses s.clauses c → AreLessons q.hard (h.ls ++ c ∷ [])
lessons-more q s n c h l = lessons-push q.hard h.ls c h.lessons (subst (λ x. IsLesson q.hard x c) h.clauses (lesson-over q.hard s.clauses c h.over l))

pub spent : (q : Query) (s : Search) (n : ℕ) (c : List Literal) (made : List (List Literal)) → IsSearching q s n → IsLesson s.clauses s.clauses c → n ≡ q.budget → made ≡ drop (length q.hard) s.clauses → (length made ≡ q.budget) × IsLearnt q.hard made
spent q s n c made h l e m =
    let is : made ≡ h.ls = m ∙ (ap (drop (length q.hard)) h.clauses ∙ drop-append_seam q.hard h.ls) in
    (ap length is ∙ (h.count ∙ e), (c, subst (λ x. AreLessons q.hard (x ++ c ∷ [])) (sym is) (lessons-more q s n c h l)))

cut-front : (lits : List Literal) (len m : ℕ) (l : Literal) → IsPositionOf (take len lits) l m → IsPositionOf lits l m × (m < len)
cut-front lits len m l h =
    elim (cases_lt len (length lits)) [
      | inl less ↦ let size = length-take-le len lits (omega (arith, less)) in let k = h.0 in let inside : m < len = omega (arith, size, k) in ((omega (arith, inside, less), sym (get_or-take len lits m l inside) ∙ h.1), inside)
      | inr past ↦ let all : IsPositionOf lits l m = subst (λ y. IsPositionOf y l m) (take_all len lits past) h in (all, let k = all.0 in omega (arith, k, past))
    ]

early-cut : (assumed : List Literal) (len : ℕ) (t u : Assigned) → AssumesFirst assumed t → IsCutBack len t u → AssumesFirst assumed u
early-cut assumed len t u h b m l i at =
    let below = b.below m i in
    let kept : List Literal = take len t.lits in
    let size : length u.lits ≡ length kept + 1 = ap length b.lits ∙ length_push kept b.last in
    let inside : m < length kept = omega (arith, below, size) in
    let here : IsPositionOf kept l m = position-kept kept (b.last ∷ []) l m inside (subst (λ x. IsPositionOf x l m) b.lits at) in
    let mark : Contains t.marks m = front-has b.levels t.marks m (subst (λ x. Contains x m) b.marks i) in
    let whole = cut-front t.lits len m l here in
    let low = whole.1 in
    let front : take m u.lits ≡ take m t.lits = ap (take m) b.lits ∙ (take-append-le m kept (b.last ∷ []) (omega (arith, inside)) ∙ take-take m len t.lits (omega (arith, low))) in
    elim (h m l mark whole.0) [
      | inl o ↦ inl o
      | inr all ↦ inr (λ a j. subst (λ x. Contains x a) (sym front) (all a j))
    ]

pub taken-searching : (q : Query) (s v : Search) (n len : ℕ) (c : List Literal) → IsSearching q s n → IsLesson s.clauses s.clauses c → v.clauses ≡ s.clauses ++ c ∷ [] → IsState v.clauses v.watches.pairs.items v.watches.lists.items v.trail → IsRising v.trail.marks
    → IsCutBack len s.trail v.trail → ((j : ℕ) → is_seen (noted v.analysis) j ≡ false) → v.analysis.learnt ≡ [] → length v.analysis.seen.items ≡ length s.analysis.seen.items → IsSearching q v (n + 1)
taken-searching q s v n len c h l e state rising cut clear empty room = record {
  ls = h.ls ++ c ∷ [];
  clauses = e ∙ (ap (λ x. x ++ c ∷ []) h.clauses ∙ append_assoc q.hard h.ls (c ∷ []));
  count = length_push h.ls c ∙ ap (λ x. x + 1) h.count;
  lessons = lessons-more q s n c h l;
  over = λ d i. elim (Contains-push_cases s.clauses c d (subst (λ x. Contains x d) e i)) [
    | inl j ↦ h.over d j
    | inr z ↦ subst (λ x. (y : Literal) → Contains x y → (b : List Literal) × Contains q.hard b × ((k : Literal) × Contains b k × (k.variable ≡ y.variable))) z (lesson-over q.hard s.clauses c h.over l).over
  ];
  vars = cut.vars ∙ h.vars;
  state = state;
  rising = rising;
  early = early-cut q.assumptions len s.trail v.trail h.early cut;
  clear = clear;
  empty = empty;
  room = let y = h.room in omega (arith, y, room, cut.vars);
}

pub cursor-back : (q : Query) (len : ℕ) (t u : Assigned) (c d : Cursor) → IsCursor q t.lits c → IsCutBack len t u → ((d ≡ c) × (c.settled ≤ len)) ⊎ (d ≡ record { assumed = 0; settled = 0 }) → IsCursor q u.lits d
cursor-back q len t u c d h b o =
    elim o [
      | inl kept ↦ subst (IsCursor q u.lits) (sym kept.0) (subst (λ x. IsCursor q x c) (sym b.lits) (cursor-longer q (take len t.lits) (b.last ∷ []) c (record {
        assumptions = λ k l less i. subst (λ x. Contains x l) (sym (take-take c.settled len t.lits kept.1)) (h.assumptions k l less i);
        settled = elim (cases_lt len (length t.lits)) [
          | inl short ↦ omega (arith, kept.1, length-take-le len t.lits (omega (arith, short)))
          | inr past ↦ let z = h.settled in let whole = ap length (take_all len t.lits past) in omega (arith, z, whole)
        ];
      })))
      | inr anew ↦ subst (IsCursor q u.lits) (sym anew) (cursor-none q u.lits)
    ]

-- a decision

pub sound-push : (t u : Assigned) (l : Literal) → IsSound t → l.variable ≤ t.vars → (Contains t.lits l → ⊥) → (Contains t.lits (negation l) → ⊥) → u.lits ≡ t.lits ++ l ∷ [] → u.vars ≡ t.vars → length u.reasons ≡ length u.lits → IsSound u
sound-push t u l h w o nn e v r = record {
  consistent = subst IsConsistent (sym e) (consistent-push t.lits l h.consistent nn);
  distinct = subst IsDistinct (sym e) (λ k i j a b. elim (position-cases t.lits l k i a) [
    | inl x ↦ elim (position-cases t.lits l k j b) [
      | inl y ↦ h.distinct k i j x y
      | inr y ↦ absurd (o (subst (λ z. Contains t.lits z) (sym y.1) (i, x.0, x.1)))
    ]
    | inr x ↦ elim (position-cases t.lits l k j b) [
      | inl y ↦ absurd (o (subst (λ z. Contains t.lits z) (sym x.1) (j, y.0, y.1)))
      | inr y ↦ x.0 ∙ sym y.0
    ]
  ]);
  within = λ k i a. elim (position-cases t.lits l k i (subst (λ x. IsPositionOf x k i) e a)) [
    | inl x ↦ subst (λ z. k.variable ≤ z) (sym v) (h.within k i x)
    | inr x ↦ subst (λ z. k.variable ≤ z) (sym v) (subst (λ (z : Literal). z.variable ≤ t.vars) x.1 w)
  ];
  reasons = r;
}

abbrev pub decided : Assigned → Literal → Assigned
decided t l = record t { lits = t.lits ++ l ∷ []; reasons = t.reasons ++ no_reason ∷ []; marks = t.marks ++ length t.lits ∷ [] }

pub decided-sound : (t : Assigned) (l : Literal) → IsSound t → l.variable ≤ t.vars → (Contains t.lits l → ⊥) → (Contains t.lits (negation l) → ⊥) → IsSound (decided t l)
decided-sound t l h w o nn = sound-push t (decided t l) l h w o nn refl refl (length_push t.reasons no_reason ∙ (ap (λ x. x + 1) h.reasons ∙ sym (length_push t.lits l)))

state-decided : (cs : List (List Literal)) (ws : List Pair) (lists : List (List ℕ)) (t : Assigned) (l : Literal) → IsState cs ws lists t → IsSound t → AreWatching t.lits t.lits ws → IsState cs ws lists (decided t l)
state-decided cs ws lists t l h s w =
    let front : (m : ℕ) → m ≤ length t.lits → take m (t.lits ++ l ∷ []) ≡ take m t.lits = λ m z. take-append-le m t.lits (l ∷ []) z in
    record {
      watches = h.watches;
      covered = h.covered;
      places = h.places;
      within = h.within;
      steps = λ i less. elim (cases_lt i (length t.lits)) [
        | inl low ↦
            let reason : get_or (t.reasons ++ no_reason ∷ []) i 0 ≡ get_or t.reasons i 0 = get_or_append_left t.reasons (no_reason ∷ []) 0 i (omega (arith, low, s.reasons)) in
            elim (h.steps i low) [
              | inl f ↦ inl (forced-grown cs t (decided t l) l no_reason i s.reasons refl refl low f)
              | inr d ↦ inr (record { reason = reason ∙ d.reason; level = Contains-append_left t.marks (length t.lits ∷ []) i d.level })
            ]
        | inr past ↦
            let is : i ≡ length t.lits = omega (arith, less, past, length_push t.lits l) in
            inr (record {
              reason = get_or_push t.reasons no_reason 0 i (s.reasons ∙ sym is);
              level = put (t.marks ++ length t.lits ∷ []) i (length t.marks) (omega (arith, length_push t.marks (length t.lits))) (get_or_push t.marks (length t.lits) 0 (length t.marks) refl ∙ sym is);
            })
      ];
      marks = λ m i. elim (Contains-push_cases t.marks (length t.lits) m i) [
        | inl o ↦ let z = h.marks m o in omega (arith, z, length_push t.lits l)
        | inr e ↦ omega (arith, e, length_push t.lits l)
      ];
      still = λ m i. elim (Contains-push_cases t.marks (length t.lits) m i) [
        | inl o ↦ let z = h.marks m o in subst (λ x. AreWatching x x ws) (sym (front m (omega (arith, z)))) (h.still m o)
        | inr e ↦ subst (λ x. AreWatching x x ws) (sym (front m (omega (arith, e)) ∙ take_all m t.lits (omega (arith, e)))) w
      ];
    }

rising-decided : (ms : List ℕ) (n : ℕ) → IsRising ms → ((m : ℕ) → Contains ms m → m < n) → IsRising (ms ++ n ∷ [])
rising-decided ms n h w i j less inside =
    let i_in : i < length ms = omega (arith, less, inside, length_push ms n) in
    let a : get_or (ms ++ n ∷ []) i 0 ≡ get_or ms i 0 = get_or_append_left ms (n ∷ []) 0 i i_in in
    elim (cases_lt j (length ms)) [
      | inl low ↦ let b : get_or (ms ++ n ∷ []) j 0 ≡ get_or ms j 0 = get_or_append_left ms (n ∷ []) 0 j low in let z = h i j less low in omega (arith, a, b, z)
      | inr past ↦
          let b : get_or (ms ++ n ∷ []) j 0 ≡ n = get_or_push ms n 0 j (omega (arith, past, inside, length_push ms n)) in
          let z = w (get_or ms i 0) (put ms (get_or ms i 0) i i_in refl) in
          omega (arith, a, b, z)
    ]

early-decided : (assumed : List Literal) (t : Assigned) (l : Literal) → AssumesFirst assumed t → ((m : ℕ) → Contains t.marks m → m < length t.lits) → Contains assumed l ⊎ Among assumed t.lits → AssumesFirst assumed (decided t l)
early-decided assumed t l h w o m k i at =
    elim (Contains-push_cases t.marks (length t.lits) m i) [
      | inl old ↦
          let inside = w m old in
          let front : take m (t.lits ++ l ∷ []) ≡ take m t.lits = take-append-le m t.lits (l ∷ []) (omega (arith, inside)) in
          elim (h m k old (position-kept t.lits (l ∷ []) k m inside at)) [
            | inl own ↦ inl own
            | inr all ↦ inr (λ a j. subst (λ x. Contains x a) (sym front) (all a j))
          ]
      | inr e ↦
          let front : take m (t.lits ++ l ∷ []) ≡ t.lits = take-append-le m t.lits (l ∷ []) (omega (arith, e)) ∙ take_all m t.lits (omega (arith, e)) in
          let same : l ≡ k = sym (get_or_push t.lits l k m e) ∙ at.1 in
          elim o [
            | inl own ↦ inl (subst (λ x. Contains assumed x) same own)
            | inr all ↦ inr (λ a j. subst (λ x. Contains x a) (sym front) (all a j))
          ]
    ]

pub decided-searching : (q : Query) (s v : Search) (n : ℕ) (l : Literal) → IsSearching q s n → IsSound s.trail → AreWatching s.trail.lits s.trail.lits s.watches.pairs.items → Contains q.assumptions l ⊎ Among q.assumptions s.trail.lits
    → v ≡ record s { trail = decided s.trail l } → IsSearching q v n × AreWatching (take (length s.trail.lits) v.trail.lits) v.trail.lits v.watches.pairs.items
decided-searching q s v n l h k w o e =
    let d : Search = record s { trail = decided s.trail l } in
    let searching : IsSearching q d n = record {
      ls = h.ls;
      clauses = h.clauses;
      count = h.count;
      lessons = h.lessons;
      over = h.over;
      vars = h.vars;
      state = state-decided s.clauses s.watches.pairs.items s.watches.lists.items s.trail l h.state k w;
      rising = rising-decided s.trail.marks (length s.trail.lits) h.rising h.state.marks;
      early = early-decided q.assumptions s.trail l h.early h.state.marks o;
      clear = h.clear;
      empty = h.empty;
      room = h.room;
    } in
    let front : take (length s.trail.lits) (s.trail.lits ++ l ∷ []) ≡ s.trail.lits = take-append-le (length s.trail.lits) s.trail.lits (l ∷ []) (omega arith) ∙ take_all (length s.trail.lits) s.trail.lits (omega arith) in
    let watching : AreWatching (take (length s.trail.lits) (s.trail.lits ++ l ∷ [])) (s.trail.lits ++ l ∷ []) s.watches.pairs.items =
    subst (λ x. AreWatching x (s.trail.lits ++ l ∷ []) s.watches.pairs.items) (sym front) (watching-grown s.trail.lits s.trail.lits (l ∷ []) s.watches.pairs.items w) in
    subst (λ (x : Search). IsSearching q x n × AreWatching (take (length s.trail.lits) x.trail.lits) x.trail.lits x.watches.pairs.items) (sym e) (searching, watching)

pub smaller-after : (x k a b : ℕ) → a < b → b ≤ k → x + (k - b) < x + (k - a)
smaller-after x k a b less w = omega arith

-- the exits without a conflict

pub core-found : (q : Query) (s : Search) (n : ℕ) (l : Literal) (core : List Literal) → IsSearching q s n → IsSound s.trail → IsExplained s.clauses s.trail l core → Contains q.assumptions l → Contains s.trail.lits (negation l) → Among core q.assumptions × ((a : List Bool) → IsSatisfied a q.hard → MakesTrue a core → ⊥)
core-found q s n l core h k x i gone =
    let c = core-for s.clauses s.trail q.assumptions l core x i gone k.consistent h.early (λ m j. let z = h.state.marks m j in omega (arith, z)) in
    (c.0, λ a sat t. c.1 a (searched_satisfied q s n h a sat) t)

pub model-found : (q : Query) (s : Search) (n : ℕ) (a : List Bool) → IsQuery q → IsSearching q s n → IsSound s.trail → AreWatching s.trail.lits s.trail.lits s.watches.pairs.items → Among q.assumptions s.trail.lits → ((l : Literal) → IsUpTo q.vars l → Contains s.trail.lits l ⊎ Contains s.trail.lits (negation l))
    → length a ≡ q.vars → IsGivenBy s.trail.lits q.vars a → (length a ≡ q.vars) × IsSatisfied a q.hard × MakesTrue a q.assumptions
model-found q s n a valid h k w all full size given =
    let p = watching-propagated s.clauses s.watches.pairs.items s.trail.lits h.state.watches w k.consistent in
    let within : (c : List Literal) → Contains s.clauses c → (l : Literal) → Contains c l → IsUpTo q.vars l = λ c i l j. subst (λ x. IsUpTo x l) h.vars (h.state.within c i l j) in (
      size,
      IsSatisfied-from a q.hard (λ c i.
          let own : Contains s.clauses c = subst (λ x. Contains x c) (sym h.clauses) (Contains-append_left q.hard h.ls c i) in
          model-clause s.clauses s.trail.lits a c p own (λ l j. full l (within c own l j)) (λ l j t. given l (within c own l j) t)),
      λ l i. given l (valid.assumed_within l i) (all l i),
    )
