-- What is remembered of a store goes on to hold, and what it tells of a literal.
use Rattle.std.proofs.Common.{◌≡◌, ◌≢◌, ℕ, ◌+◌, ◌<◌, ◌≤◌, true, false, List, [], ◌∷◌, ◌++◌, length, take, length-append, get_or, zero, suc, refl, sym, ◌∙◌, ap, subst, arith, inl, inr, Contains}
use Rattle.std.specs.Prelude.{Option, Some, Ok, Err, eqb, leb, ◌-◌, ◌*◌, Bool, cond}
use Rattle.std.specs.Ordering.{nat_cmp}
use Rattle.std.specs.List.Sorted.{IsBinarySearchResult}
use Rattle.std.specs.Cmp.{nat_eq_equiv}
use Rattle.std.specs.List.{list_any, IsDistinct}
use Rattle.std.proofs.lemmas.Bool.{cases_Bool, cases_lt, cases_eq, ne_eqb, eqb-true, and_parts, leb-true, true≢false}
use Rattle.std.proofs.lemmas.List.{get_or_append_left, get_or-take, get_or_past, length-take-le}
use Rattle.std.proofs.lemmas.List.Elements.{Contains-get_or, Contains-append_cases}
use Rattle.std.proofs.lemmas.Map.Keys.{IsDistinct-from_apart, IsDistinct-push}
use Rattle.std.proofs.lemmas.Map.Made.{length-le_from_is_member}
use Rattle.mp_logic.specs.Literal.{Literal}
use Rattle.mp_logic.specs.Keeping.{State}
use Rattle.mp_logic.specs.declared.instances.Repair.{Repair}
use Rattle.mp_logic.proofs.Members.{Contains-one}
use Rattle.mp_clauses.specs.Places.{place_of}
use Rattle.mp_clauses.specs.Slots.{clause_of}
use Rattle.mp_clauses.specs.Occurrences.{ids_with, slot_has}
use Rattle.mp_clauses.specs.Tables.{rising_from, marked}
use Rattle.mp_clauses.proofs.Found.{any-by, any-found, exact-ids, ids_where-rising}
use Rattle.mp_clauses.proofs.Unlinked.{rising-order}
use Rattle.std.proofs.lemmas.List.Sorted.{searched}
use Rattle.mp_clauses.proofs.Pricing.{same-place}
use Rattle.mp_store.specs.Held.{Held}
use Rattle.mp_store.specs.Techniques.{IsRun}
use Rattle.mp_resting.specs.declared.seen.Seen.{Seen}
use Rattle.mp_resting.specs.Resting.{IsBefore, IsCount, AreCounts, IsSeen, HasKept, IsRested, AreKeptSince, IsRestedBy}

-- each store comes before itself, and stays before what a technique leaves
pub before-itself : (h : Held) → IsBefore h h
before-itself h = record { next = omega arith; ids = λ id c lt e. e }

pub before-run : (L : State → State → List Repair → Type 0) (before old new : Held) → IsBefore before old → IsRun L old new → IsBefore before new
before-run L before old new b r =
    let first = b.next in
    let more = r.next in
    record { next = omega (arith, first, more); ids = λ id c lt e. b.ids id c lt (r.ids id c (omega (arith, lt, first)) e) }

pub seen-run : (L : State → State → List Repair → Type 0) (seen : Seen) (before old new : Held) → IsSeen seen before old → IsRun L old new → IsSeen seen before new
seen-run L seen before old new s r = record { mark = s.mark; counts = s.counts; before_is = before-run L before old new s.before_is r }

pub rested-run : (IsIdle : Held → ℕ → Type 0) (L : State → State → List Repair → Type 0) (seen : Seen) (old new : Held) → IsRested IsIdle seen old → IsRun L old new → IsRested IsIdle seen new
rested-run IsIdle L seen old new s r = elim s [ inl n ↦ inl n | inr w ↦ inr (w.0, seen-run L seen w.0 old new w.1 r, w.2) ]

-- what is remembered of a store itself, where all are idle
pub rested-now : (IsIdle : Held → ℕ → Type 0) (seen : Seen) (h : Held) → IsSeen seen h h → ((i : ℕ) → IsIdle h i) → IsRested IsIdle seen h
rested-now IsIdle seen h s idle = inr (h, s, idle)

-- counts, one more at the end
pub no-counts : (h : Held) (n : ℕ) → n ≡ 0 → (l : Literal) → IsCount l h n
no-counts h n z l m e = absurd (omega (arith, z, e))

pub counts-none : (h : Held) → AreCounts [] h
counts-none h l m e = absurd (omega (arith, e))

last-at : (xs : List ℕ) (n : ℕ) → get_or (xs ++ n ∷ []) (length xs) 0 ≡ n
last-at [] n = refl
last-at (x ∷ xs) n = last-at xs n

pub counts-more : (counts : List ℕ) (h : Held) (l : Literal) (n : ℕ) → AreCounts counts h → place_of l ≡ length counts → IsCount l h n → AreCounts (counts ++ n ∷ []) h
counts-more counts h l n a p own k =
    elim (cases_lt (place_of k) (length counts)) [
      | inl lt ↦ let at = get_or_append_left counts (n ∷ []) 0 (place_of k) lt in subst (IsCount k h) (sym at) (a k)
      | inr ge ↦ elim (cases_eq (place_of k) (place_of l)) [
        | inl e ↦
            let same : k ≡ l = same-place k l e in
            let at : get_or (counts ++ n ∷ []) (place_of k) 0 ≡ n = ap (λ i. get_or (counts ++ n ∷ []) i 0) (e ∙ p) ∙ last-at counts n in
            subst (IsCount k h) (sym at) (subst (λ x. IsCount x h n) (sym same) own)
        | inr d ↦
            let long = length-append counts (n ∷ []) in
            let at : get_or (counts ++ n ∷ []) (place_of k) 0 ≡ 0 = get_or_past (counts ++ n ∷ []) (place_of k) 0 (omega (arith, long, ge, d, p)) in
            no-counts h (get_or (counts ++ n ∷ []) (place_of k) 0) at k
      ]
    ]

-- the places of a variable's literals, and two more counts
place-sign : (l : Literal) (v : ℕ) (b : Bool) → l.variable ≡ v → l.negative ≡ b → place_of l ≡ 2 * v + cond b 1 0
place-sign l v b e f = rw (e, f) refl

pub counts-both : (counts : List ℕ) (h : Held) (earlier : ℕ) (p q : Literal) (n m : ℕ) → length counts ≡ 2 * earlier + 2 → AreCounts counts h → p.variable ≡ earlier + 1 → p.negative ≡ false → q.variable ≡ earlier + 1 → q.negative ≡ true → IsCount p h n → IsCount q h m → (length ((counts ++ n ∷ []) ++ m ∷ []) ≡ 2 * (earlier + 1) + 2) × AreCounts ((counts ++ n ∷ []) ++ m ∷ []) h
counts-both counts h earlier p q n m size a pv ps qv qs own other =
    let at = place-sign p (earlier + 1) false pv ps in
    let next = place-sign q (earlier + 1) true qv qs in
    let one = length-append counts (n ∷ []) in
    let two = length-append (counts ++ n ∷ []) (m ∷ []) in
    (omega (arith, size, one, two), counts-more (counts ++ n ∷ []) h q m (counts-more counts h p n a (omega (arith, at, size)) own) (omega (arith, next, size, one)) other)

-- rising numbers differ
rising-from : (i : ℕ) (xs : List ℕ) → rising_from i xs ≡ true → (j : ℕ) → j < length xs → i ≤ get_or xs j 0
rising-from i [] r j lt = absurd (omega arith)
rising-from i (x ∷ xs) r zero lt = let a = leb-true i x (and_parts (leb i x) (rising_from (x + 1) xs) r).0 in a
rising-from i (x ∷ xs) r (suc j) lt =
    let parts = and_parts (leb i x) (rising_from (x + 1) xs) r in
    let a = leb-true i x parts.0 in
    let b = rising-from (x + 1) xs parts.1 j (omega arith) in
    omega (arith, a, b)

any-default : (xs : List ℕ) (i d : ℕ) → i < length xs → get_or xs i d ≡ get_or xs i 0
any-default [] i d lt = absurd (omega arith)
any-default (x ∷ xs) zero d lt = refl
any-default (x ∷ xs) (suc i) d lt = any-default xs i d (omega arith)

rising-apart : (i : ℕ) (xs : List ℕ) → rising_from i xs ≡ true → (j k d : ℕ) → j < k → k < length xs → get_or xs j d ≢ get_or xs k d
rising-apart i [] r j k d a b e = absurd (omega (arith, b))
rising-apart i (x ∷ xs) r j zero d a b e = absurd (omega (arith, a))
rising-apart i (x ∷ xs) r zero (suc k) d a b e =
    let parts = and_parts (leb i x) (rising_from (x + 1) xs) r in
    let above = rising-from (x + 1) xs parts.1 k (omega arith) in
    let same : get_or xs k d ≡ get_or xs k 0 = any-default xs k d (omega arith) in
    absurd (omega (arith, above, same, e))
rising-apart i (x ∷ xs) r (suc j) (suc k) d a b e = rising-apart (x + 1) xs (and_parts (leb i x) (rising_from (x + 1) xs) r).1 j k d (omega arith) (omega arith) e

take-distinct : (xs : List ℕ) (n : ℕ) → rising_from 0 xs ≡ true → n ≤ length xs → IsDistinct eqb (take n xs)
take-distinct xs n r le =
    let size : length (take n xs) ≡ n = length-take-le n xs le in
    IsDistinct-from_apart eqb (take n xs) (λ i j d less inside.
    let low : j < n = omega (arith, size, inside) in
    let a = get_or-take n xs i d (omega (arith, less, low)) in
    let b = get_or-take n xs j d low in
    ne_eqb (get_or (take n xs) i d) (get_or (take n xs) j d) (λ e. rising-apart 0 xs r i j d less (omega (arith, low, le)) (sym a ∙ e ∙ b)))

-- different numbers of a list that are as many as it has are all of them
covers : (xs ys : List ℕ) → IsDistinct eqb xs → ((i : ℕ) → Contains xs i → Contains ys i) → length ys ≤ length xs → (y : ℕ) → Contains ys y → Contains xs y
covers xs ys d sub n y m =
    elim (cases_Bool (list_any (eqb y) xs)) [
      | inl t ↦ let w = any-found (eqb y) xs t in subst (Contains xs) (sym (eqb-true y w.0 w.2)) w.1
      | inr f ↦
          let longer = length-le_from_is_member nat_eq_equiv (xs ++ y ∷ []) ys (IsDistinct-push nat_eq_equiv xs y d f) (λ q t.
          let w = any-found (eqb q) (xs ++ y ∷ []) t in
          elim (Contains-append_cases xs (y ∷ []) w.0 w.1) [
            | inl a ↦ any-by (eqb q) ys w.0 (sub w.0 a) w.2
            | inr b ↦ any-by (eqb q) ys w.0 (subst (Contains ys) (sym (Contains-one y w.0 b)) m) w.2
          ]) in
          let long = length-append xs (y ∷ []) in
          absurd (omega (arith, longer, long, n))
    ]

some_same : (o : Option (List Literal)) (c d : List Literal) → o ≡ Some c → o ≡ Some d → c ≡ d
some_same o c d e f = cc

placed : (xs : List ℕ) (i : ℕ) → Contains xs i → (j : ℕ) × (j < length xs) × (get_or xs j 0 ≡ i)
placed xs i m = (m.0, m.1, sym (any-default xs m.0 i m.1) ∙ m.2)

same-live : (slots : List (Option (List Literal))) (id : ℕ) (d c : List Literal) → clause_of slots id ≡ Some d → d ≡ c → clause_of slots id ≡ Some c
same-live slots id d c e f = e ∙ ap (λ x. Some x) f

in-take : (xs : List ℕ) (n i : ℕ) → n ≤ length xs → Contains (take n xs) i → (j : ℕ) × (j < n) × (get_or xs j 0 ≡ i)
in-take xs n i le m =
    let w = placed (take n xs) i m in
    let size : length (take n xs) ≡ n = length-take-le n xs le in
    let low : w.0 < n = omega (arith, size, w.1) in
    (w.0, low, sym (get_or-take n xs w.0 0 low) ∙ w.2)

-- where as many of the old ids as there were still have the literal, all of them do
pub kept-all : (l : Literal) (seen : Seen) (before now : Held) (n : ℕ) → IsSeen seen before now → n ≤ length (ids_with (place_of l) now.slots) → rising_from 0 (ids_with (place_of l) now.slots) ≡ true → ((i : ℕ) → i < n → get_or (ids_with (place_of l) now.slots) i 0 < seen.mark) → get_or seen.counts (place_of l) 0 ≡ suc n → HasKept before now l
kept-all l seen before now n s le rising low e =
    let xs = ids_with (place_of l) now.slots in
    let ys = ids_with (place_of l) before.slots in
    let told = s.counts l n e in
    let size : length (take n xs) ≡ n = length-take-le n xs le in
    let ids = exact-ids l now.slots in
    let was = exact-ids l before.slots in
    record {
      clauses = λ id c f m.
          let there : Contains ys id = (was.each id).1 (c, f, m) in
          let still : Contains (take n xs) id = covers (take n xs) ys (take-distinct xs n rising le) (λ i j.
          let w = in-take xs n i le j in
          let own : Contains xs i = subst (Contains xs) w.2 (Contains-get_or xs w.0 0 (omega (arith, w.1, le))) in
          let d = (ids.each i).0 own in
          let lower = low w.0 w.1 in
          let mark = s.mark in
          (was.each i).1 (d.0, s.before_is.ids i d.0 (omega (arith, lower, mark, w.2)) d.1, d.2))
          (omega (arith, told.0, size)) id there in
          let w = in-take xs n id le still in
          let own : Contains xs id = subst (Contains xs) w.2 (Contains-get_or xs w.0 0 (omega (arith, w.1, le))) in
          let d = (ids.each id).0 own in
          let lower = low w.0 w.1 in
          let mark = s.mark in
          let same = some_same (clause_of before.slots id) d.0 c (s.before_is.ids id d.0 (omega (arith, lower, mark, w.2)) d.1) f in
          same-live now.slots id d.0 c d.1 same;
      free = told.1;
    }

pub rising-ids : (l : Literal) (slots : List (Option (List Literal))) (ids : List ℕ) → ids ≡ ids_with (place_of l) slots → rising_from 0 ids ≡ true
rising-ids l slots ids e = subst (λ xs. rising_from 0 xs ≡ true) (sym e) (ids_where-rising (slot_has (place_of l)) 0 slots)

-- a rising list up to its last number, and on both sides of one that it has
pub up-to-last : (ids : List ℕ) (mark : ℕ) → rising_from 0 ids ≡ true → 0 < length ids → get_or ids (length ids - 1) 0 < mark → (i : ℕ) → i < length ids → get_or ids i 0 < mark
up-to-last ids mark r some low i lt = let a = rising-order 0 ids r i (length ids - 1) (omega arith) (omega arith) in omega (arith, a, low)

pub below-found : (ids : List ℕ) (mark k : ℕ) → rising_from 0 ids ≡ true → IsBinarySearchResult (λ y. nat_cmp y mark) ids (Ok k) → (i : ℕ) → i < k → get_or ids i 0 < mark
below-found ids mark k r s i lt =
    let there = searched ids mark (Ok k) s (rising-order 0 ids r) in
    let a = rising-order 0 ids r i k (omega arith) there.0 in
    let n = rising-apart 0 ids r i k 0 lt there.0 in
    let own = there.1 in
    elim (cases_lt (get_or ids i 0) mark) [ inl l ↦ l | inr g ↦ absurd (n (omega (arith, a, g, own))) ]

pub above-found : (ids : List ℕ) (mark k : ℕ) → rising_from 0 ids ≡ true → IsBinarySearchResult (λ y. nat_cmp y mark) ids (Ok k) → (i : ℕ) → k ≤ i → i < length ids → mark ≤ get_or ids i 0
above-found ids mark k r s i ge lt =
    let there = searched ids mark (Ok k) s (rising-order 0 ids r) in
    let a = rising-order 0 ids r k i ge lt in
    let own = there.1 in
    omega (arith, a, own)

pub around-missed : (ids : List ℕ) (mark k : ℕ) → rising_from 0 ids ≡ true → IsBinarySearchResult (λ y. nat_cmp y mark) ids (Err k) → ((i : ℕ) → i < k → get_or ids i 0 < mark) × ((i : ℕ) → k ≤ i → i < length ids → mark ≤ get_or ids i 0)
around-missed ids mark k r s =
    let there = searched ids mark (Err k) s (rising-order 0 ids r) in
    (there.1, λ i ge lt. let a = there.2 i ge lt in omega (arith, a))

-- where all are below the mark, each is
pub none-came : (ids : List ℕ) (mark n : ℕ) → ((i : ℕ) → i < n → get_or ids i 0 < mark) → length ids ≤ n → (id : ℕ) → Contains ids id → id < mark
none-came ids mark n low all id m = let w = placed ids id m in let a = low w.0 (let b = w.1 in omega (arith, b, all)) in let e = w.2 in omega (arith, a, e)

-- the same of a list of ids and of what is remembered
pub kept-at : (l : Literal) (seen : Seen) (before now : Held) (ids : List ℕ) (count n : ℕ) → IsSeen seen before now → ids ≡ ids_with (place_of l) now.slots → n ≤ length ids → ((i : ℕ) → i < n → get_or ids i 0 < seen.mark) → count ≡ get_or seen.counts (place_of l) 0 → 0 < count → n ≡ count - 1 → HasKept before now l
kept-at l seen before now ids count n s e le low c some k =
    let many : n ≤ length (ids_with (place_of l) now.slots) = subst (λ (xs : List ℕ). n ≤ length xs) e le in
    let under : (i : ℕ) → i < n → get_or (ids_with (place_of l) now.slots) i 0 < seen.mark = λ i lt. subst (λ (xs : List ℕ). get_or xs i 0 < seen.mark) e (low i lt) in
    kept-all l seen before now n s many (ids_where-rising (slot_has (place_of l)) 0 now.slots) under (omega (arith, c, some, k))

-- marks, two more at the end
last-mark : (xs : List Bool) (b : Bool) → get_or (xs ++ b ∷ []) (length xs) false ≡ b
last-mark [] b = refl
last-mark (x ∷ xs) b = last-mark xs b

kept-more : (marks : List Bool) (seen : Seen) (now : Held) (l : Literal) (b : Bool) → AreKeptSince marks seen now → place_of l ≡ length marks → (b ≡ true → (before : Held) → IsSeen seen before now → HasKept before now l) → AreKeptSince (marks ++ b ∷ []) seen now
kept-more marks seen now l b a p own before s k t =
    elim (cases_lt (place_of k) (length marks)) [
      | inl lt ↦ a before s k (sym (get_or_append_left marks (b ∷ []) false (place_of k) lt) ∙ t)
      | inr ge ↦ elim (cases_eq (place_of k) (place_of l)) [
        | inl e ↦
            let same : k ≡ l = same-place k l e in
            let at : get_or (marks ++ b ∷ []) (place_of k) false ≡ b = ap (λ i. get_or (marks ++ b ∷ []) i false) (e ∙ p) ∙ last-mark marks b in
            subst (HasKept before now) (sym same) (own (sym at ∙ t) before s)
        | inr d ↦
            let long = length-append marks (b ∷ []) in
            let at : get_or (marks ++ b ∷ []) (place_of k) false ≡ false = get_or_past (marks ++ b ∷ []) (place_of k) false (omega (arith, long, ge, d, p)) in
            absurd (true≢false (sym t ∙ at))
      ]
    ]

pub kept-both : (marks : List Bool) (seen : Seen) (now : Held) (earlier : ℕ) (p q : Literal) (b c : Bool) → length marks ≡ 2 * earlier + 2 → AreKeptSince marks seen now → p.variable ≡ earlier + 1 → p.negative ≡ false → q.variable ≡ earlier + 1 → q.negative ≡ true → (b ≡ true → (before : Held) → IsSeen seen before now → HasKept before now p) → (c ≡ true → (before : Held) → IsSeen seen before now → HasKept before now q) → (length ((marks ++ b ∷ []) ++ c ∷ []) ≡ 2 * (earlier + 1) + 2) × AreKeptSince ((marks ++ b ∷ []) ++ c ∷ []) seen now
kept-both marks seen now earlier p q b c size a pv ps qv qs own other =
    let at = place-sign p (earlier + 1) false pv ps in
    let next = place-sign q (earlier + 1) true qv qs in
    let one = length-append marks (b ∷ []) in
    let two = length-append (marks ++ b ∷ []) (c ∷ []) in
    (omega (arith, size, one, two), kept-more (marks ++ b ∷ []) seen now q c (kept-more marks seen now p b a (omega (arith, at, size)) own) (omega (arith, next, size, one)) other)

-- what is remembered, with marks
pub rested-by : (IsIdle : Held → ℕ → Type 0) (seen : Seen) (marks : List Bool) (now : Held) → IsRested IsIdle seen now → AreKeptSince marks seen now → IsRestedBy IsIdle seen marks now
rested-by IsIdle seen marks now s k = elim s [ inl n ↦ inl n | inr w ↦ inr (w.0, w.1, w.2, k w.0 w.1) ]

-- it stays so over a run that leaves the clauses of the literals that are marked then
pub rested-by-run : (IsIdle : Held → ℕ → Type 0) (L : State → State → List Repair → Type 0) (seen : Seen) (marks left : List Bool) (old new : Held) → IsRestedBy IsIdle seen marks old → IsRun L old new
    → ((l : Literal) → marked left (place_of l) ≡ true → (marked marks (place_of l) ≡ true) × ((id : ℕ) (c : List Literal) → clause_of old.slots id ≡ Some c → Contains c l → clause_of new.slots id ≡ Some c))
    → IsRestedBy IsIdle seen left new
rested-by-run IsIdle L seen marks left old new s r stay =
    elim s [
      | inl n ↦ inl n
      | inr w ↦ inr (
        w.0,
        seen-run L seen w.0 old new w.1 r,
        w.2,
        λ l t.
            let own = stay l t in
            let kept = w.3 l own.0 in
            record { clauses = λ id c e i. own.1 id c (kept.clauses id c e i) i; free = kept.free },
      )
    ]
