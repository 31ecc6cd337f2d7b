-- Parts of live clauses that are moved together.
use Rattle.std.proofs.Common.{◌≡◌, ◌≢◌, ◌⊎◌, ℕ, ◌+◌, ◌<◌, ◌≤◌, Bool, true, false, cond, List, [], ◌∷◌, ◌++◌, length, get_or, set, take, drop, drop-cons, add-one, map, zero, suc, refl, sym, ◌∙◌, ap, subst, arith, inl, inr, All, sum_by}
use Rattle.std.specs.Prelude.{◌==◌, ◌||◌, ◌&&◌, not, Option, Some, None}
use Rattle.std.proofs.lemmas.Grind.{common_steps}
use Rattle.std.proofs.lemmas.Bool.{cases_Bool, cases_eq, eqb-true, eq-eqb, ne_eqb, or_cases, or_parts, or_left, or_right, and_parts, and_from, not-true, true≢false, false≢true}
use Rattle.std.proofs.lemmas.List.{length-map, length-append, length-set, get_or-set_same, get_or-set_other, ext_get_or, take_more}
use Rattle.std.proofs.lemmas.List.{append-nil}
use Rattle.std.proofs.lemmas.List.Elements.{All-append}
use Rattle.std.proofs.lemmas.List.Sums.{sum_by-cons, sum_by-append}
use Rattle.mp_logic.specs.Literal.{Literal}
use Rattle.mp_clauses.specs.declared.arena.Place.{Place}
use Rattle.mp_clauses.specs.Places.{is_in, no_repeats}
use Rattle.mp_clauses.specs.Slots.{live_clauses}
use Rattle.mp_clauses.specs.Tables.{Row, row_of, row_at, live_in, clause_at, nowhere, place_at, AreInTurn, AreLaidOut, kept_part, moved_to, settled, blank, dead, slots_of, literals_of}
use Rattle.mp_clauses.proofs.Steps.{uncounted, get_or-any}
use Rattle.mp_clauses.proofs.ArenaPlaces.{row-longer, last-part}
use Rattle.mp_clauses.proofs.Laid.{is_in-last, no_repeats-last, row-at, out-first, out-last, in-last, turn-same, turn-last, Ends, part-length, one-known, inside-laid}

-- how many literals of a row are kept
abbrev pub kept_length : Row → ℕ
kept_length r = cond r.live (length r.clause) 0

other-kill : (rows : List Row) (k j : ℕ) → j ≢ k → row_at (set rows k (dead (row_at rows k))) j ≡ row_at rows j
other-kill rows k j n = get_or-set_other rows k j (dead (row_at rows k)) blank n

-- of literals in clauses that stand in a list of ids
sum-same : (rows new : List Row) (ids : List ℕ) → ((j : ℕ) → is_in j ids ≡ true → row_at new j ≡ row_at rows j) → sum_by (λ id. kept_length (row_at new id)) ids ≡ sum_by (λ id. kept_length (row_at rows id)) ids
sum-same rows new [] h = refl
sum-same rows new (x ∷ xs) h =
    let first : kept_length (row_at new x) ≡ kept_length (row_at rows x) = ap kept_length (h x (or_left (x == x) (is_in x xs) (eq-eqb x x refl))) in
    let rest = sum-same rows new xs (λ j i. h j (or_right (x == j) (is_in j xs) i)) in
    grind (arith, common_steps, first, rest)

none-live : (rows : List Row) → ((k : ℕ) → live_in rows k ≡ false) → literals_of (live_clauses (slots_of rows)) ≡ 0
none-live [] h = refl
none-live (r ∷ rs) h = let first : r.live ≡ false = h 0 in let rest = none-live rs (λ k. h (suc k)) in rw first rest

-- the literals of the live clauses, counted by a list of ids that misses none
pub live-total : (rows : List Row) (ids : List ℕ) → no_repeats ids ≡ true → All (λ id. id < length rows) ids → ((k : ℕ) → is_in k ids ≡ false → live_in rows k ≡ false) → sum_by (λ id. kept_length (row_at rows id)) ids ≡ literals_of (live_clauses (slots_of rows))
live-total rows [] o a h = sym (none-live rows (λ k. h k refl))
live-total rows (x ∷ xs) o a h =
    let parts = and_parts (not (is_in x xs)) (no_repeats xs) o in
    let out : is_in x xs ≡ false = not-true (is_in x xs) parts.0 in
    let gone : Row = dead (row_at rows x) in
    let new : List Row = set rows x gone in
    let below : x < length rows = a 0 0 (omega arith) in
    let len : length new ≡ length rows = length-set rows x gone in
    let dies : (k : ℕ) → is_in k xs ≡ false → live_in new k ≡ false = λ k f.
    elim (cases_eq k x) [
      | inl e ↦ subst (λ z. live_in new z ≡ false) (sym e) (ap (λ (r : Row). r.live) (get_or-set_same rows x gone blank below))
      | inr n ↦ ap (λ (r : Row). r.live) (other-kill rows x k n) ∙ (h k (let own : (x == k) ≡ false = ne_eqb x k (λ e. n (sym e)) in rw (own, f) refl))
    ] in
    let rest = live-total new xs parts.1 (λ k d l. let b = a (suc k) d (omega arith) in rw len b) dies in
    let same = sum-same rows new xs (λ j i. other-kill rows x j (λ e. true≢false (sym i ∙ (let z : is_in j xs ≡ false = rw e out in z)))) in
    let less = (uncounted rows x below).literals in
    omega (arith, rest, same, less, sum_by-cons (λ id. kept_length (row_at rows id)) x xs)

settled-at : (rows : List Row) (k : ℕ) → row_at (map settled rows) k ≡ settled (row_at rows k)
settled-at [] k = refl
settled-at (r ∷ rs) zero = refl
settled-at (r ∷ rs) (suc k) = settled-at rs k

kept-same : (old : List Literal) (p : Place) → length (kept_part old p) ≡ kept_length (row_of old p)
kept-same old p = elim p.live as (λ b. length (cond b (take p.len (drop p.start old)) []) ≡ cond b (length (take p.len (drop p.start old))) 0) [ true ↦ refl | false ↦ refl ]

sum-rows : (old : List Literal) (was : List Place) (ids : List ℕ) → sum_by (λ id. length (kept_part old (place_at was id))) ids ≡ sum_by (λ id. kept_length (row_at (map (row_of old) was) id)) ids
sum-rows old was [] = refl
sum-rows old was (x ∷ xs) =
    let first : kept_length (row_at (map (row_of old) was) x) ≡ kept_length (row_of old (place_at was x)) = ap kept_length (row-at old was x) in
    let own = kept-same old (place_at was x) in
    omega (arith, first, own, sum-rows old was xs, sum_by-cons (λ id. length (kept_part old (place_at was id))) x xs, sum_by-cons (λ id. kept_length (row_at (map (row_of old) was) id)) x xs)

pub laid-total : (old : List Literal) (was : List Place) (ids : List ℕ) → AreLaidOut old was ids → sum_by (λ id. length (kept_part old (place_at was id))) ids ≡ literals_of (live_clauses (slots_of (map (row_of old) was)))
laid-total old was ids l =
    let rows : List Row = map (row_of old) was in
    let len : length rows ≡ length was = simp length-map in
    sum-rows old was ids ∙ live-total rows ids l.once (λ k d h. rw len (l.known k d h)) (λ k f. ap (λ (r : Row). r.live) (row-at old was k) ∙ ap (λ (p : Place). p.live) (l.rest k f))

-- the parts of the clauses done so far are moved
pub record ArePacked (old : List Literal) (was : List Place) (done : List ℕ) (literals : List Literal) (places : List Place) (order : List ℕ) : Type 0 where
  pub len : length places ≡ length was
  pub waiting : (id : ℕ) → is_in id done ≡ false → place_at places id ≡ place_at was id
  pub moved : (id : ℕ) → is_in id done ≡ true → row_of literals (place_at places id) ≡ settled (row_of old (place_at was id))
  pub inside : (id : ℕ) → is_in id done ≡ true → (place_at places id).start + (place_at places id).len ≤ length literals
  pub known : All (λ id. id < length was) order
  pub once : no_repeats order ≡ true
  pub few : length order ≤ length done
  pub among : (id : ℕ) → is_in id done ≡ false → is_in id order ≡ false
  pub gone : (id : ℕ) → is_in id done ≡ true → is_in id order ≡ false → place_at places id ≡ nowhere
  pub turn : AreInTurn places 0 (length literals) order
  pub total : length literals ≡ sum_by (λ id. length (kept_part old (place_at was id))) done

pub packed-none : (old : List Literal) (was : List Place) (done : List ℕ) (literals : List Literal) (order : List ℕ) → done ≡ [] → literals ≡ [] → order ≡ [] → ArePacked old was done literals was order
packed-none old was done literals order d l o = rw (d, l, o) (record {
  len = refl;
  waiting = λ id f. refl;
  moved = λ id t. absurd (false≢true t);
  inside = λ id t. absurd (false≢true t);
  known = λ k d h. absurd (omega arith);
  once = refl;
  few = omega arith;
  among = λ id f. refl;
  gone = λ id t f. absurd (false≢true t);
  turn = omega arith;
  total = refl;
})

sum-last : (f : ℕ → ℕ) (xs : List ℕ) (y : ℕ) → sum_by f (xs ++ y ∷ []) ≡ sum_by f xs + f y
sum-last f xs y = omega (arith, sum_by-append f xs (y ∷ []), sum_by-cons f y [])

-- a dead clause loses its place
packed-dead : (old : List Literal) (was : List Place) (done : List ℕ) (literals : List Literal) (places : List Place) (order : List ℕ) (k : ℕ) → k < length was → is_in k done ≡ false → (place_at was k).live ≡ false → ArePacked old was done literals places order → ArePacked old was (done ++ k ∷ []) literals (set places k nowhere) order
packed-dead old was done literals places order k b out d a =
    let here : place_at (set places k nowhere) k ≡ nowhere = get_or-set_same places k nowhere nowhere (rw a.len b) in
    let there : (j : ℕ) → j ≢ k → place_at (set places k nowhere) j ≡ place_at places j = λ j n. get_or-set_other places k j nowhere nowhere n in
    let apart : (j : ℕ) → is_in j done ≡ true → j ≢ k = λ j t e. true≢false (sym t ∙ (let z : is_in j done ≡ false = rw e out in z)) in
    let missed : is_in k order ≡ false = a.among k out in
    let ends : (j : ℕ) → is_in j order ≡ true → Ends places (set places k nowhere) j = λ j t. rw (there j (λ e. true≢false (sym t ∙ (let z : is_in j order ≡ false = rw e missed in z)))) (refl, refl) in
    record {
      len = length-set places k nowhere ∙ a.len;
      waiting = λ j f. let o = out-last j k done f in there j o.0 ∙ a.waiting j o.1;
      moved = λ j t. elim (in-last j k done t) [
        | inl i ↦ rw (there j (apart j i)) (a.moved j i)
        | inr e ↦ rw (e, here, d) refl
      ];
      inside = λ j t. elim (in-last j k done t) [
        | inl i ↦ rw (there j (apart j i)) (a.inside j i)
        | inr e ↦ rw (e, here) (let z : 0 + 0 ≤ length literals = omega arith in z)
      ];
      known = a.known;
      once = a.once;
      few = let f = a.few in let l = length-append done (k ∷ []) in omega (arith, f, l);
      among = λ j f. a.among j (out-last j k done f).1;
      gone = λ j t f. elim (in-last j k done t) [
        | inl i ↦ there j (apart j i) ∙ a.gone j i f
        | inr e ↦ rw (e, here) refl
      ];
      turn = turn-same places (set places k nowhere) 0 (length literals) (length literals) order (omega arith) ends a.turn;
      total = let own : length (kept_part old (place_at was k)) ≡ 0 = rw d refl in omega (arith, a.total, own, sum-last (λ id. length (kept_part old (place_at was id))) done k);
    }

-- the part of a live clause is put behind the others
packed-live : (old part : List Literal) (was : List Place) (done : List ℕ) (literals : List Literal) (places : List Place) (order : List ℕ) (k : ℕ) (q : Place) → k < length was → is_in k done ≡ false → (place_at was k).live ≡ true
    → part ≡ take (place_at was k).len (drop (place_at was k).start old) → length part ≡ (place_at was k).len
    → q ≡ record { start = length literals; signature = (place_at was k).signature; len = (place_at was k).len; live = true }
    → ArePacked old was done literals places order → ArePacked old was (done ++ k ∷ []) (literals ++ part) (set places k q) (order ++ k ∷ [])
packed-live old part was done literals places order k q b out d p n e a =
    let w : Place = place_at was k in
    let more : List Literal = literals ++ part in
    let here : place_at (set places k q) k ≡ q = get_or-set_same places k q nowhere (rw a.len b) in
    let there : (j : ℕ) → j ≢ k → place_at (set places k q) j ≡ place_at places j = λ j n. get_or-set_other places k j q nowhere n in
    let apart : (j : ℕ) → is_in j done ≡ true → j ≢ k = λ j t f. true≢false (sym t ∙ (let z : is_in j done ≡ false = rw f out in z)) in
    let missed : is_in k order ≡ false = a.among k out in
    let ends : (j : ℕ) → is_in j order ≡ true → Ends places (set places k q) j = λ j t. rw (there j (λ f. true≢false (sym t ∙ (let z : is_in j order ≡ false = rw f missed in z)))) (refl, refl) in
    let start : q.start ≡ length literals = ap (λ (z : Place). z.start) e in
    let size : q.len ≡ w.len = ap (λ (z : Place). z.len) e in
    let whole : length more ≡ length literals + length part = length-append literals part in
    let row : row_of more q ≡ settled (row_of old w) =
    let clause : take w.len (drop (length literals) more) ≡ take w.len (drop w.start old) = let l = last-part literals part in (rw n at l) ∙ p in
    rw (e, d) (ap (λ (c : List Literal). record { clause = c; live = true; signature = w.signature }) clause) in
    record {
      len = length-set places k q ∙ a.len;
      waiting = λ j f. let o = out-last j k done f in there j o.0 ∙ a.waiting j o.1;
      moved = λ j t. elim (in-last j k done t) [
        | inl i ↦ rw (there j (apart j i)) (row-longer literals part (place_at places j) (a.inside j i) ∙ a.moved j i)
        | inr f ↦ rw (f, here) row
      ];
      inside = λ j t. elim (in-last j k done t) [
        | inl i ↦ rw (there j (apart j i)) (let z = a.inside j i in omega (arith, z, whole))
        | inr f ↦ rw (f, here) (omega (arith, start, size, whole, n))
      ];
      known = All-append (λ id. id < length was) order (k ∷ []) a.known (one-known (length was) k b);
      once = no_repeats-last k order a.once missed;
      few = let f = a.few in let l = length-append done (k ∷ []) in let m = length-append order (k ∷ []) in omega (arith, f, l, m);
      among = λ j f. let o = out-last j k done f in is_in-last j k order ∙ (let own : (k == j) ≡ false = ne_eqb k j (λ g. o.0 (sym g)) in rw (a.among j o.1, own) refl);
      gone = λ j t f. let o = out-last j k order f in elim (in-last j k done t) [
        | inl i ↦ there j o.0 ∙ a.gone j i o.1
        | inr g ↦ absurd (o.0 g)
      ];
      turn = turn-last (set places k q) 0 (length literals) (length more) order k (rw here (omega (arith, start))) (rw here (omega (arith, start, size, whole, n))) (turn-same places (set places k q) 0 (length literals) (length literals) order (omega arith) ends a.turn);
      total = let own : length (kept_part old w) ≡ length part = rw (d, p) refl in omega (arith, a.total, own, whole, sum-last (λ id. length (kept_part old (place_at was id))) done k);
    }

pub packed-more : (old : List Literal) (was : List Place) (done : List ℕ) (literals new : List Literal) (places placed : List Place) (order longer : List ℕ) (k : ℕ) (p : Place) → k < length was → is_in k done ≡ false → (place_at was k).start + (place_at was k).len ≤ length old → p ≡ place_at places k
    → new ≡ literals ++ kept_part old p → placed ≡ set places k (moved_to (length literals) p) → longer ≡ order ++ cond p.live (k ∷ []) []
    → ArePacked old was done literals places order → ArePacked old was (done ++ k ∷ []) new placed longer
packed-more old was done literals new places placed order longer k p b out inside e n s o a =
    let w : p ≡ place_at was k = e ∙ a.waiting k out in
    elim (cases_Bool p.live) [
      | inl t ↦
          let d : (place_at was k).live ≡ true = rw w at t in
          let part : List Literal = take p.len (drop p.start old) in
          let m : moved_to (length literals) p ≡ record { start = length literals; signature = p.signature; len = p.len; live = true } = rw t refl in
          let f : kept_part old p ≡ part = rw t refl in
          let g : cond p.live (k ∷ []) [] ≡ k ∷ [] = rw t refl in
          let sum : length part ≡ p.len = part-length p.start p.len old (rw (← w) at inside) in
          rw (n, s, o, f, g) (packed-live old part was done literals places order k (moved_to (length literals) p) b out d (rw w refl) (sum ∙ ap (λ (z : Place). z.len) w) (m ∙ rw w refl) a)
      | inr t ↦
          let d : (place_at was k).live ≡ false = rw w at t in
          let m : moved_to (length literals) p ≡ nowhere = rw t refl in
          let f : kept_part old p ≡ [] = rw t refl in
          let g : cond p.live (k ∷ []) [] ≡ [] = rw t refl in
          rw (n, s, o, f, g, m, append-nil, append-nil) (packed-dead old was done literals places order k b out d a)
    ]

-- all parts are moved
pub packed-laid : (old : List Literal) (was : List Place) (ids : List ℕ) (literals : List Literal) (places : List Place) (order : List ℕ) → AreLaidOut old was ids → ArePacked old was ids literals places order → AreLaidOut literals places order
packed-laid old was ids literals places order l a = record {
  known = rw a.len a.known;
  once = a.once;
  fits = let f = a.few in let g = l.fits in let n = a.len in omega (arith, f, g, n);
  turn = a.turn;
  rest = λ id f. elim (cases_Bool (is_in id ids)) [ inl t ↦ a.gone id t f | inr o ↦ a.waiting id o ∙ l.rest id o ];
}

pub packed-rows : (old : List Literal) (was : List Place) (ids : List ℕ) (literals : List Literal) (places : List Place) (order : List ℕ) → AreLaidOut old was ids → ArePacked old was ids literals places order → map (row_of literals) places ≡ map settled (map (row_of old) was)
packed-rows old was ids literals places order l a =
    let len : length (map (row_of literals) places) ≡ length (map settled (map (row_of old) was)) = simp length-map a.len in
    ext_get_or blank (map (row_of literals) places) (map settled (map (row_of old) was)) len (λ k h.
    let each : row_of literals (place_at places k) ≡ settled (row_of old (place_at was k)) = elim (cases_Bool (is_in k ids)) [
      | inl t ↦ a.moved k t
      | inr o ↦ let e = a.waiting k o in let n = l.rest k o in rw (e, n) refl
    ] in
    row-at literals places k ∙ each ∙ sym (settled-at (map (row_of old) was) k ∙ ap settled (row-at old was k)))

pub packed-total : (old : List Literal) (was : List Place) (ids : List ℕ) (literals : List Literal) (places : List Place) (order : List ℕ) → AreLaidOut old was ids → ArePacked old was ids literals places order → length literals ≡ literals_of (live_clauses (slots_of (map (row_of old) was)))
packed-total old was ids literals places order l a = a.total ∙ laid-total old was ids l

not-at : (x : ℕ) (xs : List ℕ) (k : ℕ) → is_in x xs ≡ false → k < length xs → (x == get_or xs k 0) ≡ false
not-at x [] k h l = absurd (omega arith)
not-at x (y ∷ ys) zero h l = let o = out-first x y ys h in ne_eqb x y o.0
not-at x (y ∷ ys) (suc k) h l = let o = out-first x y ys h in not-at x ys k o.1 (omega arith)

-- an id is not among those before it
pub not-before : (ids : List ℕ) (k : ℕ) → no_repeats ids ≡ true → k < length ids → is_in (get_or ids k 0) (take k ids) ≡ false
not-before [] k o h = absurd (omega arith)
not-before (x ∷ xs) zero o h = refl
not-before (x ∷ xs) (suc k) o h =
    let parts = and_parts (not (is_in x xs)) (no_repeats xs) o in
    let own = not-at x xs k (not-true (is_in x xs) parts.0) (omega arith) in
    let rest = not-before xs k parts.1 (omega arith) in
    rw (own, rest) refl

-- a walk over the ids
pub sum-ahead : (f : ℕ → ℕ) (ids : List ℕ) (k : ℕ) → k < length ids → sum_by f (drop k ids) ≡ f (get_or ids k 0) + sum_by f (drop (k + 1) ids)
sum-ahead f ids k h = rw (add-one, drop-cons ids k 0 h) (sum_by-cons f (get_or ids k 0) (drop (suc k) ids))

-- the clause in hand has its place still
pub here : (old : List Literal) (was : List Place) (ids : List ℕ) (k : ℕ) (literals : List Literal) (places : List Place) (order : List ℕ) → AreLaidOut old was ids → ArePacked old was (take k ids) literals places order → k < length ids
    → (get_or ids k 0 < length places) × (place_at places (get_or ids k 0) ≡ place_at was (get_or ids k 0)) × ((place_at places (get_or ids k 0)).start + (place_at places (get_or ids k 0)).len ≤ length old)
here old was ids k literals places order l a h =
    let same = a.waiting (get_or ids k 0) (not-before ids k l.once h) in
    let below = l.known k 0 h in
    (rw a.len below, same, rw same (inside-laid old was ids l (get_or ids k 0)))

pub packed-step : (old : List Literal) (was : List Place) (ids : List ℕ) (k : ℕ) (literals new : List Literal) (places placed : List Place) (order longer : List ℕ) → AreLaidOut old was ids → k < length ids
    → new ≡ literals ++ kept_part old (place_at places (get_or ids k 0)) → placed ≡ set places (get_or ids k 0) (moved_to (length literals) (place_at places (get_or ids k 0))) → longer ≡ order ++ cond (place_at places (get_or ids k 0)).live (get_or ids k 0 ∷ []) []
    → ArePacked old was (take k ids) literals places order → ArePacked old was (take (k + 1) ids) new placed longer
packed-step old was ids k literals new places placed order longer l h n s o a =
    let id : ℕ = get_or ids k 0 in
    rw (take_more ids k 0 h) (packed-more old was (take k ids) literals new places placed order longer id (place_at places id) (l.known k 0 h) (not-before ids k l.once h) (inside-laid old was ids l id) refl n s o a)

pub one-at-most : (b : Bool) (k : ℕ) → length (cond b (k ∷ []) []) ≤ 1
one-at-most true k = omega arith
one-at-most false k = omega arith
