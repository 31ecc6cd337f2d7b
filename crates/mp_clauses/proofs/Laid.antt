-- Parts of an arena that follow one another.
use Rattle.std.proofs.Common.{◌≡◌, ◌≢◌, ◌⊎◌, ℕ, ◌+◌, ◌<◌, ◌≤◌, Bool, true, false, cond, List, [], ◌∷◌, ◌++◌, length, get_or, set, take, drop, map, zero, suc, refl, sym, ◌∙◌, ap, subst, arith, inl, inr}
use Rattle.std.specs.Prelude.{Option, Some, None, unwrap_or, ◌==◌, ◌||◌, All}
use Rattle.std.proofs.lemmas.Grind.{common_steps}
use Rattle.std.proofs.lemmas.Bool.{cases_Bool, cases_eq, cases_lt, eqb-true, eq-eqb, ne_eqb, or_cases, or_parts, true≢false, false≢true}
use Rattle.std.proofs.lemmas.List.{length-map, length-append, length-set, length-take-le, length-drop, get_or-set_same, get_or-set_other}
use Rattle.std.proofs.lemmas.List.Elements.{All-append}
use Rattle.mp_logic.specs.Literal.{Literal}
use Rattle.mp_clauses.specs.declared.arena.Place.{Place}
use Rattle.mp_clauses.specs.Places.{is_in, no_repeats}
use Rattle.mp_clauses.specs.Slots.{clause_of}
use Rattle.mp_clauses.specs.Arena.{IsPart, ArePlaced}
use Rattle.mp_clauses.specs.Tables.{Row, row_of, row_at, nowhere, place_at, AreInTurn, AreInside, AreLaidOut, blank, slot_of, slots_of}
use Rattle.mp_clauses.proofs.Steps.{get_or-any}

pub is_in-last : (x y : ℕ) (xs : List ℕ) → is_in x (xs ++ y ∷ []) ≡ (is_in x xs || (y == x))
is_in-last x y [] = grind arith
is_in-last x y (z ∷ zs) = grind (arith, is_in-last x y zs)

pub no_repeats-last : (y : ℕ) (xs : List ℕ) → no_repeats xs ≡ true → is_in y xs ≡ false → no_repeats (xs ++ y ∷ []) ≡ true
no_repeats-last y [] h f = refl
no_repeats-last y (z ∷ zs) h f = let parts : (is_in z zs ≡ false) × (no_repeats zs ≡ true) = grind (arith, common_steps) in let other : is_in y zs ≡ false = grind (arith, common_steps) in let rest : no_repeats (zs ++ y ∷ []) ≡ true = no_repeats-last y zs parts.1 other in let there : is_in z (zs ++ y ∷ []) ≡ (is_in z zs || (y == z)) = is_in-last z y zs in grind (arith, common_steps)

pub row-at : (lits : List Literal) (places : List Place) (k : ℕ) → row_at (map (row_of lits) places) k ≡ row_of lits (place_at places k)
row-at lits [] k = refl
row-at lits (p ∷ ps) zero = refl
row-at lits (p ∷ ps) (suc k) = row-at lits ps k

-- an id that is not in a longer list
pub out-first : (x y : ℕ) (xs : List ℕ) → is_in x (y ∷ xs) ≡ false → (x ≢ y) × (is_in x xs ≡ false)
out-first x y xs h =
    let parts = or_parts (y == x) (is_in x xs) h in
    (λ e. true≢false (sym (eq-eqb y x (sym e)) ∙ parts.0), parts.1)

pub out-last : (x y : ℕ) (xs : List ℕ) → is_in x (xs ++ y ∷ []) ≡ false → (x ≢ y) × (is_in x xs ≡ false)
out-last x y xs h =
    let parts = or_parts (is_in x xs) (y == x) (sym (is_in-last x y xs) ∙ h) in
    (λ e. true≢false (sym (eq-eqb y x (sym e)) ∙ parts.1), parts.0)

pub in-last : (x y : ℕ) (xs : List ℕ) → is_in x (xs ++ y ∷ []) ≡ true → (is_in x xs ≡ true) ⊎ (x ≡ y)
in-last x y xs h = elim (or_cases (is_in x xs) (y == x) (sym (is_in-last x y xs) ∙ h)) [ inl a ↦ inl a | inr b ↦ inr (sym (eqb-true y x b)) ]

turn-ends : (places : List Place) (i n : ℕ) (ids : List ℕ) → AreInTurn places i n ids → i ≤ n
turn-ends places i n [] t = t
turn-ends places i n (x ∷ xs) t = let first = t.0 in let rest = turn-ends places ((place_at places x).start + (place_at places x).len) n xs t.1 in omega arith

turn-inside : (places : List Place) (i n : ℕ) (ids : List ℕ) (id : ℕ) → AreInTurn places i n ids → is_in id ids ≡ true → (i ≤ (place_at places id).start) × ((place_at places id).start + (place_at places id).len ≤ n)
turn-inside places i n [] id t h = absurd (false≢true h)
turn-inside places i n (x ∷ xs) id t h =
    elim (or_cases (x == id) (is_in id xs) h) [
      | inl e ↦ subst (λ k. (i ≤ (place_at places k).start) × ((place_at places k).start + (place_at places k).len ≤ n)) (eqb-true x id e) (t.0, turn-ends places ((place_at places x).start + (place_at places x).len) n xs t.1)
      | inr r ↦
          let rest = turn-inside places ((place_at places x).start + (place_at places x).len) n xs id t.1 r in
          let first = t.0 in
          let low = rest.0 in
          (omega arith, rest.1)
    ]

turn-apart : (places : List Place) (i n : ℕ) (ids : List ℕ) (a b : ℕ) → a ≢ b → AreInTurn places i n ids → is_in a ids ≡ true → is_in b ids ≡ true
    → ((place_at places a).start + (place_at places a).len ≤ (place_at places b).start) ⊎ ((place_at places b).start + (place_at places b).len ≤ (place_at places a).start)
turn-apart places i n [] a b d t h k = absurd (false≢true h)
turn-apart places i n (x ∷ xs) a b d t h k =
    let end : ℕ = (place_at places x).start + (place_at places x).len in
    elim (or_cases (x == a) (is_in a xs) h) [
      | inl e ↦ elim (or_cases (x == b) (is_in b xs) k) [
        | inl f ↦ absurd (d (sym (eqb-true x a e) ∙ eqb-true x b f))
        | inr s ↦ inl (subst (λ z. (place_at places z).start + (place_at places z).len ≤ (place_at places b).start) (eqb-true x a e) (turn-inside places end n xs b t.1 s).0)
      ]
      | inr r ↦ elim (or_cases (x == b) (is_in b xs) k) [
        | inl f ↦ inr (subst (λ z. (place_at places z).start + (place_at places z).len ≤ (place_at places a).start) (eqb-true x b f) (turn-inside places end n xs a t.1 r).0)
        | inr s ↦ turn-apart places end n xs a b d t.1 r s
      ]
    ]

abbrev pub Ends : List Place → List Place → ℕ → Type 0
Ends old new id = ((place_at new id).start ≡ (place_at old id).start) × ((place_at new id).len ≡ (place_at old id).len)

-- where the parts of these ids stay, they still follow one another
pub turn-same : (old new : List Place) (i n m : ℕ) (ids : List ℕ) → n ≤ m → ((id : ℕ) → is_in id ids ≡ true → Ends old new id) → AreInTurn old i n ids → AreInTurn new i m ids
turn-same old new i n m [] l h t = omega arith
turn-same old new i n m (x ∷ xs) l h t =
    let e = h x (rw (eq-eqb x x refl) refl) in
    let first : i ≤ (place_at new x).start = rw e.0 t.0 in
    let rest = turn-same old new ((place_at old x).start + (place_at old x).len) n m xs l (λ id s. h id (let b : is_in id (x ∷ xs) ≡ true = grind (arith, common_steps, s) in b)) t.1 in
    let P : ℕ → Type 0 = λ z. AreInTurn new z m xs in
    (first, subst P (let q : (place_at old x).start + (place_at old x).len ≡ (place_at new x).start + (place_at new x).len = omega (arith, e.0, e.1) in q) rest)

-- one more part behind the others
pub turn-last : (places : List Place) (i n m : ℕ) (ids : List ℕ) (k : ℕ) → n ≤ (place_at places k).start → (place_at places k).start + (place_at places k).len ≤ m → AreInTurn places i n ids → AreInTurn places i m (ids ++ k ∷ [])
turn-last places i n m [] k l h t = (omega arith, omega arith)
turn-last places i n m (x ∷ xs) k l h t = (t.0, turn-last places ((place_at places x).start + (place_at places x).len) n m xs k l h t.1)

pub inside-laid : (lits : List Literal) (places : List Place) (order : List ℕ) → AreLaidOut lits places order → (id : ℕ) → (place_at places id).start + (place_at places id).len ≤ length lits
inside-laid lits places order a id =
    elim (cases_Bool (is_in id order)) [
      | inl t ↦ (turn-inside places 0 (length lits) order id a.turn t).1
      | inr f ↦ rw (a.rest id f) (let z : 0 + 0 ≤ length lits = omega arith in z)
    ]

pub part-length : (s n : ℕ) (lits : List Literal) → s + n ≤ length lits → length (take n (drop s lits)) ≡ n
part-length s n lits h = length-take-le n (drop s lits) (let e = length-drop s lits in omega (arith, e))

slot-at : (rows : List Row) (id : ℕ) → clause_of (slots_of rows) id ≡ slot_of (row_at rows id)
slot-at [] id = refl
slot-at (r ∷ rs) zero = refl
slot-at (r ∷ rs) (suc id) = slot-at rs id

start-at : (places : List Place) (id : ℕ) → get_or (map (λ (p : Place). p.start) places) id 0 ≡ (place_at places id).start
start-at [] id = refl
start-at (p ∷ ps) zero = refl
start-at (p ∷ ps) (suc id) = start-at ps id

slot-some : (b : Bool) (c d : List Literal) → cond b (Some c) None ≡ Some d → (b ≡ true) × (c ≡ d)
slot-some true c d e = (refl, ap (λ (o : Option (List Literal)). unwrap_or o []) e)
slot-some false c d e = absurd (cc)

-- the part of a live clause
record Seen (lits : List Literal) (places : List Place) (order : List ℕ) (id : ℕ) (c : List Literal) : Type 0 where
  among : is_in id order ≡ true
  is : take (place_at places id).len (drop (place_at places id).start lits) ≡ c
  len : length c ≡ (place_at places id).len

seen : (lits : List Literal) (places : List Place) (order : List ℕ) → AreLaidOut lits places order → (id : ℕ) (c : List Literal) → clause_of (slots_of (map (row_of lits) places)) id ≡ Some c → Seen lits places order id c
seen lits places order a id c e =
    let p : Place = place_at places id in
    let slot : cond p.live (Some (take p.len (drop p.start lits))) None ≡ Some c = sym (slot-at (map (row_of lits) places) id ∙ ap slot_of (row-at lits places id)) ∙ e in
    let parts = slot-some p.live (take p.len (drop p.start lits)) c slot in
    record {
      among = elim (cases_Bool (is_in id order)) [ inl t ↦ t | inr f ↦ absurd (true≢false (sym parts.0 ∙ ap (λ (q : Place). q.live) (a.rest id f))) ];
      is = parts.1;
      len = sym (ap length parts.1) ∙ part-length p.start p.len lits (inside-laid lits places order a id);
    }

pub placed-laid : (lits : List Literal) (places : List Place) (order : List ℕ) → AreLaidOut lits places order → ArePlaced (slots_of (map (row_of lits) places)) lits (map (λ (p : Place). p.start) places)
placed-laid lits places order a = record {
  len = simp length-map;
  part = λ id c e.
      let s = seen lits places order a id c e in
      let p : Place = place_at places id in
      let inside = inside-laid lits places order a id in
      rw (start-at places id) (record { within = rw s.len inside; is = rw s.len s.is });
  apart = λ i j c d n e f.
      let s = seen lits places order a i c e in
      let t = seen lits places order a j d f in
      rw (start-at places i, start-at places j, s.len, t.len) (turn-apart places 0 (length lits) order i j n a.turn s.among t.among);
}

-- a clause that dies keeps its part
pub laid-killed : (lits : List Literal) (places : List Place) (order : List ℕ) (k : ℕ) (p : Place) → k < length places → p ≡ get_or places k p → AreLaidOut lits places order → AreLaidOut lits (set places k (record { start = p.start; signature = p.signature; len = p.len; live = false })) order
laid-killed lits places order k p h e a =
    let q : Place = record { start = p.start; signature = p.signature; len = p.len; live = false } in
    let was : p ≡ place_at places k = e ∙ get_or-any places k p nowhere h in
    let here : place_at (set places k q) k ≡ q = get_or-set_same places k q nowhere h in
    let there : (j : ℕ) → j ≢ k → place_at (set places k q) j ≡ place_at places j = λ j n. get_or-set_other places k j q nowhere n in
    let ends : (j : ℕ) → Ends places (set places k q) j = λ j. elim (cases_eq j k) [ inl s ↦ rw (s, here, was) (refl, refl) | inr n ↦ rw (there j n) (refl, refl) ] in
    let len : length (set places k q) ≡ length places = length-set places k q in
    record {
      known = λ i d l. rw len (a.known i d l);
      once = a.once;
      fits = rw len a.fits;
      turn = turn-same places (set places k q) 0 (length lits) (length lits) order (omega arith) (λ j i. ends j) a.turn;
      rest = λ j f. elim (cases_eq j k) [ inl s ↦ let gone = a.rest j f in rw (s, here, was) (rw s at (ap {B = Place} (λ (z : Place). record { start = z.start; signature = z.signature; len = z.len; live = false }) gone)) | inr n ↦ there j n ∙ a.rest j f ];
    }

known-out : (n k : ℕ) (ids : List ℕ) → All (λ id. id < n) ids → n ≤ k → is_in k ids ≡ false
known-out n k [] a h = refl
known-out n k (x ∷ xs) a h =
    let below : x < n = a 0 0 (omega arith) in
    let own : (x == k) ≡ false = ne_eqb x k (λ e. omega arith) in
    let rest = known-out n k xs (λ i d l. a (suc i) d (omega arith)) h in
    rw (own, rest) refl

place-other : (places : List Place) (p : Place) (id : ℕ) → id ≢ length places → place_at (places ++ p ∷ []) id ≡ place_at places id
place-other [] p zero n = absurd (n refl)
place-other [] p (suc id) n = refl
place-other (x ∷ xs) p zero n = refl
place-other (x ∷ xs) p (suc id) n = place-other xs p id (λ e. n (ap suc e))

place-last : (places : List Place) (p : Place) → place_at (places ++ p ∷ []) (length places) ≡ p
place-last [] p = refl
place-last (x ∷ xs) p = place-last xs p

pub one-known : (n k : ℕ) → k < n → All (λ id. id < n) (k ∷ [])
one-known n k h zero d l = h
one-known n k h (suc i) d l = absurd (omega arith)

-- a clause that is put last lies behind all others
pub laid-pushed : (lits clause : List Literal) (places : List Place) (order : List ℕ) (k : ℕ) (p : Place) → AreLaidOut lits places order → k ≡ length places → p.start ≡ length lits → p.len ≡ length clause → AreLaidOut (lits ++ clause) (places ++ p ∷ []) (order ++ k ∷ [])
laid-pushed lits clause places order k p a e s l =
    let new : List Place = places ++ p ∷ [] in
    let longer : length new ≡ length places + 1 = length-append places (p ∷ []) in
    let out : is_in k order ≡ false = known-out (length places) k order a.known (omega (arith, e)) in
    let same : (id : ℕ) → is_in id order ≡ true → Ends places new id = λ id i.
    rw (place-other places p id (λ f. true≢false (sym i ∙ (let z : is_in id order ≡ false = rw (f ∙ sym e) out in z)))) (refl, refl) in
    let here : place_at new k ≡ p = rw e (place-last places p) in
    let whole : length (lits ++ clause) ≡ length lits + length clause = length-append lits clause in
    let moved = turn-same places new 0 (length lits) (length lits) order (omega arith) same a.turn in
    let start : (place_at new k).start ≡ length lits = ap (λ (q : Place). q.start) here ∙ s in
    let len : (place_at new k).len ≡ length clause = ap (λ (q : Place). q.len) here ∙ l in
    record {
      known = All-append (λ id. id < length new) order (k ∷ []) (λ i d m. let b = a.known i d m in omega (arith, longer, b)) (one-known (length new) k (omega (arith, longer, e)));
      once = no_repeats-last k order a.once out;
      fits = let f = a.fits in let o = length-append order (k ∷ []) in omega (arith, longer, f, o);
      turn = turn-last new 0 (length lits) (length (lits ++ clause)) order k (omega (arith, start)) (omega (arith, start, len, whole)) moved;
      rest = λ id f. let o = out-last id k order f in place-other places p id (λ g. o.0 (g ∙ sym e)) ∙ a.rest id o.1;
    }

pub inside-all : (lits : List Literal) (places : List Place) (order : List ℕ) → AreLaidOut lits places order → AreInside (length lits) places
inside-all lits places order a k d h = rw (get_or-any places k d nowhere h) (inside-laid lits places order a k)

pub none-laid : AreLaidOut [] [] []
none-laid = record { known = λ k d h. absurd (omega arith); once = refl; fits = omega arith; turn = omega arith; rest = λ id f. refl }
