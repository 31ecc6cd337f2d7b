-- Ids taken out of rising lists.
use Rattle.std.proofs.Common.{◌≡◌, ◌≢◌, ℕ, ◌+◌, ◌<◌, ◌≤◌, Bool, true, false, cond, List, [], ◌∷◌, length, get_or, set, take, zero, suc, refl, sym, ◌∙◌, ap, arith, leb, inl, inr}
use Rattle.std.specs.Prelude.{◌==◌, ◌||◌, ◌&&◌, Ok, Err}
use Rattle.std.specs.List.{filter, remove}
use Rattle.std.specs.List.Sorted.{IsBinarySearchResult}
use Rattle.std.specs.Ordering.{nat_cmp}
use Rattle.std.proofs.lemmas.List.Sorted.{searched}
use Rattle.std.proofs.lemmas.Bool.{ne_eqb, eq-eqb, and_parts, leb-true, cases_lt}
use Rattle.std.proofs.lemmas.Grind.{common_steps}
use Rattle.std.proofs.lemmas.List.Folds.{list_any_more}
use Rattle.mp_logic.specs.Literal.{Literal}
use Rattle.mp_clauses.specs.Tables.{Row}
use Rattle.mp_clauses.specs.Places.{place_of, has}
use Rattle.mp_clauses.specs.Occurrences.{slot_has}
use Rattle.mp_clauses.specs.Tables.{Room, ids_from, at, room_at, row_at, clause_at, live_in, killed, dead, touched, slots_of, rising_from, without_id}
use Rattle.mp_clauses.proofs.Found.{ids_where-rising, rising-more}
use Rattle.mp_clauses.proofs.Steps.{get_or-any, ids_where-rows, ids_from-kill, ids_from-thinned, ids_from-untouched, killed-thinned, touched-thinned}

pub ids_from-rising : (p i : ℕ) (rows : List Row) → rising_from i (ids_from p i rows) ≡ true
ids_from-rising p i rows = ap (rising_from i) (ids_where-rows p i rows) ∙ ids_where-rising (slot_has p) i (slots_of rows)

rising-above : (i k : ℕ) (xs : List ℕ) → rising_from i xs ≡ true → k < length xs → i ≤ get_or xs k 0
rising-above i k [] r h = absurd (omega arith)
rising-above i zero (x ∷ xs) r h = leb-true i x (and_parts (leb i x) (rising_from (x + 1) xs) r).0
rising-above i (suc k) (x ∷ xs) r h =
    let parts = and_parts (leb i x) (rising_from (x + 1) xs) r in
    let first = leb-true i x parts.0 in
    let rest = rising-above (x + 1) k xs parts.1 (omega arith) in
    omega arith

pub rising-order : (i : ℕ) (xs : List ℕ) → rising_from i xs ≡ true → (a b : ℕ) → a ≤ b → b < length xs → get_or xs a 0 ≤ get_or xs b 0
rising-order i [] r a b h l = absurd (omega arith)
rising-order i (x ∷ xs) r zero zero h l = omega arith
rising-order i (x ∷ xs) r zero (suc b) h l = let rest = rising-above (x + 1) b xs (and_parts (leb i x) (rising_from (x + 1) xs) r).1 (omega arith) in omega arith
rising-order i (x ∷ xs) r (suc a) zero h l = absurd (omega arith)
rising-order i (x ∷ xs) r (suc a) (suc b) h l = rising-order (x + 1) xs (and_parts (leb i x) (rising_from (x + 1) xs) r).1 a b (omega arith) (omega arith)

pub absent-id : (id : ℕ) (xs : List ℕ) → ((k : ℕ) → k < length xs → get_or xs k 0 ≢ id) → without_id id xs ≡ xs
absent-id id [] h = refl
absent-id id (x ∷ xs) h =
    let own : (x == id) ≡ false = ne_eqb x id (h 0 (omega arith)) in
    let rest : without_id id xs ≡ xs = absent-id id xs (λ k l. h (suc k) (omega arith)) in
    rw (own, rest) refl

above-id : (i id : ℕ) (xs : List ℕ) → rising_from i xs ≡ true → id < i → without_id id xs ≡ xs
above-id i id xs r h = absent-id id xs (λ k l e. let a = rising-above i k xs r l in omega arith)

-- the id at a place of a rising list
pub removed-id : (i k id : ℕ) (xs : List ℕ) → rising_from i xs ≡ true → k < length xs → get_or xs k 0 ≡ id → remove xs k ≡ without_id id xs
removed-id i k id [] r h e = absurd (omega arith)
removed-id i zero id (x ∷ xs) r h e =
    let own : (x == id) ≡ true = eq-eqb x id e in
    let rest : without_id id xs ≡ xs = above-id (x + 1) id xs (and_parts (leb i x) (rising_from (x + 1) xs) r).1 (omega arith) in
    rw (own, rest) refl
removed-id i (suc k) id (x ∷ xs) r h e =
    let parts = and_parts (leb i x) (rising_from (x + 1) xs) r in
    let above = rising-above (x + 1) k xs parts.1 (omega arith) in
    let own : (x == id) ≡ false = ne_eqb x id (λ f. omega arith) in
    let rest : remove xs k ≡ without_id id xs = removed-id (x + 1) k id xs parts.1 (omega arith) e in
    rw own (ap (λ z. x ∷ z) rest)

-- what a search by halves found in a rising list, or did not find
pub found-id : (id k : ℕ) (xs : List ℕ) → rising_from 0 xs ≡ true → IsBinarySearchResult (λ y. nat_cmp y id) xs (Ok k) → remove xs k ≡ without_id id xs
found-id id k xs r s = let there = searched xs id (Ok k) s (rising-order 0 xs r) in removed-id 0 k id xs r there.0 there.1

pub missed-id : (id k : ℕ) (xs : List ℕ) → rising_from 0 xs ≡ true → IsBinarySearchResult (λ y. nat_cmp y id) xs (Err k) → xs ≡ without_id id xs
missed-id id k xs r s =
    let there = searched xs id (Err k) s (rising-order 0 xs r) in
    sym (absent-id id xs (λ j l e. elim (cases_lt j k) [ inl a ↦ let low = there.1 j a in omega arith | inr b ↦ let high = there.2 j b l in omega arith ]))

-- what is taken out twice
without-twice : (id : ℕ) (xs : List ℕ) → without_id id (without_id id xs) ≡ without_id id xs
without-twice id [] = refl
without-twice id (x ∷ xs) =
    let rest = without-twice id xs in
    let step : (b : Bool) → (x == id) ≡ b → without_id id (without_id id (x ∷ xs)) ≡ without_id id (x ∷ xs) = λ (t : Bool). elim t as (λ b. (x == id) ≡ b → without_id id (without_id id (x ∷ xs)) ≡ without_id id (x ∷ xs)) [ true ↦ λ e. rw (e, rest) refl | false ↦ λ e. rw (e, e, rest) refl ] in
    step (x == id) refl

without-rising : (i id : ℕ) (xs : List ℕ) → rising_from i xs ≡ true → rising_from i (without_id id xs) ≡ true
without-rising i id [] r = refl
without-rising i id (x ∷ xs) r =
    let parts = and_parts (leb i x) (rising_from (x + 1) xs) r in
    let rest : rising_from (x + 1) (without_id id xs) ≡ true = without-rising (x + 1) id xs parts.1 in
    let above = leb-true i x parts.0 in
    let step : (b : Bool) → (x == id) ≡ b → rising_from i (without_id id (x ∷ xs)) ≡ true = λ (t : Bool). elim t as (λ b. (x == id) ≡ b → rising_from i (without_id id (x ∷ xs)) ≡ true) [ true ↦ λ e. rw e (rising-more (x + 1) i (without_id id xs) (omega arith) rest) | false ↦ λ e. rw (e, parts.0, rest) refl ] in
    step (x == id) refl

-- a list from which an id may have been taken
pub unlinked-rising : (b : Bool) (id : ℕ) (old new : List ℕ) → rising_from 0 old ≡ true → new ≡ cond b (without_id id old) old → rising_from 0 new ≡ true
unlinked-rising true id old new r e = rw e (without-rising 0 id old r)
unlinked-rising false id old new r e = rw e r

-- such a list, read at its place
pub read-at : (lists : List Room) (q : ℕ) (a : Room) (old : List ℕ) (b : Bool) (id : ℕ) → q < length lists → a ≡ get_or lists q a → rising_from 0 old ≡ true → at lists q ≡ cond b (without_id id old) old → rising_from 0 a.items ≡ true
read-at lists q a old b id h e r n =
    let same : a ≡ room_at lists q = e ∙ get_or-any lists q a (record { items = []; spare = 0 }) h in
    unlinked-rising b id old a.items r (ap (λ z. z.items) same ∙ n)

-- the lists of one more literal
pub unlink-more : (c : List Literal) (k : ℕ) (d : Literal) (id q : ℕ) (old new : List Room) (a b : Room) → k < length c → q < length new → q ≡ place_of (get_or c k d) → a ≡ get_or new q a → b.items ≡ without_id id a.items
    → ((p : ℕ) → at new p ≡ cond (has p (take k c)) (without_id id (at old p)) (at old p))
    → (p : ℕ) → at (set new q b) p ≡ cond (has p (take (k + 1) c)) (without_id id (at old p)) (at old p)
unlink-more c k d id q old new a b h w e r s u p =
    let m : has p (take (k + 1) c) ≡ (has p (take k c) || (place_of (get_or c k d) == p)) = list_any_more (λ l. place_of l == p) c k d h in
    let twice = without-twice id (at old p) in
    let same : a ≡ room_at new q = r ∙ get_or-any new q a (record { items = []; spare = 0 }) w in
    grind (arith, common_steps, u p)

-- a killed clause is taken out of the lists
ids_from-without : (p i k : ℕ) (rows : List Row) → k < length rows → ids_from p i (set rows k (dead (row_at rows k))) ≡ without_id (i + k) (ids_from p i rows)
ids_from-without p i k [] h = absurd (omega arith)
ids_from-without p i zero (x ∷ xs) h =
    let rest : without_id (i + 0) (ids_from p (i + 1) xs) ≡ ids_from p (i + 1) xs = above-id (i + 1) (i + 0) (ids_from p (i + 1) xs) (ids_from-rising p (i + 1) xs) (omega arith) in
    let own : (i == (i + 0)) ≡ true = eq-eqb i (i + 0) (omega arith) in
    let step : (b : Bool) → ids_from p (i + 1) xs ≡ without_id (i + 0) (cond b (i ∷ ids_from p (i + 1) xs) (ids_from p (i + 1) xs)) = λ (t : Bool). elim t as (λ b. ids_from p (i + 1) xs ≡ without_id (i + 0) (cond b (i ∷ ids_from p (i + 1) xs) (ids_from p (i + 1) xs))) [ true ↦ rw (own, rest) refl | false ↦ sym rest ] in
    step (x.live && has p x.clause)
ids_from-without p i (suc k) (x ∷ xs) h =
    let n : i + suc k ≡ i + 1 + k = omega arith in
    let rest : ids_from p (i + 1) (set xs k (dead (row_at xs k))) ≡ without_id (i + suc k) (ids_from p (i + 1) xs) = rw n (ids_from-without p (i + 1) k xs (omega arith)) in
    let own : (i == (i + suc k)) ≡ false = ne_eqb i (i + suc k) (λ e. omega arith) in
    let step : (b : Bool) → cond b (i ∷ ids_from p (i + 1) (set xs k (dead (row_at xs k)))) (ids_from p (i + 1) (set xs k (dead (row_at xs k)))) ≡ without_id (i + suc k) (cond b (i ∷ ids_from p (i + 1) xs) (ids_from p (i + 1) xs)) = λ (t : Bool). elim t as (λ b. cond b (i ∷ ids_from p (i + 1) (set xs k (dead (row_at xs k)))) (ids_from p (i + 1) (set xs k (dead (row_at xs k)))) ≡ without_id (i + suc k) (cond b (i ∷ ids_from p (i + 1) xs) (ids_from p (i + 1) xs))) [ true ↦ rw own (ap (λ z. i ∷ z) rest) | false ↦ rest ] in
    step (x.live && has p x.clause)

pub one-gone : (gone : List ℕ) → length gone ≡ 1 → gone ≡ get_or gone 0 0 ∷ []
one-gone [] h = absurd (omega arith)
one-gone (x ∷ []) h = refl
one-gone (x ∷ (y ∷ xs)) h = absurd (omega arith)

-- the lists once one clause is dead
pub unlinked-one : (p id : ℕ) (gone : List ℕ) (c : List Literal) (before rows : List Row) (old new : List ℕ) → gone ≡ id ∷ [] → rows ≡ killed gone before → id < length rows → c ≡ clause_at rows id → old ≡ ids_from p 0 before → new ≡ cond (has p c) (without_id id old) old → new ≡ ids_from p 0 rows
unlinked-one p id gone c before rows old new g k w e o n =
    let own : rows ≡ set before id (dead (row_at before id)) = k ∙ ap (λ z. killed z before) g in
    let thin = killed-thinned (id ∷ []) before in
    let len = thin.len in
    let same : c ≡ clause_at before id = e ∙ (ap (λ z. clause_at z id) own ∙ thin.same id) in
    let below : id < length before = let f = ap length own in omega arith in
    let zero_more : 0 + id ≡ id = omega arith in
    let taken : ids_from p 0 (set before id (dead (row_at before id))) ≡ without_id id (ids_from p 0 before) = rw zero_more at (ids_from-without p 0 id before below) in
    let step : (b : Bool) → has p c ≡ b → cond b (without_id id old) old ≡ ids_from p 0 rows = λ (t : Bool). elim t as (λ b. has p c ≡ b → cond b (without_id id old) old ≡ ids_from p 0 rows) [
      | true ↦ λ f. ap (without_id id) o ∙ (sym taken ∙ ap (ids_from p 0) (sym own))
      | false ↦ λ f. o ∙ (sym (ids_from-kill p 0 id before (ap (has p) (sym same) ∙ f)) ∙ ap (ids_from p 0) (sym own))
    ] in
    n ∙ step (has p c) refl

-- the lists once many clauses are dead, each filtered where some clause that died has its literal
pub unlinked-many : (p : ℕ) (gone : List ℕ) (before rows : List Row) (marked_now : Bool) (old new : List ℕ) → rows ≡ killed gone before → old ≡ ids_from p 0 before → marked_now ≡ touched p gone rows → new ≡ cond (marked_now && touched p gone rows) (filter (live_in rows) old) old → new ≡ ids_from p 0 rows
unlinked-many p gone before rows m old new k o e n =
    let thin : ids_from p 0 (killed gone before) ≡ filter (live_in (killed gone before)) (ids_from p 0 before) = ids_from-thinned p 0 before (killed gone before) (live_in (killed gone before)) (killed-thinned gone before) (λ j l. let z : 0 + j ≡ j = omega arith in ap (live_in (killed gone before)) z) in
    let same : touched p gone rows ≡ touched p gone before = rw k (touched-thinned p gone before (killed gone before) (killed-thinned gone before)) in
    let still : touched p gone before ≡ false → ids_from p 0 (killed gone before) ≡ ids_from p 0 before = ids_from-untouched p gone before in
    let step : (b : Bool) → touched p gone before ≡ b → cond (b && b) (filter (live_in rows) old) old ≡ ids_from p 0 rows = λ (t : Bool). elim t as (λ b. touched p gone before ≡ b → cond (b && b) (filter (live_in rows) old) old ≡ ids_from p 0 rows) [
      | true ↦ λ f. rw (k, o) (sym thin)
      | false ↦ λ f. rw (k, o) (sym (still f))
    ] in
    n ∙ (rw (e, same) (step (touched p gone before) refl))
