-- Steps on the rows and the lists of ids.
use Rattle.std.proofs.Common.{◌≡◌, ℕ, ◌+◌, ◌<◌, ◌≤◌, Bool, true, false, cond, List, [], ◌∷◌, ◌++◌, length, get_or, set, take, drop, add-one, drop-cons, zero, suc, refl, sym, ◌∙◌, ap, arith, replicate}
use Rattle.std.specs.Prelude.{Option, Some, None, All, ◌==◌, ◌||◌, ◌&&◌, map}
use Rattle.std.specs.List.{filter}
use Rattle.std.proofs.lemmas.Grind.{common_steps}
use Rattle.std.proofs.Math.ListN.{length-set}
use Rattle.std.proofs.lemmas.Bool.{false≢true}
use Rattle.std.proofs.lemmas.List.{length-map, length-append}
use Rattle.std.proofs.lemmas.List.Folds.{list_any_more}
use Rattle.std.proofs.lemmas.List.Sums.{sum_by-cons, sum_by-append}
use Rattle.mp_logic.specs.Literal.{Literal}
use Rattle.mp_clauses.specs.declared.sizes.Size.{Size}
use Rattle.mp_clauses.specs.Places.{place_of, has}
use Rattle.mp_clauses.specs.Slots.{live_clauses}
use Rattle.mp_clauses.specs.Signatures.{signature_of}
use Rattle.mp_clauses.specs.Occurrences.{ids_where, slot_has}
use Rattle.mp_clauses.specs.Slots.{cleared}
use Rattle.mp_clauses.specs.Tables.{Row, settled, Room, apart, ids_from, at, spare_at, room_at, row_at, clause_at, live_in, killed, dead, touched, alive, slot_of, slots_of, blank, marked, AreWithin, AreSigned, IsClauseTable, IsSize, literals_of, spares_of}

pub get_or-any : {A : Type 0} (xs : List A) (k : ℕ) (d e : A) → k < length xs → get_or xs k d ≡ get_or xs k e
get_or-any [] k d e h = absurd (omega arith)
get_or-any (x ∷ xs) zero d e h = refl
get_or-any (x ∷ xs) (suc k) d e h = get_or-any xs k d e (omega arith)

-- what is said of the clauses of all ids, at a clause that was read
pub clause_within : (rows : List Row) (n k : ℕ) (r : Row) (c : List Literal) → ((k : ℕ) → All (λ l. place_of l < n) (clause_at rows k)) → k < length rows → c ≡ (get_or rows k r).clause → All (λ l. place_of l < n) c
clause_within rows n k r c w h f =
    let there : clause_at rows k ≡ c = ap (λ v. v.clause) (get_or-any rows k blank r h) ∙ sym f in
    rw (← there) (w k)

pub has_not_at : (p : ℕ) (c : List Literal) (k : ℕ) (d : Literal) → has p c ≡ false → k < length c → (place_of (get_or c k d) == p) ≡ false
has_not_at p [] k d h l = absurd (omega arith)
has_not_at p (x ∷ xs) zero d h l = grind (arith, common_steps)
has_not_at p (x ∷ xs) (suc k) d h l = let rest : has p xs ≡ false = grind (arith, common_steps) in has_not_at p xs k d rest (omega arith)

pub apart-fresh : (c : List Literal) (k : ℕ) (d : Literal) → apart c ≡ true → k < length c → has (place_of (get_or c k d)) (take k c) ≡ false
apart-fresh [] k d a h = absurd (omega arith)
apart-fresh (x ∷ xs) zero d a h = refl
apart-fresh (x ∷ xs) (suc k) d a h = let parts : (has (place_of x) xs ≡ false) × (apart xs ≡ true) = grind (arith, common_steps) in let fresh : has (place_of (get_or xs k d)) (take k xs) ≡ false = apart-fresh xs k d parts.1 (omega arith) in let other : (place_of (get_or xs k d) == place_of x) ≡ false = has_not_at (place_of x) xs k d parts.0 (omega arith) in grind (arith, common_steps)

pub has_at : (c : List Literal) (k : ℕ) (d : Literal) → k < length c → has (place_of (get_or c k d)) c ≡ true
has_at [] k d h = absurd (omega arith)
has_at (x ∷ xs) zero d h = grind (arith, common_steps)
has_at (x ∷ xs) (suc k) d h = let rest : has (place_of (get_or xs k d)) xs ≡ true = has_at xs k d (omega arith) in grind (arith, common_steps)

abbrev pub LinkedSoFar : List Literal → ℕ → List Room → List Room → Type 0
LinkedSoFar c id old new = (p : ℕ) → (at new p ≡ at old p ++ cond (has p c) (id ∷ []) []) × (spare_at new p + cond (has p c) 1 0 ≡ spare_at old p)

pub link-room : (c : List Literal) (k : ℕ) (d : Literal) (id : ℕ) (old new : List Room) (q : ℕ) (a : Room) → k < length c → apart c ≡ true → q < length new → q ≡ place_of (get_or c k d) → a ≡ get_or new q a → ((p : ℕ) → has p c ≡ true → 0 < spare_at old p) → LinkedSoFar (take k c) id old new → 0 < a.spare
link-room c k d id old new q a h z w e r g u =
    let fresh : has (place_of (get_or c k d)) (take k c) ≡ false = apart-fresh c k d z h in
    let free : 0 < spare_at old (place_of (get_or c k d)) = g (place_of (get_or c k d)) (has_at c k d h) in
    let now = (u (place_of (get_or c k d))).1 in
    let left : 0 < spare_at new (place_of (get_or c k d)) = grind (arith, common_steps, now) in
    let same : a ≡ room_at new q = r ∙ get_or-any new q a (record { items = []; spare = 0 }) w in
    rw same (rw e left)

pub link-more : (c : List Literal) (k : ℕ) (d : Literal) (id : ℕ) (old new : List Room) (q : ℕ) (a b : Room) → k < length c → apart c ≡ true → q < length new → q ≡ place_of (get_or c k d) → a ≡ get_or new q a → b.items ≡ a.items ++ id ∷ [] → b.spare + 1 ≡ a.spare → LinkedSoFar (take k c) id old new → LinkedSoFar (take (k + 1) c) id old (set new q b)
link-more c k d id old new q a b h z w e r g s u p =
    let m : has p (take (k + 1) c) ≡ (has p (take k c) || (place_of (get_or c k d) == p)) = list_any_more (λ l. place_of l == p) c k d h in
    let f : has (place_of (get_or c k d)) (take k c) ≡ false = apart-fresh c k d z h in
    grind (arith, common_steps, u p)

pub ids_from-append : (p i : ℕ) (xs ys : List Row) → ids_from p i (xs ++ ys) ≡ ids_from p i xs ++ ids_from p (i + length xs) ys
ids_from-append p i [] ys = grind arith
ids_from-append p i (x ∷ xs) ys = let rest : ids_from p (i + 1) (xs ++ ys) ≡ ids_from p (i + 1) xs ++ ids_from p (i + 1 + length xs) ys = ids_from-append p (i + 1) xs ys in grind arith

-- clauses that are the same, and live only where they were
pub record Thinned (old new : List Row) : Type 0 where
  pub len : length new ≡ length old
  pub same : (k : ℕ) → clause_at new k ≡ clause_at old k
  pub signed : (k : ℕ) → (row_at new k).signature ≡ (row_at old k).signature
  pub less : (k : ℕ) → live_in new k ≡ true → live_in old k ≡ true

thinned-rest : (x y : Row) (xs ys : List Row) → Thinned (x ∷ xs) (y ∷ ys) → Thinned xs ys
thinned-rest x y xs ys t = record { len = let e = t.len in omega arith; same = λ k. t.same (suc k); signed = λ k. t.signed (suc k); less = λ k. t.less (suc k) }

-- what is left of a list is what is live in it
pub ids_from-thinned : (p i : ℕ) (old new : List Row) (q : ℕ → Bool) → Thinned old new → ((k : ℕ) → k < length new → q (i + k) ≡ live_in new k) → ids_from p i new ≡ filter q (ids_from p i old)
ids_from-thinned p i [] [] q t h = refl
ids_from-thinned p i [] (y ∷ ys) q t h = let e = t.len in absurd (omega arith)
ids_from-thinned p i (x ∷ xs) [] q t h = let e = t.len in absurd (omega arith)
ids_from-thinned p i (x ∷ xs) (y ∷ ys) q t h =
    let rest : ids_from p (i + 1) ys ≡ filter q (ids_from p (i + 1) xs) = ids_from-thinned p (i + 1) xs ys q (thinned-rest x y xs ys t) (λ k l. let n : i + suc k ≡ i + 1 + k = omega arith in rw (← n) (h (suc k) (omega arith))) in
    let same : y.clause ≡ x.clause = t.same 0 in
    let less : y.live ≡ true → x.live ≡ true = t.less 0 in
    let here : q (i + 0) ≡ y.live = h 0 (omega arith) in
    let now : q i ≡ y.live = let z : i + 0 ≡ i = omega arith in rw z at here in
    grind (arith, common_steps)

kill-same : (rows : List Row) (k j : ℕ) → clause_at (set rows k (dead (row_at rows k))) j ≡ clause_at rows j
kill-same [] k j = refl
kill-same (x ∷ xs) zero zero = refl
kill-same (x ∷ xs) zero (suc j) = refl
kill-same (x ∷ xs) (suc k) zero = refl
kill-same (x ∷ xs) (suc k) (suc j) = kill-same xs k j

kill-signed : (rows : List Row) (k j : ℕ) → (row_at (set rows k (dead (row_at rows k))) j).signature ≡ (row_at rows j).signature
kill-signed [] k j = refl
kill-signed (x ∷ xs) zero zero = refl
kill-signed (x ∷ xs) zero (suc j) = refl
kill-signed (x ∷ xs) (suc k) zero = refl
kill-signed (x ∷ xs) (suc k) (suc j) = kill-signed xs k j

kill-less : (rows : List Row) (k j : ℕ) → live_in (set rows k (dead (row_at rows k))) j ≡ true → live_in rows j ≡ true
kill-less [] k j h = h
kill-less (x ∷ xs) zero zero h = absurd (cc)
kill-less (x ∷ xs) zero (suc j) h = h
kill-less (x ∷ xs) (suc k) zero h = h
kill-less (x ∷ xs) (suc k) (suc j) h = kill-less xs k j h

pub kill-thinned : (rows : List Row) (k : ℕ) → Thinned rows (set rows k (dead (row_at rows k)))
kill-thinned rows k = record { len = simp length-set; same = kill-same rows k; signed = kill-signed rows k; less = kill-less rows k }

pub thinned-twice : (a b c : List Row) → Thinned a b → Thinned b c → Thinned a c
thinned-twice a b c s t = record { len = t.len ∙ s.len; same = λ k. t.same k ∙ s.same k; signed = λ k. t.signed k ∙ s.signed k; less = λ k e. s.less k (t.less k e) }

pub killed-thinned : (gone : List ℕ) (rows : List Row) → Thinned rows (killed gone rows)
killed-thinned [] rows = record { len = refl; same = λ k. refl; signed = λ k. refl; less = λ k e. e }
killed-thinned (g ∷ gs) rows = thinned-twice _ _ _ (kill-thinned rows g) (killed-thinned gs (set rows g (dead (row_at rows g))))

-- a list that no killed clause stands in stays
pub ids_from-kill : (p i k : ℕ) (rows : List Row) → has p (clause_at rows k) ≡ false → ids_from p i (set rows k (dead (row_at rows k))) ≡ ids_from p i rows
ids_from-kill p i k [] h = refl
ids_from-kill p i zero (x ∷ xs) h = grind (arith, common_steps)
ids_from-kill p i (suc k) (x ∷ xs) h = let rest : ids_from p (i + 1) (set xs k (dead (row_at xs k))) ≡ ids_from p (i + 1) xs = ids_from-kill p (i + 1) k xs h in grind arith

pub touched-thinned : (p : ℕ) (gone : List ℕ) (old new : List Row) → Thinned old new → touched p gone new ≡ touched p gone old
touched-thinned p [] old new t = refl
touched-thinned p (g ∷ gs) old new t = let rest : touched p gs new ≡ touched p gs old = touched-thinned p gs old new t in let same : clause_at new g ≡ clause_at old g = t.same g in grind (arith, common_steps)

pub ids_from-untouched : (p : ℕ) (gone : List ℕ) (rows : List Row) → touched p gone rows ≡ false → ids_from p 0 (killed gone rows) ≡ ids_from p 0 rows
ids_from-untouched p [] rows h = refl
ids_from-untouched p (g ∷ gs) rows h =
    let first : has p (clause_at rows g) ≡ false = grind (arith, common_steps) in
    let others : touched p gs rows ≡ false = grind (arith, common_steps) in
    let still : touched p gs (set rows g (dead (row_at rows g))) ≡ touched p gs rows = touched-thinned p gs rows _ (kill-thinned rows g) in
    ids_from-untouched p gs (set rows g (dead (row_at rows g))) (still ∙ others) ∙ ids_from-kill p 0 g rows first

-- the slots of what was killed and put in
pub slots-kill : (rows : List Row) (k : ℕ) → map slot_of (set rows k (dead (row_at rows k))) ≡ set (map slot_of rows) k None
slots-kill [] k = refl
slots-kill (x ∷ xs) zero = refl
slots-kill (x ∷ xs) (suc k) = ap (λ s. slot_of x ∷ s) (slots-kill xs k)

pub slots-killed : (gone : List ℕ) (rows : List Row) → map slot_of (killed gone rows) ≡ cleared gone (map slot_of rows)
slots-killed [] rows = refl
slots-killed (g ∷ gs) rows = slots-killed gs (set rows g (dead (row_at rows g))) ∙ ap (cleared gs) (slots-kill rows g)

pub slots-alive : (cs : List (List Literal)) → map slot_of (map alive cs) ≡ map Some cs
slots-alive [] = refl
slots-alive (c ∷ cs) = ap (λ s. Some c ∷ s) (slots-alive cs)

pub slots-append : (xs ys : List Row) → map slot_of (xs ++ ys) ≡ map slot_of xs ++ map slot_of ys
slots-append [] ys = refl
slots-append (x ∷ xs) ys = ap (λ s. slot_of x ∷ s) (slots-append xs ys)

pub slots-after : (gone : List ℕ) (cs : List (List Literal)) (rows : List Row) → map slot_of (killed gone rows ++ map alive cs) ≡ cleared gone (map slot_of rows) ++ map Some cs
slots-after gone cs rows = slots-append (killed gone rows) (map alive cs) ∙ (ap (λ s. s ++ map slot_of (map alive cs)) (slots-killed gone rows) ∙ ap (λ s. cleared gone (map slot_of rows) ++ s) (slots-alive cs))

pub alive-within : (n : ℕ) (cs : List (List Literal)) (rows : List Row) → ((k : ℕ) → All (λ l. place_of l < n) (clause_at rows k)) → All (λ c. All (λ l. place_of l < n) c) cs → (k : ℕ) → All (λ l. place_of l < n) (clause_at (rows ++ map alive cs) k)
alive-within n [] [] w a k = λ j d h. absurd (omega arith)
alive-within n (c ∷ cs) [] w a zero = a 0 [] (omega arith)
alive-within n (c ∷ cs) [] w a (suc k) = alive-within n cs [] w (λ j d h. a (suc j) d (omega arith)) k
alive-within n cs (x ∷ xs) w a zero = w 0
alive-within n cs (x ∷ xs) w a (suc k) = alive-within n cs xs (λ j. w (suc j)) a k

pub killed-length : (gone : List ℕ) (rows : List Row) → length (killed gone rows) ≡ length rows
killed-length gone rows = (killed-thinned gone rows).len

pub known-after : (gone g : List ℕ) (rows new : List Row) → All (λ id. id < length rows) gone → g ≡ gone → new ≡ killed gone rows → All (λ id. id < length new) g
known-after gone g rows new a e f = rw (f, e, killed-length gone rows) a

pub within-after : (n : ℕ) (gone : List ℕ) (rows new : List Row) → ((k : ℕ) → All (λ l. place_of l < n) (clause_at rows k)) → new ≡ killed gone rows → (k : ℕ) → All (λ l. place_of l < n) (clause_at new k)
within-after n gone rows new w f k = rw (f, (killed-thinned gone rows).same k) (w k)

pub within-more : (n m : ℕ) (cs : List (List Literal)) → n ≤ m → All (AreWithin n) cs → All (AreWithin m) cs
within-more n m cs h a = λ k d l j e i. let x = a k d l j e i in omega arith

pub ids_where-rows : (p i : ℕ) (rows : List Row) → ids_from p i rows ≡ ids_where (slot_has p) i (slots_of rows)
ids_where-rows p i [] = refl
ids_where-rows p i (x ∷ xs) = let rest : ids_from p (i + 1) xs ≡ ids_where (slot_has p) (i + 1) (slots_of xs) = ids_where-rows p (i + 1) xs in
    let step : (b : Bool) → cond (b && has p x.clause) (i ∷ ids_from p (i + 1) xs) (ids_from p (i + 1) xs) ≡ ids_where (slot_has p) i (cond b (Some x.clause) None ∷ slots_of xs) = λ (t : Bool). elim t as (λ b. cond (b && has p x.clause) (i ∷ ids_from p (i + 1) xs) (ids_from p (i + 1) xs) ≡ ids_where (slot_has p) i (cond b (Some x.clause) None ∷ slots_of xs)) [ true ↦ grind (arith, common_steps) | false ↦ rest ] in step x.live

pub room-read : (lists : List Room) (q p : ℕ) (a : Room) → a ≡ get_or lists q a → q ≡ p → q < length lists → a.items ≡ at lists p
room-read lists q p a e f h = let same : a ≡ room_at lists q = e ∙ get_or-any lists q a (record { items = []; spare = 0 }) h in rw (← f) (ap (λ (r : Room). r.items) same)

-- the places that are kept free, as the catalog shows them
pub spare-read : (lists : List Room) (p : ℕ) → get_or (spares_of lists) p 0 ≡ spare_at lists p
spare-read [] p = refl
spare-read (x ∷ xs) zero = refl
spare-read (x ∷ xs) (suc p) = spare-read xs p

-- the live clauses of slots put together
pub live_clauses-append : (xs ys : List (Option (List Literal))) → live_clauses (xs ++ ys) ≡ live_clauses xs ++ live_clauses ys
live_clauses-append [] ys = refl
live_clauses-append (None ∷ xs) ys = live_clauses-append xs ys
live_clauses-append (Some c ∷ xs) ys = ap (λ s. c ∷ s) (live_clauses-append xs ys)

pub live_clauses-some : (cs : List (List Literal)) → live_clauses (map Some cs) ≡ cs
live_clauses-some [] = refl
live_clauses-some (c ∷ cs) = ap (λ s. c ∷ s) (live_clauses-some cs)

-- what is counted less once a row is dead
pub record Uncounted (rows : List Row) (k : ℕ) : Type 0 where
  pub clauses : length (live_clauses (slots_of (set rows k (dead (row_at rows k))))) + cond (live_in rows k) 1 0 ≡ length (live_clauses (slots_of rows))
  pub literals : literals_of (live_clauses (slots_of (set rows k (dead (row_at rows k))))) + cond (live_in rows k) (length (clause_at rows k)) 0 ≡ literals_of (live_clauses (slots_of rows))

live_clauses-cons : (b : Bool) (c : List Literal) (s : List (Option (List Literal))) → live_clauses (cond b (Some c) None ∷ s) ≡ cond b (c ∷ live_clauses s) (live_clauses s)
live_clauses-cons true c s = refl
live_clauses-cons false c s = refl

literals_of-cons : (b : Bool) (c : List Literal) (s : List (Option (List Literal))) → (length (live_clauses (cond b (Some c) None ∷ s)) ≡ cond b 1 0 + length (live_clauses s)) × (literals_of (live_clauses (cond b (Some c) None ∷ s)) ≡ cond b (length c) 0 + literals_of (live_clauses s))
literals_of-cons true c s = (omega arith, sum_by-cons length c (live_clauses s))
literals_of-cons false c s = (omega arith, omega arith)

pub uncounted : (rows : List Row) (k : ℕ) → k < length rows → Uncounted rows k
uncounted [] k h = absurd (omega arith)
uncounted (x ∷ xs) zero h =
    let now = literals_of-cons x.live x.clause (slots_of xs) in
    record { clauses = omega (arith, now.0); literals = omega (arith, now.1) }
uncounted (x ∷ xs) (suc k) h =
    let rest = uncounted xs k (omega arith) in
    let now = literals_of-cons x.live x.clause (slots_of xs) in
    let then_ = literals_of-cons x.live x.clause (slots_of (set xs k (dead (row_at xs k)))) in
    record { clauses = omega (arith, rest.clauses, now.0, then_.0); literals = omega (arith, rest.literals, now.1, then_.1) }

pub count-room : (rows : List Row) (k : ℕ) (size : Size) → k < length rows → IsSize size (slots_of rows) → live_in rows k ≡ true → (1 ≤ size.clauses) × (length (clause_at rows k) ≤ size.literals)
count-room rows k size h z t =
    let u = uncounted rows k h in
    let one = ap {B = ℕ} (λ b. cond b 1 0) t in
    let many = ap {B = ℕ} (λ b. cond b (length (clause_at rows k)) 0) t in
    (omega (arith, one, u.clauses, z.clauses), omega (arith, many, u.literals, z.literals))

-- a clause counted no more
pub count-less : (rows : List Row) (k : ℕ) (size new : Size) → k < length rows → IsSize size (slots_of rows) → new.clauses + cond (live_in rows k) 1 0 ≡ size.clauses → new.literals + cond (live_in rows k) (length (clause_at rows k)) 0 ≡ size.literals → IsSize new (slots_of (set rows k (dead (row_at rows k))))
count-less rows k size new h z f g =
    let u = uncounted rows k h in
    record { clauses = omega (arith, u.clauses, f, z.clauses); literals = omega (arith, u.literals, g, z.literals) }

pub kill-step : (gone : List ℕ) (i : ℕ) (rows all : List Row) → i < length gone → killed (drop i gone) rows ≡ all → killed (drop (i + 1) gone) (set rows (get_or gone i 0) (dead (row_at rows (get_or gone i 0)))) ≡ all
kill-step gone i rows all h k =
    let front : drop i gone ≡ get_or gone i 0 ∷ drop (i + 1) gone = rw (add-one, drop-cons gone i 0) in
    rw front at k

-- rows without the literals of dead clauses
settled-slot : (r : Row) → slot_of (settled r) ≡ slot_of r
settled-slot r =
    let step : (b : Bool) → (c : List Literal) (n : ℕ) → slot_of (settled (record { clause = c; live = b; signature = n })) ≡ slot_of (record { clause = c; live = b; signature = n }) = λ (t : Bool). elim t as (λ b. (c : List Literal) (n : ℕ) → slot_of (settled (record { clause = c; live = b; signature = n })) ≡ slot_of (record { clause = c; live = b; signature = n })) [ true ↦ λ c n. refl | false ↦ λ c n. refl ] in
    step r.live r.clause r.signature

pub settled-slots : (rows : List Row) → slots_of (map settled rows) ≡ slots_of rows
settled-slots [] = refl
settled-slots (x ∷ xs) = rw (settled-slot x, settled-slots xs) refl

none-within : (n : ℕ) → AreWithin n []
none-within n = λ k d h. absurd (omega arith)

settled-clause : (r : Row) (n : ℕ) → AreWithin n r.clause → AreWithin n (settled r).clause
settled-clause r n w = elim r.live as (λ b. AreWithin n (cond b r blank).clause) [ true ↦ w | false ↦ none-within n ]

settled-within : (n : ℕ) (rows : List Row) → ((k : ℕ) → AreWithin n (clause_at rows k)) → (k : ℕ) → AreWithin n (clause_at (map settled rows) k)
settled-within n [] w k = w k
settled-within n (x ∷ xs) w zero = settled-clause x n (w 0)
settled-within n (x ∷ xs) w (suc k) = settled-within n xs (λ j. w (suc j)) k

-- each live row has the signature of its clause
pub signed-thinned : (rows thin : List Row) → Thinned rows thin → AreSigned rows → AreSigned thin
signed-thinned rows thin t s k l = t.signed k ∙ (s k (t.less k l) ∙ ap signature_of (sym (t.same k)))

pub signed-alive : (cs : List (List Literal)) (rows : List Row) → AreSigned rows → AreSigned (rows ++ map alive cs)
signed-alive [] [] s k l = absurd (false≢true l)
signed-alive (c ∷ cs) [] s zero l = refl
signed-alive (c ∷ cs) [] s (suc k) l = signed-alive cs [] (λ j m. absurd (false≢true m)) k l
signed-alive cs (x ∷ xs) s zero l = s 0 l
signed-alive cs (x ∷ xs) s (suc k) l = signed-alive cs xs (λ j. s (suc j)) k l

signed-row : (r : Row) → (r.live ≡ true → r.signature ≡ signature_of r.clause) → (settled r).live ≡ true → (settled r).signature ≡ signature_of (settled r).clause
signed-row r s = elim r.live as (λ b. (b ≡ true → r.signature ≡ signature_of r.clause) → (cond b r blank).live ≡ true → (cond b r blank).signature ≡ signature_of (cond b r blank).clause) [ true ↦ λ f l. f refl | false ↦ λ f l. refl ] s

signed-settled : (rows : List Row) → AreSigned rows → AreSigned (map settled rows)
signed-settled [] s k l = absurd (false≢true l)
signed-settled (x ∷ xs) s zero l = signed-row x (s 0) l
signed-settled (x ∷ xs) s (suc k) l = signed-settled xs (λ j. s (suc j)) k l

pub settled-table : (rows : List Row) (lists : List Room) (marks : List Bool) (size : Size) → IsClauseTable rows lists marks size → IsClauseTable (map settled rows) lists marks size
settled-table rows lists marks size s = record {
  matched = record {
    each = λ p. s.matched.each p ∙ (ids_where-rows p 0 rows ∙ (ap (ids_where (slot_has p) 0) (sym (settled-slots rows)) ∙ sym (ids_where-rows p 0 (map settled rows))));
    within = settled-within (length lists) rows s.matched.within;
  };
  signed = signed-settled rows s.signed;
  marks_len = s.marks_len;
  unmarked = s.unmarked;
  sized = rw (settled-slots rows) s.sized;
}

pub replaced-slots : (gone : List ℕ) (added : List (List Literal)) (rows thin new : List Row) → thin ≡ killed gone rows → new ≡ thin ++ map alive added → slots_of new ≡ cleared gone (slots_of rows) ++ map Some added
replaced-slots gone added rows thin new k nn = rw (nn, k) (slots-after gone added rows)

pub live_le : (s : List (Option (List Literal))) → length (live_clauses s) ≤ length s
live_le [] = omega arith
live_le (None ∷ s) = omega (arith, live_le s)
live_le (Some c ∷ s) = omega (arith, live_le s)

-- the tables after clauses were put in place of others
pub replaced-table : (gone : List ℕ) (added : List (List Literal)) (rows thin new : List Row) (old left lists : List Room) (marks marks1 : List Bool) (size size1 size2 : Size) →
    IsClauseTable rows old marks size → All (AreWithin (length old)) added →
    thin ≡ killed gone rows → IsSize size1 (slots_of thin) →
    length left ≡ length old → length marks1 ≡ length marks → ((p : ℕ) → marked marks1 p ≡ false) →
    ((p : ℕ) → at left p ≡ ids_from p 0 thin) →
    length lists ≡ length left → ((p : ℕ) → at lists p ≡ at left p ++ ids_from p (length rows) (map alive added)) →
    new ≡ thin ++ map alive added →
    size2.clauses ≡ size1.clauses + length added → size2.literals ≡ size1.literals + literals_of added →
    IsClauseTable new lists marks1 size2
replaced-table gone added rows thin new old left lists marks marks1 size size1 size2 s w k z ll ml mm left_ids li ids nn zc zl =
    let t = killed-thinned gone rows in
    let same_length = t.len in
    let length_thin = ap length k in
    let first : length rows ≡ 0 + length thin = omega arith in
    let slots : slots_of new ≡ slots_of thin ++ map Some added = rw nn (slots-append thin (map alive added) ∙ ap (λ x. slots_of thin ++ x) (slots-alive added)) in
    let live : live_clauses (slots_of new) ≡ live_clauses (slots_of thin) ++ added = ap live_clauses slots ∙ (live_clauses-append (slots_of thin) (map Some added) ∙ ap (λ x. live_clauses (slots_of thin) ++ x) (live_clauses-some added)) in
    record {
      matched = record {
        each = λ p.
            let new_ids : ids_from p 0 new ≡ ids_from p 0 thin ++ ids_from p (length rows) (map alive added) = ap (ids_from p 0) nn ∙ (ids_from-append p 0 thin (map alive added) ∙ ap (λ x. ids_from p 0 thin ++ ids_from p x (map alive added)) (sym first)) in
            ids p ∙ (ap (λ x. x ++ ids_from p (length rows) (map alive added)) (left_ids p) ∙ sym new_ids);
        within = rw (nn, li, ll) (alive-within (length old) added thin (λ j. rw (k, t.same j) (s.matched.within j)) w);
      };
      signed = rw (nn, k) (signed-alive added (killed gone rows) (signed-thinned rows (killed gone rows) t s.signed));
      marks_len = let e = s.marks_len in omega arith;
      unmarked = mm;
      sized = record {
        clauses = rw (live, length-append (live_clauses (slots_of thin)) added) (omega (arith, z.clauses));
        literals = rw live (omega (arith, z.literals, sum_by-append length (live_clauses (slots_of thin)) added));
      };
    }

pub widened-table : (rows : List Row) (old new : List Room) (marks marks2 : List Bool) (size : Size) →
    IsClauseTable rows old marks size → length old ≤ length new → ((p : ℕ) → at new p ≡ at old p) →
    length new ≤ length marks2 → ((p : ℕ) → marked marks2 p ≡ marked marks p) →
    IsClauseTable rows new marks2 size
widened-table rows old new marks marks2 size s h e l m = record {
  matched = record { each = λ p. e p ∙ s.matched.each p; within = λ k j d i. let x = s.matched.within k j d i in omega arith };
  signed = s.signed;
  marks_len = l;
  unmarked = λ p. m p ∙ s.unmarked p;
  sized = s.sized;
}

pub empty-table : (rows : List Row) (lists : List Room) (marks : List Bool) (size : Size) → rows ≡ [] → lists ≡ [] → marks ≡ [] → size.clauses ≡ 0 → size.literals ≡ 0 → IsClauseTable rows lists marks size
empty-table rows lists marks size e l m c z = rw (e, l, m) (record {
  matched = record { each = λ p. refl; within = λ k j d h. absurd (omega arith) };
  signed = λ k l. absurd (false≢true l);
  marks_len = omega arith;
  unmarked = λ p. refl;
  sized = record { clauses = c; literals = z };
})

dead-ids : (p i : ℕ) (rows : List Row) → ((k : ℕ) → live_in rows k ≡ false) → ids_from p i (rows ++ alive [] ∷ []) ≡ []
dead-ids p i [] h = refl
dead-ids p i (x ∷ xs) h = let first : x.live ≡ false = h 0 in let rest : ids_from p (i + 1) (xs ++ alive [] ∷ []) ≡ [] = dead-ids p (i + 1) xs (λ k. h (suc k)) in grind (arith, common_steps)

dead-slots : (rows : List Row) → ((k : ℕ) → live_in rows k ≡ false) → slots_of rows ≡ replicate (length rows) None
dead-slots [] h = refl
dead-slots (x ∷ xs) h = let first : x.live ≡ false = h 0 in let rest : slots_of xs ≡ replicate (length xs) None = dead-slots xs (λ k. h (suc k)) in grind (arith, common_steps)

pub refuted-slots : (rows thin new : List Row) → ((k : ℕ) → live_in thin k ≡ false) → length thin ≡ length rows → new ≡ thin ++ alive [] ∷ [] → slots_of new ≡ replicate (length (slots_of rows)) None ++ Some [] ∷ []
refuted-slots rows thin new d l e =
    let s : slots_of thin ≡ replicate (length thin) None = dead-slots thin d in
    let n : length (slots_of rows) ≡ length rows = simp length-map in
    rw (e, n, ← l) (slots-append thin (alive [] ∷ []) ∙ ap (λ x. x ++ Some [] ∷ []) s)

pub live_clauses-none : (n : ℕ) (s : List (Option (List Literal))) → live_clauses (replicate n None ++ s) ≡ live_clauses s
live_clauses-none zero s = refl
live_clauses-none (suc n) s = live_clauses-none n s

only-empty : (n : ℕ) → All (AreWithin n) ([] ∷ [])
only-empty n zero d h = λ j e i. absurd (omega arith)
only-empty n (suc k) d h = absurd (omega arith)

pub refuted-table : (rows thin new : List Row) (old lists : List Room) (marks : List Bool) (size size2 : Size) →
    IsClauseTable rows old marks size → length thin ≡ length rows →
    ((k : ℕ) → clause_at thin k ≡ clause_at rows k) → ((k : ℕ) → live_in thin k ≡ false) → new ≡ thin ++ alive [] ∷ [] →
    length lists ≡ length old → ((p : ℕ) → at lists p ≡ []) → size2.clauses ≡ 1 → size2.literals ≡ 0 →
    IsClauseTable new lists marks size2
refuted-table rows thin new old lists marks size size2 s ln sm d n l e zc zl =
    let live : live_clauses (slots_of new) ≡ [] ∷ [] = ap live_clauses (refuted-slots rows thin new d ln n) ∙ live_clauses-none (length (slots_of rows)) (Some [] ∷ []) in
    record {
      matched = record {
        each = λ p. e p ∙ sym (rw n (dead-ids p 0 thin d));
        within = rw (n, l) (alive-within (length old) ([] ∷ []) thin (λ k. rw (sm k) (s.matched.within k)) (only-empty (length old)));
      };
      signed = rw n (signed-alive ([] ∷ []) thin (λ k h. absurd (false≢true (sym (d k) ∙ h))));
      marks_len = let x = s.marks_len in omega arith;
      unmarked = s.unmarked;
      sized = record { clauses = rw live zc; literals = rw live zl };
    }
