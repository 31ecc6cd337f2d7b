-- Inside the store: only contracts of private functions cite these.
use Rattle.std.specs.Prelude.{◌≡◌, ◌==◌, ℕ, ◌+◌, ◌^◌, ◌<◌, ◌≤◌, Bool, true, false, not, cond, ◌&&◌, IsTrue, List, [], ◌∷◌, length, map, Option, Some, None, All, slice_index, slice_index_or, slice_set, sum_by, take, drop}
use Rattle.std.specs.List.{list_any, filter}
use lib.Dec.{leb}
use Rattle.mp_logic.specs.Literal.{Literal}
use Rattle.mp_clauses.specs.declared.arena.Place.{Place}
use Rattle.mp_clauses.specs.declared.sizes.Size.{Size}
use Rattle.mp_clauses.specs.Places.{place_of, has, is_in, no_repeats}
use Rattle.mp_clauses.specs.Slots.{live_clauses}
use Rattle.mp_clauses.specs.Signatures.{signature_of}

-- a clause, whether it is live, and its signature
pub record Row : Type 0 where
  pub clause : List Literal
  pub live : Bool
  pub signature : ℕ

-- the clauses by id, the list of their literals, where each begins in it, and the places kept free for more of them and for
-- their literals
pub record Stock : Type 0 where
  pub rows : List Row
  pub arena : List Literal
  pub places : List ℕ
  pub free : ℕ
  pub room : ℕ

-- what lies at a place among the literals
abbrev pub row_of : List Literal → Place → Row
row_of literals p = record { clause = take p.len (drop p.start literals); live = p.live; signature = p.signature }

-- the place of a clause without literals that is not live
abbrev pub nowhere : Place
nowhere = record { start = 0; signature = 0; len = 0; live = false }

abbrev pub place_at : List Place → ℕ → Place
place_at places id = slice_index_or places id nowhere

-- the parts of these clauses follow one another, from i on, and end by n
abbrev pub AreInTurn : List Place → ℕ → ℕ → List ℕ → Type 0
AreInTurn places i n [] = i ≤ n
AreInTurn places i n (id ∷ ids) = (i ≤ (place_at places id).start) × AreInTurn places ((place_at places id).start + (place_at places id).len) n ids

-- the clauses that have a part among the literals, each once and in the order of their parts; the others are dead
pub record AreLaidOut (literals : List Literal) (places : List Place) (order : List ℕ) : Type 0 where
  pub known : All (λ id. id < length places) order
  pub once : IsTrue (no_repeats order)
  pub fits : length order ≤ length places
  pub turn : AreInTurn places 0 (length literals) order
  pub rest : (id : ℕ) → is_in id order ≡ false → place_at places id ≡ nowhere

-- the places lie among so many literals
abbrev pub AreInside : ℕ → List Place → Type 0
AreInside n places = All (λ p. p.start + p.len ≤ n) places

-- the literals of a clause that is live
abbrev pub kept_part : List Literal → Place → List Literal
kept_part literals p = cond p.live (take p.len (drop p.start literals)) []

-- the place of a clause whose part is moved to a start, unless it is dead
abbrev pub moved_to : ℕ → Place → Place
moved_to n p = cond p.live (record { start = n; signature = p.signature; len = p.len; live = true }) nowhere

-- a list of ids with places kept free
pub record Room : Type 0 where
  pub items : List ℕ
  pub spare : ℕ

-- the live clause of each id, the literals of all clauses with where each begins, the places kept free in each occurrence
-- list, and those for clauses
pub record Catalog : Type 0 where
  pub slots : List (Option (List Literal))
  pub arena : List Literal
  pub places : List ℕ
  pub free : List ℕ
  pub free_rows : ℕ
  pub free_literals : ℕ
  pub literals : ℕ

-- weights by place, and what is kept free: for more places, and for changes of costs
pub record Prices : Type 0 where
  pub weights : List ℕ
  pub free : ℕ
  pub free_costs : ℕ

-- numbers that rise strictly, from one on
abbrev pub rising_from : ℕ → List ℕ → Bool
rising_from i [] = true
rising_from i (x ∷ xs) = leb i x && rising_from (x + 1) xs

abbrev pub without_id : ℕ → List ℕ → List ℕ
without_id id ids = filter (λ x. not (x == id)) ids

-- no two literals have one place
abbrev pub apart : List Literal → Bool
apart [] = true
apart (x ∷ xs) = not (has (place_of x) xs) && apart xs

abbrev pub alive : List Literal → Row
alive c = record { clause = c; live = true; signature = signature_of c }

abbrev pub blank : Row
blank = record { clause = []; live = false; signature = 0 }

abbrev pub row_at : List Row → ℕ → Row
row_at rows k = slice_index_or rows k blank

abbrev pub clause_at : List Row → ℕ → List Literal
clause_at rows k = (row_at rows k).clause

abbrev pub live_in : List Row → ℕ → Bool
live_in rows k = (row_at rows k).live

abbrev pub slot_of : Row → Option (List Literal)
slot_of r = cond r.live (Some r.clause) None

abbrev pub slots_of : List Row → List (Option (List Literal))
slots_of rows = map slot_of rows

-- the ids, counted from i, of the live clauses with a literal of this place
abbrev pub ids_from : ℕ → ℕ → List Row → List ℕ
ids_from p i [] = []
ids_from p i (r ∷ rs) = cond (r.live && has p r.clause) (i ∷ ids_from p (i + 1) rs) (ids_from p (i + 1) rs)

abbrev pub dead : Row → Row
dead r = record { clause = r.clause; live = false; signature = r.signature }

-- a row without the literals of a dead clause
abbrev pub settled : Row → Row
settled r = cond r.live r blank

-- without the clauses of these ids
abbrev pub killed : List ℕ → List Row → List Row
killed [] rows = rows
killed (id ∷ ids) rows = killed ids (slice_set rows id (dead (row_at rows id)))

-- whether one of these clauses has a literal of this place
abbrev pub touched : ℕ → List ℕ → List Row → Bool
touched p gone rows = list_any (λ id. has p (clause_at rows id)) gone

abbrev pub marked : List Bool → ℕ → Bool
marked marks p = slice_index_or marks p false

abbrev pub room_at : List Room → ℕ → Room
room_at lists p = slice_index_or lists p (record { items = []; spare = 0 })

abbrev pub at : List Room → ℕ → List ℕ
at lists p = (room_at lists p).items

abbrev pub spare_at : List Room → ℕ → ℕ
spare_at lists p = (room_at lists p).spare

abbrev pub spares_of : List Room → List ℕ
spares_of lists = map (λ r. r.spare) lists

-- how many of the clauses have a literal of this place
abbrev pub uses : ℕ → List (List Literal) → ℕ
uses p [] = 0
uses p (c ∷ cs) = cond (has p c) 1 0 + uses p cs

abbrev pub literals_of : List (List Literal) → ℕ
literals_of cs = sum_by length cs

-- the live clauses and their literals are counted
pub record IsSize (size : Size) (slots : List (Option (List Literal))) : Type 0 where
  pub clauses : size.clauses ≡ length (live_clauses slots)
  pub literals : size.literals ≡ literals_of (live_clauses slots)

abbrev pub AreShort : List (List Literal) → Type 0
AreShort cs = All (λ c. length c < 2 ^ 32) cs

abbrev pub AreWithin : ℕ → List Literal → Type 0
AreWithin n c = All (λ l. place_of l < n) c

-- each list has exactly the ids of the live clauses with its literal, each once and rising
pub record AreMatched (rows : List Row) (lists : List Room) : Type 0 where
  pub each : (p : ℕ) → at lists p ≡ ids_from p 0 rows
  pub within : (k : ℕ) → AreWithin (length lists) (clause_at rows k)

-- each live clause has its signature
abbrev pub AreSigned : List Row → Type 0
AreSigned rows = (k : ℕ) → live_in rows k ≡ true → (row_at rows k).signature ≡ signature_of (clause_at rows k)

-- what holds of the tables between calls
pub record IsClauseTable (rows : List Row) (lists : List Room) (marks : List Bool) (size : Size) : Type 0 where
  pub matched : AreMatched rows lists
  pub signed : AreSigned rows
  pub marks_len : length lists ≤ length marks
  pub unmarked : (p : ℕ) → marked marks p ≡ false
  pub sized : IsSize size (slots_of rows)

-- there is room for these clauses
pub record HasRoom (added : List (List Literal)) (t : Catalog) : Type 0 where
  pub rows : length added ≤ t.free_rows
  pub arena : literals_of added ≤ t.free_literals
  pub short : AreShort added
  pub lists : (p : ℕ) → uses p added ≤ slice_index t.free p
  pub size : t.literals + literals_of added < 2 ^ 64
