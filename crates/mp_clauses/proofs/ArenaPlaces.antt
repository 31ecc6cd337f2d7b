-- Rows of an arena, by their places.
use Rattle.std.proofs.Common.{◌≡◌, ℕ, ◌+◌, ◌<◌, ◌≤◌, true, false, List, [], ◌∷◌, ◌++◌, length, get_or, set, take, drop, map, zero, suc, refl, ◌∙◌, ap, arith}
use Rattle.std.proofs.lemmas.Grind.{common_steps}
use Rattle.mp_logic.specs.Literal.{Literal}
use Rattle.mp_clauses.specs.declared.arena.Place.{Place}
use Rattle.mp_clauses.specs.Signatures.{signature_of}
use Rattle.mp_clauses.specs.Tables.{Row, row_of, row_at, dead, alive, AreInside}

pub row-killed : (lits : List Literal) (places : List Place) (k : ℕ) (p : Place) → k < length places → p ≡ get_or places k p → map (row_of lits) (set places k (record { start = p.start; signature = p.signature; len = p.len; live = false })) ≡ set (map (row_of lits) places) k (dead (row_at (map (row_of lits) places) k))
row-killed lits [] k p h e = absurd (omega arith)
row-killed lits (x ∷ xs) zero p h e = rw e refl
row-killed lits (x ∷ xs) (suc k) p h e = ap (λ z. row_of lits x ∷ z) (row-killed lits xs k p (omega arith) e)

part-longer : (n s : ℕ) (xs ys : List Literal) → s + n ≤ length xs → take n (drop s (xs ++ ys)) ≡ take n (drop s xs)
part-longer n s xs ys h = grind (arith, common_steps)

-- literals put last change no row
pub row-longer : (lits more : List Literal) (p : Place) → p.start + p.len ≤ length lits → row_of (lits ++ more) p ≡ row_of lits p
row-longer lits more p h = ap (λ (c : List Literal). record { clause = c; live = p.live; signature = p.signature }) (part-longer p.len p.start lits more h)

rows-longer : (lits more : List Literal) (places : List Place) → AreInside (length lits) places → map (row_of (lits ++ more)) places ≡ map (row_of lits) places
rows-longer lits more [] h = refl
rows-longer lits more (x ∷ xs) h = rw (row-longer lits more x (h 0 x (omega arith))) (ap (λ z. row_of lits x ∷ z) (rows-longer lits more xs (λ k d l. h (suc k) d (omega arith))))

pub last-part : (xs ys : List Literal) → take (length ys) (drop (length xs) (xs ++ ys)) ≡ ys
last-part xs ys = grind (arith, common_steps)

map-last : (lits : List Literal) (places : List Place) (p : Place) → map (row_of lits) (places ++ p ∷ []) ≡ map (row_of lits) places ++ row_of lits p ∷ []
map-last lits [] p = refl
map-last lits (x ∷ xs) p = ap (λ z. row_of lits x ∷ z) (map-last lits xs p)

pub rows-pushed : (lits clause : List Literal) (places : List Place) (s n g : ℕ) → AreInside (length lits) places → s ≡ length lits → n ≡ length clause → g ≡ signature_of clause → map (row_of (lits ++ clause)) (places ++ record { start = s; signature = g; len = n; live = true } ∷ []) ≡ map (row_of lits) places ++ alive clause ∷ []
rows-pushed lits clause places s n g h e f i =
    let p : Place = record { start = s; signature = g; len = n; live = true } in
    let own : row_of (lits ++ clause) p ≡ alive clause = rw (e, f, i) (ap (λ (c : List Literal). record { clause = c; live = true; signature = signature_of clause }) (last-part lits clause)) in
    map-last (lits ++ clause) places p ∙ rw (own, rows-longer lits clause places h) refl
