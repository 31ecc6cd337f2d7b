-- The lines of a map's text, cut at line feeds and blanks.
use Rattle.std.proofs.Common.{◌≡◌, ◌≤◌, ◌<◌, ℕ, Bool, true, false, not, cond, ◌&&◌, IsTrue, List, [], ◌∷◌, ◌++◌, All, length, map, codes, decimal, refl, ap, ◌∙◌, arith, append_assoc, lit<}
use Rattle.std.specs.Prelude.{nat_eq, nat_lt, nat_le}
use Rattle.std.specs.Char.{is_ascii_digit}
use Rattle.std.specs.List.{onto_first, flat_map, join_with_byte, list_all}
use Rattle.std.specs.Str.{all_ascii_digits}
use Rattle.std.proofs.lemmas.Bool.{and_parts, and_from, false≢true, leb-true, eq-eqb, ne_eqb}
use Rattle.std.proofs.lemmas.List.Elements.{All-head, All-tail}
use Rattle.std.proofs.lemmas.List.Splits.{slice_split-cons_yes, slice_split-cons_no}
use Rattle.mp_logic.specs.Labelled.{IsProper, names_rise}
use Rattle.mp_logic.specs.Literal.{Literal, IsUpTo}
use Rattle.mp_logic.specs.declared.instances.Repair.{Repair}
use Rattle.mp_map.specs.Entries.{repairs_in, repairs_of}
use Rattle.mp_map.specs.declared.maps.Entry.{Entry}
use Rattle.mp_map.specs.declared.maps.MapFile.{MapFile}
use Rattle.mp_text.specs.Lines.{line_text}
use Rattle.mp_text.specs.Writing.{literal_word, clause_words}
use Rattle.mp_map.specs.Maps.{IsMap, entry_words, map_lines}
use Rattle.mp_map.specs.Pieces.{pieces_at, is_empty}
use Rattle.mp_map.specs.Reading.{words_in}
use Rattle.mp_text.specs.Numbers.{greatest}
use Rattle.mp_text.proofs.Spelled.{number_is_digits}
use Rattle.mp_map.proofs.Joins.{entries_few}
use Rattle.mp_map.proofs.Mending.{All-back, All-front, sets_within}

-- no byte is this one
abbrev pub lacks : ℕ → List ℕ → Bool
lacks s [] = true
lacks s (b ∷ bs) = not (nat_eq b s) && lacks s bs

other_byte : (b s : ℕ) → not (nat_eq b s) ≡ true → nat_eq b s ≡ false
other_byte b s h =
    let go : (t : Bool) → not t ≡ true → t ≡ false = λ (t : Bool). elim t as (λ t. not t ≡ true → t ≡ false) [ true ↦ λ e. absurd (false≢true e) | false ↦ λ e. refl ] in
    go (nat_eq b s) h

pub lacks-append : (s : ℕ) (a b : List ℕ) → lacks s a ≡ true → lacks s b ≡ true → lacks s (a ++ b) ≡ true
lacks-append s [] b h k = k
lacks-append s (x ∷ a) b h k =
    let p = and_parts (not (nat_eq x s)) (lacks s a) h in
    and_from (not (nat_eq x s)) (lacks s (a ++ b)) p.0 (lacks-append s a b p.1 k)

pub pieces_cut : (s : ℕ) (w rest : List ℕ) → lacks s w ≡ true → pieces_at s (w ++ s ∷ rest) ≡ w ∷ pieces_at s rest
pieces_cut s [] rest h = slice_split-cons_yes (λ b. nat_eq b s) s rest (eq-eqb s s refl)
pieces_cut s (b ∷ w) rest h =
    let p = and_parts (not (nat_eq b s)) (lacks s w) h in
    slice_split-cons_no (λ b. nat_eq b s) b (w ++ s ∷ rest) (other_byte b s p.0) ∙ ap (onto_first b) (pieces_cut s w rest p.1)

pub pieces_whole : (s : ℕ) (w : List ℕ) → lacks s w ≡ true → pieces_at s w ≡ w ∷ []
pieces_whole s [] h = refl
pieces_whole s (b ∷ w) h =
    let p = and_parts (not (nat_eq b s)) (lacks s w) h in
    slice_split-cons_no (λ b. nat_eq b s) b w (other_byte b s p.0) ∙ ap (onto_first b) (pieces_whole s w p.1)

onto_lacks : (s b : ℕ) (ps : List (List ℕ)) → nat_eq b s ≡ false → list_all (lacks s) ps ≡ true → list_all (lacks s) (onto_first b ps) ≡ true
onto_lacks s b [] e h = and_from (not (nat_eq b s) && true) true (and_from (not (nat_eq b s)) true (ap not e) refl) refl
onto_lacks s b (p ∷ ps) e h =
    let q = and_parts (lacks s p) (list_all (lacks s) ps) h in
    and_from (not (nat_eq b s) && lacks s p) (list_all (lacks s) ps) (and_from (not (nat_eq b s)) (lacks s p) (ap not e) q.0) q.1

-- pieces have no separator
pub pieces_lack : (s : ℕ) (bytes : List ℕ) → list_all (lacks s) (pieces_at s bytes) ≡ true
pieces_lack s [] = refl
pieces_lack s (b ∷ bs) =
    let step : (t : Bool) → nat_eq b s ≡ t → list_all (lacks s) (cond t ([] ∷ pieces_at s bs) (onto_first b (pieces_at s bs))) ≡ true =
    λ (t : Bool). elim t as (λ t. nat_eq b s ≡ t → list_all (lacks s) (cond t ([] ∷ pieces_at s bs) (onto_first b (pieces_at s bs))) ≡ true) [
      | true ↦ λ e. pieces_lack s bs
      | false ↦ λ e. onto_lacks s b (pieces_at s bs) e (pieces_lack s bs)
    ] in
    step (nat_eq b s) refl

-- a word has no blank and no line feed, and a line has a word
abbrev pub is_word : List ℕ → Bool
is_word w = lacks 32 w && lacks 10 w

abbrev pub is_line : List (List ℕ) → Bool
is_line ws = not (is_empty ws) && list_all is_word ws

words_cut : (w : List ℕ) (ws : List (List ℕ)) → list_all is_word (w ∷ ws) ≡ true → words_in (join_with_byte 32 (w ∷ ws)) ≡ w ∷ ws
words_cut w [] h = let p = and_parts (is_word w) true h in pieces_whole 32 w (and_parts (lacks 32 w) (lacks 10 w) p.0).0
words_cut w (v ∷ ws) h =
    let p = and_parts (is_word w) (list_all is_word (v ∷ ws)) h in
    pieces_cut 32 w (join_with_byte 32 (v ∷ ws)) (and_parts (lacks 32 w) (lacks 10 w) p.0).0 ∙ ap (λ (vs : List (List ℕ)). w ∷ vs) (words_cut v ws p.1)

pub words_line : (ws : List (List ℕ)) → is_line ws ≡ true → words_in (join_with_byte 32 ws) ≡ ws
words_line [] h = absurd (false≢true h)
words_line (w ∷ ws) h = words_cut w ws h

pub line_lacks : (ws : List (List ℕ)) → list_all is_word ws ≡ true → lacks 10 (join_with_byte 32 ws) ≡ true
line_lacks [] h = refl
line_lacks (w ∷ []) h = let p = and_parts (is_word w) true h in (and_parts (lacks 32 w) (lacks 10 w) p.0).1
line_lacks (w ∷ v ∷ ws) h =
    let p = and_parts (is_word w) (list_all is_word (v ∷ ws)) h in
    lacks-append 10 w (32 ∷ join_with_byte 32 (v ∷ ws)) (and_parts (lacks 32 w) (lacks 10 w) p.0).1 (line_lacks (v ∷ ws) p.1)

-- the text of lines is cut into just these lines
pub pieces_lines : (lines : List (List (List ℕ))) (rest : List ℕ) → list_all is_line lines ≡ true → map words_in (pieces_at 10 (flat_map line_text lines ++ rest)) ≡ lines ++ map words_in (pieces_at 10 rest)
pieces_lines [] rest h = refl
pieces_lines (ws ∷ lines) rest h =
    let p = and_parts (is_line ws) (list_all is_line lines) h in
    let q = and_parts (not (is_empty ws)) (list_all is_word ws) p.0 in
    let line : List ℕ = join_with_byte 32 ws in
    let tail : List ℕ = flat_map line_text lines ++ rest in
    let whole : (line_text ws ++ flat_map line_text lines) ++ rest ≡ line ++ 10 ∷ tail = append_assoc (line_text ws) (flat_map line_text lines) rest ∙ append_assoc line (10 ∷ []) tail in
    ap (λ (t : List ℕ). map words_in (pieces_at 10 t)) whole
    ∙ ap (map words_in) (pieces_cut 10 line tail (line_lacks ws q.1))
    ∙ ap (λ (vs : List (List ℕ)). vs ∷ map words_in (pieces_at 10 tail)) (words_line ws p.0)
    ∙ ap (λ (l : List (List (List ℕ))). ws ∷ l) (pieces_lines lines rest p.1)

-- what a map's lines are made of

digit_apart : (s d : ℕ) → s < 48 → is_ascii_digit d ≡ true → not (nat_eq d s) ≡ true
digit_apart s d h e =
    let q : (nat_le 48 d ≡ true) × (nat_le d 57 ≡ true) = and_parts (nat_le 48 d) (nat_le d 57) e in
    let low : 48 ≤ d = leb-true 48 d q.0 in
    ap not (ne_eqb d s (λ z. omega (arith, z, low, h)))

digits_lack : (s : ℕ) (ds : List ℕ) → s < 48 → all_ascii_digits ds ≡ true → lacks s ds ≡ true
digits_lack s [] h e = refl
digits_lack s (d ∷ ds) h e =
    let p = and_parts (is_ascii_digit d) (all_ascii_digits ds) e in
    and_from (not (nat_eq d s)) (lacks s ds) (digit_apart s d h p.0) (digits_lack s ds h p.1)

decimal_word : (n : ℕ) → n ≤ greatest → is_word (decimal n) ≡ true
decimal_word n h = and_from (lacks 32 (decimal n)) (lacks 10 (decimal n)) (digits_lack 32 (decimal n) (lit< tt) (number_is_digits n h)) (digits_lack 10 (decimal n) (lit< tt) (number_is_digits n h))

number_is_line : (word : List ℕ) (n : ℕ) → is_word word ≡ true → n ≤ greatest → is_line (word ∷ (decimal n ∷ [])) ≡ true
number_is_line word n h small = and_from (is_word word) (is_word (decimal n) && true) h (and_from (is_word (decimal n)) true (decimal_word n small) refl)

names_are_words : (least inner : ℕ) (ns : List ℕ) → inner ≤ greatest → IsTrue (names_rise least inner ns) → list_all is_word (map decimal ns) ≡ true
names_are_words least inner [] small h = refl
names_are_words least inner (n ∷ ns) small h =
    let p = and_parts (nat_lt least n && nat_le n inner) (names_rise n inner ns) h in
    let q = and_parts (nat_lt least n) (nat_le n inner) p.0 in
    let bound : n ≤ inner = leb-true n inner q.1 in
    and_from (is_word (decimal n)) (list_all is_word (map decimal ns)) (decimal_word n (omega (arith, bound, small))) (names_are_words n inner ns small p.1)

literal_is_word : (inner : ℕ) (l : Literal) → inner ≤ greatest → IsUpTo inner l → is_word (literal_word l) ≡ true
literal_is_word inner l small h =
    let fits : is_word (decimal l.variable) ≡ true = decimal_word l.variable (omega (arith, h.1, small)) in
    elim l.negative as (λ t. is_word (cond t (45 ∷ decimal l.variable) (decimal l.variable)) ≡ true) [ true ↦ fits | false ↦ fits ]

clause_are_words : (inner : ℕ) (c : List Literal) (rest : List (List ℕ)) → inner ≤ greatest → All (IsUpTo inner) c → list_all is_word rest ≡ true → list_all is_word (clause_words c ++ rest) ≡ true
clause_are_words inner [] rest small h k = k
clause_are_words inner (l ∷ c) rest small h k =
    and_from (is_word (literal_word l)) (list_all is_word (clause_words c ++ rest)) (literal_is_word inner l small (All-head (IsUpTo inner) l c h)) (clause_are_words inner c rest small (All-tail (IsUpTo inner) l c h) k)

clause_filled : (c : List Literal) (rest : List (List ℕ)) → not (is_empty (clause_words c ++ rest)) ≡ true
clause_filled [] rest = refl
clause_filled (l ∷ c) rest = refl

clauses_are_words : (inner : ℕ) (sets : List Literal) (cs : List (List Literal)) → inner ≤ greatest → All (IsProper inner) (map (λ c. let r : Repair = record { sets = sets; clause = c } in r) cs) → list_all is_word (flat_map clause_words cs) ≡ true
clauses_are_words inner sets [] small h = refl
clauses_are_words inner sets (c ∷ cs) small h =
    let r : List Literal → Repair = λ c. record { sets = sets; clause = c } in
    let own : IsProper inner (r c) = All-head (IsProper inner) (r c) (map r cs) h in
    clause_are_words inner c (flat_map clause_words cs) small own.clause_within (clauses_are_words inner sets cs small (All-tail (IsProper inner) (r c) (map r cs) h))

entry_is_line : (inner : ℕ) (e : Entry) → inner ≤ greatest → All (IsUpTo inner) e.sets → All (IsProper inner) (repairs_in e) → is_line (entry_words e) ≡ true
entry_is_line inner e small sets h =
    and_from (not (is_empty (entry_words e))) (list_all is_word (entry_words e)) (clause_filled e.sets (flat_map clause_words e.clauses))
    (clause_are_words inner e.sets (flat_map clause_words e.clauses) small sets (clauses_are_words inner e.sets e.clauses small h))

entries_are_lines : (inner : ℕ) (es : List Entry) (rest : List (List (List ℕ))) → inner ≤ greatest → All (λ e. All (IsUpTo inner) e.sets) es → All (IsProper inner) (repairs_of es) → list_all is_line rest ≡ true
    → list_all is_line (map entry_words es ++ rest) ≡ true
entries_are_lines inner [] rest small sets h k = k
entries_are_lines inner (e ∷ es) rest small sets h k =
    let P : Entry → Type 0 = λ e. All (IsUpTo inner) e.sets in
    and_from (is_line (entry_words e)) (list_all is_line (map entry_words es ++ rest))
    (entry_is_line inner e small (All-head P e es sets) (All-front (IsProper inner) (repairs_in e) (repairs_of es) h))
    (entries_are_lines inner es rest small (All-tail P e es sets) (All-back (IsProper inner) (repairs_in e) (repairs_of es) h) k)

-- the lines of a valid map are lines
pub map_good : (m : MapFile) → IsMap m → list_all is_line (map_lines m) ≡ true
map_good m v =
    let small : m.inner ≤ greatest = omega (arith, v.inner) in
    let names : is_line (codes "names" ∷ map decimal m.names) ≡ true = names_are_words 0 m.inner m.names small v.names_rising in
    let t7 : list_all is_line (map entry_words m.repairs ++ (codes "end" ∷ []) ∷ []) ≡ true =
    entries_are_lines m.inner m.repairs ((codes "end" ∷ []) ∷ []) small (sets_within m.version m.inner m.repairs v.entries_fit v.repairs_proper) v.repairs_proper refl in
    let t6 = and_from _ _ (number_is_line (codes "repairs") (length m.repairs) refl (omega (arith, v.repairs_few, entries_few m.version m.repairs v.entries_fit))) t7 in
    let t5 = and_from _ _ names t6 in
    let t4 = and_from _ _ (number_is_line (codes "offset") m.offset refl (omega (arith, v.offset))) t5 in
    let t3 = and_from _ _ (number_is_line (codes "written") m.written refl (omega (arith, v.written, small))) t4 in
    let t2 = and_from _ _ (number_is_line (codes "inner") m.inner refl small) t3 in
    let t1 = and_from _ _ (number_is_line (codes "original") m.original refl (omega (arith, v.original))) t2 in
    and_from _ _ (number_is_line (codes "maxpre-map") m.version refl (omega (arith, v.last_version))) t1
