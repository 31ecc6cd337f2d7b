-- What the lines of a map's text say, one at a time. Only private functions speak of this.
use Rattle.std.specs.Prelude.{ℕ, ◌-◌, ◌+◌, Bool, true, false, not, ◌&&◌, List, [], ◌∷◌, ◌++◌, length, codes, Option, Some, None, Result, Ok, Err, if◌then◌else◌, nat_eq, nat_lt, nat_le}
use Rattle.std.specs.List.{list_all, slice_index}
use Rattle.std.specs.Option.{option_map}
use Rattle.std.specs.Str.{bytes_eq}
use Rattle.mp_logic.specs.Labelled.{names_rise}
use Rattle.mp_logic.specs.Literal.{Literal}
use Rattle.mp_logic.specs.Normal.{rises}
use Rattle.mp_logic.specs.Weights.{weight_bound}
use Rattle.mp_text.specs.Numbers.{natural_of, at_most}
use Rattle.mp_map.specs.Pieces.{is_empty, pieces_at}
use Rattle.mp_map.specs.Entries.{fits_version}
use Rattle.mp_map.specs.Maps.{latest_version, most_original, most_inner, most_repairs}
use Rattle.mp_map.specs.declared.maps.Entry.{Entry}
use Rattle.mp_map.specs.declared.maps.MapFile.{MapFile}
use Rattle.mp_map.specs.declared.reading.Expects.{Expects}
use Rattle.mp_map.specs.declared.reading.Expects.TheVariants.{Header, Original, Inner, Written, Offset, Names, Count, Mend, End, Nothing}
use Rattle.mp_map.specs.declared.reading.Reader.{Reader}

-- the words of a line
abbrev pub words_in : List ℕ → List (List ℕ)
words_in line = pieces_at 32 line

-- a number in its one spelling
abbrev pub exact_of : ℕ → List ℕ → Option ℕ
exact_of most text = if nat_lt 1 (length text) && nat_eq (slice_index text 0) 48 then None else at_most most (natural_of text)

-- a line of a word and a number
abbrev pub number_in : List ℕ → ℕ → List (List ℕ) → Option ℕ
number_in word most [] = None
number_in word most (w ∷ []) = None
number_in word most (w ∷ (d ∷ [])) = if bytes_eq w word then exact_of most d else None
number_in word most (w ∷ (d ∷ (e ∷ es))) = None

-- the first with the others, where all are there
abbrev pub put_first : {X : Type 0} → Option X → Option (List X) → Option (List X)
put_first None rest = None
put_first (Some x) None = None
put_first (Some x) (Some xs) = Some (x ∷ xs)

abbrev pub numbers_in : ℕ → List (List ℕ) → Option (List ℕ)
numbers_in most [] = Some []
numbers_in most (w ∷ ws) = put_first (exact_of most w) (numbers_in most ws)

-- so many names, which rise strictly from 1
abbrev pub checked_names : ℕ → ℕ → Option (List ℕ) → Option (List ℕ)
checked_names inner written None = None
checked_names inner written (Some names) = if nat_eq (length names) written && names_rise 0 inner names then Some names else None

abbrev pub names_in : ℕ → ℕ → List (List ℕ) → Option (List ℕ)
names_in inner written [] = None
names_in inner written (w ∷ ws) = if bytes_eq w (codes "names") then checked_names inner written (numbers_in inner ws) else None

abbrev pub signed : Bool → Option ℕ → Option Literal
signed negative None = None
signed negative (Some n) = if nat_eq n 0 then None else Some (record { variable = n; negative = negative })

abbrev pub literal_in : ℕ → List ℕ → Option Literal
literal_in most [] = None
literal_in most (b ∷ bs) = if nat_eq b 45 then signed true (exact_of most bs) else signed false (exact_of most (b ∷ bs))

abbrev pub put_literal : Option Literal → Option (List Literal × List (List ℕ)) → Option (List Literal × List (List ℕ))
put_literal None rest = None
put_literal (Some l) None = None
put_literal (Some l) (Some (c, ws)) = Some (l ∷ c, ws)

-- literals up to a 0, and the words behind it
abbrev pub clause_in : ℕ → List (List ℕ) → Option (List Literal × List (List ℕ))
clause_in most [] = None
clause_in most (w ∷ ws) = if bytes_eq w (codes "0") then Some ([], ws) else put_literal (literal_in most w) (clause_in most ws)

-- the literal in front of the first of these clauses
abbrev pub put_into_first : Option Literal → Option (List (List Literal)) → Option (List (List Literal))
put_into_first None rest = None
put_into_first (Some l) None = None
put_into_first (Some l) (Some []) = None
put_into_first (Some l) (Some (c ∷ cs)) = Some ((l ∷ c) ∷ cs)

-- clauses, each up to its 0, to the end of a line
abbrev pub clauses_in : ℕ → List (List ℕ) → Option (List (List Literal))
clauses_in most [] = Some []
clauses_in most (w ∷ ws) = if bytes_eq w (codes "0") then put_first (Some []) (clauses_in most ws) else put_into_first (literal_in most w) (clauses_in most ws)

-- Least is the number of clauses of all entries, where each one from this on had one clause: the entry may have as many more
-- as the greatest number of repairs leaves room for.
abbrev pub is_entry : ℕ → ℕ → List Literal → List (List Literal) → Bool
is_entry version least sets clauses =
    ((not (is_empty sets) && rises 0 sets) && list_all (rises 0) clauses) && (fits_version version (length clauses) && nat_le (least + length clauses) (most_repairs + 1))

abbrev pub checked_entry : ℕ → ℕ → List Literal → Option (List (List Literal)) → Option Entry
checked_entry version least sets None = None
checked_entry version least sets (Some clauses) = if is_entry version least sets clauses then Some (record { sets = sets; clauses = clauses }) else None

abbrev pub entry_behind : ℕ → ℕ → ℕ → Option (List Literal × List (List ℕ)) → Option Entry
entry_behind version least most None = None
entry_behind version least most (Some (sets, ws)) = checked_entry version least sets (clauses_in most ws)

abbrev pub entry_in : ℕ → ℕ → ℕ → List (List ℕ) → Option Entry
entry_in version least most ws = entry_behind version least most (clause_in most ws)

-- a repair needs a variable to set
abbrev pub most_repairs_over : ℕ → ℕ
most_repairs_over inner = if nat_eq inner 0 then 0 else most_repairs

abbrev pub expected_before : ℕ → Expects
expected_before left = if nat_eq left 0 then End else Mend

abbrev pub header_read : Reader → Option ℕ → Option Reader
header_read r None = None
header_read r (Some n) = if nat_eq n 0 then None else Some (record r { expects = Original; map = record r.map { version = n } })

abbrev pub inner_read : Reader → Option ℕ → Option Reader
inner_read r None = None
inner_read r (Some n) = if nat_le r.map.original n then Some (record r { expects = Written; map = record r.map { inner = n } }) else None

abbrev pub is_end_line : List (List ℕ) → Bool
is_end_line [] = false
is_end_line (w ∷ ws) = bytes_eq w (codes "end") && is_empty ws

abbrev pub end_read : Reader → Bool → Option Reader
end_read r good = if good then Some (record r { expects = Nothing }) else None

abbrev pub with_entry : Reader → Entry → Reader
with_entry r e = record r { expects = expected_before (r.left - 1); left = r.left - 1; least = (r.least + length e.clauses) - 1; map = record r.map { repairs = r.map.repairs ++ e ∷ [] } }

-- the reader behind a line of these words
abbrev pub next_at : Expects → Reader → List (List ℕ) → Option Reader
next_at Header r ws = header_read r (number_in (codes "maxpre-map") latest_version ws)
next_at Original r ws = option_map (λ n. record r { expects = Inner; map = record r.map { original = n } }) (number_in (codes "original") most_original ws)
next_at Inner r ws = inner_read r (number_in (codes "inner") most_inner ws)
next_at Written r ws = option_map (λ n. record r { expects = Offset; map = record r.map { written = n } }) (number_in (codes "written") r.map.inner ws)
next_at Offset r ws = option_map (λ n. record r { expects = Names; map = record r.map { offset = n } }) (number_in (codes "offset") (weight_bound - 1) ws)
next_at Names r ws = option_map (λ ns. record r { expects = Count; map = record r.map { names = ns } }) (names_in r.map.inner r.map.written ws)
next_at Count r ws = option_map (λ n. record r { expects = expected_before n; left = n; least = n }) (number_in (codes "repairs") (most_repairs_over r.map.inner) ws)
next_at Mend r ws = option_map (with_entry r) (entry_in r.map.version r.least r.map.inner ws)
next_at End r ws = end_read r (is_end_line ws)
next_at Nothing r ws = None

abbrev pub next : Reader → List (List ℕ) → Option Reader
next r ws = next_at r.expects r ws

-- the map at the end of a text whose last line is n, or the line at fault
abbrev pub finished : Expects → MapFile → ℕ → Result MapFile ℕ
finished Nothing m n = Ok m
finished _ m n = Err (if nat_eq n 1 then 1 else n - 1)

abbrev pub end_at : Reader → ℕ → List ℕ → Result MapFile ℕ
end_at r n [] = finished r.expects r.map n
end_at r n (b ∷ bs) = Err n

abbrev pub read_with : Option Reader → ℕ → (Reader → Result MapFile ℕ) → Result MapFile ℕ
read_with None n go = Err n
read_with (Some r) n go = go r

-- the map of the pieces between line feeds, from line n on; only the last piece isn't a line
abbrev pub read_on : Reader → ℕ → List ℕ → List (List ℕ) → Result MapFile ℕ
read_on r n piece [] = end_at r n piece
read_on r n piece (p ∷ ps) = read_with (next r (words_in piece)) n (λ s. read_on s (n + 1) p ps)

abbrev pub read_pieces : Reader → ℕ → List (List ℕ) → Result MapFile ℕ
read_pieces r n [] = Err n
read_pieces r n (p ∷ ps) = read_on r n p ps

-- the reader before the first line
abbrev pub start : Reader
start = record { expects = Header; left = 0; least = 0; map = record { version = 1; original = 0; inner = 0; written = 0; offset = 0; names = []; repairs = [] } }

-- the map of a text, or the line at fault
abbrev pub read_text : List ℕ → Result MapFile ℕ
read_text text = read_pieces start 1 (pieces_at 10 text)
