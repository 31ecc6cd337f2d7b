-- What a reader has read, and the map that the lines so far can still become.
use Rattle.std.proofs.Common.{◌≡◌, ◌≢◌, ◌≤◌, ◌<◌, ◌+◌, ◌-◌, ℕ, zero, suc, Bool, true, false, cond, ◌&&◌, IsTrue, List, [], ◌∷◌, ◌++◌, All, length, map, codes, decimal, replicate, Option, Some, None, refl, ap, ap₂, subst, sym, ◌∙◌, arith, append_assoc, length-append, lit<, lit≤, zero-add}
use Rattle.std.specs.Prelude.{nat_eq, nat_lt, nat_le}
use Rattle.std.specs.Option.{option_map}
use Rattle.std.specs.Str.{bytes_eq}
use Rattle.std.proofs.lemmas.Bool.{and_parts, and_from, leb-true, le-leb, lt-ltb, eqb-true, eqb-false, false≢true}
use Rattle.std.proofs.lemmas.List.{append-nil, map-append, length-replicate}
use Rattle.std.proofs.lemmas.List.Elements.{All-head, All-nil, All-append, All-push}
use Rattle.std.proofs.lemmas.Option.{none-some}
use Rattle.std.proofs.lemmas.Slice.Eq.{bytes_eq-Decides}
use Rattle.mp_logic.specs.Labelled.{IsProper, names_rise}
use Rattle.mp_logic.specs.Literal.{Literal, IsUpTo}
use Rattle.mp_logic.specs.Weights.{weight_bound}
use Rattle.mp_logic.specs.declared.instances.Repair.{Repair}
use Rattle.mp_text.specs.Numbers.{greatest}
use Rattle.mp_map.specs.Entries.{repairs_in, repairs_of}
use Rattle.mp_map.specs.Maps.{IsMap, entry_words, map_lines, latest_version, most_original, most_inner, most_repairs}
use Rattle.mp_map.specs.declared.maps.Entry.{Entry}
use Rattle.mp_map.specs.Pieces.{is_empty}
use Rattle.mp_map.specs.Reading.{number_in, names_in, entry_in, with_entry, is_end_line, most_repairs_over, expected_before, header_read, inner_read, next_at}
use Rattle.mp_map.specs.declared.maps.MapFile.{MapFile}
use Rattle.mp_map.specs.declared.reading.Expects.{Expects}
use Rattle.mp_map.specs.declared.reading.Expects.TheVariants.{Header, Original, Inner, Written, Offset, Names, Count, Mend, End, Nothing}
use Rattle.mp_map.specs.declared.reading.Reader.{Reader}
use Rattle.mp_map.proofs.Joins.{Fits, length-repairs_in, repairs_of-append, some_clause}
use Rattle.mp_map.proofs.Mending.{All-front}
use Rattle.mp_map.proofs.ToCome.{first_entry, fits-first, length-first, length-with_first, proper-first}
use Rattle.mp_map.proofs.WordsRead.{if_some, number_sound, names_sound, entry_sound, first_proper_of, ReadsEntry}

abbrev pub number_line : List ℕ → ℕ → List (List ℕ)
number_line word n = word ∷ (decimal n ∷ [])

abbrev pub header : ℕ → List (List ℕ)
header version = number_line (codes "maxpre-map") version

-- the lines up to that of the count of repairs
abbrev pub head_of : MapFile → ℕ → List (List (List ℕ)) → List (List (List ℕ))
head_of m count rest = header m.version ∷ (number_line (codes "original") m.original ∷ (number_line (codes "inner") m.inner ∷ (number_line (codes "written") m.written ∷ (number_line (codes "offset") m.offset
    ∷ ((codes "names" ∷ map decimal m.names) ∷ (number_line (codes "repairs") count ∷ rest))))))

-- the lines that were read
abbrev pub lines_at : Expects → Reader → List (List (List ℕ))
lines_at Header r = []
lines_at Original r = header r.map.version ∷ []
lines_at Inner r = header r.map.version ∷ (number_line (codes "original") r.map.original ∷ [])
lines_at Written r = header r.map.version ∷ (number_line (codes "original") r.map.original ∷ (number_line (codes "inner") r.map.inner ∷ []))
lines_at Offset r = header r.map.version ∷ (number_line (codes "original") r.map.original ∷ (number_line (codes "inner") r.map.inner ∷ (number_line (codes "written") r.map.written ∷ [])))
lines_at Names r = header r.map.version ∷ (number_line (codes "original") r.map.original ∷ (number_line (codes "inner") r.map.inner ∷ (number_line (codes "written") r.map.written ∷ (number_line (codes "offset") r.map.offset ∷ []))))
lines_at Count r = header r.map.version ∷ (number_line (codes "original") r.map.original ∷ (number_line (codes "inner") r.map.inner ∷ (number_line (codes "written") r.map.written ∷ (number_line (codes "offset") r.map.offset
    ∷ ((codes "names" ∷ map decimal r.map.names) ∷ [])))))
lines_at Mend r = head_of r.map (length r.map.repairs + r.left) (map entry_words r.map.repairs)
lines_at End r = head_of r.map (length r.map.repairs) (map entry_words r.map.repairs)
lines_at Nothing r = head_of r.map (length r.map.repairs) (map entry_words r.map.repairs ++ (codes "end" ∷ []) ∷ [])

-- the names from k + 1 on
abbrev pub first_names : ℕ → ℕ → List ℕ
first_names k zero = []
first_names k (suc n) = suc k ∷ first_names (suc k) n

-- a map of these numbers, with no more than they ask for
abbrev pub bare_map : ℕ → ℕ → ℕ → MapFile
bare_map version original inner = record { version = version; original = original; inner = inner; written = 0; offset = 0; names = []; repairs = [] }

abbrev pub named_map : ℕ → ℕ → ℕ → ℕ → ℕ → MapFile
named_map version original inner written offset = record { version = version; original = original; inner = inner; written = written; offset = offset; names = first_names 0 written; repairs = [] }

-- a map that the lines so far can become
abbrev pub complete_at : Expects → Reader → MapFile
complete_at Header r = bare_map 1 0 0
complete_at Original r = bare_map r.map.version 0 0
complete_at Inner r = bare_map r.map.version r.map.original r.map.original
complete_at Written r = bare_map r.map.version r.map.original r.map.inner
complete_at Offset r = named_map r.map.version r.map.original r.map.inner r.map.written 0
complete_at Names r = named_map r.map.version r.map.original r.map.inner r.map.written r.map.offset
complete_at Count r = record r.map { repairs = [] }
complete_at Mend r = record r.map { repairs = r.map.repairs ++ replicate r.left first_entry }
complete_at End r = r.map
complete_at Nothing r = r.map

-- no entry is read before their count, none is read where none is left, and all have at least so many clauses
abbrev pub facts_at : Expects → Reader → Type 0
facts_at Header r = r.map.repairs ≡ []
facts_at Original r = r.map.repairs ≡ []
facts_at Inner r = r.map.repairs ≡ []
facts_at Written r = r.map.repairs ≡ []
facts_at Offset r = r.map.repairs ≡ []
facts_at Names r = r.map.repairs ≡ []
facts_at Count r = r.map.repairs ≡ []
facts_at Mend r = (0 < r.left) × (r.least ≡ length (repairs_of r.map.repairs) + r.left)
facts_at End r = Unit {0}
facts_at Nothing r = Unit {0}

pub record IsReader (r : Reader) : Type 0 where
  pub valid : IsMap (complete_at r.expects r)
  pub facts : facts_at r.expects r

-- the reader s has read one line more
pub record Goes (e : Expects) (r s : Reader) (ws : List (List ℕ)) : Type 0 where
  pub lines : lines_at s.expects s ≡ lines_at e r ++ ws ∷ []
  pub reader : IsReader s

pub bare_valid : (v o i : ℕ) → 1 ≤ v → v ≤ latest_version → o ≤ most_original → o ≤ i → i ≤ most_inner → IsMap (bare_map v o i)
bare_valid v o i hv hv' ho hoi hi = record {
  first_version = hv;
  last_version = hv';
  original = ho;
  least_inner = hoi;
  inner = hi;
  written = omega arith;
  offset = lit< tt;
  each_named = refl;
  names_rising = refl;
  entries_fit = All-nil (Fits v);
  repairs_few = omega arith;
  repairs_proper = All-nil (IsProper i);
}

length-first_names : (k n : ℕ) → length (first_names k n) ≡ n
length-first_names k zero = refl
length-first_names k (suc n) = ap suc (length-first_names (suc k) n)

first_names_rise : (k n i : ℕ) → k + n ≤ i → IsTrue (names_rise k i (first_names k n))
first_names_rise k zero i h = refl
first_names_rise k (suc n) i h =
    and_from (nat_lt k (suc k) && nat_le (suc k) i) (names_rise (suc k) i (first_names (suc k) n))
    (and_from (nat_lt k (suc k)) (nat_le (suc k) i) (lt-ltb k (suc k) (omega arith)) (le-leb (suc k) i (omega (arith, h))))
    (first_names_rise (suc k) n i (omega (arith, h)))

pub named_valid : (n o i w k : ℕ) → IsMap (bare_map n o i) → w ≤ i → k < weight_bound → IsMap (named_map n o i w k)
named_valid n o i w k v hw hk = record {
  first_version = v.first_version;
  last_version = v.last_version;
  original = v.original;
  least_inner = v.least_inner;
  inner = v.inner;
  written = hw;
  offset = hk;
  each_named = length-first_names 0 w;
  names_rising = first_names_rise 0 w i (omega (arith, hw));
  entries_fit = All-nil (Fits n);
  repairs_few = omega arith;
  repairs_proper = All-nil (IsProper i);
}

-- other entries keep a map valid where they fit its version and their repairs are few and proper
pub mended_valid : (m : MapFile) (es : List Entry) → IsMap m → All (Fits m.version) es → length (repairs_of es) ≤ most_repairs → All (IsProper m.inner) (repairs_of es) → IsMap (record m { repairs = es })
mended_valid m es v fit few proper = record {
  first_version = v.first_version;
  last_version = v.last_version;
  original = v.original;
  least_inner = v.least_inner;
  inner = v.inner;
  written = v.written;
  offset = v.offset;
  each_named = v.each_named;
  names_rising = v.names_rising;
  entries_fit = fit;
  repairs_few = few;
  repairs_proper = proper;
}

map_some : {X Y : Type 0} (f : X → Y) (o : Option X) (y : Y) → option_map f o ≡ Some y → (x : X) × (o ≡ Some x) × (f x ≡ y)
map_some f None y h = absurd (none-some y h)
map_some f (Some x) y h = (x, refl, let e : Some (f x) ≡ Some y = h in cc)

header_some : (r : Reader) (o : Option ℕ) (s : Reader) → header_read r o ≡ Some s → (n : ℕ) × (o ≡ Some n) × (1 ≤ n) × (record r { expects = Original; map = record r.map { version = n } } ≡ s)
header_some r None s h = absurd (none-some s h)
header_some r (Some n) s h =
    let made : Reader = record r { expects = Original; map = record r.map { version = n } } in
    let step : (t : Bool) → nat_eq n 0 ≡ t → cond t None (Some made) ≡ Some s → (1 ≤ n) × (made ≡ s) =
    λ (t : Bool). elim t as (λ t. nat_eq n 0 ≡ t → cond t None (Some made) ≡ Some s → (1 ≤ n) × (made ≡ s)) [
      | true ↦ λ e k. absurd (none-some s k)
      | false ↦ λ e k. (let ne : n ≢ 0 = eqb-false n 0 e in omega (arith, ne), let f : Some made ≡ Some s = k in cc)
    ] in
    let p = step (nat_eq n 0) refl h in
    (n, refl, p.0, p.1)

inner_some : (r : Reader) (o : Option ℕ) (s : Reader) → inner_read r o ≡ Some s → (n : ℕ) × (o ≡ Some n) × (r.map.original ≤ n) × (record r { expects = Written; map = record r.map { inner = n } } ≡ s)
inner_some r None s h = absurd (none-some s h)
inner_some r (Some n) s h =
    let made : Reader = record r { expects = Written; map = record r.map { inner = n } } in
    let p = if_some (nat_le r.map.original n) (Some made) s h in
    (n, refl, leb-true _ _ p.0, let e : Some made ≡ Some s = p.1 in cc)

nothing_left : (vs : List (List ℕ)) → is_empty vs ≡ true → vs ≡ []
nothing_left [] e = refl
nothing_left (v ∷ vs) e = absurd (false≢true e)

end_some : (ws : List (List ℕ)) → is_end_line ws ≡ true → ws ≡ codes "end" ∷ []
end_some [] h = absurd (false≢true h)
end_some (w ∷ ws) h =
    let p = and_parts (bytes_eq w (codes "end")) (is_empty ws) h in
    ap (λ (v : List ℕ). v ∷ ws) ((bytes_eq-Decides w (codes "end")).0 p.0) ∙ ap (λ (vs : List (List ℕ)). codes "end" ∷ vs) (nothing_left ws p.1)

some_literal : {i : ℕ} (c : List Literal) → c ≢ [] → All (IsUpTo i) c → 1 ≤ i
some_literal [] ne h = absurd (ne refl)
some_literal {i = i} (l ∷ c) ne h = let u : IsUpTo i l = All-head (IsUpTo i) l c h in omega (arith, u.0, u.1)

-- after the count of entries
step_count : (r : Reader) (n : ℕ) (ws : List (List ℕ)) → IsMap (record r.map { repairs = [] }) → r.map.repairs ≡ [] → ws ≡ number_line (codes "repairs") n → n ≤ most_repairs_over r.map.inner
    → Goes Count r (record r { expects = expected_before n; left = n; least = n }) ws
step_count r n ws v none is few =
    let ended : Reader = record r { expects = End; left = n; least = n } in
    let mending : Reader = record r { expects = Mend; left = n; least = n } in
    let at_end : n ≡ 0 → Goes Count r ended ws = λ z. record {
      lines = ap (λ (es : List Entry). head_of r.map (length es) (map entry_words es)) none
          ∙ ap (λ (k : ℕ). head_of r.map k []) (sym z)
          ∙ ap (λ (vs : List (List ℕ)). lines_at Count r ++ vs ∷ []) (sym is);
      reader = record { valid = subst (λ (es : List Entry). IsMap (record r.map { repairs = es })) (sym none) v; facts = tt };
    } in
    let on : n ≢ 0 → Goes Count r mending ws = λ nz.
    let inner_some : (t : Bool) → nat_eq r.map.inner 0 ≡ t → (n ≤ most_repairs) × (1 ≤ r.map.inner) =
    λ (t : Bool). elim t as (λ t. nat_eq r.map.inner 0 ≡ t → (n ≤ most_repairs) × (1 ≤ r.map.inner)) [
      | true ↦ λ e. absurd (let z : n ≤ 0 = rw e at few in omega (arith, z, nz))
      | false ↦ λ e. ((let z : n ≤ most_repairs = rw e at few in z), (let ne : r.map.inner ≢ 0 = eqb-false r.map.inner 0 e in omega (arith, ne)))
    ] in
    let b = inner_some (nat_eq r.map.inner 0) refl in
    let es : List Entry = replicate n first_entry in
    let filled : r.map.repairs ++ es ≡ es = ap (λ (l : List Entry). l ++ es) none in
    record {
      lines = ap (λ (l : List Entry). head_of r.map (length l + n) (map entry_words l)) none
          ∙ ap (λ (k : ℕ). head_of r.map k []) (zero-add n)
          ∙ ap (λ (vs : List (List ℕ)). lines_at Count r ++ vs ∷ []) (sym is);
      reader = record {
        valid = subst (λ (l : List Entry). IsMap (record r.map { repairs = l })) (sym filled) (mended_valid (record r.map { repairs = [] }) es v (fits-first r.map.version n) (omega (arith, length-first n, b.0)) (proper-first r.map.inner n b.1));
        facts = (omega (arith, nz), sym (ap (λ (l : List Entry). length (repairs_of l) + n) none ∙ zero-add n));
      };
    } in
    let step : (t : Bool) → nat_eq n 0 ≡ t → Goes Count r (record r { expects = cond t End Mend; left = n; least = n }) ws =
    λ (t : Bool). elim t as (λ t. nat_eq n 0 ≡ t → Goes Count r (record r { expects = cond t End Mend; left = n; least = n }) ws) [
      | true ↦ λ e. at_end (eqb-true n 0 e)
      | false ↦ λ e. on (eqb-false n 0 e)
    ] in
    step (nat_eq n 0) refl

-- an entry whose repairs are proper sets a variable
pub entry_inner : (version i : ℕ) (e : Entry) → Fits version e → All (IsProper i) (repairs_in e) → 1 ≤ i
entry_inner version i e fit proper =
    let own = first_proper_of i e.sets e.clauses (some_clause version (length e.clauses) fit) proper in
    let p : IsProper i (record { sets = e.sets; clause = own.0 }) = own.1 in
    some_literal e.sets p.sets_some p.sets_within

-- after an entry
step_mend : (r : Reader) (e : Entry) (ws : List (List ℕ)) → IsMap (complete_at Mend r) → facts_at Mend r → ReadsEntry r.map.version r.least r.map.inner ws e → Goes Mend r (with_entry r e) ws
step_mend r e ws v facts reads =
    let some : 0 < r.left = facts.0 in
    let left : ℕ = r.left - 1 in
    let least : ℕ = (r.least + length e.clauses) - 1 in
    let es : List Entry = r.map.repairs ++ e ∷ [] in
    let count : length es + left ≡ length r.map.repairs + r.left = omega (arith, length-append r.map.repairs (e ∷ []), some) in
    let words : map entry_words es ≡ map entry_words r.map.repairs ++ ws ∷ [] = map-append entry_words r.map.repairs (e ∷ []) ∙ ap (λ (vs : List (List ℕ)). map entry_words r.map.repairs ++ vs ∷ []) (sym reads.words) in
    let own : repairs_of es ≡ repairs_of r.map.repairs ++ repairs_in e = repairs_of-append r.map.repairs (e ∷ []) ∙ ap (λ (v : List Repair). repairs_of r.map.repairs ++ v) (append-nil (repairs_in e)) in
    let many : length (repairs_of es) ≡ length (repairs_of r.map.repairs) + length e.clauses = ap length own ∙ length-append (repairs_of r.map.repairs) (repairs_in e) ∙ ap (λ (k : ℕ). length (repairs_of r.map.repairs) + k) (length-repairs_in e) in
    let total : least ≡ length (repairs_of es) + left = omega (arith, many, facts.1, some) in
    let few : length (repairs_of es) + left ≤ most_repairs = omega (arith, many, facts.1, some, reads.few) in
    let more : List Entry = replicate r.left first_entry in
    let fit : All (Fits r.map.version) es = All-push (Fits r.map.version) r.map.repairs e (All-front (Fits r.map.version) r.map.repairs more v.entries_fit) reads.fits in
    let before : All (IsProper r.map.inner) (repairs_of r.map.repairs) = All-front (IsProper r.map.inner) (repairs_of r.map.repairs) (repairs_of more) (subst (All (IsProper r.map.inner)) (repairs_of-append r.map.repairs more) v.repairs_proper) in
    let front : All (IsProper r.map.inner) (repairs_of es) = subst (All (IsProper r.map.inner)) (sym own) (All-append (IsProper r.map.inner) (repairs_of r.map.repairs) (repairs_in e) before reads.proper) in
    let head : (k : ℕ) → k ≡ length r.map.repairs + r.left → head_of r.map k (map entry_words es) ≡ lines_at Mend r ++ ws ∷ [] = λ k e.
    ap₂ (head_of r.map) e words in
    let ended : Reader = record r { expects = End; left = left; least = least; map = record r.map { repairs = es } } in
    let mending : Reader = record r { expects = Mend; left = left; least = least; map = record r.map { repairs = es } } in
    let at_end : left ≡ 0 → Goes Mend r ended ws = λ z. record {
      lines = head (length es) (omega (arith, count, z));
      reader = record { valid = mended_valid (complete_at Mend r) es v fit (omega (arith, few)) front; facts = tt };
    } in
    let on : left ≢ 0 → Goes Mend r mending ws = λ nz.
    let rest : List Entry = replicate left first_entry in
    let one : 1 ≤ r.map.inner = entry_inner r.map.version r.map.inner e reads.fits reads.proper in
    record {
      lines = head (length es + left) count;
      reader = record {
        valid = mended_valid (complete_at Mend r) (es ++ rest) v (All-append (Fits r.map.version) es rest fit (fits-first r.map.version left)) (omega (arith, few, length-with_first es left))
            (subst (All (IsProper r.map.inner)) (sym (repairs_of-append es rest)) (All-append (IsProper r.map.inner) (repairs_of es) (repairs_of rest) front (proper-first r.map.inner left one)));
        facts = (omega (arith, nz), total);
      };
    } in
    let step : (t : Bool) → nat_eq left 0 ≡ t → Goes Mend r (record r { expects = cond t End Mend; left = left; least = least; map = record r.map { repairs = es } }) ws =
    λ (t : Bool). elim t as (λ t. nat_eq left 0 ≡ t → Goes Mend r (record r { expects = cond t End Mend; left = left; least = least; map = record r.map { repairs = es } }) ws) [
      | true ↦ λ e. at_end (eqb-true left 0 e)
      | false ↦ λ e. on (eqb-false left 0 e)
    ] in
    step (nat_eq left 0) refl

pub over_small : (i : ℕ) → most_repairs_over i ≤ greatest
over_small i = elim (nat_eq i 0) as (λ t. cond t 0 most_repairs ≤ greatest) [ true ↦ lit≤ tt | false ↦ lit≤ tt ]

pub step_at : (e : Expects) (r s : Reader) (ws : List (List ℕ)) → IsMap (complete_at e r) → facts_at e r → next_at e r ws ≡ Some s → Goes e r s ws
step_at Header r s ws v facts h =
    let p = header_some r (number_in (codes "maxpre-map") latest_version ws) s h in
    let q = number_sound (codes "maxpre-map") latest_version ws p.0 (lit≤ tt) p.1 in
    subst (λ (s : Reader). Goes Header r s ws) p.3 (record {
      lines = ap (λ (vs : List (List ℕ)). vs ∷ []) (sym q.0);
      reader = record { valid = bare_valid p.0 0 0 p.2 q.1 (omega arith) (omega arith) (omega arith); facts = facts };
    })
step_at Original r s ws v facts h =
    let p = map_some (λ n. record r { expects = Inner; map = record r.map { original = n } }) (number_in (codes "original") most_original ws) s h in
    let q = number_sound (codes "original") most_original ws p.0 (lit≤ tt) p.1 in
    subst (λ (s : Reader). Goes Original r s ws) p.2 (record {
      lines = ap (λ (vs : List (List ℕ)). lines_at Original r ++ vs ∷ []) (sym q.0);
      reader = record { valid = bare_valid r.map.version p.0 p.0 v.first_version v.last_version q.1 (omega arith) (omega (arith, q.1)); facts = facts };
    })
step_at Inner r s ws v facts h =
    let p = inner_some r (number_in (codes "inner") most_inner ws) s h in
    let q = number_sound (codes "inner") most_inner ws p.0 (lit≤ tt) p.1 in
    subst (λ (s : Reader). Goes Inner r s ws) p.3 (record {
      lines = ap (λ (vs : List (List ℕ)). lines_at Inner r ++ vs ∷ []) (sym q.0);
      reader = record { valid = bare_valid r.map.version r.map.original p.0 v.first_version v.last_version v.original p.2 q.1; facts = facts };
    })
step_at Written r s ws v facts h =
    let p = map_some (λ n. record r { expects = Offset; map = record r.map { written = n } }) (number_in (codes "written") r.map.inner ws) s h in
    let q = number_sound (codes "written") r.map.inner ws p.0 (omega (arith, v.inner)) p.1 in
    subst (λ (s : Reader). Goes Written r s ws) p.2 (record {
      lines = ap (λ (vs : List (List ℕ)). lines_at Written r ++ vs ∷ []) (sym q.0);
      reader = record { valid = named_valid r.map.version r.map.original r.map.inner p.0 0 v q.1 (lit< tt); facts = facts };
    })
step_at Offset r s ws v facts h =
    let p = map_some (λ n. record r { expects = Names; map = record r.map { offset = n } }) (number_in (codes "offset") (weight_bound - 1) ws) s h in
    let q = number_sound (codes "offset") (weight_bound - 1) ws p.0 (lit≤ tt) p.1 in
    subst (λ (s : Reader). Goes Offset r s ws) p.2 (record {
      lines = ap (λ (vs : List (List ℕ)). lines_at Offset r ++ vs ∷ []) (sym q.0);
      reader = record { valid = named_valid r.map.version r.map.original r.map.inner r.map.written p.0 (bare_valid r.map.version r.map.original r.map.inner v.first_version v.last_version v.original v.least_inner v.inner) v.written (omega (arith, q.1)); facts = facts };
    })
step_at Names r s ws v facts h =
    let p = map_some (λ ns. record r { expects = Count; map = record r.map { names = ns } }) (names_in r.map.inner r.map.written ws) s h in
    let q = names_sound r.map.inner r.map.written ws p.0 (omega (arith, v.inner)) p.1 in
    subst (λ (s : Reader). Goes Names r s ws) p.2 (record {
      lines = ap (λ (vs : List (List ℕ)). lines_at Names r ++ vs ∷ []) (sym q.0);
      reader = record {
        valid = record { first_version = v.first_version; last_version = v.last_version; original = v.original; least_inner = v.least_inner; inner = v.inner; written = v.written; offset = v.offset; each_named = q.1; names_rising = q.2; entries_fit = v.entries_fit; repairs_few = v.repairs_few; repairs_proper = v.repairs_proper };
        facts = facts;
      };
    })
step_at Count r s ws v facts h =
    let p = map_some (λ n. record r { expects = expected_before n; left = n; least = n }) (number_in (codes "repairs") (most_repairs_over r.map.inner) ws) s h in
    let q = number_sound (codes "repairs") (most_repairs_over r.map.inner) ws p.0 (over_small r.map.inner) p.1 in
    subst (λ (s : Reader). Goes Count r s ws) p.2 (step_count r p.0 ws v facts q.0 q.1)
step_at Mend r s ws v facts h =
    let p = map_some (with_entry r) (entry_in r.map.version r.least r.map.inner ws) s h in
    subst (λ (s : Reader). Goes Mend r s ws) p.2 (step_mend r p.0 ws v facts (entry_sound r.map.version r.least r.map.inner ws p.0 (omega (arith, v.inner)) p.1))
step_at End r s ws v facts h =
    let made : Reader = record r { expects = Nothing } in
    let p = if_some (is_end_line ws) (Some made) s h in
    let same : made ≡ s = (let e : Some made ≡ Some s = p.1 in cc) in
    subst (λ (s : Reader). Goes End r s ws) same (record {
      lines = ap (λ (vs : List (List ℕ)). lines_at End r ++ vs ∷ []) (sym (end_some ws p.0));
      reader = record { valid = v; facts = tt };
    })
step_at Nothing r s ws v facts h = absurd (none-some s h)

-- the lines so far and these are those of a map
pub record Completes (e : Expects) (r : Reader) : Type 0 where
  pub more : List (List (List ℕ))
  pub whole : map_lines (complete_at e r) ≡ lines_at e r ++ more

pub completes : (e : Expects) (r : Reader) → Completes e r
completes Header r = record { more = _; whole = refl }
completes Original r = record { more = _; whole = refl }
completes Inner r = record { more = _; whole = refl }
completes Written r = record { more = _; whole = refl }
completes Offset r = record { more = _; whole = refl }
completes Names r = record { more = _; whole = refl }
completes Count r = record { more = _; whole = refl }
completes Mend r =
    let rest : List Entry = replicate r.left first_entry in
    record {
      more = map entry_words rest ++ (codes "end" ∷ []) ∷ [];
      whole = ap₂ (λ (k : ℕ) (l : List (List (List ℕ))). head_of r.map k (l ++ (codes "end" ∷ []) ∷ [])) (length-append r.map.repairs rest ∙ ap (λ (k : ℕ). length r.map.repairs + k) (length-replicate r.left first_entry)) (map-append entry_words r.map.repairs rest)
          ∙ ap (head_of r.map (length r.map.repairs + r.left)) (append_assoc (map entry_words r.map.repairs) (map entry_words rest) ((codes "end" ∷ []) ∷ []));
    }
completes End r = record { more = (codes "end" ∷ []) ∷ []; whole = refl }
completes Nothing r = record { more = []; whole = sym (append-nil (lines_at Nothing r)) }
