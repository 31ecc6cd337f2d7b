-- A reader goes over all lines of a valid map.
use Rattle.std.proofs.Common.{◌≡◌, ◌≤◌, ◌+◌, ◌-◌, ℕ, suc, Bool, true, false, cond, List, [], ◌∷◌, ◌++◌, All, length, map, codes, decimal, Option, Some, None, refl, ap, ap₂, sym, ◌∙◌, arith, append_assoc, length-append, lit≤, zero-add, add-zero}
use Rattle.std.specs.Prelude.{nat_eq}
use Rattle.std.specs.Option.{option_map}
use Rattle.std.proofs.Math.Dec.{eqb-suc-zero}
use Rattle.std.proofs.lemmas.Bool.{le-leb, eqb-true, ne_eqb}
use Rattle.std.proofs.lemmas.List.{append-nil}
use Rattle.std.proofs.lemmas.List.Elements.{All-head, All-tail}
use Rattle.mp_logic.specs.Labelled.{IsProper}
use Rattle.mp_logic.specs.Weights.{weight_bound}
use Rattle.mp_logic.specs.declared.instances.Repair.{Repair}
use Rattle.mp_map.specs.Entries.{repairs_in, repairs_of}
use Rattle.mp_map.specs.declared.maps.Entry.{Entry}
use Rattle.mp_text.specs.Numbers.{greatest}
use Rattle.mp_map.specs.Maps.{IsMap, entry_words, map_lines, latest_version, most_original, most_inner, most_repairs}
use Rattle.mp_map.specs.Reading.{most_repairs_over, expected_before, header_read, inner_read, next, start, with_entry}
use Rattle.mp_map.specs.declared.maps.MapFile.{MapFile}
use Rattle.mp_map.specs.declared.reading.Expects.{Expects}
use Rattle.mp_map.specs.declared.reading.Expects.TheVariants.{Original, Inner, Written, Offset, Names, Count, Mend, End, Nothing}
use Rattle.mp_map.specs.declared.reading.Reader.{Reader}
use Rattle.mp_map.proofs.Joins.{Fits, entries_few, length-repairs_in, repairs_of-append}
use Rattle.mp_map.proofs.Mending.{All-back, All-front}
use Rattle.mp_map.proofs.Stages.{entry_inner, header, number_line, over_small}
use Rattle.mp_map.proofs.WordsRead.{number_complete, names_complete, entry_complete}

abbrev pub run_with : Option Reader → (Reader → Option Reader) → Option Reader
run_with None go = None
run_with (Some r) go = go r

-- the reader behind these lines
abbrev pub run : Reader → List (List (List ℕ)) → Option Reader
run r [] = Some r
run r (ws ∷ lines) = run_with (next r ws) (λ s. run s lines)

pub run-append : (r : Reader) (a b : List (List (List ℕ))) → run r (a ++ b) ≡ run_with (run r a) (λ s. run s b)
run-append r [] b = refl
run-append r (ws ∷ a) b =
    elim (next r ws) as (λ o. run_with o (λ s. run s (a ++ b)) ≡ run_with (run_with o (λ s. run s a)) (λ s. run s b)) [
      | None ↦ refl
      | Some s ↦ run-append s a b
    ]

pub run_step : (r s : Reader) (ws : List (List ℕ)) (lines : List (List (List ℕ))) (x : Option Reader) → next r ws ≡ Some s → run s lines ≡ x → run r (ws ∷ lines) ≡ x
run_step r s ws lines x e h = ap (λ (o : Option Reader). run_with o (λ s. run s lines)) e ∙ h

abbrev at_stage : Expects → ℕ → ℕ → MapFile → Reader
at_stage e left least m = record { expects = e; left = left; least = least; map = m }

abbrev pub done : MapFile → Reader
done m = at_stage Nothing 0 (length (repairs_of m.repairs)) m

-- the reader before so many entries, behind these
abbrev before : MapFile → List Entry → ℕ → Reader
before m front n = at_stage (expected_before n) n (length (repairs_of front) + n) (record m { repairs = front })

next_mend : (m : MapFile) (front : List Entry) (e : Entry) (n : ℕ) → m.inner ≤ greatest → Fits m.version e → All (IsProper m.inner) (repairs_in e) → length (repairs_of front) + (length e.clauses + n) ≤ most_repairs
    → next (before m front (suc n)) (entry_words e) ≡ Some (before m (front ++ e ∷ []) n)
next_mend m front e n small fit proper few =
    let r : Reader = record (before m front (suc n)) { expects = Mend } in
    let many : length (repairs_of (front ++ e ∷ [])) ≡ length (repairs_of front) + length e.clauses =
    ap length (repairs_of-append front (e ∷ []) ∙ ap (λ (v : List Repair). repairs_of front ++ v) (append-nil (repairs_in e))) ∙ length-append (repairs_of front) (repairs_in e) ∙ ap (λ (k : ℕ). length (repairs_of front) + k) (length-repairs_in e) in
    let one : suc n - 1 ≡ n = omega arith in
    let total : (length (repairs_of front) + suc n + length e.clauses) - 1 ≡ length (repairs_of (front ++ e ∷ [])) + n = omega (arith, many) in
    ap (λ (t : Bool). next (record r { expects = cond t End Mend }) (entry_words e)) (eqb-suc-zero n)
    ∙ ap (option_map (with_entry r)) (entry_complete m.version r.least m.inner e small proper fit (omega (arith, few)))
    ∙ ap₂ (λ (k : ℕ) (least : ℕ). let s : Reader = at_stage (expected_before k) k least (record m { repairs = front ++ e ∷ [] }) in Some s) one total

run_entries : (m : MapFile) (front es : List Entry) (lines : List (List (List ℕ))) → m.inner ≤ greatest → All (Fits m.version) es → All (IsProper m.inner) (repairs_of es) → length (repairs_of front) + length (repairs_of es) ≤ most_repairs
    → run (before m front (length es)) (map entry_words es ++ lines) ≡ run (at_stage End 0 (length (repairs_of (front ++ es))) (record m { repairs = front ++ es })) lines
run_entries m front [] lines small fit proper few =
    ap (λ (k : ℕ). run (at_stage End 0 k (record m { repairs = front })) lines) (add-zero (length (repairs_of front)))
    ∙ ap (λ (l : List Entry). run (at_stage End 0 (length (repairs_of l)) (record m { repairs = l })) lines) (sym (append-nil front))
run_entries m front (e ∷ es) lines small fit proper few =
    let own : All (IsProper m.inner) (repairs_in e) = All-front (IsProper m.inner) (repairs_in e) (repairs_of es) proper in
    let others : All (Fits m.version) es = All-tail (Fits m.version) e es fit in
    let many : length (repairs_of (e ∷ es)) ≡ length e.clauses + length (repairs_of es) = length-append (repairs_in e) (repairs_of es) ∙ ap (λ (k : ℕ). k + length (repairs_of es)) (length-repairs_in e) in
    let front_many : length (repairs_of (front ++ e ∷ [])) ≡ length (repairs_of front) + length e.clauses =
    ap length (repairs_of-append front (e ∷ []) ∙ ap (λ (v : List Repair). repairs_of front ++ v) (append-nil (repairs_in e))) ∙ length-append (repairs_of front) (repairs_in e) ∙ ap (λ (k : ℕ). length (repairs_of front) + k) (length-repairs_in e) in
    run_step _ _ (entry_words e) (map entry_words es ++ lines) _
    (next_mend m front e (length es) small (All-head (Fits m.version) e es fit) own (omega (arith, few, many, entries_few m.version es others)))
    (run_entries m (front ++ e ∷ []) es lines small others (All-back (IsProper m.inner) (repairs_in e) (repairs_of es) proper) (omega (arith, few, many, front_many))
    ∙ ap (λ (l : List Entry). run (at_stage End 0 (length (repairs_of l)) (record m { repairs = l })) lines) (append_assoc front (e ∷ []) es))

next_header : (n : ℕ) → 1 ≤ n → n ≤ latest_version → next start (header n) ≡ Some (record start { expects = Original; map = record start.map { version = n } })
next_header n one h =
    ap (header_read start) (number_complete (codes "maxpre-map") latest_version n (lit≤ tt) h)
    ∙ ap (λ (t : Bool). cond t None (Some (record start { expects = Original; map = record start.map { version = n } }))) (ne_eqb n 0 (λ z. omega (arith, z, one)))

few_entries : (m : MapFile) → IsMap m → length m.repairs ≤ most_repairs_over m.inner
few_entries m v =
    let none : (es : List Entry) → m.inner ≡ 0 → All (Fits m.version) es → All (IsProper m.inner) (repairs_of es) → length es ≤ 0 =
    λ (es : List Entry). elim es as (λ es. m.inner ≡ 0 → All (Fits m.version) es → All (IsProper m.inner) (repairs_of es) → length es ≤ 0) [
      | [] ↦ λ z f h. omega arith
      | ◌∷◌ e es ↦ λ z f h. absurd (let one : 1 ≤ m.inner = entry_inner m.version m.inner e (All-head (Fits m.version) e es f) (All-front (IsProper m.inner) (repairs_in e) (repairs_of es) h) in omega (arith, one, z))
    ] in
    let step : (t : Bool) → nat_eq m.inner 0 ≡ t → length m.repairs ≤ cond t 0 most_repairs =
    λ (t : Bool). elim t as (λ t. nat_eq m.inner 0 ≡ t → length m.repairs ≤ cond t 0 most_repairs) [
      | true ↦ λ e. none m.repairs (eqb-true m.inner 0 e) v.entries_fit v.repairs_proper
      | false ↦ λ e. omega (arith, v.repairs_few, entries_few m.version m.repairs v.entries_fit)
    ] in
    step (nat_eq m.inner 0) refl

pub run_map : (m : MapFile) → IsMap m → run start (map_lines m) ≡ Some (done m)
run_map m v =
    let m1 : MapFile = record start.map { version = m.version } in
    let s1 : Reader = record start { expects = Original; map = m1 } in
    let s2 : Reader = at_stage Inner 0 0 (record m1 { original = m.original }) in
    let s3 : Reader = at_stage Written 0 0 (record m1 { original = m.original; inner = m.inner }) in
    let s4 : Reader = at_stage Offset 0 0 (record m1 { original = m.original; inner = m.inner; written = m.written }) in
    let s5 : Reader = at_stage Names 0 0 (record m1 { original = m.original; inner = m.inner; written = m.written; offset = m.offset }) in
    let s6 : Reader = at_stage Count 0 0 (record m { repairs = [] }) in
    let s7 : Reader = at_stage (expected_before (length m.repairs)) (length m.repairs) (length m.repairs) (record m { repairs = [] }) in
    let small : m.inner ≤ greatest = omega (arith, v.inner) in
    let l2 : List (List ℕ) = number_line (codes "original") m.original in
    let l3 : List (List ℕ) = number_line (codes "inner") m.inner in
    let l4 : List (List ℕ) = number_line (codes "written") m.written in
    let l5 : List (List ℕ) = number_line (codes "offset") m.offset in
    let l6 : List (List ℕ) = codes "names" ∷ map decimal m.names in
    let l7 : List (List ℕ) = number_line (codes "repairs") (length m.repairs) in
    let t7 : List (List (List ℕ)) = map entry_words m.repairs ++ (codes "end" ∷ []) ∷ [] in
    let t6 : List (List (List ℕ)) = l7 ∷ t7 in
    let t5 : List (List (List ℕ)) = l6 ∷ t6 in
    let t4 : List (List (List ℕ)) = l5 ∷ t5 in
    let t3 : List (List (List ℕ)) = l4 ∷ t4 in
    let t2 : List (List (List ℕ)) = l3 ∷ t3 in
    let at_last : Option Reader = Some (done m) in
    run_step start s1 (header m.version) (l2 ∷ t2) at_last (next_header m.version v.first_version v.last_version)
    (run_step s1 s2 l2 t2 at_last (ap (option_map (λ n. record s1 { expects = Inner; map = record s1.map { original = n } })) (number_complete (codes "original") most_original m.original (lit≤ tt) v.original))
    (run_step s2 s3 l3 t3 at_last (ap (inner_read s2) (number_complete (codes "inner") most_inner m.inner (lit≤ tt) v.inner) ∙ ap (λ (t : Bool). cond t (Some s3) None) (le-leb m.original m.inner v.least_inner))
    (run_step s3 s4 l4 t4 at_last (ap (option_map (λ n. record s3 { expects = Offset; map = record s3.map { written = n } })) (number_complete (codes "written") m.inner m.written small v.written))
    (run_step s4 s5 l5 t5 at_last (ap (option_map (λ n. record s4 { expects = Names; map = record s4.map { offset = n } })) (number_complete (codes "offset") (weight_bound - 1) m.offset (lit≤ tt) (omega (arith, v.offset))))
    (run_step s5 s6 l6 t6 at_last (ap (option_map (λ ns. record s5 { expects = Count; map = record s5.map { names = ns } })) (names_complete m.inner m.written m.names small v.each_named v.names_rising))
    (run_step s6 s7 l7 t7 at_last (ap (option_map (λ n. record s6 { expects = expected_before n; left = n; least = n })) (number_complete (codes "repairs") (most_repairs_over m.inner) (length m.repairs) (over_small m.inner) (few_entries m v)))
    (ap (λ (k : ℕ). run (at_stage (expected_before (length m.repairs)) (length m.repairs) k (record m { repairs = [] })) t7) (sym (zero-add (length m.repairs)))
    ∙ run_entries m [] m.repairs ((codes "end" ∷ []) ∷ []) small v.entries_fit v.repairs_proper (omega (arith, v.repairs_few)))))))))
