-- What reading a whole text answers.
use Rattle.std.proofs.Common.{◌≡◌, ◌≤◌, ◌+◌, ◌-◌, ◌⊎◌, inl, inr, ℕ, Bool, true, false, cond, List, [], ◌∷◌, ◌++◌, length, map, Option, Some, None, Result, Ok, Err, IfOk, IfErr, refl, ap, subst, sym, ◌∙◌, arith, append_assoc, length-append}
use Rattle.std.specs.Prelude.{nat_eq}
use Rattle.std.specs.List.{count_by, join_with_byte, list_all}
use Rattle.std.proofs.lemmas.Bool.{and_parts, ne_eqb}
use Rattle.std.proofs.lemmas.List.{append-nil}
use Rattle.std.proofs.lemmas.List.Folds.{list_all-append}
use Rattle.std.proofs.lemmas.List.Splits.{join_with_byte-slice_split}
use Rattle.std.proofs.lemmas.Option.{none-some}
use Rattle.mp_text.specs.Tokens.{ends_line}
use Rattle.mp_map.specs.Answers.{Answers}
use Rattle.mp_text.specs.Lines.{line_behind, end_line}
use Rattle.mp_map.specs.Faults.{BeginsSpelling, IsFirstFault, IsFaultLine, IsRefused, IsSpelling, OneSpelling}
use Rattle.mp_text.specs.Lines.{line_text, text_of}
use Rattle.mp_text.proofs.Lines.{text_of-append}
use Rattle.mp_map.specs.Maps.{IsMap, map_lines, map_text}
use Rattle.mp_map.specs.Pieces.{pieces_at}
use Rattle.mp_map.specs.Reading.{words_in, next, finished, end_at, read_with, read_on, read_pieces, read_text, start}
use Rattle.mp_map.specs.declared.maps.MapFile.{MapFile}
use Rattle.mp_map.specs.declared.maps.MapError.{MapError}
use Rattle.mp_map.specs.declared.maps.MapError.TheVariants as errors
use Rattle.mp_map.specs.declared.reading.Expects.{Expects}
use Rattle.mp_map.specs.declared.reading.Expects.TheVariants.{Header, Original, Inner, Written, Offset, Names, Count, Mend, End, Nothing}
use Rattle.mp_map.specs.declared.reading.Reader.{Reader}
use Rattle.mp_map.proofs.Lines.{GoesOn, split, count_more, closed, early, count_lacks, lacks-front, fault_line, fault_tail, end_line-last}
use Rattle.mp_map.proofs.Pieces.{pieces_some}
use Rattle.mp_map.proofs.Runs.{run, run_with, run-append, run_map, done}
use Rattle.mp_map.proofs.Stages.{IsReader, Goes, Completes, lines_at, complete_at, step_at, completes, bare_valid}
use Rattle.mp_map.proofs.Texts.{lacks, is_line, map_good, pieces_cut, pieces_lack, pieces_lines}

-- the lines that were read
abbrev lines_of : Reader → List (List (List ℕ))
lines_of r = lines_at r.expects r

ok_err : (m : MapFile) (n : ℕ) → Ok m ≡ Err n → ⊥
ok_err m n e = cc

err_ok : (n : ℕ) (m : MapFile) → Err n ≡ Ok m → ⊥
err_ok n m e = cc

same_ok : (m n : MapFile) → ◌≡◌ {A = Result MapFile ℕ} (Ok m) (Ok n) → m ≡ n
same_ok m n e = cc

same_err : (m n : ℕ) → ◌≡◌ {A = Result MapFile ℕ} (Err m) (Err n) → m ≡ n
same_err m n e = cc

-- a valid map's text is read as the map

run_some : (o : Option Reader) (go : Reader → Option Reader) (s : Reader) → run_with o go ≡ Some s → (r : Reader) × (o ≡ Some r) × (go r ≡ Some s)
run_some None go s h = absurd (none-some s h)
run_some (Some r) go s h = (r, refl, h)

record EndsAt (r s : Reader) (n : ℕ) (ps : List (List ℕ)) (last : List (List ℕ)) : Type 0 where
  tail : List ℕ
  line : ℕ
  words : words_in tail ≡ last
  ends : read_pieces r n ps ≡ end_at s line tail

no_lines : (last : List (List ℕ)) (lines : List (List (List ℕ))) → [] ≡ lines ++ last ∷ [] → ⊥
no_lines last [] e = cc
no_lines last (l ∷ lines) e = cc

one_last : (w : List (List ℕ)) (v : List (List ℕ)) (last : List (List ℕ)) (vs : List (List (List ℕ))) → w ∷ (v ∷ vs) ≡ last ∷ [] → ⊥
one_last w v last vs e = cc

heads_tails : (w v : List (List ℕ)) (ws vs : List (List (List ℕ))) → w ∷ ws ≡ v ∷ vs → (w ≡ v) × (ws ≡ vs)
heads_tails w v ws vs e = (cc, cc)

read_run : (lines : List (List (List ℕ))) (ps : List (List ℕ)) (r s : Reader) (n : ℕ) (last : List (List ℕ)) → map words_in ps ≡ lines ++ last ∷ [] → run r lines ≡ Some s → EndsAt r s n ps last
read_run lines [] r s n last e h = absurd (no_lines last lines e)
read_run [] (t ∷ []) r s n last e h =
    let same : r ≡ s = cc in
    record { tail = t; line = n; words = (heads_tails (words_in t) last [] [] e).0; ends = ap (λ (k : Reader). end_at k n t) same }
read_run [] (t ∷ (q ∷ qs)) r s n last e h = absurd (one_last (words_in t) (words_in q) last (map words_in qs) e)
read_run (l ∷ lines) (t ∷ []) r s n last e h = absurd (no_lines last lines (heads_tails (words_in t) l [] (lines ++ last ∷ []) e).1)
read_run (l ∷ lines) (t ∷ (q ∷ qs)) r s n last e h =
    let p = heads_tails (words_in t) l (map words_in (q ∷ qs)) (lines ++ last ∷ []) e in
    let u = run_some (next r l) (λ k. run k lines) s h in
    let k : EndsAt u.0 s (n + 1) (q ∷ qs) last = read_run lines (q ∷ qs) u.0 s (n + 1) last p.1 u.2 in
    record {
      tail = k.tail;
      line = k.line;
      words = k.words;
      ends = ap (λ (o : Option Reader). read_with o n (λ k. read_on k (n + 1) q qs)) (ap (next r) p.0 ∙ u.1) ∙ k.ends;
    }

map_pieces : (m : MapFile) → IsMap m → map words_in (pieces_at 10 (map_text m)) ≡ map_lines m ++ ([] ∷ []) ∷ []
map_pieces m v = ap (λ (t : List ℕ). map words_in (pieces_at 10 t)) (sym (append-nil (map_text m))) ∙ pieces_lines (map_lines m) [] (map_good m v)

pub read_map_text : (m : MapFile) → IsMap m → read_text (map_text m) ≡ Ok m
read_map_text m v =
    let k : EndsAt start (done m) 1 (pieces_at 10 (map_text m)) ([] ∷ []) = read_run (map_lines m) (pieces_at 10 (map_text m)) start (done m) 1 ([] ∷ []) (map_pieces m v) (run_map m v) in
    let none : k.tail ≡ [] = sym (join_with_byte-slice_split 32 k.tail) ∙ ap (join_with_byte 32) k.words in
    k.ends ∙ ap (end_at (done m) k.line) none

pub one_spelling : OneSpelling
one_spelling m n v w e = same_ok m n (sym (read_map_text m v) ∙ ap read_text e ∙ read_map_text n w)

-- what is read is a valid map, and the text is its spelling

end_sound : (e : Expects) (r : Reader) (n : ℕ) (m : MapFile) → IsMap (complete_at e r) → finished e r.map n ≡ Ok m → IsMap m × (map_lines m ≡ lines_at e r)
end_sound Header r n m v h = absurd (err_ok _ m h)
end_sound Original r n m v h = absurd (err_ok _ m h)
end_sound Inner r n m v h = absurd (err_ok _ m h)
end_sound Written r n m v h = absurd (err_ok _ m h)
end_sound Offset r n m v h = absurd (err_ok _ m h)
end_sound Names r n m v h = absurd (err_ok _ m h)
end_sound Count r n m v h = absurd (err_ok _ m h)
end_sound Mend r n m v h = absurd (err_ok _ m h)
end_sound End r n m v h = absurd (err_ok _ m h)
end_sound Nothing r n m v h =
    let same : r.map ≡ m = same_ok r.map m h in
    (subst IsMap same v, ap map_lines (sym same))

text_step : (r s : Reader) (t : List ℕ) → Goes r.expects r s (words_in t) → text_of (lines_of s) ≡ text_of (lines_of r) ++ (t ++ 10 ∷ [])
text_step r s t g =
    ap text_of g.lines ∙ text_of-append (lines_of r) (words_in t ∷ [])
    ∙ ap (λ (v : List ℕ). text_of (lines_of r) ++ v) (append-nil (line_text (words_in t)) ∙ ap (λ (v : List ℕ). v ++ 10 ∷ []) (join_with_byte-slice_split 32 t))

read_some : (o : Option Reader) (n : ℕ) (go : Reader → Result MapFile ℕ) (m : MapFile) → read_with o n go ≡ Ok m → (s : Reader) × (o ≡ Some s) × (go s ≡ Ok m)
read_some None n go m h = absurd (err_ok n m h)
read_some (Some s) n go m h = (s, refl, h)

end_at_sound : (t : List ℕ) (r : Reader) (n : ℕ) (m : MapFile) → IsReader r → end_at r n t ≡ Ok m → IsMap m × (map_text m ≡ text_of (lines_of r) ++ t)
end_at_sound [] r n m v h =
    let p = end_sound r.expects r n m v.valid h in
    (p.0, ap text_of p.1 ∙ sym (append-nil (text_of (lines_of r))))
end_at_sound (b ∷ bs) r n m v h = absurd (err_ok n m h)

sound_on : (ps : List (List ℕ)) (t : List ℕ) (r : Reader) (n : ℕ) (m : MapFile) → IsReader r → read_on r n t ps ≡ Ok m → IsMap m × (map_text m ≡ text_of (lines_of r) ++ join_with_byte 10 (t ∷ ps))
sound_on [] t r n m v h = end_at_sound t r n m v h
sound_on (q ∷ qs) t r n m v h =
    let u = read_some (next r (words_in t)) n (λ k. read_on k (n + 1) q qs) m h in
    let g : Goes r.expects r u.0 (words_in t) = step_at r.expects r u.0 (words_in t) v.valid v.facts u.1 in
    let p = sound_on qs q u.0 (n + 1) m g.reader u.2 in
    let rest : List ℕ = join_with_byte 10 (q ∷ qs) in
    (p.0, p.1 ∙ ap (λ (v : List ℕ). v ++ rest) (text_step r u.0 t g) ∙ append_assoc (text_of (lines_of r)) (t ++ 10 ∷ []) rest ∙ ap (λ (v : List ℕ). text_of (lines_of r) ++ v) (append_assoc t (10 ∷ []) rest))

begins_start : IsReader start
begins_start = record { valid = bare_valid 1 0 0 (omega arith) (omega arith) (omega arith) (omega arith) (omega arith); facts = refl }

pub read_sound : (text : List ℕ) (m : MapFile) → read_text text ≡ Ok m → IsMap m × (map_text m ≡ text)
read_sound text m h =
    let from : (ps : List (List ℕ)) → Type 0 = λ ps. read_pieces start 1 ps ≡ Ok m → join_with_byte 10 ps ≡ text → IsMap m × (map_text m ≡ text) in
    pieces_some 10 text from (λ t ps k whole. let p = sound_on ps t start 1 m begins_start k in (p.0, p.1 ∙ whole)) h (join_with_byte-slice_split 10 text)

-- where the reader stops, the line at fault is

begins_read : (r : Reader) → IsReader r → BeginsSpelling (text_of (lines_of r))
begins_read r v =
    let c : Completes r.expects r = completes r.expects r in
    (complete_at r.expects r, text_of c.more, v.valid, ap text_of c.whole ∙ text_of-append (lines_of r) c.more)

lines_good : (r : Reader) → IsReader r → list_all is_line (lines_of r) ≡ true
lines_good r v =
    let c : Completes r.expects r = completes r.expects r in
    (and_parts (list_all is_line (lines_of r)) (list_all is_line c.more) (sym (list_all-append is_line (lines_of r) c.more) ∙ ap (list_all is_line) (sym c.whole) ∙ map_good (complete_at r.expects r) v.valid)).0

pub some_pieces : (s : ℕ) (bytes : List ℕ) → 1 ≤ length (map words_in (pieces_at s bytes))
some_pieces s bytes = pieces_some s bytes (λ ps. 1 ≤ length (map words_in ps)) (λ p ps. omega arith)

-- the lines of a map whose text goes on with a line, cut at that line
cut_behind : (m : MapFile) (read : List (List (List ℕ))) (t more : List ℕ) → IsMap m → list_all is_line read ≡ true → lacks 10 t ≡ true → map_text m ≡ (text_of read ++ (t ++ 10 ∷ [])) ++ more
    → map_lines m ++ ([] ∷ []) ∷ [] ≡ (read ++ words_in t ∷ []) ++ map words_in (pieces_at 10 more)
cut_behind m read t more v good lack e =
    sym (map_pieces m v)
    ∙ ap (λ (x : List ℕ). map words_in (pieces_at 10 x)) (e ∙ append_assoc (text_of read) (t ++ 10 ∷ []) more ∙ ap (λ (v : List ℕ). text_of read ++ v) (append_assoc t (10 ∷ []) more))
    ∙ pieces_lines read (t ++ 10 ∷ more) good
    ∙ ap (λ (ps : List (List ℕ)). read ++ map words_in ps) (pieces_cut 10 t more lack)
    ∙ sym (append_assoc read (words_in t ∷ []) (map words_in (pieces_at 10 more)))

-- a run stops at a line that is refused
stops_at : (r : Reader) (read lines rest : List (List (List ℕ))) (ws last : List (List ℕ)) → run start read ≡ Some r → next r ws ≡ None → 1 ≤ length rest → lines ++ last ∷ [] ≡ (read ++ ws ∷ []) ++ rest → run start lines ≡ None
stops_at r read lines rest ws last ran none some cut =
    let lens : length lines + 1 ≡ length (read ++ ws ∷ []) + length rest =
    sym (length-append lines (last ∷ [])) ∙ ap length cut ∙ length-append (read ++ ws ∷ []) rest in
    let g : GoesOn (read ++ ws ∷ []) rest lines (last ∷ []) = split (read ++ ws ∷ []) rest lines (last ∷ []) (sym cut) (omega (arith, lens, some)) in
    let stops : run start (read ++ ws ∷ []) ≡ None = run-append start read (ws ∷ []) ∙ ap (λ (o : Option Reader). run_with o (λ s. run s (ws ∷ []))) ran ∙ ap (λ (o : Option Reader). run_with o (λ s. Some s)) none in
    ap (run start) g.front ∙ run-append start (read ++ ws ∷ []) g.between ∙ ap (λ (o : Option Reader). run_with o (λ s. run s g.between)) stops

-- no spelling goes on with a line that the reader refuses
refuse : (r : Reader) (t : List ℕ) → IsReader r → run start (lines_of r) ≡ Some r → lacks 10 t ≡ true → next r (words_in t) ≡ None → BeginsSpelling (text_of (lines_of r) ++ (t ++ 10 ∷ [])) → ⊥
refuse r t v ran lack none b =
    none-some (done b.0) (sym (stops_at r (lines_of r) (map_lines b.0) (map words_in (pieces_at 10 b.1)) (words_in t) ([] ∷ []) ran none (some_pieces 10 b.1) (cut_behind b.0 (lines_of r) t b.1 b.2 (lines_good r v) lack b.3)) ∙ run_map b.0 b.2)

-- the reader stands before these pieces of the text, in line n
record Stands (r : Reader) (n : ℕ) (text : List ℕ) (ps : List (List ℕ)) : Type 0 where
  reader : IsReader r
  ran : run start (lines_of r) ≡ Some r
  whole : text ≡ text_of (lines_of r) ++ join_with_byte 10 ps
  line : n ≡ line_behind (text_of (lines_of r))
  lack : list_all (lacks 10) ps ≡ true

stands_next : (r s : Reader) (n : ℕ) (text t q : List ℕ) (qs : List (List ℕ)) → Stands r n text (t ∷ (q ∷ qs)) → next r (words_in t) ≡ Some s → Stands s (n + 1) text (q ∷ qs)
stands_next r s n text t q qs st e =
    let g : Goes r.expects r s (words_in t) = step_at r.expects r s (words_in t) st.reader.valid st.reader.facts e in
    let p = and_parts (lacks 10 t) (list_all (lacks 10) (q ∷ qs)) st.lack in
    let before : List ℕ = text_of (lines_of r) in
    let rest : List ℕ = join_with_byte 10 (q ∷ qs) in
    let now : text_of (lines_of s) ≡ before ++ (t ++ 10 ∷ []) = text_step r s t g in
    let none : count_by ends_line t ≡ 0 = count_lacks t p.0 in
    let counts : count_by ends_line (text_of (lines_of s)) ≡ count_by ends_line before + 1 =
    ap (count_by ends_line) now ∙ omega (arith, count_more before (t ++ 10 ∷ []), count_more t (10 ∷ []), none) in
    record {
      reader = g.reader;
      ran = ap (run start) g.lines ∙ run-append start (lines_of r) (words_in t ∷ []) ∙ ap (λ (o : Option Reader). run_with o (λ s. run s (words_in t ∷ []))) st.ran ∙ ap (λ (o : Option Reader). run_with o (λ s. Some s)) e;
      whole = st.whole ∙ sym (ap (λ (v : List ℕ). v ++ rest) now ∙ append_assoc before (t ++ 10 ∷ []) rest ∙ ap (λ (v : List ℕ). before ++ v) (append_assoc t (10 ∷ []) rest));
      line = omega (arith, st.line, counts);
      lack = p.1;
    }

first_end : (t : List ℕ) (r : Reader) (n k : ℕ) (text front : List ℕ) → Stands r n text (t ∷ []) → end_at r n t ≡ Err k → IsFirstFault text front → line_behind front ≡ k
first_end [] r n k text front st h fault =
    absurd (early text (text_of (lines_of r)) [] front fault st.whole (begins_read r st.reader)
    (let len : length text ≡ length (text_of (lines_of r)) = ap length (st.whole ∙ append-nil (text_of (lines_of r))) in
    omega (arith, len, ap length fault.whole, length-append front (fault.byte ∷ fault.after))))
first_end (b ∷ bs) r n k text front st h fault =
    let p = and_parts (lacks 10 (b ∷ bs)) true st.lack in
    fault_tail text (text_of (lines_of r)) (b ∷ bs) front st.whole p.0 (begins_read r st.reader) fault ∙ sym st.line ∙ same_err n k h

first_on : (ps : List (List ℕ)) (t : List ℕ) (r : Reader) (n k : ℕ) (text front : List ℕ) → Stands r n text (t ∷ ps) → read_on r n t ps ≡ Err k → IsFirstFault text front → line_behind front ≡ k
first_on [] t r n k text front st h fault = first_end t r n k text front st h fault
first_on (q ∷ qs) t r n k text front st h fault =
    let p = and_parts (lacks 10 t) (list_all (lacks 10) (q ∷ qs)) st.lack in
    let step : (o : Option Reader) → next r (words_in t) ≡ o → read_with o n (λ s. read_on s (n + 1) q qs) ≡ Err k → line_behind front ≡ k =
    λ (o : Option Reader). elim o as (λ o. next r (words_in t) ≡ o → read_with o n (λ s. read_on s (n + 1) q qs) ≡ Err k → line_behind front ≡ k) [
      | None ↦ λ e f.
          fault_line text (text_of (lines_of r)) t (join_with_byte 10 (q ∷ qs)) front 10 st.whole p.0 (begins_read r st.reader) (refuse r t st.reader st.ran p.0 e) fault
          ∙ sym st.line ∙ same_err n k f
      | Some s ↦ λ e f. first_on qs q s (n + 1) k text front (stands_next r s n text t q qs st e) f fault
    ] in
    step (next r (words_in t)) refl h

finished_err : (e : Expects) (m : MapFile) (n k : ℕ) → finished e m n ≡ Err k → cond (nat_eq n 1) 1 (n - 1) ≡ k
finished_err Header m n k h = same_err _ k h
finished_err Original m n k h = same_err _ k h
finished_err Inner m n k h = same_err _ k h
finished_err Written m n k h = same_err _ k h
finished_err Offset m n k h = same_err _ k h
finished_err Names m n k h = same_err _ k h
finished_err Count m n k h = same_err _ k h
finished_err Mend m n k h = same_err _ k h
finished_err End m n k h = same_err _ k h
finished_err Nothing m n k h = absurd (ok_err m k h)

-- a text of lines is empty, or ends in a line feed
text_ends : (lines : List (List (List ℕ))) → (text_of lines ≡ []) ⊎ ((a : List ℕ) × (text_of lines ≡ a ++ 10 ∷ []))
text_ends [] = inl refl
text_ends (ws ∷ lines) =
    let line : List ℕ = join_with_byte 32 ws in
    elim (text_ends lines) [
      | inl none ↦ inr (line, ap (λ (v : List ℕ). line_text ws ++ v) none ∙ append-nil (line_text ws))
      | inr some ↦ inr (line_text ws ++ some.0, ap (λ (v : List ℕ). line_text ws ++ v) some.1 ∙ sym (append_assoc (line_text ws) some.0 (10 ∷ [])))
    ]

last_line : (text : List ℕ) (lines : List (List (List ℕ))) (n : ℕ) → text ≡ text_of lines → n ≡ line_behind (text_of lines) → end_line text ≡ cond (nat_eq n 1) 1 (n - 1)
last_line text lines n whole line =
    elim (text_ends lines) [
      | inl none ↦
          let one : n ≡ 1 = line ∙ ap line_behind none in
          ap end_line (whole ∙ none) ∙ sym (ap (λ (k : ℕ). cond (nat_eq k 1) 1 (k - 1)) one)
      | inr some ↦
          let here : end_line text ≡ line_behind some.0 = ap end_line (whole ∙ some.1) ∙ end_line-last some.0 10 in
          let next_line : n ≡ line_behind some.0 + 1 = line ∙ ap line_behind some.1 ∙ omega (arith, count_more some.0 (10 ∷ [])) in
          let later : nat_eq n 1 ≡ false = ne_eqb n 1 (λ z. omega (arith, z, next_line)) in
          here ∙ sym (ap (λ (b : Bool). cond b 1 (n - 1)) later ∙ omega (arith, next_line))
    ]

-- a filled list has a last element
record HasLast (xs : List ℕ) : Type 0 where
  init : List ℕ
  last : ℕ
  whole : xs ≡ init ++ last ∷ []

has_last : (xs : List ℕ) (x : ℕ) → HasLast (x ∷ xs)
has_last [] x = record { init = []; last = x; whole = refl }
has_last (y ∷ xs) x = let h : HasLast (y ∷ xs) = has_last xs y in record { init = x ∷ h.init; last = h.last; whole = ap (λ (v : List ℕ). x ∷ v) h.whole }

last_end : (t : List ℕ) (r : Reader) (n k : ℕ) (text : List ℕ) → Stands r n text (t ∷ []) → end_at r n t ≡ Err k → end_line text ≡ k
last_end [] r n k text st h = last_line text (lines_of r) n (st.whole ∙ append-nil (text_of (lines_of r))) st.line ∙ finished_err r.expects r.map n k h
last_end (b ∷ bs) r n k text st h =
    let before : List ℕ = text_of (lines_of r) in
    let p = and_parts (lacks 10 (b ∷ bs)) true st.lack in
    let l : HasLast (b ∷ bs) = has_last bs b in
    let none : count_by ends_line l.init ≡ 0 = count_lacks l.init (lacks-front 10 l.init (l.last ∷ []) (subst (λ (v : List ℕ). lacks 10 v ≡ true) l.whole p.0)) in
    ap end_line (st.whole ∙ ap (λ (v : List ℕ). before ++ v) l.whole ∙ sym (append_assoc before l.init (l.last ∷ [])))
    ∙ end_line-last (before ++ l.init) l.last
    ∙ omega (arith, count_more before l.init, none) ∙ sym st.line ∙ same_err n k h

last_on : (ps : List (List ℕ)) (t : List ℕ) (r : Reader) (n k : ℕ) (text : List ℕ) → Stands r n text (t ∷ ps) → read_on r n t ps ≡ Err k → BeginsSpelling text → end_line text ≡ k
last_on [] t r n k text st h begins = last_end t r n k text st h
last_on (q ∷ qs) t r n k text st h begins =
    let p = and_parts (lacks 10 t) (list_all (lacks 10) (q ∷ qs)) st.lack in
    let before : List ℕ = text_of (lines_of r) in
    let rest : List ℕ = join_with_byte 10 (q ∷ qs) in
    let whole : text ≡ (before ++ (t ++ 10 ∷ [])) ++ rest = st.whole ∙ sym (append_assoc before (t ++ 10 ∷ []) rest ∙ ap (λ (v : List ℕ). before ++ v) (append_assoc t (10 ∷ []) rest)) in
    let step : (o : Option Reader) → next r (words_in t) ≡ o → read_with o n (λ s. read_on s (n + 1) q qs) ≡ Err k → end_line text ≡ k =
    λ (o : Option Reader). elim o as (λ o. next r (words_in t) ≡ o → read_with o n (λ s. read_on s (n + 1) q qs) ≡ Err k → end_line text ≡ k) [
      | None ↦ λ e f. absurd (refuse r t st.reader st.ran p.0 e (closed (before ++ (t ++ 10 ∷ [])) rest (subst BeginsSpelling whole begins)))
      | Some s ↦ λ e f. last_on qs q s (n + 1) k text (stands_next r s n text t q qs st e) f begins
    ] in
    step (next r (words_in t)) refl h

stands_start : (t : List ℕ) (ps : List (List ℕ)) (text : List ℕ) → join_with_byte 10 (t ∷ ps) ≡ text → list_all (lacks 10) (t ∷ ps) ≡ true → Stands start 1 text (t ∷ ps)
stands_start t ps text whole lack = record { reader = begins_start; ran = refl; whole = sym whole; line = refl; lack = lack }

pub read_fault : (text : List ℕ) (k : ℕ) → read_text text ≡ Err k → IsFaultLine text k
read_fault text k h =
    let from : (ps : List (List ℕ)) → Type 0 = λ ps. read_pieces start 1 ps ≡ Err k → join_with_byte 10 ps ≡ text → list_all (lacks 10) ps ≡ true → IsFaultLine text k in
    pieces_some 10 text from
    (λ t ps f whole lack.
    let st : Stands start 1 text (t ∷ ps) = stands_start t ps text whole lack in
    record { first = λ front fault. first_on ps t start 1 k text front st f fault; last = λ begins. last_on ps t start 1 k text st f begins })
    h (join_with_byte-slice_split 10 text) (pieces_lack 10 text)

-- the clauses

pub found_clause : (text : List ℕ) (o : Result MapFile MapError) → Answers (read_text text) o → IfOk o (λ m. IsMap m × (map_text m ≡ text))
found_clause text (Ok m) h = read_sound text m h
found_clause text (Err e) h = tt

no_spelling : (text : List ℕ) (k : ℕ) → read_text text ≡ Err k → IsSpelling text → ⊥
no_spelling text k h s = ok_err s.0 k (sym (read_map_text s.0 s.1) ∙ ap read_text s.2 ∙ h)

pub refused_clause : (text : List ℕ) (o : Result MapFile MapError) → Answers (read_text text) o → IfErr o (IsRefused text)
refused_clause text (Ok m) h = tt
refused_clause text (Err (errors.BadMap line)) h = (no_spelling text line h, read_fault text line h)
refused_clause text (Err errors.NoMemory) h = tt
