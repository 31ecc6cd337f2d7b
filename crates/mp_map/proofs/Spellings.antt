-- How a map's text is put together.
use Rattle.std.proofs.Common.{◌≡◌, ◌++◌, ◌∷◌, [], ℕ, List, codes, decimal, ◌≤◌, length, map, take, refl, ap, sym, ◌∙◌, append_assoc}
use Rattle.std.proofs.lemmas.List.{append-nil, flat_map_more, take_all}
use Rattle.std.specs.List.{flat_map, join_with_byte}
use Rattle.mp_logic.specs.Literal.{Literal}
use Rattle.mp_map.specs.declared.maps.Entry.{Entry}
use Rattle.mp_map.specs.declared.maps.MapFile.{MapFile}
use Rattle.mp_text.specs.Lines.{line_text}
use Rattle.mp_text.proofs.Lines.{words_behind, text_of-append}
use Rattle.mp_text.specs.Writing.{literal_word, clause_words}
use Rattle.mp_map.specs.Maps.{entry_words, map_text}

-- the lines before those of the repairs
abbrev pub head_lines : MapFile → List (List (List ℕ))
head_lines m =
    (codes "maxpre-map" ∷ decimal m.version ∷ [])
    ∷ (codes "original" ∷ decimal m.original ∷ [])
    ∷ (codes "inner" ∷ decimal m.inner ∷ [])
    ∷ (codes "written" ∷ decimal m.written ∷ [])
    ∷ (codes "offset" ∷ decimal m.offset ∷ [])
    ∷ (codes "names" ∷ map decimal m.names)
    ∷ (codes "repairs" ∷ decimal (length m.repairs) ∷ [])
    ∷ []

abbrev pub head_text : MapFile → List ℕ
head_text m = flat_map line_text (head_lines m)

pub join_more : (x : List ℕ) (ys : List (List ℕ)) (w : List ℕ) → join_with_byte 32 (x ∷ (ys ++ w ∷ [])) ≡ x ++ 32 ∷ join_with_byte 32 (ys ++ w ∷ [])
join_more x [] w = refl
join_more x (y ∷ ys) w = refl

pub join-append : (us : List (List ℕ)) (a : List ℕ) (bs : List (List ℕ)) (b : List ℕ)
    → join_with_byte 32 ((us ++ a ∷ []) ++ (bs ++ b ∷ [])) ≡ join_with_byte 32 (us ++ a ∷ []) ++ 32 ∷ join_with_byte 32 (bs ++ b ∷ [])
join-append [] a bs b = join_more a bs b
join-append (x ∷ []) a bs b =
    ap (λ (v : List ℕ). x ++ 32 ∷ v) (join-append [] a bs b) ∙ sym (append_assoc x (32 ∷ a) (32 ∷ join_with_byte 32 (bs ++ b ∷ [])))
join-append (x ∷ y ∷ us) a bs b =
    ap (λ (v : List ℕ). x ++ 32 ∷ v) (join-append (y ∷ us) a bs b) ∙ sym (append_assoc x (32 ∷ join_with_byte 32 ((y ∷ us) ++ a ∷ [])) (32 ∷ join_with_byte 32 (bs ++ b ∷ [])))

-- each literal before a blank, and then the 0
pub join-clause_words : (c : List Literal) → join_with_byte 32 (clause_words c) ≡ flat_map (λ k. literal_word k ++ 32 ∷ []) c ++ codes "0"
join-clause_words [] = refl
join-clause_words (k ∷ c) =
    join_more (literal_word k) (map literal_word c) (codes "0")
    ∙ ap (λ (v : List ℕ). literal_word k ++ 32 ∷ v) (join-clause_words c)
    ∙ sym (ap (λ (v : List ℕ). v ++ codes "0") (append_assoc (literal_word k) (32 ∷ []) (flat_map (λ k. literal_word k ++ 32 ∷ []) c)) ∙ append_assoc (literal_word k) (32 ∷ flat_map (λ k. literal_word k ++ 32 ∷ []) c) (codes "0"))

pub clause_done : (old text now : List ℕ) (c : List Literal) (i : ℕ) → length c ≤ i → text ≡ old ++ flat_map (λ k. literal_word k ++ 32 ∷ []) (take i c) → now ≡ text ++ codes "0"
    → now ≡ old ++ join_with_byte 32 (clause_words c)
clause_done old text now c i all was is =
    rw (is, was, take_all i c all, append_assoc, ← join-clause_words c) refl

pub names_done : (old text now names : List ℕ) (i : ℕ) → length names ≤ i → text ≡ old ++ (codes "names" ++ flat_map (λ n. 32 ∷ decimal n) (take i names)) → now ≡ text ++ 10 ∷ []
    → now ≡ old ++ line_text (codes "names" ∷ map decimal names)
names_done old text now names i all was is =
    is ∙ ap (λ (v : List ℕ). v ++ 10 ∷ []) (was ∙ ap (λ (v : List ℕ). old ++ (codes "names" ++ flat_map (λ n. 32 ∷ decimal n) v)) (take_all i names all) ∙ ap (λ (v : List ℕ). old ++ v) (sym (words_behind decimal (codes "names") names)))
    ∙ append_assoc old (join_with_byte 32 (codes "names" ∷ map decimal names)) (10 ∷ [])

-- each clause behind a blank
abbrev pub clauses_behind : List (List Literal) → List ℕ
clauses_behind cs = flat_map (λ c. 32 ∷ join_with_byte 32 (clause_words c)) cs

join-clauses : (us : List (List ℕ)) (a : List ℕ) (cs : List (List Literal)) → join_with_byte 32 ((us ++ a ∷ []) ++ flat_map clause_words cs) ≡ join_with_byte 32 (us ++ a ∷ []) ++ clauses_behind cs
join-clauses us a [] = ap (join_with_byte 32) (append-nil (us ++ a ∷ [])) ∙ sym (append-nil (join_with_byte 32 (us ++ a ∷ [])))
join-clauses us a (c ∷ cs) =
    let front : List (List ℕ) = us ++ a ∷ [] in
    let more : List (List ℕ) = flat_map clause_words cs in
    let whole : front ++ (clause_words c ++ more) ≡ ((front ++ map literal_word c) ++ codes "0" ∷ []) ++ more =
    sym (append_assoc front (clause_words c) more) ∙ ap (λ (v : List (List ℕ)). v ++ more) (sym (append_assoc front (map literal_word c) (codes "0" ∷ []))) in
    ap (join_with_byte 32) whole
    ∙ join-clauses (front ++ map literal_word c) (codes "0") cs
    ∙ ap (λ (v : List (List ℕ)). join_with_byte 32 v ++ clauses_behind cs) (append_assoc front (map literal_word c) (codes "0" ∷ []))
    ∙ ap (λ (v : List ℕ). v ++ clauses_behind cs) (join-append us a (map literal_word c) (codes "0"))
    ∙ append_assoc (join_with_byte 32 front) (32 ∷ join_with_byte 32 (clause_words c)) (clauses_behind cs)

pub entry_done : (old text now : List ℕ) (e : Entry) (i : ℕ) → length e.clauses ≤ i → text ≡ old ++ (join_with_byte 32 (clause_words e.sets) ++ clauses_behind (take i e.clauses)) → now ≡ text ++ 10 ∷ []
    → now ≡ old ++ line_text (entry_words e)
entry_done old text now e i all was is =
    is ∙ ap (λ (v : List ℕ). v ++ 10 ∷ []) (was ∙ ap (λ (v : List (List Literal)). old ++ (join_with_byte 32 (clause_words e.sets) ++ clauses_behind v)) (take_all i e.clauses all) ∙ ap (λ (v : List ℕ). old ++ v) (sym (join-clauses (map literal_word e.sets) (codes "0") e.clauses)))
    ∙ append_assoc old (join_with_byte 32 (entry_words e)) (10 ∷ [])

-- one clause more behind a blank
pub clause_more : (old text b now s : List ℕ) (cs : List (List Literal)) (c : List Literal) → text ≡ old ++ (s ++ clauses_behind cs) → b ≡ text ++ 32 ∷ [] → now ≡ b ++ join_with_byte 32 (clause_words c)
    → now ≡ old ++ (s ++ clauses_behind (cs ++ c ∷ []))
clause_more old text b now s cs c was blank is =
    let words : List ℕ = join_with_byte 32 (clause_words c) in
    is ∙ ap (λ (v : List ℕ). v ++ words) blank ∙ append_assoc text (32 ∷ []) words ∙ ap (λ (v : List ℕ). v ++ 32 ∷ words) was
    ∙ append_assoc old (s ++ clauses_behind cs) (32 ∷ words) ∙ ap (λ (v : List ℕ). old ++ v) (flat_map_more (λ c. 32 ∷ join_with_byte 32 (clause_words c)) s cs c)

lines-map : (es : List Entry) → flat_map line_text (map entry_words es) ≡ flat_map (λ e. line_text (entry_words e)) es
lines-map [] = refl
lines-map (e ∷ es) = ap (λ (v : List ℕ). line_text (entry_words e) ++ v) (lines-map es)

pub map_done : (m : MapFile) (text now : List ℕ) (i : ℕ) → length m.repairs ≤ i → text ≡ head_text m ++ flat_map (λ e. line_text (entry_words e)) (take i m.repairs) → now ≡ text ++ codes "end\n"
    → now ≡ map_text m
map_done m text now i all was is =
    let tail : List (List (List ℕ)) = (codes "end" ∷ []) ∷ [] in
    is ∙ ap (λ (v : List ℕ). v ++ codes "end\n") (was ∙ ap (λ (v : List Entry). head_text m ++ flat_map (λ e. line_text (entry_words e)) v) (take_all i m.repairs all) ∙ ap (λ (v : List ℕ). head_text m ++ v) (sym (lines-map m.repairs)))
    ∙ append_assoc (head_text m) (flat_map line_text (map entry_words m.repairs)) (codes "end\n")
    ∙ ap (λ (v : List ℕ). head_text m ++ v) (sym (text_of-append (map entry_words m.repairs) tail))
    ∙ sym (text_of-append (head_lines m) (map entry_words m.repairs ++ tail))
