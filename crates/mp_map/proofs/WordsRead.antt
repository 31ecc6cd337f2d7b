-- The words of a line are read as they are written.
use Rattle.std.proofs.Common.{◌≡◌, ◌≢◌, ◌≤◌, ◌<◌, ◌+◌, ℕ, zero, suc, Bool, true, false, not, cond, ◌&&◌, IsTrue, List, [], ◌∷◌, ◌++◌, All, length, map, get_or, codes, decimal, Option, Some, None, refl, ap, subst, sym, ◌∙◌, arith}
use Rattle.std.specs.Prelude.{nat_eq, nat_lt, nat_le}
use Rattle.std.specs.List.{AllByRecursion, flat_map, list_all}
use Rattle.std.specs.Str.{bytes_eq}
use Rattle.std.proofs.lemmas.Bool.{and_parts, and_from, false_from_ne_true, false≢true, leb-true, le-leb, eqb-true, eq-eqb, ne_eqb}
use Rattle.std.proofs.Math.Dec.{eqb-suc-zero}
use Rattle.std.proofs.lemmas.List.Elements.{recursion_from_All, All-from_recursion, All-nil, All-cons, All-head, All-tail}
use Rattle.std.proofs.lemmas.Option.{none-some}
use Rattle.std.proofs.lemmas.Slice.Eq.{bytes_eq-Decides}
use Rattle.mp_logic.specs.Labelled.{IsProper, names_rise}
use Rattle.mp_logic.specs.Literal.{Literal, IsUpTo}
use Rattle.mp_logic.specs.Normal.{rises}
use Rattle.mp_logic.specs.declared.instances.Repair.{Repair}
use Rattle.mp_text.specs.Numbers.{greatest}
use Rattle.mp_text.proofs.Spelled.{first_digit}
use Rattle.mp_text.specs.Writing.{literal_word, clause_words}
use Rattle.mp_map.specs.Entries.{fits_version, repairs_in}
use Rattle.mp_map.specs.Maps.{entry_words, most_repairs}
use Rattle.mp_map.specs.declared.maps.Entry.{Entry}
use Rattle.mp_map.specs.Pieces.{is_empty}
use Rattle.mp_map.specs.Reading.{exact_of, number_in, put_first, numbers_in, checked_names, names_in, signed, literal_in, put_literal, clause_in, put_into_first, clauses_in, is_entry, checked_entry, entry_behind, entry_in}
use Rattle.mp_map.proofs.Joins.{Fits, some_clause}
use Rattle.mp_map.proofs.Numerals.{found, exact_complete}

pub if_some : {X : Type 0} (b : Bool) (o : Option X) (x : X) → cond b o None ≡ Some x → (b ≡ true) × (o ≡ Some x)
if_some true o x h = (refl, h)
if_some false o x h = absurd (none-some x h)

pub same_bytes : (xs : List ℕ) → bytes_eq xs xs ≡ true
same_bytes xs = (bytes_eq-Decides xs xs).1 refl

pub other_bytes : (xs ys : List ℕ) → (xs ≡ ys → ⊥) → bytes_eq xs ys ≡ false
other_bytes xs ys ne = false_from_ne_true (bytes_eq xs ys) (λ e. ne ((bytes_eq-Decides xs ys).0 e))

-- a word and a number

pub number_sound : (word : List ℕ) (most : ℕ) (ws : List (List ℕ)) (n : ℕ) → most ≤ greatest → number_in word most ws ≡ Some n → (ws ≡ word ∷ (decimal n ∷ [])) × (n ≤ most)
number_sound word most [] n small h = absurd (none-some n h)
number_sound word most (w ∷ []) n small h = absurd (none-some n h)
number_sound word most (w ∷ (d ∷ [])) n small h =
    let p = if_some (bytes_eq w word) (exact_of most d) n h in
    let f = found most d n small p.1 in
    (ap (λ (v : List ℕ). v ∷ (d ∷ [])) ((bytes_eq-Decides w word).0 p.0) ∙ ap (λ (v : List ℕ). word ∷ (v ∷ [])) f.0, f.1)
number_sound word most (w ∷ (d ∷ (e ∷ es))) n small h = absurd (none-some n h)

pub number_complete : (word : List ℕ) (most n : ℕ) → most ≤ greatest → n ≤ most → number_in word most (word ∷ (decimal n ∷ [])) ≡ Some n
number_complete word most n small h = ap (λ (t : Bool). cond t (exact_of most (decimal n)) None) (same_bytes word) ∙ exact_complete most n small h

-- names

put_first_some : {X : Type 0} (o : Option X) (rest : Option (List X)) (xs : List X) → put_first o rest ≡ Some xs → (x : X) × (ys : List X) × (o ≡ Some x) × (rest ≡ Some ys) × (x ∷ ys ≡ xs)
put_first_some None rest xs h = absurd (none-some xs h)
put_first_some (Some x) None xs h = absurd (none-some xs h)
put_first_some (Some x) (Some ys) xs h = (x, ys, refl, refl, cc)

numbers_sound : (most : ℕ) (ws : List (List ℕ)) (ns : List ℕ) → most ≤ greatest → numbers_in most ws ≡ Some ns → ws ≡ map decimal ns
numbers_sound most [] ns small h = ap (map decimal) (let e : [] ≡ ns = cc in e)
numbers_sound most (w ∷ ws) ns small h =
    let p = put_first_some (exact_of most w) (numbers_in most ws) ns h in
    ap (λ (v : List ℕ). v ∷ ws) (found most w p.0 small p.2).0 ∙ ap (λ (vs : List (List ℕ)). decimal p.0 ∷ vs) (numbers_sound most ws p.1 small p.3) ∙ ap (map decimal) p.4

numbers_complete : (least most : ℕ) (ns : List ℕ) → most ≤ greatest → IsTrue (names_rise least most ns) → numbers_in most (map decimal ns) ≡ Some ns
numbers_complete least most [] small h = refl
numbers_complete least most (n ∷ ns) small h =
    let p = and_parts (nat_lt least n && nat_le n most) (names_rise n most ns) h in
    let q = and_parts (nat_lt least n) (nat_le n most) p.0 in
    ap (λ (o : Option ℕ). put_first o (numbers_in most (map decimal ns))) (exact_complete most n small (leb-true _ _ q.1)) ∙ ap (put_first (Some n)) (numbers_complete n most ns small p.1)

checked_some : (inner written : ℕ) (o : Option (List ℕ)) (ns : List ℕ) → checked_names inner written o ≡ Some ns → (o ≡ Some ns) × (length ns ≡ written) × IsTrue (names_rise 0 inner ns)
checked_some inner written None ns h = absurd (none-some ns h)
checked_some inner written (Some names) ns h =
    let p = if_some (nat_eq (length names) written && names_rise 0 inner names) (Some names) ns h in
    let q = and_parts (nat_eq (length names) written) (names_rise 0 inner names) p.0 in
    let same : names ≡ ns = (let e : Some names ≡ Some ns = p.1 in cc) in
    (p.1, subst (λ (l : List ℕ). length l ≡ written) same (eqb-true _ _ q.0), subst (λ (l : List ℕ). IsTrue (names_rise 0 inner l)) same q.1)

pub names_sound : (inner written : ℕ) (ws : List (List ℕ)) (ns : List ℕ) → inner ≤ greatest → names_in inner written ws ≡ Some ns
    → (ws ≡ codes "names" ∷ map decimal ns) × (length ns ≡ written) × IsTrue (names_rise 0 inner ns)
names_sound inner written [] ns small h = absurd (none-some ns h)
names_sound inner written (w ∷ ws) ns small h =
    let p = if_some (bytes_eq w (codes "names")) (checked_names inner written (numbers_in inner ws)) ns h in
    let q = checked_some inner written (numbers_in inner ws) ns p.1 in
    (ap (λ (v : List ℕ). v ∷ ws) ((bytes_eq-Decides w (codes "names")).0 p.0) ∙ ap (λ (vs : List (List ℕ)). codes "names" ∷ vs) (numbers_sound inner ws ns small q.0), q.1, q.2)

pub names_complete : (inner written : ℕ) (ns : List ℕ) → inner ≤ greatest → length ns ≡ written → IsTrue (names_rise 0 inner ns) → names_in inner written (codes "names" ∷ map decimal ns) ≡ Some ns
names_complete inner written ns small len rising =
    ap (λ (t : Bool). cond t (checked_names inner written (numbers_in inner (map decimal ns))) None) (same_bytes (codes "names"))
    ∙ ap (checked_names inner written) (numbers_complete 0 inner ns small rising)
    ∙ ap (λ (t : Bool). cond t (Some ns) None) (and_from (nat_eq (length ns) written) (names_rise 0 inner ns) (eq-eqb _ _ len) rising)

-- literals

signed_some : (negative : Bool) (o : Option ℕ) (l : Literal) → signed negative o ≡ Some l → (o ≡ Some l.variable) × (l.negative ≡ negative) × (1 ≤ l.variable)
signed_some negative None l h = absurd (none-some l h)
signed_some negative (Some zero) l h = absurd (none-some l h)
signed_some negative (Some (suc n)) l h =
    let made : Literal = record { variable = suc n; negative = negative } in
    let same : made ≡ l = (let e : Some made ≡ Some l = ap (λ (t : Bool). cond t None (Some made)) (sym (eqb-suc-zero n)) ∙ h in cc) in
    (ap (λ (k : Literal). Some k.variable) same, ap (λ (k : Literal). k.negative) (sym same), subst (λ (k : Literal). 1 ≤ k.variable) same (omega arith))

literal_parts : (most : ℕ) (w : List ℕ) (l : Literal) (negative : Bool) → most ≤ greatest → signed negative (exact_of most w) ≡ Some l → (w ≡ decimal l.variable) × (l.negative ≡ negative) × IsUpTo most l
literal_parts most w l negative small h =
    let p = signed_some negative (exact_of most w) l h in
    let f = found most w l.variable small p.0 in
    (f.0, p.1, (p.2, f.1))

pub literal_sound : (most : ℕ) (w : List ℕ) (l : Literal) → most ≤ greatest → literal_in most w ≡ Some l → (w ≡ literal_word l) × IsUpTo most l
literal_sound most [] l small h = absurd (none-some l h)
literal_sound most (b ∷ bs) l small h =
    let step : (t : Bool) → nat_eq b 45 ≡ t → (b ∷ bs ≡ literal_word l) × IsUpTo most l =
    λ (t : Bool). elim t as (λ t. nat_eq b 45 ≡ t → (b ∷ bs ≡ literal_word l) × IsUpTo most l) [
      | true ↦ λ e.
          let p = literal_parts most bs l true small (ap (λ (t : Bool). cond t (signed true (exact_of most bs)) (signed false (exact_of most (b ∷ bs)))) (sym e) ∙ h) in
          (ap (λ (v : ℕ). v ∷ bs) (eqb-true b 45 e) ∙ ap (λ (v : List ℕ). 45 ∷ v) p.0 ∙ ap (λ (t : Bool). cond t (45 ∷ decimal l.variable) (decimal l.variable)) (sym p.1), p.2)
      | false ↦ λ e.
          let p = literal_parts most (b ∷ bs) l false small (ap (λ (t : Bool). cond t (signed true (exact_of most bs)) (signed false (exact_of most (b ∷ bs)))) (sym e) ∙ h) in
          (p.0 ∙ ap (λ (t : Bool). cond t (45 ∷ decimal l.variable) (decimal l.variable)) (sym p.1), p.2)
    ] in
    step (nat_eq b 45) refl

signed_made : (negative : Bool) (n : ℕ) → 1 ≤ n → signed negative (Some n) ≡ Some (record { variable = n; negative = negative })
signed_made negative zero h = absurd (omega (arith, h))
signed_made negative (suc n) h = ap (λ (t : Bool). cond t None (Some (record { variable = suc n; negative = negative }))) (eqb-suc-zero n)

-- a number from 1 begins with a digit from 1
positive_word : (most n : ℕ) (ds : List ℕ) → most ≤ greatest → 1 ≤ n → n ≤ most → ds ≡ decimal n → literal_in most ds ≡ Some (record { variable = n; negative = false })
positive_word most n [] small one h e = absurd (let f : 48 < get_or (decimal n) 0 0 = first_digit n one (omega (arith, small, h)) in let z : 48 < 0 = subst (λ (v : List ℕ). 48 < get_or v 0 0) (sym e) f in omega (arith, z))
positive_word most n (d ∷ ds) small one h e =
    let f : 48 < get_or (decimal n) 0 0 = first_digit n one (omega (arith, small, h)) in
    let z : 48 < d = subst (λ (v : List ℕ). 48 < get_or v 0 0) (sym e) f in
    let no : nat_eq d 45 ≡ false = ne_eqb d 45 (λ s. omega (arith, s, z)) in
    ap (λ (t : Bool). cond t (signed true (exact_of most ds)) (signed false (exact_of most (d ∷ ds)))) no
    ∙ ap (λ (v : List ℕ). signed false (exact_of most v)) e ∙ ap (signed false) (exact_complete most n small h) ∙ signed_made false n one

pub literal_complete : (most : ℕ) (l : Literal) → most ≤ greatest → IsUpTo most l → literal_in most (literal_word l) ≡ Some l
literal_complete most l small h =
    let step : (t : Bool) → l.negative ≡ t → literal_in most (cond t (45 ∷ decimal l.variable) (decimal l.variable)) ≡ Some (record { variable = l.variable; negative = t }) =
    λ (t : Bool). elim t as (λ t. l.negative ≡ t → literal_in most (cond t (45 ∷ decimal l.variable) (decimal l.variable)) ≡ Some (record { variable = l.variable; negative = t })) [
      | true ↦ λ e. ap (signed true) (exact_complete most l.variable small h.1) ∙ signed_made true l.variable h.0
      | false ↦ λ e. positive_word most l.variable (decimal l.variable) small h.0 h.1 refl
    ] in
    step l.negative refl

-- a literal's word isn't 0
literal_apart : (most : ℕ) (l : Literal) → most ≤ greatest → IsUpTo most l → bytes_eq (literal_word l) (codes "0") ≡ false
literal_apart most l small h =
    other_bytes (literal_word l) (codes "0") (λ e.
    let step : (t : Bool) → cond t (45 ∷ decimal l.variable) (decimal l.variable) ≡ codes "0" → ⊥ =
    λ (t : Bool). elim t as (λ t. cond t (45 ∷ decimal l.variable) (decimal l.variable) ≡ codes "0" → ⊥) [
      | true ↦ λ s. let n : 45 ≡ 48 = (ap (λ (v : List ℕ). get_or v 0 0) s) in omega (arith, n)
      | false ↦ λ s. let z : 48 < 48 = subst (λ (v : List ℕ). 48 < get_or v 0 0) s (first_digit l.variable h.0 (omega (arith, small, h.1))) in omega (arith, z)
    ] in
    step l.negative e)

-- clauses

some_pair : (p q : List Literal × List (List ℕ)) → Some p ≡ Some q → p ≡ q
some_pair p q h = cc

put_literal_some : (o : Option Literal) (rest : Option (List Literal × List (List ℕ))) (c : List Literal) (ws : List (List ℕ)) → put_literal o rest ≡ Some (c, ws)
    → (l : Literal) × (d : List Literal) × (o ≡ Some l) × (rest ≡ Some (d, ws)) × (l ∷ d ≡ c)
put_literal_some None rest c ws h = absurd (none-some (c, ws) h)
put_literal_some (Some l) None c ws h = absurd (none-some (c, ws) h)
put_literal_some (Some l) (Some (d, vs)) c ws h =
    let e : (l ∷ d, vs) ≡ (c, ws) = some_pair (l ∷ d, vs) (c, ws) h in
    (l, d, refl, ap (λ (v : List (List ℕ)). Some (d, v)) (ap (λ (p : List Literal × List (List ℕ)). p.1) e), ap (λ (p : List Literal × List (List ℕ)). p.0) e)

pub clause_sound : (most : ℕ) (ws : List (List ℕ)) (c : List Literal) (rest : List (List ℕ)) → most ≤ greatest → clause_in most ws ≡ Some (c, rest) → (ws ≡ clause_words c ++ rest) × AllByRecursion (IsUpTo most) c
clause_sound most [] c rest small h = absurd (none-some (c, rest) h)
clause_sound most (w ∷ ws) c rest small h =
    let step : (t : Bool) → bytes_eq w (codes "0") ≡ t → (w ∷ ws ≡ clause_words c ++ rest) × AllByRecursion (IsUpTo most) c =
    λ (t : Bool). elim t as (λ t. bytes_eq w (codes "0") ≡ t → (w ∷ ws ≡ clause_words c ++ rest) × AllByRecursion (IsUpTo most) c) [
      | true ↦ λ e.
          let k : Some ([], ws) ≡ Some (c, rest) = ap (λ (t : Bool). cond t (Some ([], ws)) (put_literal (literal_in most w) (clause_in most ws))) (sym e) ∙ h in
          let pair : ([], ws) ≡ (c, rest) = some_pair ([], ws) (c, rest) k in
          let none : [] ≡ c = ap (λ (p : List Literal × List (List ℕ)). p.0) pair in
          let same : ws ≡ rest = ap (λ (p : List Literal × List (List ℕ)). p.1) pair in
          (ap (λ (v : List ℕ). v ∷ ws) ((bytes_eq-Decides w (codes "0")).0 e) ∙ ap (λ (vs : List (List ℕ)). codes "0" ∷ vs) same ∙ ap (λ (d : List Literal). clause_words d ++ rest) none, subst (AllByRecursion (IsUpTo most)) none tt)
      | false ↦ λ e.
          let k : put_literal (literal_in most w) (clause_in most ws) ≡ Some (c, rest) = ap (λ (t : Bool). cond t (Some ([], ws)) (put_literal (literal_in most w) (clause_in most ws))) (sym e) ∙ h in
          let p = put_literal_some (literal_in most w) (clause_in most ws) c rest k in
          let first = literal_sound most w p.0 small p.2 in
          let others = clause_sound most ws p.1 rest small p.3 in
          (ap (λ (v : List ℕ). v ∷ ws) first.0 ∙ ap (λ (vs : List (List ℕ)). literal_word p.0 ∷ vs) others.0 ∙ ap (λ (d : List Literal). clause_words d ++ rest) p.4, subst (AllByRecursion (IsUpTo most)) p.4 (first.1, others.1))
    ] in
    step (bytes_eq w (codes "0")) refl

pub clause_complete : (most : ℕ) (c : List Literal) (rest : List (List ℕ)) → most ≤ greatest → AllByRecursion (IsUpTo most) c → clause_in most (clause_words c ++ rest) ≡ Some (c, rest)
clause_complete most [] rest small h = refl
clause_complete most (l ∷ c) rest small h =
    ap (λ (t : Bool). cond t (Some ([], clause_words c ++ rest)) (put_literal (literal_in most (literal_word l)) (clause_in most (clause_words c ++ rest)))) (literal_apart most l small h.0)
    ∙ ap (λ (o : Option Literal). put_literal o (clause_in most (clause_words c ++ rest))) (literal_complete most l small h.0)
    ∙ ap (put_literal (Some l)) (clause_complete most c rest small h.1)

-- entries

nonempty_from : {X : Type 0} (xs : List X) → not (is_empty xs) ≡ true → xs ≢ []
nonempty_from [] h e = false≢true h
nonempty_from (x ∷ xs) h e = cc

nonempty_to : {X : Type 0} (xs : List X) → xs ≢ [] → not (is_empty xs) ≡ true
nonempty_to [] h = absurd (h refl)
nonempty_to (x ∷ xs) h = refl

-- all clauses of a line

put_into_first_some : (o : Option Literal) (rest : Option (List (List Literal))) (cs : List (List Literal)) → put_into_first o rest ≡ Some cs
    → (l : Literal) × (c : List Literal) × (ds : List (List Literal)) × (o ≡ Some l) × (rest ≡ Some (c ∷ ds)) × ((l ∷ c) ∷ ds ≡ cs)
put_into_first_some None rest cs h = absurd (none-some cs h)
put_into_first_some (Some l) None cs h = absurd (none-some cs h)
put_into_first_some (Some l) (Some []) cs h = absurd (none-some cs h)
put_into_first_some (Some l) (Some (c ∷ ds)) cs h = (l, c, ds, refl, refl, let e : Some ((l ∷ c) ∷ ds) ≡ Some cs = h in cc)

abbrev AreUpTo : ℕ → List (List Literal) → Type 0
AreUpTo most cs = AllByRecursion (AllByRecursion (IsUpTo most)) cs

clauses_sound : (most : ℕ) (ws : List (List ℕ)) (cs : List (List Literal)) → most ≤ greatest → clauses_in most ws ≡ Some cs → (ws ≡ flat_map clause_words cs) × AreUpTo most cs
clauses_sound most [] cs small h =
    let none : [] ≡ cs = (let e : Some [] ≡ Some cs = h in cc) in
    (ap (flat_map clause_words) none, subst (AreUpTo most) none tt)
clauses_sound most (w ∷ ws) cs small h =
    let step : (t : Bool) → bytes_eq w (codes "0") ≡ t → (w ∷ ws ≡ flat_map clause_words cs) × AreUpTo most cs =
    λ (t : Bool). elim t as (λ t. bytes_eq w (codes "0") ≡ t → (w ∷ ws ≡ flat_map clause_words cs) × AreUpTo most cs) [
      | true ↦ λ e.
          let k : put_first (Some []) (clauses_in most ws) ≡ Some cs = ap (λ (t : Bool). cond t (put_first (Some []) (clauses_in most ws)) (put_into_first (literal_in most w) (clauses_in most ws))) (sym e) ∙ h in
          let p = put_first_some (Some []) (clauses_in most ws) cs k in
          let others = clauses_sound most ws p.1 small p.3 in
          let none : p.0 ≡ [] = (let f : Some [] ≡ Some p.0 = p.2 in cc) in
          let whole : [] ∷ p.1 ≡ cs = ap (λ (c : List Literal). c ∷ p.1) (sym none) ∙ p.4 in
          (ap (λ (v : List ℕ). v ∷ ws) ((bytes_eq-Decides w (codes "0")).0 e) ∙ ap (λ (vs : List (List ℕ)). codes "0" ∷ vs) others.0 ∙ ap (flat_map clause_words) whole, subst (AreUpTo most) whole (tt, others.1))
      | false ↦ λ e.
          let k : put_into_first (literal_in most w) (clauses_in most ws) ≡ Some cs = ap (λ (t : Bool). cond t (put_first (Some []) (clauses_in most ws)) (put_into_first (literal_in most w) (clauses_in most ws))) (sym e) ∙ h in
          let p = put_into_first_some (literal_in most w) (clauses_in most ws) cs k in
          let first = literal_sound most w p.0 small p.3 in
          let others = clauses_sound most ws (p.1 ∷ p.2) small p.4 in
          (ap (λ (v : List ℕ). v ∷ ws) first.0 ∙ ap (λ (vs : List (List ℕ)). literal_word p.0 ∷ vs) others.0 ∙ ap (flat_map clause_words) p.5, subst (AreUpTo most) p.5 ((first.1, others.1.0), others.1.1))
    ] in
    step (bytes_eq w (codes "0")) refl

clauses_from : (most : ℕ) (c : List Literal) (rest : List (List ℕ)) (cs : List (List Literal)) → most ≤ greatest → AllByRecursion (IsUpTo most) c → clauses_in most rest ≡ Some cs → clauses_in most (clause_words c ++ rest) ≡ Some (c ∷ cs)
clauses_from most [] rest cs small h k = ap (put_first (Some [])) k
clauses_from most (l ∷ c) rest cs small h k =
    let others : Option (List (List Literal)) = clauses_in most (clause_words c ++ rest) in
    ap (λ (t : Bool). cond t (put_first (Some []) others) (put_into_first (literal_in most (literal_word l)) others)) (literal_apart most l small h.0)
    ∙ ap (λ (o : Option Literal). put_into_first o others) (literal_complete most l small h.0)
    ∙ ap (put_into_first (Some l)) (clauses_from most c rest cs small h.1 k)

clauses_complete : (most : ℕ) (cs : List (List Literal)) → most ≤ greatest → AreUpTo most cs → clauses_in most (flat_map clause_words cs) ≡ Some cs
clauses_complete most [] small h = refl
clauses_complete most (c ∷ cs) small h = clauses_from most c (flat_map clause_words cs) cs small h.0 (clauses_complete most cs small h.1)

-- what is checked of an entry

record Stands (version least : ℕ) (sets : List Literal) (cs : List (List Literal)) : Type 0 where
  some : not (is_empty sets) ≡ true
  sets_normal : rises 0 sets ≡ true
  normal : list_all (rises 0) cs ≡ true
  fits : fits_version version (length cs) ≡ true
  few : least + length cs ≤ most_repairs + 1

stands_from : (version least : ℕ) (sets : List Literal) (cs : List (List Literal)) → is_entry version least sets cs ≡ true → Stands version least sets cs
stands_from version least sets cs h =
    let p = and_parts ((not (is_empty sets) && rises 0 sets) && list_all (rises 0) cs) (fits_version version (length cs) && nat_le (least + length cs) (most_repairs + 1)) h in
    let q = and_parts (not (is_empty sets) && rises 0 sets) (list_all (rises 0) cs) p.0 in
    let s = and_parts (not (is_empty sets)) (rises 0 sets) q.0 in
    let t = and_parts (fits_version version (length cs)) (nat_le (least + length cs) (most_repairs + 1)) p.1 in
    record { some = s.0; sets_normal = s.1; normal = q.1; fits = t.0; few = leb-true _ _ t.1 }

stands_to : (version least : ℕ) (sets : List Literal) (cs : List (List Literal)) → Stands version least sets cs → is_entry version least sets cs ≡ true
stands_to version least sets cs s =
    and_from ((not (is_empty sets) && rises 0 sets) && list_all (rises 0) cs) (fits_version version (length cs) && nat_le (least + length cs) (most_repairs + 1))
    (and_from (not (is_empty sets) && rises 0 sets) (list_all (rises 0) cs) (and_from (not (is_empty sets)) (rises 0 sets) s.some s.sets_normal) s.normal)
    (and_from (fits_version version (length cs)) (nat_le (least + length cs) (most_repairs + 1)) s.fits (le-leb _ _ s.few))

-- the repairs of an entry are proper where all its lists are

abbrev repair_for : List Literal → List Literal → Repair
repair_for sets c = record { sets = sets; clause = c }

proper_from : (most : ℕ) (sets : List Literal) (cs : List (List Literal)) → sets ≢ [] → rises 0 sets ≡ true → AllByRecursion (IsUpTo most) sets → list_all (rises 0) cs ≡ true → AreUpTo most cs → All (IsProper most) (map (repair_for sets) cs)
proper_from most sets [] some normal within all h = All-nil (IsProper most)
proper_from most sets (c ∷ cs) some normal within all h =
    let p = and_parts (rises 0 c) (list_all (rises 0) cs) all in
    All-cons (IsProper most) (repair_for sets c) (map (repair_for sets) cs)
    (record { sets_normal = normal; clause_normal = p.0; sets_some = some; sets_within = All-from_recursion (IsUpTo most) sets within; clause_within = All-from_recursion (IsUpTo most) c h.0 })
    (proper_from most sets cs some normal within p.1 h.1)

clauses_of : (most : ℕ) (sets : List Literal) (cs : List (List Literal)) → All (IsProper most) (map (repair_for sets) cs) → (list_all (rises 0) cs ≡ true) × AreUpTo most cs
clauses_of most sets [] h = (refl, tt)
clauses_of most sets (c ∷ cs) h =
    let own : IsProper most (repair_for sets c) = All-head (IsProper most) (repair_for sets c) (map (repair_for sets) cs) h in
    let rest = clauses_of most sets cs (All-tail (IsProper most) (repair_for sets c) (map (repair_for sets) cs) h) in
    (and_from (rises 0 c) (list_all (rises 0) cs) own.clause_normal rest.0, (recursion_from_All (IsUpTo most) c own.clause_within, rest.1))

-- the first repair of an entry that has one
pub first_proper_of : (most : ℕ) (sets : List Literal) (cs : List (List Literal)) → 0 < length cs → All (IsProper most) (map (repair_for sets) cs) → (c : List Literal) × IsProper most (repair_for sets c)
first_proper_of most sets [] k h = absurd (omega (arith, k))
first_proper_of most sets (c ∷ cs) k h = (c, All-head (IsProper most) (repair_for sets c) (map (repair_for sets) cs) h)

-- what is known of an entry that was read
pub record ReadsEntry (version least most : ℕ) (ws : List (List ℕ)) (e : Entry) : Type 0 where
  pub words : ws ≡ entry_words e
  pub proper : All (IsProper most) (repairs_in e)
  pub fits : Fits version e
  pub few : least + length e.clauses ≤ most_repairs + 1

checked_some_entry : (version least : ℕ) (sets : List Literal) (o : Option (List (List Literal))) (e : Entry) → checked_entry version least sets o ≡ Some e
    → (o ≡ Some e.clauses) × (sets ≡ e.sets) × Stands version least e.sets e.clauses
checked_some_entry version least sets None e h = absurd (none-some e h)
checked_some_entry version least sets (Some cs) e h =
    let made : Entry = record { sets = sets; clauses = cs } in
    let p = if_some (is_entry version least sets cs) (Some made) e h in
    let same : made ≡ e = (let f : Some made ≡ Some e = p.1 in cc) in
    (ap (λ (k : Entry). Some k.clauses) same, ap (λ (k : Entry). k.sets) same, subst (λ (k : Entry). Stands version least k.sets k.clauses) same (stands_from version least sets cs p.0))

entry_parts : (version least most : ℕ) (o : Option (List Literal × List (List ℕ))) (e : Entry) → entry_behind version least most o ≡ Some e
    → (ws : List (List ℕ)) × (o ≡ Some (e.sets, ws)) × (clauses_in most ws ≡ Some e.clauses) × Stands version least e.sets e.clauses
entry_parts version least most None e h = absurd (none-some e h)
entry_parts version least most (Some (sets, ws)) e h =
    let p = checked_some_entry version least sets (clauses_in most ws) e h in
    (ws, ap (λ (s : List Literal). Some (s, ws)) p.1, p.0, p.2)

pub entry_sound : (version least most : ℕ) (ws : List (List ℕ)) (e : Entry) → most ≤ greatest → entry_in version least most ws ≡ Some e → ReadsEntry version least most ws e
entry_sound version least most ws e small h =
    let p = entry_parts version least most (clause_in most ws) e h in
    let first = clause_sound most ws e.sets p.0 small p.1 in
    let others = clauses_sound most p.0 e.clauses small p.2 in
    let s : Stands version least e.sets e.clauses = p.3 in
    record {
      words = first.0 ∙ ap (λ (vs : List (List ℕ)). clause_words e.sets ++ vs) others.0;
      proper = proper_from most e.sets e.clauses (nonempty_from e.sets s.some) s.sets_normal first.1 s.normal others.1;
      fits = s.fits;
      few = s.few;
    }

pub entry_complete : (version least most : ℕ) (e : Entry) → most ≤ greatest → All (IsProper most) (repairs_in e) → Fits version e → least + length e.clauses ≤ most_repairs + 1
    → entry_in version least most (entry_words e) ≡ Some e
entry_complete version least most e small proper fits few =
    let own = first_proper_of most e.sets e.clauses (some_clause version (length e.clauses) fits) proper in
    let r : IsProper most (repair_for e.sets own.0) = own.1 in
    let cs = clauses_of most e.sets e.clauses proper in
    let first = clause_complete most e.sets (flat_map clause_words e.clauses) small (recursion_from_All (IsUpTo most) e.sets r.sets_within) in
    let s : Stands version least e.sets e.clauses = record { some = nonempty_to e.sets r.sets_some; sets_normal = r.sets_normal; normal = cs.0; fits = fits; few = few } in
    ap (entry_behind version least most) first
    ∙ ap (checked_entry version least e.sets) (clauses_complete most e.clauses small cs.1)
    ∙ ap (λ (t : Bool). cond t (Some e) None) (stands_to version least e.sets e.clauses s)
