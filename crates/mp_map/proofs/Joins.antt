-- Neighbours that set the same literals are joined, and say what they said.
use Rattle.std.proofs.Common.{Decides, ◌≡◌, ◌<◌, ◌≤◌, ℕ, Bool, true, false, cond, ◌&&◌, IsTrue, List, [], ◌∷◌, ◌++◌, All, length, map, refl, ap, ap₂, subst, sym, ◌∙◌, arith, append_assoc, length-append}
use Rattle.std.specs.Bool.{beq}
use Rattle.std.specs.Prelude.{nat_eq, nat_lt}
use Rattle.std.proofs.lemmas.Bool.{and_parts, and_from, eqb-true, eq-eqb, false_from_ne_true, false≢true, lt-ltb, ltb-true}
use Rattle.std.proofs.lemmas.List.{length-map, map-append}
use Rattle.std.proofs.lemmas.List.Elements.{All-nil, All-cons, All-head, All-tail}
use Rattle.mp_logic.specs.Literal.{Literal}
use Rattle.mp_logic.specs.declared.instances.Repair.{Repair}
use Rattle.mp_map.specs.Entries.{entries_of, entry_of, fits_version, joined, put_before, repairs_in, repairs_of, same_literals}
use Rattle.mp_map.specs.declared.maps.Entry.{Entry}

beq_true : (a b : Bool) → beq a b ≡ true → a ≡ b
beq_true true true h = refl
beq_true true false h = absurd (false≢true h)
beq_true false true h = absurd (false≢true h)
beq_true false false h = refl

beq_same : (a : Bool) → beq a a ≡ true
beq_same true = refl
beq_same false = refl

literal_is : (k l : Literal) → k.variable ≡ l.variable → k.negative ≡ l.negative → k ≡ l
literal_is k l e f = ap₂ (λ (v : ℕ) (n : Bool). let m : Literal = record { variable = v; negative = n } in m) e f

pub same_true : (a b : List Literal) → same_literals a b ≡ true → a ≡ b
same_true [] [] h = refl
same_true [] (l ∷ ls) h = absurd (false≢true h)
same_true (k ∷ ks) [] h = absurd (false≢true h)
same_true (k ∷ ks) (l ∷ ls) h =
    let p = and_parts (nat_eq k.variable l.variable && beq k.negative l.negative) (same_literals ks ls) h in
    let q = and_parts (nat_eq k.variable l.variable) (beq k.negative l.negative) p.0 in
    ap₂ (λ (x : Literal) (xs : List Literal). x ∷ xs) (literal_is k l (eqb-true _ _ q.0) (beq_true _ _ q.1)) (same_true ks ls p.1)

same_refl : (a : List Literal) → same_literals a a ≡ true
same_refl [] = refl
same_refl (l ∷ ls) =
    and_from (nat_eq l.variable l.variable && beq l.negative l.negative) (same_literals ls ls)
    (and_from (nat_eq l.variable l.variable) (beq l.negative l.negative) (eq-eqb _ _ refl) (beq_same l.negative)) (same_refl ls)

pub same_from : (a b : List Literal) → a ≡ b → same_literals a b ≡ true
same_from a b e = subst (λ (v : List Literal). same_literals a v ≡ true) e (same_refl a)

-- an entry with the clauses of the next one
abbrev pub both : Entry → Entry → Entry
both e f = record { sets = e.sets; clauses = e.clauses ++ f.clauses }

-- put_before, with the outcome of its test as an argument
abbrev put_by : Bool → Entry → Entry → List Entry → List Entry
put_by t e f es = cond t (both e f ∷ es) (e ∷ (f ∷ es))

put_both : (e f : Entry) (es : List Entry) → same_literals e.sets f.sets ≡ true → put_before (both e f) es ≡ put_before e (put_before f es)
put_both e f [] h = sym (ap (λ (t : Bool). put_by t e f []) h)
put_both e f (g ∷ es) h =
    let same : same_literals e.sets g.sets ≡ same_literals f.sets g.sets = ap (λ (v : List Literal). same_literals v g.sets) (same_true e.sets f.sets h) in
    let step : (t : Bool) → put_by t (both e f) g es ≡ put_before e (put_by t f g es) =
    λ (t : Bool). elim t as (λ t. put_by t (both e f) g es ≡ put_before e (put_by t f g es)) [
      | true ↦ ap (λ (cs : List (List Literal)). let k : Entry = record { sets = e.sets; clauses = cs } in k ∷ es) (append_assoc e.clauses f.clauses g.clauses) ∙ sym (ap (λ (t : Bool). put_by t e (both f g) es) h)
      | false ↦ sym (ap (λ (t : Bool). put_by t e f (g ∷ es)) h)
    ] in
    ap (λ (t : Bool). put_by t (both e f) g es) same ∙ step (same_literals f.sets g.sets)

put_apart : (e f : Entry) (es : List Entry) → same_literals e.sets f.sets ≡ false → put_before e (put_before f es) ≡ e ∷ put_before f es
put_apart e f [] h = ap (λ (t : Bool). put_by t e f []) h
put_apart e f (g ∷ es) h =
    elim (same_literals f.sets g.sets) as (λ t. put_before e (put_by t f g es) ≡ e ∷ put_by t f g es) [
      | true ↦ ap (λ (t : Bool). put_by t e (both f g) es) h
      | false ↦ ap (λ (t : Bool). put_by t e f (g ∷ es)) h
    ]

-- an entry whose neighbour sets the same literals takes its clauses
taken_in : (made rest : List Entry) (last e : Entry) → same_literals last.sets e.sets ≡ true → made ++ joined (both last e ∷ rest) ≡ made ++ joined (last ∷ (e ∷ rest))
taken_in made rest last e h = ap (λ (v : List Entry). made ++ v) (put_both last e (joined rest) h)

-- the last entry, with these clauses, stands for itself and the next
abbrev pub IsTaken : List Entry → Entry → Entry → List (List Literal) → Type 0
IsTaken made last e cs = (rest : List Entry) → made ++ joined (record { sets = last.sets; clauses = cs } ∷ rest) ≡ made ++ joined (last ∷ (e ∷ rest))

pub taken : (made : List Entry) (last e : Entry) (cs : List (List Literal)) → same_literals last.sets e.sets ≡ true → cs ≡ last.clauses ++ e.clauses → IsTaken made last e cs
taken made last e cs h is rest =
    ap (λ (cs : List (List Literal)). let k : Entry = record { sets = last.sets; clauses = cs } in made ++ joined (k ∷ rest)) is ∙ taken_in made rest last e h

-- and otherwise it is whole
pub put_behind : (made rest : List Entry) (last e : Entry) → same_literals last.sets e.sets ≡ false → (made ++ last ∷ []) ++ joined (e ∷ rest) ≡ made ++ joined (last ∷ (e ∷ rest))
put_behind made rest last e h = append_assoc made (last ∷ []) (joined (e ∷ rest)) ∙ ap (λ (v : List Entry). made ++ v) (sym (put_apart last e (joined rest) h))

-- entries stand for the repairs that they were made of

repairs_in-both : (e f : Entry) → e.sets ≡ f.sets → repairs_in (both e f) ≡ repairs_in e ++ repairs_in f
repairs_in-both e f h =
    map-append (λ c. let r : Repair = record { sets = e.sets; clause = c } in r) e.clauses f.clauses
    ∙ ap (λ (s : List Literal). repairs_in e ++ map (λ c. let r : Repair = record { sets = s; clause = c } in r) f.clauses) h

repairs_of-put : (e : Entry) (es : List Entry) → repairs_of (put_before e es) ≡ repairs_in e ++ repairs_of es
repairs_of-put e [] = refl
repairs_of-put e (f ∷ es) =
    let step : (t : Bool) → same_literals e.sets f.sets ≡ t → repairs_of (put_by t e f es) ≡ repairs_in e ++ (repairs_in f ++ repairs_of es) =
    λ (t : Bool). elim t as (λ t. same_literals e.sets f.sets ≡ t → repairs_of (put_by t e f es) ≡ repairs_in e ++ (repairs_in f ++ repairs_of es)) [
      | true ↦ λ h. ap (λ (v : List Repair). v ++ repairs_of es) (repairs_in-both e f (same_true e.sets f.sets h)) ∙ append_assoc (repairs_in e) (repairs_in f) (repairs_of es)
      | false ↦ λ h. refl
    ] in
    step (same_literals e.sets f.sets) refl

pub repairs_of-joined : (es : List Entry) → repairs_of (joined es) ≡ repairs_of es
repairs_of-joined [] = refl
repairs_of-joined (e ∷ es) = repairs_of-put e (joined es) ∙ ap (λ (v : List Repair). repairs_in e ++ v) (repairs_of-joined es)

repairs_of-single : (rs : List Repair) → repairs_of (map entry_of rs) ≡ rs
repairs_of-single [] = refl
repairs_of-single (r ∷ rs) = ap (λ (v : List Repair). r ∷ v) (repairs_of-single rs)

pub repairs_of-entries_of : (join : Bool) (rs : List Repair) → repairs_of (entries_of join rs) ≡ rs
repairs_of-entries_of true rs = repairs_of-joined (map entry_of rs) ∙ repairs_of-single rs
repairs_of-entries_of false rs = repairs_of-single rs

pub repairs_of-append : (es fs : List Entry) → repairs_of (es ++ fs) ≡ repairs_of es ++ repairs_of fs
repairs_of-append [] fs = refl
repairs_of-append (e ∷ es) fs = ap (λ (v : List Repair). repairs_in e ++ v) (repairs_of-append es fs) ∙ sym (append_assoc (repairs_in e) (repairs_of es) (repairs_of fs))

pub length-repairs_in : (e : Entry) → length (repairs_in e) ≡ length e.clauses
length-repairs_in e = length-map e.clauses (λ c. let r : Repair = record { sets = e.sets; clause = c } in r)

-- entries have as many clauses as their version wants

abbrev pub Fits : ℕ → Entry → Type 0
Fits version e = IsTrue (fits_version version (length e.clauses))

pub some_clause : (version n : ℕ) → fits_version version n ≡ true → 0 < n
some_clause version n h =
    let step : (t : Bool) → cond t (nat_eq n 1) (nat_lt 0 n) ≡ true → 0 < n =
    λ (t : Bool). elim t as (λ t. cond t (nat_eq n 1) (nat_lt 0 n) ≡ true → 0 < n) [
      | true ↦ λ e. let one : n ≡ 1 = eqb-true n 1 e in omega (arith, one)
      | false ↦ λ e. ltb-true 0 n e
    ] in
    step (nat_eq version 1) h

pub entries_few : (version : ℕ) (es : List Entry) → All (Fits version) es → length es ≤ length (repairs_of es)
entries_few version [] h = omega arith
entries_few version (e ∷ es) h =
    omega (arith, some_clause version (length e.clauses) (All-head (Fits version) e es h), entries_few version es (All-tail (Fits version) e es h), length-append (repairs_in e) (repairs_of es), length-repairs_in e)

pub joined_fit : (version : ℕ) (es : List Entry) → All (Fits version) es → All (Fits 2) (joined es)
joined_fit version [] h = All-nil (Fits 2)
joined_fit version (e ∷ es) h =
    let own : 0 < length e.clauses = some_clause version (length e.clauses) (All-head (Fits version) e es h) in
    let put : (fs : List Entry) → All (Fits 2) fs → All (Fits 2) (put_before e fs) =
    λ (fs : List Entry). elim fs as (λ fs. All (Fits 2) fs → All (Fits 2) (put_before e fs)) [
      | [] ↦ λ k. All-cons (Fits 2) e [] (lt-ltb 0 (length e.clauses) own) k
      | ◌∷◌ f fs ↦ λ k.
          elim (same_literals e.sets f.sets) as (λ t. All (Fits 2) (put_by t e f fs)) [
            | true ↦ All-cons (Fits 2) (both e f) fs (lt-ltb 0 (length (e.clauses ++ f.clauses)) (omega (arith, own, length-append e.clauses f.clauses))) (All-tail (Fits 2) f fs k)
            | false ↦ All-cons (Fits 2) e (f ∷ fs) (lt-ltb 0 (length e.clauses) own) k
          ]
    ] in
    put (joined es) (joined_fit version es (All-tail (Fits version) e es h))

single_fit : (rs : List Repair) → All (Fits 1) (map entry_of rs)
single_fit [] = All-nil (Fits 1)
single_fit (r ∷ rs) = All-cons (Fits 1) (entry_of r) (map entry_of rs) refl (single_fit rs)

pub entries_of-fit : (join : Bool) (rs : List Repair) → All (Fits (cond join 2 1)) (entries_of join rs)
entries_of-fit true rs = joined_fit 1 (map entry_of rs) (single_fit rs)
entries_of-fit false rs = single_fit rs

pub decided : (t : Bool) (a b : List Literal) → Decides t (a ≡ b) → t ≡ same_literals a b
decided true a b d = sym (same_from a b (d.0 refl))
decided false a b d = sym (false_from_ne_true (same_literals a b) (λ e. false≢true (d.1 (same_true a b e))))

-- what is made with and without joining fits its version
pub joined_are_fit : (join : Bool) (rs : List Repair) (made : List Entry) → join ≡ true → made ≡ joined (map entry_of rs) → All (Fits (cond join 2 1)) made
joined_are_fit join rs made on is = subst (λ (t : Bool). All (Fits (cond t 2 1)) made) (sym on) (subst (All (Fits 2)) (sym is) (entries_of-fit true rs))

pub single_are_fit : (join : Bool) (rs : List Repair) (made : List Entry) → join ≡ false → made ≡ map entry_of rs → All (Fits (cond join 2 1)) made
single_are_fit join rs made off is = subst (λ (t : Bool). All (Fits (cond t 2 1)) made) (sym off) (subst (All (Fits 1)) (sym is) (entries_of-fit false rs))
