-- What holds of the labels that are merged, and of the clauses into which they are.
use Rattle.std.proofs.Common.{◌≡◌, ◌⊎◌, ◌≤◌, ◌<◌, ◌+◌, ◌-◌, ℕ, zero, suc, Bool, true, false, cond, ◌&&◌, List, [], ◌∷◌, All, Contains, get_or, length, take, drop, filter, map, replicate, refl, ap, sym, ◌∙◌, subst, arith, inl, inr}
use Rattle.std.specs.Prelude.{nat_eq}
use Rattle.std.specs.List.{flat_map}
use Rattle.std.specs.List.Sorted.{IsPermutation, IsNonDecreasingBy}
use Rattle.std.proofs.lemmas.Bool.{and_parts, ne_eqb, eqb-true, cond-false}
use Rattle.std.proofs.lemmas.List.{get_or-replicate, length-replicate, length-set}
use Rattle.std.proofs.lemmas.List.Sums.{length-filter}
use Rattle.std.proofs.lemmas.List.Elements.{All-contains, Contains-get_or}
use Rattle.std.proofs.lemmas.List.Sorted.{IsPermutation-sym, Contains-permutation, All-permutation}
use Rattle.mp_logic.specs.Literal.{Literal, IsUpTo, negation}
use Rattle.mp_logic.specs.Formula.{Formula, IsFormula}
use Rattle.mp_logic.specs.Keeping.{State}
use Rattle.mp_logic.specs.Labelled.{AreApart, IsLabelled}
use Rattle.mp_logic.specs.declared.instances.Cost.{Cost}
use Rattle.mp_logic.specs.declared.instances.Repair.{Repair}
use Rattle.mp_logic.specs.declared.instances.Soft.{Soft}
use Rattle.mp_logic.proofs.Charges.{AreApart-same}
use Rattle.mp_logic.proofs.Literals.{same_or_negation}
use Rattle.mp_logic.proofs.Members.{Contains-none, Contains-first, Contains-later, Contains-one, any_found, sum_by_le, All-from_contained}
use Rattle.mp_labels.proofs.Lists.{Contains-filter, Contains-from_filter, filter_agree_at, map_agree_at, Contains-from_map}
use Rattle.mp_labels.proofs.NormalForms.{same_from_tie}
use Rattle.mp_merging.specs.MergedForm.{has_literal, uses_of, is_cost, is_mergeable, merged_in, kept_clauses, home_of, soft_clause, merged_soft, merging_repairs, merged_instance}
use Rattle.mp_merging.specs.Tables.{AreMarks, marked_in, is_kept, housed, all_housed, clause_at, home_in, soft_by, repairs_by, IsMerging}
use Rattle.mp_merging.proofs.Tests.{has_literal-by, has_literal-from, without-from, first_cases}
use Rattle.mp_merging.proofs.Tabled.{marked_is, housed_cases}

pub list_cases : {X : Type 0} (xs : List X) → (xs ≡ []) ⊎ ((x : X) × (ys : List X) × (xs ≡ x ∷ ys))
list_cases [] = inl refl
list_cases (x ∷ xs) = inr (x, xs, refl)

-- of a list with one element each is that one
pub only_element : {X : Type 0} (xs : List X) (x y : X) → length xs ≤ 1 → Contains xs x → Contains xs y → x ≡ y
only_element [] x y h i j = absurd (Contains-none x i)
only_element (z ∷ []) x y h i j = Contains-one z x i ∙ sym (Contains-one z y j)
only_element (z ∷ (w ∷ xs)) x y h i j = absurd (omega arith)

only_list : {X : Type 0} (xs : List X) (x : X) → length xs ≤ 1 → Contains xs x → xs ≡ x ∷ []
only_list [] x h i = absurd (Contains-none x i)
only_list (z ∷ []) x h i = ap (λ y. y ∷ []) (sym (Contains-one z x i))
only_list (z ∷ (w ∷ xs)) x h i = absurd (omega arith)

cond_at_most : (x y : Bool) → (x ≡ true → y ≡ true) → cond x 1 0 ≤ cond y 1 0
cond_at_most false y h = omega arith
cond_at_most true y h = rw (h refl) (omega arith)

fewer : {X : Type 0} (p q : X → Bool) (xs : List X) → ((x : X) → p x ≡ true → q x ≡ true) → length (filter p xs) ≤ length (filter q xs)
fewer {X} p q xs h =
    let counts = sum_by_le (λ (x : X). cond (p x) 1 0) (λ (x : X). cond (q x) 1 0) xs (λ x i. cond_at_most (p x) (q x) (h x)) in
    omega (arith, counts, length-filter p xs, length-filter q xs)

-- the label is merged into the hard clause
pub record IsMergedInto (s : State) (b : Literal) (c : List Literal) : Type 0 where
  pub hard : Contains s.hard c
  pub is : merged_in s c ≡ b ∷ []
  pub own : Contains c b
  pub mergeable : is_mergeable s b ≡ true
  pub long : 2 ≤ length c

pub merged_cases : (s : State) (c : List Literal) → Contains s.hard c → (merged_in s c ≡ []) ⊎ ((b : Literal) × IsMergedInto s b c)
merged_cases s c i =
    elim (first_cases (is_mergeable s) c) [
      | inl n ↦ inl n
      | inr w ↦ inr (w.0, record { hard = i; is = w.1.is; own = w.1.own; mergeable = w.1.passes; long = w.1.long })
    ]

-- what is merged into the clause is the literal
pub into_from : (s : State) (b : Literal) (c : List Literal) → Contains s.hard c → Contains (merged_in s c) b → IsMergedInto s b c
into_from s b c i j =
    elim (merged_cases s c i) [
      | inl n ↦ absurd (Contains-none b (subst (λ ls. Contains ls b) n j))
      | inr m ↦ subst (λ l. IsMergedInto s l c) (sym (Contains-one m.0 b (subst (λ ls. Contains ls b) m.1.is j))) m.1
    ]

pub home_into : (s : State) (b : Literal) (c : List Literal) → Contains (home_of s b) c → IsMergedInto s b c
home_into s b c i =
    let w = Contains-from_filter (λ d. has_literal b (merged_in s d)) s.hard c i in
    into_from s b c w.0 (has_literal-from b (merged_in s c) w.1)

record Parts (s : State) (b : Literal) : Type 0 where
  cost : is_cost s.costs b ≡ true
  one : uses_of b s.hard ≡ 1
  none : uses_of (negation b) s.hard ≡ 0

parts_of : (s : State) (b : Literal) → is_mergeable s b ≡ true → Parts s b
parts_of s b h =
    let w = and_parts (is_cost s.costs b) (nat_eq (uses_of b s.hard) 1 && nat_eq (uses_of (negation b) s.hard) 0) h in
    let u = and_parts (nat_eq (uses_of b s.hard) 1) (nat_eq (uses_of (negation b) s.hard) 0) w.1 in
    record { cost = w.0; one = eqb-true (uses_of b s.hard) 1 u.0; none = eqb-true (uses_of (negation b) s.hard) 0 u.1 }

-- it has a cost
pub cost_for : (s : State) (b : Literal) (c : List Literal) → IsMergedInto s b c → (p : Cost) × Contains s.costs p × (p.lit ≡ b)
cost_for s b c m = let w = any_found _ s.costs (parts_of s b m.mergeable).cost in (w.0, w.1, same_from_tie w.0.lit b w.2)

-- it stands in no other hard clause
pub only_clause : (s : State) (b : Literal) (c d : List Literal) → IsMergedInto s b c → Contains s.hard d → Contains d b → d ≡ c
only_clause s b c d m i j =
    let ws = filter (has_literal b) s.hard in
    only_element ws d c (omega (arith, (parts_of s b m.mergeable).one, length-filter (has_literal b) s.hard))
    (Contains-filter (has_literal b) s.hard d i (has_literal-by b d j)) (Contains-filter (has_literal b) s.hard c m.hard (has_literal-by b c m.own))

-- and its negation in none
pub no_negation : (s : State) (b : Literal) (c d : List Literal) → IsMergedInto s b c → Contains s.hard d → Contains d (negation b) → ⊥
no_negation s b c d m i j =
    let n = negation b in
    let there = Contains-filter (has_literal n) s.hard d i (has_literal-by n d j) in
    let some : 0 < length (filter (has_literal n) s.hard) = omega (arith, there.1) in
    omega (arith, some, (parts_of s b m.mergeable).none, length-filter (has_literal n) s.hard)

-- a literal of its variable in a hard clause is the label in its clause
pub own_variable : (s : State) (b k : Literal) (c d : List Literal) → IsMergedInto s b c → Contains s.hard d → Contains d k → k.variable ≡ b.variable → (k ≡ b) × (d ≡ c)
own_variable s b k c d m i j e =
    elim (same_or_negation k b e) [
      | inl f ↦ (f, only_clause s b c d m i (subst (λ l. Contains d l) f j))
      | inr f ↦ absurd (no_negation s b c d m i (subst (λ l. Contains d l) f j))
    ]

own_if : (s : State) (b : Literal) (d : List Literal) → has_literal b (merged_in s d) ≡ true → Contains d b
own_if s b d t =
    elim (first_cases (is_mergeable s) d) [
      | inl n ↦ absurd (Contains-none b (subst (λ ls. Contains ls b) n (has_literal-from b (merged_in s d) t)))
      | inr w ↦ subst (λ l. Contains d l) (sym (Contains-one w.0 b (subst (λ ls. Contains ls b) w.1.is (has_literal-from b (merged_in s d) t)))) w.1.own
    ]

-- the clause is the home of the label
pub home_is : (s : State) (b : Literal) (c : List Literal) → IsMergedInto s b c → home_of s b ≡ c ∷ []
home_is s b c m =
    let p : List Literal → Bool = λ d. has_literal b (merged_in s d) in
    let own : p c ≡ true = has_literal-by b (merged_in s c) (subst (λ ls. Contains ls b) (sym m.is) (Contains-first b [])) in
    let few = fewer p (has_literal b) s.hard (λ d t. has_literal-by b d (own_if s b d t)) in
    only_list (home_of s b) c (omega (arith, few, (parts_of s b m.mergeable).one, length-filter (has_literal b) s.hard)) (Contains-filter p s.hard c m.hard own)

-- no label of the variable is merged
abbrev pub IsPlain : State → ℕ → Type 0
IsPlain s v = (p : Cost) → Contains s.costs p → p.lit.variable ≡ v → home_of s p.lit ≡ []

-- a literal of a hard clause is on such a variable, unless it is merged into the clause
pub plain_literal : (s : State) (d : List Literal) (k : Literal) → Contains s.hard d → Contains d k → (merged_in s d ≡ k ∷ [] → ⊥) → IsPlain s k.variable
plain_literal s d k i j n p q e =
    elim (list_cases (home_of s p.lit)) [
      | inl none ↦ none
      | inr w ↦
          let m = home_into s p.lit w.0 (subst (λ hs. Contains hs w.0) (sym w.2) (Contains-first w.0 w.1)) in
          let o = own_variable s p.lit k w.0 d m i j (sym e) in
          absurd (n (ap (merged_in s) o.1 ∙ (m.is ∙ ap (λ l. l ∷ []) (sym o.0))))
    ]

-- so is a cost literal that is not merged
pub plain_cost : (s : State) (p : Cost) → AreApart s.costs → Contains s.costs p → home_of s p.lit ≡ [] → IsPlain s p.lit.variable
plain_cost s p a i e q j f = ap (λ (r : Cost). home_of s r.lit) (AreApart-same s.costs q p a j i f) ∙ e

length-housed : (number : ℕ) (ls : List Literal) (homes : List ℕ) → length (housed number ls homes) ≡ length homes
length-housed number [] homes = refl
length-housed number (l ∷ ls) homes = length-set homes (l.variable - 1) number

length-all_housed : (marks : List Bool) (k : ℕ) (cs : List (List Literal)) (homes : List ℕ) → length (all_housed marks k cs homes) ≡ length homes
length-all_housed marks k [] homes = refl
length-all_housed marks k (c ∷ cs) homes = length-all_housed marks (k + 1) cs (housed (k + 1) (marked_in marks c) homes) ∙ length-housed (k + 1) (marked_in marks c) homes

take_one : (cs : List (List Literal)) (i : ℕ) → i < length cs → take 1 (drop i cs) ≡ get_or cs i [] ∷ []
take_one [] i l = absurd (omega arith)
take_one (c ∷ cs) zero l = refl
take_one (c ∷ cs) (suc i) l = take_one cs i (omega arith)

at_number : (cs : List (List Literal)) (n i : ℕ) → n ≡ i + 1 → i < length cs → clause_at cs n ≡ get_or cs i [] ∷ []
at_number cs n i e l =
    cond-false (nat_eq n 0) [] (take 1 (drop (n - 1) cs)) (ne_eqb n 0 (λ f. omega arith)) ∙ (ap (λ j. take 1 (drop j cs)) (omega arith) ∙ take_one cs i l)

no_passing : {X : Type 0} (p : X → Bool) (xs : List X) → ((x : X) → Contains xs x → p x ≡ true → ⊥) → filter p xs ≡ []
no_passing p xs h =
    elim (list_cases (filter p xs)) [
      | inl n ↦ n
      | inr w ↦ let i = Contains-from_filter p xs w.0 (subst (λ ys. Contains ys w.0) (sym w.2) (Contains-first w.0 w.1)) in absurd (h w.0 i.0 i.1)
    ]

-- the table of homes has each label's clause
pub homes_are : (s : State) (marks : List Bool) (homes : List ℕ) (p : Cost) → IsLabelled s.vars s.hard s.costs s.offset → AreMarks s marks → homes ≡ all_housed marks 0 s.hard (replicate s.vars 0)
    → Contains s.costs p → home_in homes s.hard p.lit ≡ home_of s p.lit
homes_are s marks homes p h m e i =
    let v = p.lit.variable in
    let blank : List ℕ = replicate s.vars 0 in
    let up = All-contains (λ (q : Cost). IsUpTo s.vars q.lit) s.costs p h.costs_within i in
    let same : (c : List Literal) → Contains s.hard c → marked_in marks c ≡ merged_in s c = λ (c : List Literal) (j : Contains s.hard c). marked_is s marks c m (All-contains (All (IsUpTo s.vars)) s.hard c h.hard_within j) in
    let «from» : home_in homes s.hard p.lit ≡ clause_at s.hard (get_or (all_housed marks 0 s.hard blank) (v - 1) 0) =
    ap (λ (hs : List ℕ). clause_at s.hard (get_or hs (v - 1) 0)) e in
    let n : ℕ = get_or (all_housed marks 0 s.hard blank) (v - 1) 0 in
    let ones : All (All (λ (l : Literal). 1 ≤ l.variable)) s.hard = λ k d l q f g. (h.hard_within k d l q f g).0 in
    elim (housed_cases marks 0 v s.hard blank up.0 (omega (arith, up.1, length-replicate s.vars (let z : ℕ = 0 in z))) ones) [
      | inl w ↦
          let c = get_or s.hard w.0 [] in
          let j : Contains s.hard c = Contains-get_or s.hard w.0 [] w.2.within in
          let is : merged_in s c ≡ w.1 ∷ [] = sym (same c j) ∙ w.2.is in
          let into = into_from s w.1 c j (subst (λ ls. Contains ls w.1) (sym is) (Contains-first w.1 [])) in
          let q = cost_for s w.1 c into in
          let one : q.0 ≡ p = AreApart-same s.costs q.0 p h.costs_apart q.1 i (ap (λ (l : Literal). l.variable) q.2 ∙ w.2.own) in
          let lit : w.1 ≡ p.lit = sym q.2 ∙ ap (λ (r : Cost). r.lit) one in
          «from» ∙ (at_number s.hard n w.0 (omega (arith, w.3)) w.2.within ∙ sym (home_is s p.lit c (subst (λ l. IsMergedInto s l c) lit into)))
      | inr w ↦
          let zero_there : get_or blank (v - 1) 0 ≡ 0 = get_or-replicate s.vars (v - 1) 0 0 (omega (arith, up.0, up.1)) in
          let none : home_of s p.lit ≡ [] = no_passing _ s.hard (λ c j t.
          let into = into_from s p.lit c j (has_literal-from p.lit (merged_in s c) t) in
          w.0 c j p.lit (same c j ∙ into.is) refl) in
          «from» ∙ (ap (clause_at s.hard) (w.1 ∙ zero_there) ∙ sym none)
    ]

pub costs_fit : (s : State) (marks : List Bool) (homes : List ℕ) (ps qs : List Cost) (hs : List ℕ) → IsLabelled s.vars s.hard s.costs s.offset → IsPermutation s.costs ps → homes ≡ all_housed marks 0 s.hard (replicate s.vars 0)
    → qs ≡ ps → hs ≡ homes → All (λ p. p.lit.variable ≤ length hs) qs
costs_fit s marks homes ps qs hs h m e f g =
    let n : length homes ≡ s.vars = ap length e ∙ (length-all_housed marks 0 s.hard (replicate s.vars 0) ∙ length-replicate s.vars (let z : ℕ = 0 in z)) in
    let long : length hs ≡ s.vars = ap length g ∙ n in
    let all : All (λ (p : Cost). IsUpTo s.vars p.lit) qs = subst (λ (xs : List Cost). All (λ p. IsUpTo s.vars p.lit) xs) (sym f) (All-permutation (λ (p : Cost). IsUpTo s.vars p.lit) s.costs ps m h.costs_within) in
    λ k d l. omega (arith, (all k d l).1, long)

flat_map_agree_at : {X Y : Type 0} (f g : X → List Y) (xs : List X) → ((x : X) → Contains xs x → f x ≡ g x) → flat_map f xs ≡ flat_map g xs
flat_map_agree_at f g [] h = refl
flat_map_agree_at f g (x ∷ xs) h = cc (h x (Contains-first x xs), flat_map_agree_at f g xs (λ y i. h y (Contains-later x xs y i)))

-- the soft clause of a cost with this home
abbrev pub soft_at : Cost → List (List Literal) → Soft
soft_at p hs = record { weight = p.weight; clause = soft_clause p.lit hs }

same_formula : (f g : Formula) → f.vars ≡ g.vars → f.hard ≡ g.hard → f.soft ≡ g.soft → f ≡ g
same_formula f g a b c =
    let first : f ≡ record { vars = g.vars; hard = f.hard; soft = f.soft } = ap (λ (v : ℕ). let r : Formula = record { vars = v; hard = f.hard; soft = f.soft } in r) a in
    let second : record { vars = g.vars; hard = f.hard; soft = f.soft } ≡ record { vars = g.vars; hard = g.hard; soft = f.soft } = ap (λ (h : List (List Literal)). let r : Formula = record { vars = g.vars; hard = h; soft = f.soft } in r) b in
    first ∙ (second ∙ ap (λ (t : List Soft). let r : Formula = record { vars = g.vars; hard = g.hard; soft = t } in r) c)

pub IsMerging-from : (s : State) (marks : List Bool) (homes : List ℕ) (ps : List Cost) (f : Formula) (rs : List Repair) → IsLabelled s.vars s.hard s.costs s.offset → AreMarks s marks
    → homes ≡ all_housed marks 0 s.hard (replicate s.vars 0) → IsPermutation s.costs ps → IsNonDecreasingBy (λ p. p.lit.variable) ps
    → f.hard ≡ filter (is_kept marks) s.hard → f.soft ≡ map (soft_by homes s.hard) ps → f.vars ≡ s.vars → rs ≡ flat_map (repairs_by homes s.hard) ps → IsMerging s f rs
IsMerging-from s marks homes ps f rs h m e moved rising hards softs vars repairs =
    let home : (p : Cost) → Contains ps p → home_in homes s.hard p.lit ≡ home_of s p.lit =
    λ (p : Cost) (i : Contains ps p). homes_are s marks homes p h m e (Contains-permutation ps s.costs p (IsPermutation-sym s.costs ps moved) i) in
    let hard : filter (is_kept marks) s.hard ≡ kept_clauses s =
    filter_agree_at (is_kept marks) (λ c. nat_eq (length (merged_in s c)) 0) s.hard (λ c i. ap (λ ls. nat_eq (length ls) 0) (marked_is s marks c m (All-contains (All (IsUpTo s.vars)) s.hard c h.hard_within i))) in
    let soft : map (soft_by homes s.hard) ps ≡ map (merged_soft s) ps = map_agree_at (soft_by homes s.hard) (merged_soft s) ps (λ p i. ap (soft_at p) (home p i)) in
    record {
      costs = ps;
      costs_moved = moved;
      costs_in_order = rising;
      whole = same_formula f (merged_instance s ps) vars (hards ∙ hard) (softs ∙ soft);
      repairs = repairs ∙ flat_map_agree_at (repairs_by homes s.hard) (λ p. merging_repairs p.lit (home_of s p.lit)) ps (λ p i. ap (merging_repairs p.lit) (home p i));
    }

soft_up : (s : State) (p : Cost) (hs : List (List Literal)) (k : Literal) → IsLabelled s.vars s.hard s.costs s.offset → Contains s.costs p → ((c : List Literal) → Contains hs c → Contains s.hard c)
    → Contains (soft_clause p.lit hs) k → IsUpTo s.vars k
soft_up s p [] k h i n j =
    let up = All-contains (λ (q : Cost). IsUpTo s.vars q.lit) s.costs p h.costs_within i in
    let e : k.variable ≡ p.lit.variable = ap (λ (l : Literal). l.variable) (Contains-one (negation p.lit) k j) in
    (omega (arith, up.0, e), omega (arith, up.1, e))
soft_up s p (c ∷ hs) k h i n j = All-contains (IsUpTo s.vars) c k (All-contains (All (IsUpTo s.vars)) s.hard c h.hard_within (n c (Contains-first c hs))) (without-from p.lit k c j).0

pub IsFormula-merging : (s : State) (f : Formula) (rs : List Repair) → IsLabelled s.vars s.hard s.costs s.offset → IsMerging s f rs → IsFormula f.vars f.hard f.soft
IsFormula-merging s f rs h m =
    let made : IsFormula s.vars (kept_clauses s) (map (merged_soft s) m.costs) = record {
      hard_within = All-from_contained (All (IsUpTo s.vars)) (kept_clauses s) (λ c i. All-contains (All (IsUpTo s.vars)) s.hard c h.hard_within (Contains-from_filter _ s.hard c i).0);
      soft_within = All-from_contained (λ (t : Soft). All (IsUpTo s.vars) t.clause) (map (merged_soft s) m.costs) (λ t i.
          let w = Contains-from_map (merged_soft s) m.costs t i in
          let p : Cost = w.0 in
          let there = Contains-permutation m.costs s.costs p (IsPermutation-sym s.costs m.costs m.costs_moved) w.1 in
          All-from_contained (IsUpTo s.vars) t.clause (λ k j.
          soft_up s p (home_of s p.lit) k h there (λ c g. (home_into s p.lit c g).hard) (subst (λ (ls : List Literal). Contains ls k) (ap (λ (u : Soft). u.clause) w.2) j)));
    } in
    subst (λ (g : Formula). IsFormula g.vars g.hard g.soft) (sym m.whole) made
