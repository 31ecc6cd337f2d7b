-- What the repairs of merging make of an assignment.
use Rattle.std.proofs.Common.{◌≡◌, ◌≢◌, ◌≤◌, Bool, true, false, not, cond, List, [], ◌∷◌, ◌++◌, All, Contains, refl, ap, sym, ◌∙◌, subst, inl, inr}
use Rattle.std.specs.List.{flat_map}
use Rattle.std.proofs.lemmas.Bool.{false_from_ne_true, true≢false, cond-false}
use Rattle.std.proofs.lemmas.List.Elements.{All-contains}
use Rattle.mp_logic.specs.Literal.{Literal, IsUpTo, negation}
use Rattle.mp_logic.specs.Truth.{value_of, literal_value, clause_value}
use Rattle.mp_logic.specs.Repairs.{made_true, repaired}
use Rattle.mp_logic.specs.Rewrites.{set_repair}
use Rattle.mp_logic.specs.Keeping.{State}
use Rattle.mp_logic.specs.Labelled.{AreApart, IsLabelled}
use Rattle.mp_logic.specs.declared.instances.Cost.{Cost}
use Rattle.mp_logic.specs.declared.instances.Repair.{Repair}
use Rattle.mp_logic.proofs.Kept.{repaired-append}
use Rattle.mp_logic.proofs.MadeTrue.{literal_value-made_true, literal_value-made_true_other}
use Rattle.mp_logic.proofs.Chosen.{Agree, cleared}
use Rattle.mp_logic.proofs.Members.{Contains-none, Contains-first, Contains-later, Contains-cases, witness, true_by}
use Rattle.mp_merging.specs.MergedForm.{merged_in, home_of, without, merging_repairs}
use Rattle.mp_merging.proofs.Tests.{without-by, without-from}
use Rattle.mp_merging.proofs.Merged.{list_cases, IsMergedInto, home_into, home_is, own_variable, only_clause}

-- the label is false, and all else as before
record Low (b : Literal) (a z : List Bool) : Type 0 where
  others : Agree b a z
  own : literal_value z b ≡ false

low : (b : Literal) (a : List Bool) → 1 ≤ b.variable → value_of a b.variable ≡ false → Low b a (repaired (cond b.negative (set_repair (negation b) (negation b ∷ []) ∷ []) []) a)
low b a p off =
    let ns : List Repair = set_repair (negation b) (negation b ∷ []) ∷ [] in
    let step : (n : Bool) → b.negative ≡ n → Low b a (repaired (cond n ns []) a) =
    λ (n : Bool). elim n as (λ n. b.negative ≡ n → Low b a (repaired (cond n ns []) a)) [
      | true ↦ λ e. let w = cleared b a p in record { others = w.others; own = w.own }
      | false ↦ λ e. record { others = λ k q o. refl; own = cond-false b.negative (not (value_of a b.variable)) (value_of a b.variable) e ∙ off }
    ] in
    step b.negative refl

-- the label is true exactly where the rest of its clause is false, and all else is as before
pub record IsBack (b : Literal) (c : List Literal) (a z : List Bool) : Type 0 where
  pub others : Agree b a z
  pub own : literal_value z b ≡ not (clause_value a (without b c))

-- the clause has the label, and no other literal of its variable
pub record HasLabel (b : Literal) (c : List Literal) : Type 0 where
  pub «from» : 1 ≤ b.variable
  pub own : Contains c b
  pub variables : (k : Literal) → Contains c k → 1 ≤ k.variable
  pub alone : (k : Literal) → Contains c k → k.variable ≡ b.variable → k ≡ b

back : (b : Literal) (c : List Literal) (a : List Bool) → HasLabel b c → value_of a b.variable ≡ false → IsBack b c a (repaired (merging_repairs b (c ∷ [])) a)
back b c a h off =
    let w : List Bool = repaired (cond b.negative (set_repair (negation b) (negation b ∷ []) ∷ []) []) a in
    let l = low b a h.«from» off in
    let up = made_true w b in
    let same : (k : Literal) → Contains (without b c) k → literal_value w k ≡ literal_value a k =
    λ (k : Literal) (i : Contains (without b c) k). let o = without-from b k c i in l.others k (h.variables k o.0) (λ e. o.1 (h.alone k o.0 e)) in
    let step : (t : Bool) → clause_value w c ≡ t → IsBack b c a (cond t w up) =
    λ (t : Bool). elim t as (λ t. clause_value w c ≡ t → IsBack b c a (cond t w up)) [
      | true ↦ λ e.
          let k = witness w c e in
          let other : k.0 ≢ b = λ f. true≢false (sym k.2 ∙ (ap (literal_value w) f ∙ l.own)) in
          let rest = without-by b k.0 c k.1 other in
          let yes : clause_value a (without b c) ≡ true = true_by a (without b c) k.0 rest (sym (same k.0 rest) ∙ k.2) in
          record { others = l.others; own = l.own ∙ ap not (sym yes) }
      | false ↦ λ e.
          let no : clause_value a (without b c) ≡ false = false_from_ne_true (clause_value a (without b c)) (λ f.
          let k = witness a (without b c) f in
          true≢false (sym (true_by w c k.0 (without-from b k.0 c k.1).0 (same k.0 k.1 ∙ k.2)) ∙ e)) in
          record {
            others = λ k q o. literal_value-made_true_other w b k h.«from» q o ∙ l.others k q o;
            own = literal_value-made_true w b h.«from» ∙ ap not (sym no);
          }
    ] in
    step (clause_value w c) refl

abbrev pub repairs_for : State → List Cost → List Repair
repairs_for s ps = flat_map (λ p. merging_repairs p.lit (home_of s p.lit)) ps

-- y is x with the merged labels among the costs brought back
pub record IsRestored (s : State) (ps : List Cost) (x y : List Bool) : Type 0 where
  pub others : (k : Literal) → 1 ≤ k.variable → ((p : Cost) → Contains ps p → p.lit.variable ≡ k.variable → home_of s p.lit ≡ []) → literal_value y k ≡ literal_value x k
  pub own : (p : Cost) → Contains ps p → (c : List Literal) → IsMergedInto s p.lit c → literal_value y p.lit ≡ not (clause_value x (without p.lit c))

-- the literals of merged labels are false
abbrev pub AreOff : State → List Cost → List Bool → Type 0
AreOff s ps x = (p : Cost) → Contains ps p → (c : List Literal) → IsMergedInto s p.lit c → value_of x p.lit.variable ≡ false

has_label : (s : State) (p : Cost) (c : List Literal) → IsLabelled s.vars s.hard s.costs s.offset → IsMergedInto s p.lit c → HasLabel p.lit c
has_label s p c h m =
    let all = All-contains (All (IsUpTo s.vars)) s.hard c h.hard_within m.hard in
    record {
      «from» = (All-contains (IsUpTo s.vars) c p.lit all m.own).0;
      own = m.own;
      variables = λ k i. (All-contains (IsUpTo s.vars) c k all i).0;
      alone = λ k i e. (own_variable s p.lit k c c m m.hard i e).0;
    }

pub value_same : (x y : List Bool) (c : List Literal) → ((k : Literal) → Contains c k → literal_value y k ≡ literal_value x k) → clause_value y c ≡ clause_value x c
value_same x y [] h = refl
value_same x y (l ∷ c) h = cc (h l (Contains-first l c), value_same x y c (λ k i. h k (Contains-later l c k i)))

not_here : (s : State) (p : Cost) (c : List Literal) → IsMergedInto s p.lit c → home_of s p.lit ≡ [] → ⊥
not_here s p c m e = Contains-none c (subst (λ hs. Contains hs c) (sym (home_is s p.lit c m) ∙ e) (Contains-first c []))

-- one clause is the home of a label
same_home : (s : State) (p : Cost) (d c : List Literal) → IsMergedInto s p.lit d → IsMergedInto s p.lit c → d ≡ c
same_home s p d c n m = only_clause s p.lit c d m n.hard n.own

-- no other label that is merged stands in the clause
no_other : (s : State) (p q : Cost) (c : List Literal) (k : Literal) → IsMergedInto s p.lit c → Contains c k → k ≢ p.lit → q.lit.variable ≡ k.variable → home_of s q.lit ≡ []
no_other s p q c k m i n e =
    elim (list_cases (home_of s q.lit)) [
      | inl none ↦ none
      | inr w ↦
          let d : List Literal = w.0 in
          let o = home_into s q.lit d (subst (λ hs. Contains hs d) (sym w.2) (Contains-first d w.1)) in
          let own = own_variable s q.lit k d c o m.hard i (sym e) in
          let lits : p.lit ∷ [] ≡ q.lit ∷ [] = sym m.is ∙ (ap (merged_in s) own.1 ∙ o.is) in
          absurd (n (own.0 ∙ cc lits))
    ]

pub restored_by : (s : State) (ps : List Cost) (x : List Bool) → IsLabelled s.vars s.hard s.costs s.offset → AreApart ps → AreOff s ps x → IsRestored s ps x (repaired (repairs_for s ps) x)
restored_by s [] x h a off = record { others = λ k q n. refl; own = λ p i. absurd (Contains-none p i) }
restored_by s (p ∷ ps) x h a off =
    let z = repaired (repairs_for s ps) x in
    let rest = restored_by s ps x h a.1 (λ q i. off q (Contains-later p ps q i)) in
    let goal : List (List Literal) → Type 0 = λ hs. IsRestored s (p ∷ ps) x (repaired (merging_repairs p.lit hs) z) in
    let parted : repaired (merging_repairs p.lit (home_of s p.lit) ++ repairs_for s ps) x ≡ repaired (merging_repairs p.lit (home_of s p.lit)) z = repaired-append (merging_repairs p.lit (home_of s p.lit)) (repairs_for s ps) x in
    let apart : (q : Cost) → Contains ps q → q.lit.variable ≢ p.lit.variable = λ (q : Cost) (i : Contains ps q). All-contains (λ (r : Cost). r.lit.variable ≢ p.lit.variable) ps q a.0 i in
    let made : goal (home_of s p.lit) =
    elim (list_cases (home_of s p.lit)) [
      | inl none ↦
          subst goal (sym none) (record {
            others = λ k q n. rest.others k q (λ r i. n r (Contains-later p ps r i));
            own = λ r i c m. elim (Contains-cases p ps r i) [
              | inl e ↦ absurd (not_here s r c m (ap (λ (t : Cost). home_of s t.lit) e ∙ none))
              | inr j ↦ rest.own r j c m
            ];
          })
      | inr w ↦
          let c : List Literal = w.0 in
          let m = home_into s p.lit c (subst (λ hs. Contains hs c) (sym w.2) (Contains-first c w.1)) in
          let label = has_label s p c h m in
          let low_there : literal_value z (record { variable = p.lit.variable; negative = false }) ≡ false =
          rest.others (record { variable = p.lit.variable; negative = false }) label.«from» (λ q i e. absurd (apart q i e)) ∙ off p (Contains-first p ps) c m in
          let b = back p.lit c z label low_there in
          let same : clause_value z (without p.lit c) ≡ clause_value x (without p.lit c) = value_same x z (without p.lit c) (λ k i.
          let o = without-from p.lit k c i in
          rest.others k (label.variables k o.0) (λ q j e. no_other s p q c k m o.0 o.1 e)) in
          subst goal (sym (home_is s p.lit c m)) (record {
            others = λ k q n. b.others k q (λ e. not_here s p c m (n p (Contains-first p ps) (sym e))) ∙ rest.others k q (λ r i. n r (Contains-later p ps r i));
            own = λ r i d n. elim (Contains-cases p ps r i) [
              | inl e ↦
                  let one : d ≡ c = same_home s p d c (subst (λ (t : Cost). IsMergedInto s t.lit d) e n) m in
                  ap (λ (t : Cost). literal_value (repaired (merging_repairs p.lit (c ∷ [])) z) t.lit) e
                  ∙ (b.own ∙ (ap not same ∙ (ap (λ (t : Cost). not (clause_value x (without t.lit c))) (sym e) ∙ ap (λ (t : List Literal). not (clause_value x (without r.lit t))) (sym one))))
              | inr j ↦ b.others r.lit (has_label s r d h n).«from» (apart r j) ∙ rest.own r j d n
            ];
          })
    ] in
    subst (IsRestored s (p ∷ ps) x) (sym parted) made
