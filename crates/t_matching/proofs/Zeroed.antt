-- What a store pays where one cost is put in as 0.
use Rattle.std.proofs.Common.{◌≡◌, ◌≢◌, ℕ, ◌+◌, ◌*◌, Bool, true, false, not, List, [], ◌∷◌, ◌++◌, get_or, set, refl, sym, ◌∙◌, ap, subst, arith, inl, inr, Contains, All, replicate, sum_by, get_or-set_other}
use Rattle.std.specs.Prelude.{Option, Some}
use Rattle.std.proofs.lemmas.Bool.{true≢false, false≢true, ne_eqb}
use Rattle.std.proofs.lemmas.List.{append-nil}
use Rattle.std.proofs.lemmas.List.Elements.{All-contains}
use Rattle.std.proofs.lemmas.List.Sums.{sum_by-cons}
use Rattle.mp_logic.specs.Literal.{Literal, negation, IsUpTo}
use Rattle.mp_logic.specs.LabelMatching.{IsPaidOnce}
use Rattle.mp_logic.specs.declared.instances.Cost.{Cost}
use Rattle.mp_logic.proofs.Members.{Contains-one, All-from_contained}
use Rattle.mp_logic.proofs.Literals.{same_or_negation}
use Rattle.mp_store.specs.declared.rewrite.Rewrite.{Rewrite}
use Rattle.mp_clauses.specs.Places.{place_of, is_in}
use Rattle.mp_store.specs.Held.{Held}
use Rattle.mp_clauses.specs.Slots.{clause_of}
use Rattle.mp_clauses.specs.Weighing.{costs_of, weight_in}
use Rattle.mp_clauses.specs.Occurrences.{ids_with}
use Rattle.mp_clauses.specs.Weighing.{weighted}
use Rattle.mp_store.specs.Rewriting.{weights_after, IsValid}
use Rattle.mp_store.specs.Soundness.{IsStore}
use Rattle.mp_store.specs.Changes.{priced}
use Rattle.mp_clauses.proofs.Pricing.{same-place, costs_apart}
use Rattle.mp_store.proofs.Sound.{table-after, costs-within}
use Rattle.mp_clauses.proofs.Found.{is_in-by}
use Rattle.mp_store.proofs.Fixes.{set-zero}
use Rattle.mp_store.proofs.KeptFixing.{variable_pair}
use Rattle.mp_store.proofs.Changes.{sums_change}
use Rattle.t_matching.proofs.Labels.{cost-weight, weight-cost, id-in}

-- one weight is put in as 0, and no variable comes
pub table-zeroed : (w : List ℕ) (m : Literal) → weighted (record { lit = m; weight = 0 } ∷ []) (w ++ replicate (2 * 0) 0) ≡ set w (place_of m) 0
table-zeroed w m = ap (λ x. set x (place_of m) 0) (append-nil w)

pub one-cost : (n : ℕ) (m : Literal) → IsUpTo n m → All (λ (c : Cost). IsUpTo n c.lit) (record { lit = m; weight = 0 } ∷ [])
one-cost n m h = All-from_contained (λ (c : Cost). IsUpTo n c.lit) (record { lit = m; weight = 0 } ∷ []) (λ c i. rw (Contains-one (record { lit = m; weight = 0 }) c i) h)

pub zero-one : (m : Literal) (c : Cost) → Contains (record { lit = m; weight = 0 } ∷ []) c → c.weight ≡ 0
zero-one m c i = ap (λ (d : Cost). d.weight) (Contains-one (record { lit = m; weight = 0 }) c i)

not-own : (n : Bool) → not n ≢ n
not-own true e = false≢true e
not-own false e = true≢false e

pub negation-other : (l : Literal) → negation l ≢ l
negation-other l e = not-own l.negative (ap (λ (k : Literal). k.negative) e)

pub id-is-in : (m : Literal) (s : List (Option (List Literal))) (id : ℕ) (c : List Literal) → clause_of s id ≡ Some c → Contains c m → is_in id (ids_with (place_of m) s) ≡ true
id-is-in m s id c e h = is_in-by (ids_with (place_of m) s) id (id-in m s id c e h)

-- a table with one weight put in as 0
set-other : (w : List ℕ) (l m : Literal) → l.variable ≢ m.variable → weight_in (set w (place_of m) 0) l ≡ weight_in w l
set-other w l m n = get_or-set_other w (place_of m) (place_of l) 0 0 (λ e. n (ap (λ (k : Literal). k.variable) (same-place l m e)))

priced-some : (f : Cost → ℕ) (c : Cost) → c.weight ≢ 0 → priced f c ≡ f c
priced-some f c n = rw (ne_eqb c.weight 0 n) refl

-- of a label's variable the other literal has no cost
other-zero : (h : Held) (m : Literal) → weight_in h.weights m ≢ 0 → IsStore h → weight_in (set h.weights (place_of m) 0) (negation m) ≡ 0
other-zero h m n s = get_or-set_other h.weights (place_of m) (place_of (negation m)) 0 0 (λ e. negation-other m (same-place (negation m) m e)) ∙ variable_pair m h.weights s.weights.one_each n

-- the costs once one weight is put in as 0
pub zeroed-once : (h : Held) (l m : Literal) (w : ℕ) (r : Rewrite) → IsStore h → l.variable ≢ m.variable → weight_in h.weights l ≡ w → weight_in h.weights m ≡ w → w ≢ 0 → IsValid r h → weights_after r h ≡ set h.weights (place_of m) 0 → r.costs ≡ record { lit = m; weight = 0 } ∷ []
    → IsPaidOnce l m w (costs_of h.weights) (costs_of (weights_after r h))
zeroed-once h l m w r s names weight_l weight_m some v table one =
    let new = weights_after r h in
    let whole = table-after r h s v in
    let kept : weight_in new l ≡ w = ap (λ x. weight_in x l) table ∙ (set-other h.weights l m names ∙ weight_l) in
    let lost : weight_in new m ≡ 0 = ap (λ x. weight_in x m) table ∙ set-zero h.weights (place_of m) in
    let there = weight-cost new l (λ z. some (sym kept ∙ z)) in
    record {
      own = λ f.
          let all = sums_change r h f s v in
          let was = ap (sum_by (λ (c : Cost). priced f (record { lit = c.lit; weight = weight_in h.weights c.lit }))) one in
          let is = ap (sum_by (priced f)) one in
          let first = sum_by-cons (λ (c : Cost). priced f (record { lit = c.lit; weight = weight_in h.weights c.lit })) (record { lit = m; weight = 0 }) [] in
          let old : priced f (record { lit = m; weight = weight_in h.weights m }) ≡ f (record { lit = m; weight = w }) = ap (λ k. priced f (record { lit = m; weight = k })) weight_m ∙ priced-some f (record { lit = m; weight = w }) some in
          let second = sum_by-cons (priced f) (record { lit = m; weight = 0 }) [] in
          omega (arith, all, was, is, first, old, second);
      has = subst (λ (k : ℕ). Contains (costs_of new) (record { lit = l; weight = k })) kept there;
      none = λ p i e. elim (same_or_negation p.lit m e) [
        | inl f ↦ let c = cost-weight new p i in c.1 (sym c.0 ∙ (ap (weight_in new) f ∙ lost))
        | inr f ↦ let c = cost-weight new p i in c.1 (sym c.0 ∙ (ap (weight_in new) f ∙ (ap (λ x. weight_in x (negation m)) table ∙ other-zero h m (λ z. some (sym weight_m ∙ z)) s)))
      ];
      from_one = λ p i. (All-contains (λ (q : Cost). IsUpTo (h.vars + r.fresh) q.lit) (costs_of new) p (costs-within (h.vars + r.fresh) new whole) i).0;
      apart = costs_apart 0 new (λ k. get_or new k 0) (λ k. let n : 0 + k ≡ k = omega arith in rw n refl) whole.one_each;
    }

-- each cost left is one that there was
pub costs-left-in : (h : Held) (m : Literal) (new : List ℕ) → new ≡ set h.weights (place_of m) 0 → (c : Cost) → Contains (costs_of new) c → Contains (costs_of h.weights) c
costs-left-in h m new table c i =
    let own = cost-weight new c i in
    let lost : weight_in new m ≡ 0 = ap (λ x. weight_in x m) table ∙ set-zero h.weights (place_of m) in
    let far : place_of c.lit ≢ place_of m = λ e. own.1 (sym own.0 ∙ (ap (weight_in new) (same-place c.lit m e) ∙ lost)) in
    let was : weight_in h.weights c.lit ≡ c.weight = sym (get_or-set_other h.weights (place_of m) (place_of c.lit) 0 0 far) ∙ (sym (ap (λ x. weight_in x c.lit) table) ∙ own.0) in
    subst (λ (k : ℕ). Contains (costs_of h.weights) (record { lit = c.lit; weight = k })) was (weight-cost h.weights c.lit (λ z. own.1 (sym was ∙ z)))
