-- What is decided next.
use Rattle.std.proofs.Common.{◌≡◌, ◌<◌, ◌≤◌, ◌+◌, ℕ, List, [], take, replicate, length, get_or, Contains, ap, sym, ◌∙◌, subst, arith, inl, inr}
use Rattle.std.proofs.lemmas.Bool.{cases_lt}
use Rattle.std.proofs.lemmas.List.{get_or-replicate, get_or_past, length-replicate, take_all}
use Rattle.mp_logic.specs.Literal.{Literal, negation, IsUpTo}
use Rattle.mp_logic.specs.Sets.{Among}
use Rattle.mp_logic.proofs.Literals.{same_or_negation, negation-negation}
use Rattle.core_solver.specs.declared.query.Query.{Query}
use Rattle.core_solver.specs.declared.decisions.Cursor.{Cursor}
use Rattle.core_solver.specs.Trails.{IsPositionOf}
use Rattle.core_solver.specs.Searching.{IsCursor, HasValue}
use Rattle.core_solver.specs.Verdicts.{IsQuery}
use Rattle.core_solver.proofs.Analysed.{same_there}
use Rattle.core_solver.proofs.Taken.{front-has}

pub assumption-at : (q : Query) (i : ℕ) (l : Literal) → IsQuery q → i < length q.assumptions → l ≡ get_or q.assumptions i l → IsUpTo q.vars l × Contains q.assumptions l
assumption-at q i l h less e = let in_q : Contains q.assumptions l = (i, less, sym e) in (h.assumed_within l in_q, in_q)

pub cursor-step : (q : Query) (lits : List Literal) (c : Cursor) (l : Literal) (n : ℕ) → IsCursor q lits c → l ≡ get_or q.assumptions c.assumed l → Contains lits l → n ≡ length lits → IsCursor q lits (record { assumed = c.assumed + 1; settled = n })
cursor-step q lits c l n h e here is =
    let whole : take n lits ≡ lits = take_all n lits (omega (arith, is)) in
    record {
      assumptions = λ k m less at. subst (λ x. Contains x m) (sym whole) (elim (cases_lt k c.assumed) [
        | inl below ↦ front-has c.settled lits m (h.assumptions k m below at)
        | inr above ↦
            let same : k ≡ c.assumed = omega (arith, less, above) in
            let is_l : l ≡ m = same_there q.assumptions l m c.assumed (let a = at.0 in omega (arith, a, same), sym e) (subst (λ x. IsPositionOf q.assumptions m x) same at) in
            subst (λ x. Contains lits x) is_l here
      ]);
      settled = omega (arith, is);
    }

pub all-true : (q : Query) (lits : List Literal) (c : Cursor) → IsCursor q lits c → length q.assumptions ≤ c.assumed → Among q.assumptions lits
all-true q lits c h all l i = let less = i.1 in front-has c.settled lits l (h.assumptions i.0 l (omega (arith, less, all)) (i.1, i.2))

-- the variables up to a number have values, and so has the next
pub values-more : (lits : List Literal) (n : ℕ) → ((l : Literal) → IsUpTo n l → HasValue lits l) → ((l : Literal) → l.variable ≡ n + 1 → HasValue lits l) → (l : Literal) → IsUpTo (n + 1) l → HasValue lits l
values-more lits n h here l w =
    let low = w.0 in
    let up = w.1 in
    elim (cases_lt n l.variable) [
      | inl above ↦ here l (omega (arith, above, up))
      | inr below ↦ h l (low, below)
    ]

-- a literal without a value, or its negation, says that the variable has one
pub value-of : (lits : List Literal) (k l : Literal) → l.variable ≡ k.variable → HasValue lits k → HasValue lits l
value-of lits k l e o =
    elim (same_or_negation l k e) [
      | inl s ↦ subst (HasValue lits) (sym s) o
      | inr s ↦ elim o [
        | inl i ↦ inr (subst (λ x. Contains lits x) (sym (negation-negation k) ∙ ap negation (sym s)) i)
        | inr i ↦ inl (subst (λ x. Contains lits x) (sym s) i)
      ]
    ]

pub all-empty : (n p : ℕ) (lists : List (List ℕ)) → lists ≡ replicate n [] → get_or lists p [] ≡ []
all-empty n p lists e =
    ap (λ x. get_or x p []) e ∙ elim (cases_lt p n) [
      | inl less ↦ get_or-replicate n p [] [] less
      | inr past ↦ get_or_past (replicate n []) p [] (omega (arith, past, length-replicate {A = List ℕ} n []))
    ]
