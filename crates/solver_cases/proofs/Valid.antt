-- When a query is valid.
use Rattle.std.proofs.Common.{◌≡◌, ◌<◌, ◌≤◌, nat_lt, ℕ, zero, suc, true, IsTrue, List, [], ◌∷◌, length, get_or, Contains, ap, arith, inl, inr}
use Rattle.std.proofs.lemmas.Bool.{and_parts, ltb-true}
use Rattle.std.proofs.lemmas.List.Elements.{Contains-get_or}
use Rattle.mp_logic.specs.Literal.{Literal}
use Rattle.mp_logic.specs.Normal.{rises}
use Rattle.mp_logic.proofs.Members.{Contains-none, Contains-cases}
use Rattle.core_solver.specs.declared.query.Query.{Query}
use Rattle.core_solver.specs.Verdicts.{IsQuery}
use Rattle.solver_cases.specs.Within.{IsWithin}

above : (n : ℕ) (c : List Literal) → rises n c ≡ true → (l : Literal) → Contains c l → n < l.variable
above n [] h l i = absurd (Contains-none l i)
above n (a ∷ c) h l i =
    let parts = and_parts (nat_lt n a.variable) (rises a.variable c) h in
    let here = ltb-true n a.variable parts.0 in
    elim (Contains-cases a c l i) [
      | inl e ↦ let v = ap (λ (k : Literal). k.variable) e in omega (arith, v, here)
      | inr j ↦ omega (arith, here, above a.variable c parts.1 l j)
    ]

pub within-for : (c : List Literal) (vars : ℕ) → IsTrue (rises 0 c) → ((l : Literal) → Contains c l → l.variable ≤ vars) → IsWithin vars c
within-for c vars r h = record { normal = r; within = λ l i. let z = above 0 c r l i in (omega (arith, z), h l i) }

apart : (n : ℕ) (c : List Literal) (i j : ℕ) (d : Literal) → rises n c ≡ true → i < j → j < length c → (get_or c i d).variable < (get_or c j d).variable
apart n [] i j d r less inside = absurd (omega (arith, inside))
apart n (a ∷ c) i zero d r less inside = absurd (omega (arith, less))
apart n (a ∷ c) zero (suc j) d r less inside = above a.variable c (and_parts (nat_lt n a.variable) (rises a.variable c) r).1 (get_or c j d) (Contains-get_or c j d (omega (arith, inside)))
apart n (a ∷ c) (suc i) (suc j) d r less inside = apart a.variable c i j d (and_parts (nat_lt n a.variable) (rises a.variable c) r).1 (omega (arith, less)) (omega (arith, inside))

pub valid-for : (q : Query) → ((c : List Literal) → Contains q.hard c → IsWithin q.vars c) → IsWithin q.vars q.assumptions → IsQuery q
valid-for q h a = record {
  normal = λ c i. (h c i).normal;
  within = λ c i. (h c i).within;
  assumed_within = a.within;
  distinct = λ i j d less inside e. let z = apart 0 q.assumptions i j d a.normal less inside in omega (arith, z, e);
}
