-- Steps by clauses of two literals, in states that are alike.
use Rattle.std.proofs.Common.{◌≡◌, ℕ, List, [], ◌∷◌, Contains, get_or, length, map, refl, ap, sym, ◌∙◌, subst, arith, inl, inr}
use Rattle.mp_logic.specs.Literal.{Literal, negation}
use Rattle.mp_logic.specs.Keeping.{State}
use Rattle.mp_logic.proofs.Members.{Contains-first, Contains-later}
use Rattle.t_equiv.specs.Implications.{IsStep, IsTrail, Reaches}
use Rattle.t_equiv.specs.Equivalences.{NoEquivalent}
use Rattle.mp_engine.specs.Alike.{Uses, numbered, IsAlike}
use Rattle.mp_engine.proofs.Alike.{same_literal, uses, clause_behind}

-- a clause of two literals under their numbers
record IsPair (number : ℕ → ℕ) (c : List Literal) (a b : Literal) : Type 0 where
  first : Literal
  second : Literal
  is : c ≡ first ∷ second ∷ []
  first_is : a ≡ numbered number first
  second_is : b ≡ numbered number second

pair_from : (number : ℕ → ℕ) (c : List Literal) (a b : Literal) → a ∷ b ∷ [] ≡ map (numbered number) c → IsPair number c a b
pair_from number [] a b e = absurd (let size : 2 ≡ 0 = ap (λ (xs : List Literal). length xs) e in omega (arith, size))
pair_from number (k ∷ []) a b e = absurd (let size : 2 ≡ 1 = ap (λ (xs : List Literal). length xs) e in omega (arith, size))
pair_from number (k ∷ (l ∷ [])) a b e = record {
  first = k;
  second = l;
  is = refl;
  first_is = ap (λ (xs : List Literal). get_or xs 0 a) e;
  second_is = ap (λ (xs : List Literal). get_or xs 1 a) e;
}
pair_from number (k ∷ (l ∷ (m ∷ c))) a b e =
    let size : 2 ≡ length (map (numbered number) (k ∷ (l ∷ (m ∷ c)))) = ap (λ (xs : List Literal). length xs) e in
    absurd (omega (arith, size))

-- what leads from the one literal to the other leads so between literals of the first state
record IsBack (s t : State) (a : IsAlike s t) (Leads : Literal → Literal → Type 0) (x y : Literal) : Type 0 where
  start : Literal
  end : Literal
  start_used : Uses s start.variable
  end_used : Uses s end.variable
  start_is : x ≡ numbered a.number start
  end_is : y ≡ numbered a.number end
  leads : Leads start end

step_back : (s t : State) (a : IsAlike s t) (x y : Literal) → IsStep t.hard x y → IsBack s t a (IsStep s.hard) x y
step_back s t a x y h =
    let c = clause_behind s t a (h.a ∷ h.b ∷ []) h.clause in
    let p = pair_from a.number c.0 h.a h.b c.2 in
    let own : Contains s.hard (p.first ∷ p.second ∷ []) = subst (Contains s.hard) p.is c.1 in
    let first_used = uses s (p.first ∷ p.second ∷ []) p.first own (Contains-first p.first (p.second ∷ [])) in
    let second_used = uses s (p.first ∷ p.second ∷ []) p.second own (Contains-later p.first (p.second ∷ []) p.second (Contains-first p.second [])) in
    elim h.either [
      | inl k ↦ record {
        start = negation p.first;
        end = p.second;
        start_used = first_used;
        end_used = second_used;
        start_is = k.0 ∙ ap negation p.first_is;
        end_is = k.1 ∙ p.second_is;
        leads = record { a = p.first; b = p.second; clause = own; either = inl (refl, refl) };
      }
      | inr k ↦ record {
        start = negation p.second;
        end = p.first;
        start_used = second_used;
        end_used = first_used;
        start_is = k.0 ∙ ap negation p.second_is;
        end_is = k.1 ∙ p.first_is;
        leads = record { a = p.first; b = p.second; clause = own; either = inr (refl, refl) };
      }
    ]

trail_back : (s t : State) (a : IsAlike s t) (zs : List Literal) (x y : Literal) → IsTrail t.hard zs x y → IsBack s t a (λ k l. Reaches s.hard k l) x y
trail_back s t a [] x y h =
    let b = step_back s t a x y h in
    record { start = b.start; end = b.end; start_used = b.start_used; end_used = b.end_used; start_is = b.start_is; end_is = b.end_is; leads = record { between = []; trail = b.leads } }
trail_back s t a (z ∷ zs) x y h =
    let b = step_back s t a x z h.0 in
    let r = trail_back s t a zs z y h.1 in
    let same : r.start ≡ b.end = same_literal s t a r.start b.end r.start_used b.end_used (sym r.start_is ∙ b.end_is) in
    record {
      start = b.start;
      end = r.end;
      start_used = b.start_used;
      end_used = r.end_used;
      start_is = b.start_is;
      end_is = r.end_is;
      leads = record { between = r.start ∷ r.leads.between; trail = (subst (λ (k : Literal). IsStep s.hard b.start k) (sym same) b.leads, r.leads.trail) };
    }

-- equivalent literals
pub none_equivalent_move : (s t : State) → IsAlike s t → NoEquivalent s.hard → NoEquivalent t.hard
none_equivalent_move s t a h x y to back =
    let f = trail_back s t a to.between x y to.trail in
    let g = trail_back s t a back.between y x back.trail in
    let ends : g.start ≡ f.end = same_literal s t a g.start f.end g.start_used f.end_used (sym g.start_is ∙ f.end_is) in
    let starts : g.end ≡ f.start = same_literal s t a g.end f.start g.end_used f.start_used (sym g.end_is ∙ f.start_is) in
    let returns : Reaches s.hard f.end f.start = subst (λ (k : Literal). Reaches s.hard k f.start) ends (subst (λ (k : Literal). Reaches s.hard g.start k) starts g.leads) in
    f.start_is ∙ (ap (numbered a.number) (h f.start f.end f.leads returns) ∙ sym f.end_is)
