-- Labels that another one covers, and pairs of labels, in states that are alike.
use Rattle.std.proofs.Common.{◌≡◌, ◌+◌, ℕ, Bool, ◌&&◌, cond, List, Contains, length, map, ap, sym, ◌∙◌, subst, arith, inl, inr}
use Rattle.std.proofs.lemmas.List.{length-map}
use Rattle.std.proofs.lemmas.List.Sorted.{IsPermutation-sym, Contains-permutation}
use Rattle.mp_logic.specs.Literal.{Literal, negation}
use Rattle.mp_logic.specs.Keeping.{State}
use Rattle.mp_logic.specs.SubsumedLabels.{IsPlain}
use Rattle.mp_logic.specs.declared.instances.Cost.{Cost}
use Rattle.mp_clauses.specs.Places.{place_of, has}
use Rattle.mp_labels.proofs.Lists.{Contains-from_map}
use Rattle.t_labels.specs.Covers.{NoCovered}
use Rattle.t_matching.specs.Cores.{has_both, clauses_with, AreCore, NoBinaryCore}
use Rattle.t_matching.specs.Matching.{AreMatching, NoMatching}
use Rattle.mp_engine.specs.Alike.{Uses, numbered, numbered_cost, IsAlike}
use Rattle.mp_engine.proofs.Alike.{same_literal, uses, uses_cost, clause_behind, clause_ahead, literal_ahead, literal_behind, sum_moves, has_moves}

-- costs behind
pub cost_behind : (s t : State) (a : IsAlike s t) (q : Cost) → Contains t.costs q → (p : Cost) × Contains s.costs p × (q ≡ numbered_cost a.number p)
cost_behind s t a q i =
    Contains-from_map (numbered_cost a.number) s.costs q (Contains-permutation t.costs (map (numbered_cost a.number) s.costs) q (IsPermutation-sym (map (numbered_cost a.number) s.costs) t.costs a.costs) i)

-- a literal is plain where it is so under its number
pub plain_behind : (s t : State) (a : IsAlike s t) (l : Literal) → IsPlain (numbered a.number l) t.hard → IsPlain l s.hard
plain_behind s t a l h c own k has e = h (map (numbered a.number) c) (clause_ahead s t a c own) (numbered a.number k) (literal_ahead a.number c k has) (ap (numbered a.number) e)

pub plain_ahead : (s t : State) (a : IsAlike s t) (l : Literal) → Uses s l.variable → IsPlain l s.hard → IsPlain (numbered a.number l) t.hard
plain_ahead s t a l u h d own k has e =
    let c = clause_behind s t a d own in
    let m = Contains-from_map (numbered a.number) c.0 k (subst (λ (x : List Literal). Contains x k) c.2 has) in
    h c.0 c.1 m.0 m.1 (same_literal s t a m.0 (negation l) (uses s c.0 m.0 c.1 m.1) u (sym m.2 ∙ e))

-- labels that another one covers
pub none_covered_move : (s t : State) → IsAlike s t → NoCovered s → NoCovered t
none_covered_move s t a h q own covered =
    let n = a.number in
    let p = cost_behind s t a q own in
    let u = uses_cost s p.0 p.1 in
    let lit : q.lit ≡ numbered n (p.0).lit = ap (λ (x : Cost). x.lit) p.2 in
    h p.0 p.1
    (elim covered [
      | inl unused ↦ inl (λ c i has. unused (map (numbered n) c) (clause_ahead s t a c i) (subst (Contains (map (numbered n) c)) (sym lit) (literal_ahead n c (p.0).lit has)))
      | inr by ↦
          let r = cost_behind s t a by.0 by.1.cost in
          let v = uses_cost s r.0 r.1 in
          let is : (by.0).lit ≡ numbered n (r.0).lit = ap (λ (x : Cost). x.lit) r.2 in
          inr (
            r.0,
            record {
              cost = r.1;
              other = λ e. by.1.other (is ∙ (ap (numbered n) e ∙ sym lit));
              plain = plain_behind s t a (r.0).lit (subst (λ (k : Literal). IsPlain k t.hard) is by.1.plain);
              weight = let x = by.1.weight in let y = ap (λ (c : Cost). c.weight) r.2 in let z = ap (λ (c : Cost). c.weight) p.2 in omega (arith, x, y, z);
              covers = λ c i has.
                  let there = by.1.covers (map (numbered n) c) (clause_ahead s t a c i) (subst (Contains (map (numbered n) c)) (sym lit) (literal_ahead n c (p.0).lit has)) in
                  literal_behind s t a c (r.0).lit i v (subst (Contains (map (numbered n) c)) is there);
            },
          )
    ])

-- labels that form a core
pub no_core_move : (s t : State) → IsAlike s t → NoBinaryCore s → NoBinaryCore t
no_core_move s t a h l m core =
    let n = a.number in
    let w = core.weight in
    let x = cost_behind s t a (record { lit = l; weight = w.0 }) w.1 in
    let y = cost_behind s t a (record { lit = m; weight = w.0 }) w.2 in
    let p = x.0 in
    let q = y.0 in
    let is_l : l ≡ numbered n p.lit = ap (λ (c : Cost). c.lit) x.2 in
    let is_m : m ≡ numbered n q.lit = ap (λ (c : Cost). c.lit) y.2 in
    let Core : Literal → Literal → Type 0 = λ j k. AreCore j k t in
    let here : AreCore (numbered n p.lit) (numbered n q.lit) t = subst (λ (k : Literal). AreCore (numbered n p.lit) k t) is_m (subst (λ (j : Literal). AreCore j m t) is_l core) in
    let u = uses_cost s p x.1 in
    let v = uses_cost s q y.1 in
    let weight_p : w.0 ≡ p.weight = ap (λ (c : Cost). c.weight) x.2 in
    let weight_q : w.0 ≡ q.weight = ap (λ (c : Cost). c.weight) y.2 in
    let pair = clause_behind s t a (here.pair).0 (here.pair).1 in
    let count : (l : Literal) → Uses s l.variable → (k : ℕ) → clauses_with (numbered n l) t.hard ≡ k → clauses_with l s.hard ≡ k =
    λ l used k e. sym (sum_moves s t a (λ c. cond (has (place_of (numbered n l)) c) 1 0) (λ c. cond (has (place_of l) c) 1 0) (λ c own. ap (λ (b : Bool). cond b 1 0) (has_moves s t a l used c own))) ∙ e in
    h p.lit q.lit
    (record {
      weight = (w.0, subst (λ (k : ℕ). Contains s.costs (record { lit = p.lit; weight = k })) (sym weight_p) x.1, subst (λ (k : ℕ). Contains s.costs (record { lit = q.lit; weight = k })) (sym weight_q) y.1);
      names = λ e. here.names (ap n e);
      plain_l = plain_behind s t a p.lit here.plain_l;
      plain_m = plain_behind s t a q.lit here.plain_m;
      pair = (
        pair.0,
        pair.1,
        literal_behind s t a pair.0 p.lit pair.1 u (subst (λ (c : List Literal). Contains c (numbered n p.lit)) pair.2 (here.pair).2),
        literal_behind s t a pair.0 q.lit pair.1 v (subst (λ (c : List Literal). Contains c (numbered n q.lit)) pair.2 (here.pair).3),
        sym (length-map pair.0 (numbered n)) ∙ (ap (λ (c : List Literal). length c) (sym pair.2) ∙ (here.pair).4),
      );
      one = sym (sum_moves s t a (λ c. cond (has_both (numbered n p.lit) (numbered n q.lit) c) 1 0) (λ c. cond (has_both p.lit q.lit c) 1 0)
          (λ c own. ap (λ (b : Bool). cond (b && has (place_of (numbered n q.lit)) (map (numbered n) c)) 1 0) (has_moves s t a p.lit u c own)
          ∙ ap (λ (b : Bool). cond (has (place_of p.lit) c && b) 1 0) (has_moves s t a q.lit v c own)))
          ∙ here.one;
      small = let k = here.small in (k.0, k.1, count p.lit u (k.0 + 1) k.2, count q.lit v (k.1 + 1) k.3, k.4);
    })

-- labels that match
pub no_matching_move : (s t : State) → IsAlike s t → NoMatching s → NoMatching t
no_matching_move s t a h l m match_there =
    let n = a.number in
    let w = match_there.weight in
    let x = cost_behind s t a (record { lit = l; weight = w.0 }) w.1 in
    let y = cost_behind s t a (record { lit = m; weight = w.0 }) w.2 in
    let p = x.0 in
    let q = y.0 in
    let is_l : l ≡ numbered n p.lit = ap (λ (c : Cost). c.lit) x.2 in
    let is_m : m ≡ numbered n q.lit = ap (λ (c : Cost). c.lit) y.2 in
    let here : AreMatching (numbered n p.lit) (numbered n q.lit) t = subst (λ (k : Literal). AreMatching (numbered n p.lit) k t) is_m (subst (λ (j : Literal). AreMatching j m t) is_l match_there) in
    let weight_p : w.0 ≡ p.weight = ap (λ (c : Cost). c.weight) x.2 in
    let weight_q : w.0 ≡ q.weight = ap (λ (c : Cost). c.weight) y.2 in
    h p.lit q.lit
    (record {
      weight = (w.0, subst (λ (k : ℕ). Contains s.costs (record { lit = p.lit; weight = k })) (sym weight_p) x.1, subst (λ (k : ℕ). Contains s.costs (record { lit = q.lit; weight = k })) (sym weight_q) y.1);
      names = λ e. here.names (ap n e);
      plain_l = plain_behind s t a p.lit here.plain_l;
      plain_m = plain_behind s t a q.lit here.plain_m;
      apart = λ c own i j. here.apart (map (numbered n) c) (clause_ahead s t a c own) (literal_ahead n c p.lit i) (literal_ahead n c q.lit j);
      conflict = λ c d own_c own_d i j.
          let there = here.conflict (map (numbered n) c) (map (numbered n) d) (clause_ahead s t a c own_c) (clause_ahead s t a d own_d) (literal_ahead n c p.lit i) (literal_ahead n d q.lit j) in
          let k = Contains-from_map (numbered n) c there.0 there.3 in
          let variable = ap (λ (r : Literal). r.variable) k.2 in (
            k.0,
            λ e. there.1 (variable ∙ ap n e),
            λ e. there.2 (variable ∙ ap n e),
            k.1,
            literal_behind s t a d (negation k.0) own_d (uses s c k.0 own_c k.1) (subst (λ (r : Literal). Contains (map (numbered n) d) (negation r)) k.2 there.4),
          );
    })
