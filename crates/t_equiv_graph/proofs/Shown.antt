-- A witness shows that its numbers are those of components.
use Rattle.std.proofs.Common.{◌≡◌, ℕ, ◌<◌, List, length, get_or, zero, suc, refl, sym, ap, subst, arith, inl, inr}
use Rattle.t_equiv_graph.specs.Graphs.{Step, Reaches, IsJoined, AreComponents}
use Rattle.t_equiv_graph.specs.Spreads.{Comes}
use Rattle.t_equiv_graph.specs.Witnesses.{NeverRise, root_of, AreLed}
use Rattle.t_equiv_graph.proofs.Walks.{reaches-on, reaches-one, reaches-back, step-falls, joined-same}

pub comes-on : (f t : List ℕ) (x y z : ℕ) → Comes f t x y → Comes f t y z → Comes f t x z
comes-on f t x y z a b = elim a [
  | inl e ↦ subst (λ v. Comes f t v z) (sym e) b
  | inr r ↦ elim b [
    | inl e ↦ inr (subst (λ v. Reaches f t x v) e r)
    | inr s ↦ inr (reaches-on f t x y z r s)
  ]
]

comes-back : (f t : List ℕ) (x y : ℕ) → length f ≡ length t → Comes t f x y → Comes f t y x
comes-back f t x y e a = elim a [ inl d ↦ inl (sym d) | inr r ↦ inr (reaches-back f t x y e r) ]

led : (f t ns rs ss ks : List ℕ) → AreLed f t ns rs ss ks → (b x : ℕ) → x < length ns → get_or ks x 0 < b → Comes f t x (root_of rs ns x)
led f t ns rs ss ks h zero x i l = absurd (omega arith)
led f t ns rs ss ks h (suc b) x i l = elim (h x i) [
  | inl e ↦ inl (sym e)
  | inr u ↦
      let next : ℕ = get_or t (get_or ss x 0) 0 in
      let lower : get_or ks next 0 < get_or ks x 0 = u.lower in
      let up : Step f t x next = record { place = get_or ss x 0; within = u.within; starts = u.starts; ends = refl } in
      let rest : Comes f t next (root_of rs ns next) = led f t ns rs ss ks h b next u.known (omega arith) in
      let same : root_of rs ns next ≡ root_of rs ns x = ap (λ v. get_or rs v 0) u.alike in
      comes-on f t x next (root_of rs ns x) (inr (reaches-one f t x next up)) (subst (λ v. Comes f t next v) same rest)
]

pub record IsShown (count : ℕ) (f t ns rs us ups ds downs : List ℕ) : Type 0 where
  pub many : length ns ≡ count
  pub even : length f ≡ length t
  pub never_rise : NeverRise f t ns
  pub up : AreLed f t ns rs us ups
  pub down : AreLed t f ns rs ds downs

comes : (n : ℕ) (f t ns rs us ups ds downs : List ℕ) → IsShown n f t ns rs us ups ds downs → (x y : ℕ) → x < n → y < n → get_or ns x 0 ≡ get_or ns y 0 → Comes f t x y
comes n f t ns rs us ups ds downs s x y i j e =
    let i' : x < length ns = subst (λ m. x < m) (sym s.many) i in
    let j' : y < length ns = subst (λ m. y < m) (sym s.many) j in
    let same : root_of rs ns x ≡ root_of rs ns y = ap (λ v. get_or rs v 0) e in
    let up : Comes f t x (root_of rs ns x) = led f t ns rs us ups s.up (suc (get_or ups x 0)) x i' (omega arith) in
    let down : Comes t f y (root_of rs ns y) = led t f ns rs ds downs s.down (suc (get_or downs y 0)) y j' (omega arith) in
    comes-on f t x (root_of rs ns x) y up (subst (λ v. Comes f t v y) (sym same) (comes-back f t y (root_of rs ns y) s.even down))

pub both : (f t : List ℕ) (x y : ℕ) → Comes f t x y → Comes f t y x → IsJoined f t x y
both f t x y a b = elim a [ inl e ↦ inl e | inr r ↦ elim b [ inl e ↦ inl (sym e) | inr s ↦ inr (r, s) ] ]

pub shown : (n : ℕ) (f t ns rs us ups ds downs : List ℕ) → IsShown n f t ns rs us ups ds downs → AreComponents n f t ns
shown n f t ns rs us ups ds downs s = record {
  many = s.many;
  falls = λ x y a. step-falls f t ns x y s.never_rise a;
  same = λ x y i j. (λ e. both f t x y (comes n f t ns rs us ups ds downs s x y i j e) (comes n f t ns rs us ups ds downs s y x j i (sym e)), λ k. joined-same f t ns x y s.never_rise k);
}
