-- Walks: joined, turned round, and what numbers do along them.
use Rattle.std.proofs.Common.{◌≡◌, ℕ, ◌<◌, ◌≤◌, List, [], ◌∷◌, ◌++◌, length, get_or, sym, ap, subst, arith, inl, inr}
use Rattle.t_equiv_graph.specs.Graphs.{Step, IsWalk, Reaches, IsJoined}
use Rattle.t_equiv_graph.specs.Witnesses.{NeverRise}

walk-append : (f t zs ws : List ℕ) (x y z : ℕ) → IsWalk f t zs x y → IsWalk f t ws y z → IsWalk f t (zs ++ y ∷ ws) x z
walk-append f t [] ws x y z a b = (a, b)
walk-append f t (w ∷ zs) ws x y z a b = (a.0, walk-append f t zs ws w y z a.1 b)

pub reaches-on : (f t : List ℕ) (x y z : ℕ) → Reaches f t x y → Reaches f t y z → Reaches f t x z
reaches-on f t x y z a b = record { between = a.between ++ y ∷ b.between; walk = walk-append f t a.between b.between x y z a.walk b.walk }

pub reaches-one : (f t : List ℕ) (x y : ℕ) → Step f t x y → Reaches f t x y
reaches-one f t x y a = record { between = []; walk = a }

step-back : (f t : List ℕ) (x y : ℕ) → length f ≡ length t → Step t f x y → Step f t y x
step-back f t x y e a = record { place = a.place; within = subst (λ n. a.place < n) (sym e) a.within; starts = a.ends; ends = a.starts }

walk-back : (f t zs : List ℕ) (x y : ℕ) → length f ≡ length t → IsWalk t f zs x y → Reaches f t y x
walk-back f t [] x y e a = reaches-one f t y x (step-back f t x y e a)
walk-back f t (z ∷ zs) x y e a = reaches-on f t y z x (walk-back f t zs z y e a.1) (reaches-one f t z x (step-back f t x z e a.0))

pub reaches-back : (f t : List ℕ) (x y : ℕ) → length f ≡ length t → Reaches t f x y → Reaches f t y x
reaches-back f t x y e a = walk-back f t a.between x y e a.walk

pub step-falls : (f t ns : List ℕ) (x y : ℕ) → NeverRise f t ns → Step f t x y → get_or ns y 0 ≤ get_or ns x 0
step-falls f t ns x y h a =
    let one : get_or ns (get_or t a.place 0) 0 ≤ get_or ns (get_or f a.place 0) 0 = h a.place a.within in
    let two : get_or ns y 0 ≤ get_or ns (get_or f a.place 0) 0 = subst (λ v. get_or ns v 0 ≤ get_or ns (get_or f a.place 0) 0) a.ends one in
    subst (λ v. get_or ns y 0 ≤ get_or ns v 0) a.starts two

walk-falls : (f t ns zs : List ℕ) (x y : ℕ) → NeverRise f t ns → IsWalk f t zs x y → get_or ns y 0 ≤ get_or ns x 0
walk-falls f t ns [] x y h a = step-falls f t ns x y h a
walk-falls f t ns (z ∷ zs) x y h a =
    let one : get_or ns z 0 ≤ get_or ns x 0 = step-falls f t ns x z h a.0 in
    let two : get_or ns y 0 ≤ get_or ns z 0 = walk-falls f t ns zs z y h a.1 in
    omega arith

pub joined-same : (f t ns : List ℕ) (x y : ℕ) → NeverRise f t ns → IsJoined f t x y → get_or ns x 0 ≡ get_or ns y 0
joined-same f t ns x y h j = elim j [
  | inl e ↦ ap (λ v. get_or ns v 0) e
  | inr r ↦
      let one : get_or ns y 0 ≤ get_or ns x 0 = walk-falls f t ns r.0.between x y h r.0.walk in
      let two : get_or ns x 0 ≤ get_or ns y 0 = walk-falls f t ns r.1.between y x h r.1.walk in
      omega arith
]
