use Rattle.std.proofs.Common.{◌≡◌, ℕ, ◌*◌, ◌<◌, ◌≤◌, ◌^◌, ◌∙◌, Bool, List, length, ap, arith}
use Rattle.t_equiv_graph.specs.Spreads.{yes_of}
use Rattle.t_equiv_graph.proofs.Placed.{yes_of-most, area}
use Rattle.t_equiv_graph.proofs.spreading.number_of.Goals as goal

fitting : (m n : ℕ) (s : List Bool) → m ≡ yes_of s → length s ≡ n → n < 2 ^ 32 → m * n ≤ 18446744065119617025
fitting m n s e d l =
    let most : yes_of s ≤ length s = yes_of-most s in
    area m n (omega arith) l

pub overflow_mul-row : goal.overflow_mul-row
overflow_mul-row c =
    let many : length c.as_slice-2.result.now ≡ c.args.count = ap length c.as_slice-2.ensures.value ∙ c.in_ok-seen.ensures.many in
    let r : c.many_seen-many.result * c.args.count ≤ 18446744065119617025 = fitting c.many_seen-many.result c.args.count c.as_slice-2.result.now c.many_seen-many.ensures many c.requires.count in
    omega (arith, r)

pub overflow_add-number : goal.overflow_add-number
overflow_add-number c =
    let many : length c.as_slice-2.result.now ≡ c.args.count = ap length c.as_slice-2.ensures.value ∙ c.in_ok-seen.ensures.many in
    let r : c.many_seen-many.result * c.args.count ≤ 18446744065119617025 = fitting c.many_seen-many.result c.args.count c.as_slice-2.result.now c.many_seen-many.ensures many c.requires.count in
    let f : c.in_ok-first.first ≤ c.args.node = c.in_ok-first.ensures.below in
    omega (arith, r, f)
