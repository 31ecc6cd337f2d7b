use Rattle.std.proofs.Common.{◌<◌, ◌^◌, arith}
use Rattle.mp_text.proofs.Decimal.{short_value}
use Rattle.mp_text.proofs.numbers.short_natural.Goals as goal

pub overflow_mul-value : goal.overflow_mul-value
overflow_mul-value c =
    let test : c.loop-byte.byte-index < 19 = omega (arith, c.loop-byte-test.true, c.requires) in
    let few : c.loop-byte.value < 10 ^ 18 = short_value _ _ c.loop-byte.invariant.few test in
    omega (arith, few)

pub overflow_add-value : goal.overflow_add-value
overflow_add-value c =
    let test : c.loop-byte.byte-index < 19 = omega (arith, c.loop-byte-test.true, c.requires) in
    let few : c.loop-byte.value < 10 ^ 18 = short_value _ _ c.loop-byte.invariant.few test in
    grind (arith, few)
