use Rattle.std.proofs.Common.{arith}
use Rattle.core_solver.proofs.backjump.later.Goals as goal

pub overflow_add-result : goal.overflow_add-result
overflow_add-result c = let inside = c.in-Some.ensures.found.0 in omega (arith, inside, c.len-len.ensures.len)
