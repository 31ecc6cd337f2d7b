use Rattle.std.proofs.Common.{arith}
use Rattle.t_equiv.proofs.Heads.{some-opposite}
use Rattle.t_equiv.proofs.images.has_opposites.Goals as goal

pub returns-then-numbers-variable-clause-some : goal.returns-then-numbers-variable-clause-some
returns-then-numbers-variable-clause-some c = λ e. some-opposite c.args.vars c.args.numbers.now c.loop-variable.variable (omega arith) c.if-numbers-variable.true
