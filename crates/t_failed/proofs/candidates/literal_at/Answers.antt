use Rattle.std.proofs.Common.{◌/◌, arith, inl, inr}
use Rattle.t_failed.proofs.Occurring.{occurs-past}
use Rattle.t_failed.proofs.candidates.literal_at.Goals as goal

pub returns-then-variable-eq0 : goal.returns-then-variable-eq0
returns-then-variable-eq0 c = occurs-past c.args.store.now (c.args.item / 2) c.vars-vars.ensures.sound (inl c.if-variable-eq0.true)

pub returns-then-vars-variable : goal.returns-then-vars-variable
returns-then-vars-variable c = occurs-past c.args.store.now (c.args.item / 2) c.vars-vars.ensures.sound (inr (omega (arith, c.if-vars-variable.true, c.vars-vars.ensures.vars)))
