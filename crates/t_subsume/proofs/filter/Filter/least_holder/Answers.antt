use Rattle.std.proofs.Common.{refl, arith}
use Rattle.t_subsume.proofs.Filtered.{raised}
use Rattle.t_subsume.proofs.filter.Filter.least_holder.Goals as goal

pub returns-then-clears : goal.returns-then-clears
returns-then-clears c =
    raised c.args.store.now c.args.self.now c.args.lits.now c.args.own c.args.least c.counts-is_counted.result c.vars.ensures.sound c.requires.normal c.requires.tells (c.if-clears.ensures refl)
    (λ e. let told = c.counts-is_counted.ensures e in record { low = told.1; high = told.2; clause = c.requires.own told.0 })
    (omega (arith, c.if-least-self.false)) c.requires.rested
