use Rattle.std.proofs.Common.{◌-◌, arith}
use Rattle.std.proofs.lemmas.Grind.{common_steps}
use Rattle.core_solver.proofs.Tables.{cut-step}
use Rattle.core_solver.proofs.trail.Trail.cut.Goals as goal

pub cut-preserved : goal.cut-preserved
cut-preserved c =
    let i = c.cut.invariant in
    let h = cut-step c.cut.self-inside.positions.items c.cut.self-inside.lits.items c.self.inside.lits.items c.truncate.new.self.items c.cut.self-inside.vars (c.len-last.result - 1) c.args.len c.index-lit.result.now i.table i.lits (grind (arith, common_steps)) (grind (arith, common_steps)) c.index-lit.ensures c.truncate.ensures.items in
    rw c.place.ensures (record { table = h.0; lits = h.1; more = h.2; reasons = i.reasons; marks = i.marks; vars = i.vars })
