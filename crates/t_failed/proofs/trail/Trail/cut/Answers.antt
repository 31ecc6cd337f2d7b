use Rattle.std.proofs.Common.{◌-◌, arith, refl}
use Rattle.std.proofs.lemmas.Grind.{common_steps}
use Rattle.t_failed.proofs.Trails.{cut-step}
use Rattle.t_failed.proofs.trail.Trail.cut.Goals as goal

pub index_mut-requires : goal.index_mut-requires
index_mut-requires c =
    let i = c.cut.invariant in
    let h = cut-step c.cut.self-inside.marks.items c.cut.self-inside.lits.items c.self.inside.lits.items _ (c.len-last.result - 1) c.args.len c.index-lit.result.now i.marked i.lits (grind (arith, common_steps)) (grind (arith, common_steps)) c.index-lit.ensures refl in
    let there = h.3 in
    rw c.place.ensures (omega (arith, there))

pub cut-preserved : goal.cut-preserved
cut-preserved c =
    let i = c.cut.invariant in
    let h = cut-step c.cut.self-inside.marks.items c.cut.self-inside.lits.items c.self.inside.lits.items c.truncate.new.self.items (c.len-last.result - 1) c.args.len c.index-lit.result.now i.marked i.lits (grind (arith, common_steps)) (grind (arith, common_steps)) c.index-lit.ensures c.truncate.ensures.items in
    rw c.place.ensures (record { marked = h.0; lits = h.1; more = h.2 })
