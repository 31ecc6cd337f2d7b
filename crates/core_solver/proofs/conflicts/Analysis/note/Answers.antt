use Rattle.std.proofs.Common.{arith, refl, inl, inr}
use Rattle.core_solver.specs.Conflicts.{noted}
use Rattle.core_solver.proofs.Analysed.{absorbed-one, absorbed-high}
use Rattle.core_solver.proofs.conflicts.Analysis.note.Goals as goal

pub returns-then-position-mark : goal.returns-then-position-mark
returns-then-position-mark c =
    let at = rw c.negated.ensures at c.in-Some.ensures.found in
    absorbed-one c.args.trail.now.lits c.args.mark c.args.lit c.in-Some.position (noted c.args.self.now) (noted c.note_low.new.self) c.in-Some.ensures.sound.distinct at c.if-position-mark.true c.in_ok-note_low.ensures

pub returns-then-position-self : goal.returns-then-position-self
returns-then-position-self c =
    let at = rw c.negated.ensures at c.in-Some.ensures.found in
    let inside = at.0 in
    absorbed-high c.args.trail.now.lits c.args.mark c.args.lit c.in-Some.position c.args.self.now.seen.items c.args.self.now.learnt c.args.self.now.lowest c.in-Some.position c.in-Some.ensures.sound.distinct at c.if-position-mark.false (omega (arith, inside, c.requires)) (omega (arith, c.if-position-self.true)) (omega arith) (inr refl)

pub returns-else-position-self : goal.returns-else-position-self
returns-else-position-self c =
    let at = rw c.negated.ensures at c.in-Some.ensures.found in
    let inside = at.0 in
    absorbed-high c.args.trail.now.lits c.args.mark c.args.lit c.in-Some.position c.args.self.now.seen.items c.args.self.now.learnt c.args.self.now.lowest c.args.self.now.lowest c.in-Some.ensures.sound.distinct at c.if-position-mark.false (omega (arith, inside, c.requires)) (omega arith) (omega (arith, c.if-position-self.false)) (inl refl)
