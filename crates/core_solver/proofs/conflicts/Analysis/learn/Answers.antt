use Rattle.core_solver.proofs.Lessons.{taught-same, taught-lesson}
use Rattle.core_solver.proofs.Minimised.{minimised-taught}
use Rattle.core_solver.proofs.conflicts.Analysis.learn.Goals as goal

pub returns-clause-taught : goal.returns-clause-taught
returns-clause-taught c =
    let cs = c.args.clauses.now in
    let t = c.args.trail.now in
    let sound = c.len-len.ensures.sound in
    let less = c.in_ok-clause.ensures in
    let taught = minimised-taught cs t c.args.mark less.0 c.resolve.new.self.learnt c.in_ok-clause.clause c.in_ok-lit.lit c.resolve.new.self.lowest sound.distinct c.requires.steps less.1 c.in_ok-lit.ensures.taught less.2 in
    taught-same cs t.lits c.args.mark c.in_ok-clause.clause c.normalise.new.clause c.in_ok-lit.lit c.resolve.new.self.lowest taught c.normalise.ensures.same

pub returns-clause-lesson : goal.returns-clause-lesson
returns-clause-lesson c =
    let cs = c.args.clauses.now in
    let t = c.args.trail.now in
    let sound = c.len-len.ensures.sound in
    let less = c.in_ok-clause.ensures in
    let taught = minimised-taught cs t c.args.mark less.0 c.resolve.new.self.learnt c.in_ok-clause.clause c.in_ok-lit.lit c.resolve.new.self.lowest sound.distinct c.requires.steps less.1 c.in_ok-lit.ensures.taught less.2 in
    let same = taught-same cs t.lits c.args.mark c.in_ok-clause.clause c.normalise.new.clause c.in_ok-lit.lit c.resolve.new.self.lowest taught c.normalise.ensures.same in
    taught-lesson cs t.lits c.args.mark c.normalise.new.clause c.in_ok-lit.lit c.resolve.new.self.lowest same c.normalise.ensures.rising sound.consistent sound.distinct c.requires.mark c.requires.propagated c.requires.from_one
