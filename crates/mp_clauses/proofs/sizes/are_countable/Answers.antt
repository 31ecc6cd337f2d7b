use Rattle.std.proofs.Common.{ap, arith}
use Rattle.std.proofs.lemmas.List.{take_all}
use Rattle.mp_clauses.specs.Tables.{literals_of}
use Rattle.mp_clauses.proofs.sizes.are_countable.Goals as goal

pub returns : goal.returns
returns c = let e = ap literals_of (take_all c.loop-clause.clause-index c.args.clauses.now c.loop-clause-test.false) in omega (arith, e, c.loop-clause.invariant.total, c.loop-clause.invariant.fits)
