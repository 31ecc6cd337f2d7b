use Rattle.std.proofs.Common.{arith}
use Rattle.t_equiv.proofs.ImageClauses.{clause-known, clauses-next}
use Rattle.t_equiv.proofs.replacing.image_clauses.Goals as goal

pub image_clause-requires : goal.image_clause-requires
image_clause-requires c = clause-known c.args.store.now c.args.images.now _ c.clause.result.now c.requires.sound c.requires.known c.clause.ensures

pub loop-id-preserved : goal.loop-id-preserved
loop-id-preserved c = clauses-next c.args.images.now c.args.store.now.slots c.args.ids.now c.loop-id.id-index _ c.clause.result.now _ c.loop-id.made _ (omega arith) c.clause.ensures c.in_ok-clause.ensures c.in_ok-put.ensures c.loop-id.invariant
