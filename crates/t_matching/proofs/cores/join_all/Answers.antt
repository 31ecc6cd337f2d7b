use Rattle.std.proofs.Common.{refl}
use Rattle.std.proofs.lemmas.List.{drop_all}
use Rattle.t_matching.specs.Joins.{clauses_at}
use Rattle.t_matching.proofs.PairIds.{all-joins-step, all-joins-done}
use Rattle.t_matching.proofs.cores.join_all.Goals as goal

pub loop-id-preserved : goal.loop-id-preserved
loop-id-preserved c = all-joins-step c.args.dropped c.args.store.now.slots c.args.ids.now (clauses_at c.args.store.now.slots c.args.others.now) c.loop-id.id-index _ c.clause.result.now c.loop-id.made c.join_each.new.made c.loop-id-test.true refl c.clause.ensures c.in_ok-join_each.ensures c.loop-id.invariant

pub returns : goal.returns
returns c = all-joins-done c.args.dropped c.args.store.now.slots c.args.ids.now (clauses_at c.args.store.now.slots c.args.others.now) c.loop-id.id-index c.loop-id.made (drop_all c.loop-id.id-index c.args.ids.now c.loop-id-test.false) c.loop-id.invariant
