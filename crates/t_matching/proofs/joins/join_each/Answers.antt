use Rattle.std.proofs.Common.{refl}
use Rattle.std.proofs.lemmas.List.{drop_all}
use Rattle.t_matching.proofs.Joining.{joins-step, joins-done}
use Rattle.t_matching.proofs.joins.join_each.Goals as goal

pub loop-id-preserved : goal.loop-id-preserved
loop-id-preserved c = joins-step c.args.clause.now c.args.dropped c.args.store.now.slots c.args.ids.now c.loop-id.id-index _ c.clause.result.now c.in_ok-joined.joined c.args.made.now c.loop-id.made c.put.new.made c.loop-id-test.true refl c.clause.ensures c.in_ok-joined.ensures c.in_ok-put.ensures c.loop-id.invariant

pub returns : goal.returns
returns c = joins-done c.args.clause.now c.args.dropped c.args.store.now.slots c.args.ids.now c.loop-id.id-index c.args.made.now c.loop-id.made (drop_all c.loop-id.id-index c.args.ids.now c.loop-id-test.false) c.loop-id.invariant
