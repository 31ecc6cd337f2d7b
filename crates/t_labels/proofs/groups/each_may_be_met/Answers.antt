use Rattle.std.proofs.Common.{sym}
use Rattle.mp_store.proofs.KeptFixing.{live-at}
use Rattle.t_labels.proofs.Labels.{live-within}
use Rattle.t_labels.proofs.groups.each_may_be_met.Goals as goal

pub may_be_met-requires : goal.may_be_met-requires
may_be_met-requires c = live-within c.args.store.now c.clause.result.now c.vars.ensures.sound (live-at c.args.store.now.slots _ c.clause.result.now (sym c.clause.ensures))
