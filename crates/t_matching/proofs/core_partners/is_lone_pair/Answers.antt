use Rattle.std.proofs.Common.{sym, ◌∙◌}
use Rattle.t_matching.proofs.PairIds.{lone-live}
use Rattle.t_matching.proofs.core_partners.is_lone_pair.Goals as goal

pub clause-requires : goal.clause-requires
clause-requires c = lone-live c.args.lit c.args.store.now.slots c.args.ids.now c.in-Some.id (sym c.lone.ensures ∙ c.in-Some.is)
