use Rattle.std.proofs.Common.{sym, ◌∙◌}
use Rattle.t_subsume.proofs.Embedding.{unsigned-lacks}
use Rattle.t_subsume.proofs.containment.is_holder.Goals as goal

pub returns-then-not-may_hold : goal.returns-then-not-may_hold
returns-then-not-may_hold c =
    sym (unsigned-lacks c.args.store.now.slots c.args.lits.now c.args.own c.args.id c.args.bits c.signature.result c.requires.bits c.signature.ensures (sym c.may_hold.ensures ∙ c.if-not-may_hold.true))
