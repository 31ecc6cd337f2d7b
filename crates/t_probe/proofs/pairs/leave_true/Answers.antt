use Rattle.t_probe.proofs.Rows.{filter-among, true-kept}
use Rattle.mp_logic.specs.Truth.{literal_value}
use Rattle.std.proofs.Common.{sym, ◌∙◌, inl}
use Rattle.t_probe.proofs.pairs.leave_true.Goals as goal

pub returns-clause-from : goal.returns-clause-from
returns-clause-from c = filter-among (literal_value c.args.model.now) c.args.lits.now.items c.keep_true.new.lits.items c.keep_true.ensures

pub returns-clause-others : goal.returns-clause-others
returns-clause-others c = true-kept c.args.model.now c.args.lit c.args.lits.now.items c.keep_true.new.lits.items c.keep_true.ensures (sym c.holds.ensures ∙ c.if-holds.false)
