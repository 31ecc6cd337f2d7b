use Rattle.std.proofs.Common.{decimal}
use Rattle.std.proofs.lemmas.Result.{on_ok_weaker}
use Rattle.mp_wcnf.proofs.Texts.{line_done}
use Rattle.mp_wcnf.proofs.writer.write_soft.Goals as goal

pub returns : goal.returns
returns c = on_ok_weaker _ (line_done _ (decimal c.args.soft.now.weight) _ _ c.args.soft.now.clause _ c.in_ok-number.ensures.ok c.items.ensures) c.write_clause.ensures
