use Rattle.std.proofs.lemmas.Result.{on_ok_weaker}
use Rattle.mp_wcnf.proofs.Texts.{line_done}
use Rattle.mp_wcnf.proofs.writer.write_hard.Goals as goal
use Rattle.mp_wcnf.specs.Writing.{hard_mark}

pub returns : goal.returns
returns c = on_ok_weaker _ (line_done _ (hard_mark c.args.form c.args.top) _ _ c.args.clause.now _ c.in_ok-write_mark.ensures c.items.ensures) c.write_clause.ensures
