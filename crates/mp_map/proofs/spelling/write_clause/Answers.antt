use Rattle.std.proofs.lemmas.Result.{on_ok_weaker}
use Rattle.mp_map.proofs.Spellings.{clause_done}
use Rattle.mp_map.proofs.spelling.write_clause.Goals as goal

pub returns : goal.returns
returns c = on_ok_weaker _ (clause_done _ _ _ c.args.clause.now _ (rw c.items-lit-items.ensures at c.loop-lit-test.false) c.loop-lit.invariant) c.word-2.ensures.ok
