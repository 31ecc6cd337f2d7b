use Rattle.std.proofs.lemmas.Result.{on_ok_weaker}
use Rattle.mp_map.proofs.Spellings.{names_done}
use Rattle.mp_map.proofs.spelling.write_names.Goals as goal

pub returns : goal.returns
returns c = on_ok_weaker _ (names_done _ _ _ c.args.names.now _ (rw c.items-name-items.ensures at c.loop-name-test.false) c.loop-name.invariant) c.word-2.ensures.ok
