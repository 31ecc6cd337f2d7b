use Rattle.std.proofs.Common.{arith}
use Rattle.std.proofs.lemmas.Result.{on_ok_weaker}
use Rattle.mp_map.proofs.Spellings.{entry_done}
use Rattle.mp_map.proofs.spelling.write_entry.Goals as goal

pub returns : goal.returns
returns c = on_ok_weaker _ (entry_done _ _ _ c.args.entry.now _ (omega (arith, c.loop-place-test.false, c.len-place-end.ensures)) c.loop-place.invariant) c.word-2.ensures.ok
