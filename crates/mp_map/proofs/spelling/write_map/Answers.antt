use Rattle.std.proofs.Common.{◌∙◌}
use Rattle.mp_map.proofs.Spellings.{map_done}
use Rattle.mp_map.proofs.spelling.write_map.Goals as goal

pub returns : goal.returns
returns c = map_done c.args.map.now _ _ _ (rw c.items-entry-items.ensures at c.loop-entry-test.false) c.loop-entry.invariant (c.into_bytes.ensures ∙ c.in_ok-word.ensures.ok)
