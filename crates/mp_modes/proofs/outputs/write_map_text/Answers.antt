use Rattle.mp_modes.proofs.Traced.{map_written, map_missed, map_cut_off}
use Rattle.mp_modes.proofs.outputs.write_map_text.Goals as goal

pub returns-in-Err-clause-part : goal.returns-in-Err-clause-part
returns-in-Err-clause-part g c = map_missed _ _ _ _ c.in-Some.is c.in-Err.ensures.failed (rw c.as_str.ensures.value at c.create_map.ensures.names)

pub returns-in-Err-write_all-clause-part : goal.returns-in-Err-write_all-clause-part
returns-in-Err-write_all-clause-part g c =
    map_cut_off _ _ _ _ _ _ _ c.in-Some.is c.in_default-create_map.ensures.ok (rw c.as_str.ensures.value at c.create_map.ensures.names) (rw c.items.ensures at c.in-Err-write_all.ensures.short) (rw c.items.ensures at c.in-Err-write_all.ensures.part) c.write_all.ensures.names

pub returns-clause-whole : goal.returns-clause-whole
returns-clause-whole g c =
    map_written _ _ _ _ _ _ c.in-Some.is c.in_default-create_map.ensures.ok (rw c.as_str.ensures.value at c.create_map.ensures.names) (rw c.items.ensures at c.in_default-write_all.ensures.whole) c.write_all.ensures.names
