use Rattle.mp_modes.proofs.Traced.{outputs_written, outputs_without_map, outputs_without_log, outputs_cut_off}
use Rattle.mp_modes.proofs.outputs.write_outputs.Goals as goal

pub returns-in-Err-clause-part : goal.returns-in-Err-clause-part
returns-in-Err-clause-part g c = outputs_without_map c.args.outputs.now _ _ c.in-Err.ensures.part

pub returns-in-Err-write_all-clause-part : goal.returns-in-Err-write_all-clause-part
returns-in-Err-write_all-clause-part g c =
    outputs_without_log c.args.outputs.now _ _ _ _ c.in_default.ensures.whole (rw c.items.ensures at c.in-Err-write_all.ensures.short) (rw c.items.ensures at c.in-Err-write_all.ensures.part) c.write_all.ensures.names

pub returns-in-Err-write_all-2-clause-part : goal.returns-in-Err-write_all-2-clause-part
returns-in-Err-write_all-2-clause-part g c =
    outputs_cut_off c.args.outputs.now _ _ _ _ _ _ c.in_default.ensures.whole (rw c.items.ensures at c.in_default-write_all.ensures.whole) c.write_all.ensures.names (rw c.items-2.ensures at c.in-Err-write_all-2.ensures.short) (rw c.items-2.ensures at c.in-Err-write_all-2.ensures.part) c.write_all-2.ensures.names

pub returns-clause-whole : goal.returns-clause-whole
returns-clause-whole g c =
    outputs_written c.args.outputs.now _ _ _ _ _ c.in_default.ensures.whole (rw c.items.ensures at c.in_default-write_all.ensures.whole) c.write_all.ensures.names (rw c.items-2.ensures at c.in_default-write_all-2.ensures.whole) c.write_all-2.ensures.names
