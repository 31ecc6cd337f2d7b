use Rattle.std.proofs.Common.{refl}
use Rattle.mp_modes.proofs.Modes.{upgrade_unread, upgrade_wants, upgrade_built}
use Rattle.mp_modes.proofs.upgrade.upgrade_file.Goals as goal

pub returns-in-Err-clause-stopped : goal.returns-in-Err-clause-stopped
returns-in-Err-clause-stopped g c = upgrade_unread _ _ _ _ _ (rw c.as_str.ensures.value at c.in-Err.ensures.refused) c.in-Err.ensures.frame (rw c.as_str.ensures.value at c.in-Err.ensures.names)

pub returns-in-Err-upgraded_text-clause-stopped : goal.returns-in-Err-upgraded_text-clause-stopped
returns-in-Err-upgraded_text-clause-stopped g c = upgrade_wants _ _ _ _ c.in-Ok.way (rw c.as_str.ensures.value at c.in-Ok.ensures.found) c.in-Ok.ensures.frame (rw c.as_str.ensures.value at c.in-Ok.ensures.names)

pub returns-clause-prepared : goal.returns-clause-prepared
returns-clause-prepared g c =
    upgrade_built _ _ _ _ c.in-Ok.way _ (rw c.as_str.ensures.value at c.in-Ok.ensures.found) c.in-Ok.ensures.frame (rw c.as_str.ensures.value at c.in-Ok.ensures.names) refl
    (rw (c.in-Ok-upgraded_text.ensures, c.new.ensures, c.new-2.ensures) refl)
