use Rattle.std.proofs.Common.{refl}
use Rattle.mp_modes.proofs.Modes.{preprocess_unread, preprocess_refused, preprocess_built}
use Rattle.mp_modes.proofs.preprocess.preprocess_file.Goals as goal

pub returns-in-Err-clause-stopped : goal.returns-in-Err-clause-stopped
returns-in-Err-clause-stopped g c = preprocess_unread _ _ _ _ _ _ (rw c.as_str.ensures.value at c.in-Err.ensures.refused) c.in-Err.ensures.frame (rw c.as_str.ensures.value at c.in-Err.ensures.names)

pub returns-in-Err-preprocess-clause-stopped : goal.returns-in-Err-preprocess-clause-stopped
returns-in-Err-preprocess-clause-stopped g c =
    preprocess_refused _ _ _ _ _ _ c.in-Ok.text (rw c.as_str.ensures.value at c.in-Ok.ensures.whole) c.in-Ok.ensures.fits c.in-Err-preprocess.ensures.refused c.in-Ok.ensures.frame (rw c.as_str.ensures.value at c.in-Ok.ensures.names)

pub returns-in-Err-map_for-clause-stopped : goal.returns-in-Err-map_for-clause-stopped
returns-in-Err-map_for-clause-stopped g c =
    preprocess_refused _ _ _ _ _ _ c.in-Ok.text (rw c.as_str.ensures.value at c.in-Ok.ensures.whole) c.in-Ok.ensures.fits tt c.in-Ok.ensures.frame (rw c.as_str.ensures.value at c.in-Ok.ensures.names)

pub returns-clause-prepared : goal.returns-clause-prepared
returns-clause-prepared g c =
    preprocess_built _ _ _ _ _ c.in-Ok.text _ _ _ (rw c.as_str.ensures.value at c.in-Ok.ensures.whole) c.in-Ok.ensures.fits c.in-Ok-map_for.ensures c.in-Ok-preprocess.ensures.made refl c.in-Ok.ensures.frame (rw c.as_str.ensures.value at c.in-Ok.ensures.names)
