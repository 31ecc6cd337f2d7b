use Rattle.mp_map.specs.declared.maps.MapFile.{MapFile}
use Rattle.mp_modes.specs.ReconstructMode.{IsMapFault}
use Rattle.mp_modes.specs.Reconstructing.{IsMapText}
use Rattle.mp_modes.specs.declared.refusal.TextRefusal.TheVariants as texts
use Rattle.mp_modes.proofs.Reading.{read_as, read_refused, unread_stops}
use Rattle.mp_modes.proofs.inputs.read_map_file.Goals as goal

pub returns-in-Err-clause-refused : goal.returns-in-Err-clause-refused
returns-in-Err-clause-refused g c = unread_stops IsMapFault _ _ c.in-Err.ensures.refused

pub returns-in-Ok-read_map-clause-found : goal.returns-in-Ok-read_map-clause-found
returns-in-Ok-read_map-clause-found g c =
    read_as (g.H.Host.world c.args.host.now) c.args.name.now c.in-Ok.text (λ text. IsMapText text c.in-Ok-read_map.way) c.in-Ok.ensures.whole c.in-Ok.ensures.fits
    (record { valid = c.in-Ok-read_map.ensures.found.0; spelled = rw c.items.ensures at c.in-Ok-read_map.ensures.found.1 })

pub returns-in-Err-BadMap-clause-refused : goal.returns-in-Err-BadMap-clause-refused
returns-in-Err-BadMap-clause-refused g c =
    read_refused IsMapFault ((g.H.Host.world c.args.host.now).file c.args.name.now) c.in-Ok.text (texts.Map c.in-Err-BadMap.line) c.in-Ok.ensures.whole c.in-Ok.ensures.fits
    (rw (c.items.ensures, c.in-Err-BadMap.field-0-is) at c.in-Err-BadMap.ensures.refused)
