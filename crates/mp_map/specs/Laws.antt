-- The laws of entries and of an upgrade.
use Rattle.std.specs.Prelude.{◌≡◌, ◌≤◌, Bool, List, All}
use Rattle.mp_logic.specs.Repairs.{repaired}
use Rattle.mp_logic.specs.declared.instances.Repair.{Repair}
use Rattle.mp_map.specs.Entries.{mended, entries_of}
use Rattle.mp_map.specs.Maps.{IsMap, carried_back_by, upgraded}
use Rattle.mp_map.specs.declared.maps.MapFile.{MapFile}

-- the variables of the literals that a repair sets count from 1
abbrev pub CountsFromOne : Repair → Type 0
CountsFromOne r = All (λ l. 1 ≤ l.variable) r.sets

-- the law: the entries of repairs, joined or not, make of every assignment what the repairs make of it
abbrev pub EntriesRepair : Type 0
EntriesRepair = (join : Bool) (repairs : List Repair) (a : List Bool) → All CountsFromOne repairs → mended (entries_of join repairs) a ≡ repaired repairs a

-- the law: an upgraded map carries every assignment back as the map does
abbrev pub UpgradeCarries : Type 0
UpgradeCarries = (m : MapFile) (values : List Bool) → IsMap m → carried_back_by (upgraded m) values ≡ carried_back_by m values
