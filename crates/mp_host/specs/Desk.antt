-- What a desk stands for, and what it was told to do.
use Rattle.std.specs.Prelude.{ℕ, ◌+◌, List, [], Contains, if◌then◌else◌, Some, None, Option, min}
use Rattle.mp_host.specs.declared.desk.Desk.{Desk}
use Rattle.mp_host.specs.declared.desk.Names.{Names}
use Rattle.mp_host.specs.declared.host.Port.{Port}
use Rattle.mp_host.specs.declared.host.Port.TheVariants.{Out, Log, Map}
use Rattle.mp_host.specs.Files.{content_of, unread}
use Rattle.mp_host.specs.World.{World, last_count}

abbrev pub world_of : Desk → World
world_of d = record {
  file = λ name. content_of d.files.list name;
  rest = Some (unread d.files.list d.files.opened d.files.at);
  out = Some d.out.bytes;
  log = Some d.log.bytes;
  map = Some d.map.bytes;
  is_open = d.is_open;
  has_map = d.has_map;
}

-- the names, where they are still told
abbrev pub told_names : Names → Option (List (List ℕ))
told_names names = if names.told then Some names.list else None

-- the names that the desk was asked for
abbrev pub asked_of : Desk → Option (List (List ℕ))
asked_of d = told_names d.names

abbrev pub read_faults_of : Desk → ℕ
read_faults_of d = d.read_faults

abbrev pub write_faults_of : Desk → ℕ
write_faults_of d = d.write_faults

-- What a desk was told to do with calls: the most bytes that one read or write moves, the places of the calls that fail,
-- each counted from 0, and how many bytes each port takes in all; and how many calls it has answered.
pub record Orders : Type 0 where
  pub chunk : ℕ
  pub failing : List ℕ
  pub out_stop : ℕ
  pub log_stop : ℕ
  pub map_stop : ℕ
  pub calls : ℕ

abbrev pub orders_of : Desk → Orders
orders_of d = record { chunk = d.chunk; failing = d.failing; out_stop = d.out.stop; log_stop = d.log.stop; map_stop = d.map.stop; calls = d.calls }

-- no bound and no stop but the greatest number, no call that fails, and none answered yet
abbrev pub no_orders : Orders
no_orders = record { chunk = last_count; failing = []; out_stop = last_count; log_stop = last_count; map_stop = last_count; calls = 0 }

-- how many bytes a port takes in all
abbrev pub stop_of : Orders → Port → ℕ
stop_of o Out = o.out_stop
stop_of o Log = o.log_stop
stop_of o Map = o.map_stop

-- with this stop at a port
abbrev pub stopped : Orders → Port → ℕ → Orders
stopped o Out after = record o { out_stop = after }
stopped o Log after = record o { log_stop = after }
stopped o Map after = record o { map_stop = after }

-- one more call was answered; the count stays at its last value
abbrev pub called : Orders → Orders
called o = record o { calls = min (o.calls + 1) last_count }

-- the call at hand is one of those that fail
abbrev pub FailsNow : Orders → Type 0
FailsNow o = Contains o.failing o.calls

-- the bytes that a port holds
abbrev pub on_port : World → Port → Option (List ℕ)
on_port w Out = w.out
on_port w Log = w.log
on_port w Map = w.map
