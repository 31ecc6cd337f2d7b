-- What a quiet desk stands for.
use Rattle.std.specs.Prelude.{ℕ, [], Some, None, unwrap_or}
use Rattle.mp_host.specs.declared.quiet.QuietDesk.{QuietDesk}
use Rattle.mp_host.specs.Files.{content_of, unread}
use Rattle.mp_host.specs.World.{World}

-- A file that it doesn't hold is empty. It tells nothing of the ports.
abbrev pub world_of : QuietDesk → World
world_of d = record {
  file = λ name. Some (unwrap_or (content_of d.files.list name) []);
  rest = Some (unread d.files.list d.files.opened d.files.at);
  out = None;
  log = None;
  map = None;
  is_open = d.is_open;
  has_map = d.has_map;
}

-- the most bytes that one read or write moves
abbrev pub chunk_of : QuietDesk → ℕ
chunk_of d = d.chunk
