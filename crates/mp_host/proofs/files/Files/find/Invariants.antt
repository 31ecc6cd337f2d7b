use Rattle.std.proofs.Common.{◌≡◌, ◌<◌, length, take, Some, IfSome}
use Rattle.std.specs.Option.{option_map}
use Rattle.mp_host.specs.Files.{content_of, content_at}
use Rattle.mp_host.proofs.files.Files.find.Given as goal

abbrev pub invariant-loop-place : goal.invariant-loop-place
invariant-loop-place l = record {
  place : IfSome l.found (λ place. place < length l.self.list);
  content : option_map (λ place. content_at l.self.list (Some place)) l.found ≡ content_of (take l.place l.self.list) l.name;
}
