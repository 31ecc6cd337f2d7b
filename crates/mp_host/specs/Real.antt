-- What the real files and streams stand for: nothing of their bytes is told.
use Rattle.std.specs.Prelude.{ℕ, Bool, true, false, None, is_some}
use Rattle.mp_host.specs.declared.real.Input.{Input}
use Rattle.mp_host.specs.declared.real.Input.TheVariants.{Closed, Standard, File}
use Rattle.mp_host.specs.declared.real.RealHost.{RealHost}
use Rattle.mp_host.specs.World.{World}

-- whether an input is open
abbrev pub is_input : Input → Bool
is_input Closed = false
is_input Standard = true
is_input (File file) = true

abbrev pub world_of : RealHost → World
world_of h = record {
  file = λ _. None;
  rest = None;
  out = None;
  log = None;
  map = None;
  is_open = is_input h.input;
  has_map = is_some h.map;
}

abbrev pub read_faults_of : RealHost → ℕ
read_faults_of h = h.read_faults

abbrev pub write_faults_of : RealHost → ℕ
write_faults_of h = h.write_faults
