-- What reading a whole file answers where it fails.
use Rattle.std.specs.Prelude.{◌≡◌, ℕ, ◌+◌, ◌<◌, List, length, drop, Some, IfSome, Option}
use Rattle.mp_host.specs.declared.whole.ReadAllError.{ReadAllError}
use Rattle.mp_host.specs.declared.whole.ReadAllError.TheVariants.{ReadFault, TooLong, NoMemory}

-- `TooLong` comes with one byte more than the limit: the file has so many, and just these were taken from it
abbrev pub IsTooLong : ReadAllError → ℕ → Option (List ℕ) → Option (List ℕ) → Type 0
IsTooLong (TooLong read) limit file rest = (read ≡ limit + 1) × IfSome file (λ bytes. (limit < length bytes) × (rest ≡ Some (drop (limit + 1) bytes)))
IsTooLong ReadFault limit file rest = Unit {0}
IsTooLong NoMemory limit file rest = Unit {0}
