-- What reading answers, want of memory apart.
use Rattle.std.specs.Prelude.{◌≡◌, ℕ, Result, Ok, Err}
use Rattle.mp_map.specs.declared.maps.MapFile.{MapFile}
use Rattle.mp_map.specs.declared.maps.MapError.{MapError}
use Rattle.mp_map.specs.declared.maps.MapError.TheVariants as errors

-- the error is want of memory, or this line is at fault
abbrev pub Faults : Result MapFile ℕ → MapError → Type 0
Faults read (errors.BadMap line) = read ≡ Err line
Faults read errors.NoMemory = Unit {0}

-- the map, or the line at fault
abbrev pub Answers : Result MapFile ℕ → Result MapFile MapError → Type 0
Answers read (Ok m) = read ≡ Ok m
Answers read (Err e) = Faults read e
