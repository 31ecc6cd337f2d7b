-- The limits of the program.
use Rattle.std.specs.Prelude.{ℕ, ◌-◌}
use Rattle.mp_logic.specs.Weights.{weight_bound}
use Rattle.mp_logic.specs.declared.limits.Limits.{Limits}

abbrev pub program_limits : Limits
program_limits = record { variables = 8388607; inner = 16777215; clauses = 33554432; literals = 268435456; weight = weight_bound - 1 }

-- the greatest accepted length of an input, in bytes
abbrev pub longest : ℕ
longest = 4294967295
