-- Which commands can be carried out.
use Rattle.std.specs.Prelude.{◌≤◌}
use Rattle.yardstick.specs.declared.command.Command.{Command}
use Rattle.yardstick.specs.declared.command.Command.TheVariants.{Read, Store, Rewrites, MapWrite, MapRead, MapCopy}

-- no more is to be drawn than the draws allow
abbrev pub IsSmall : Command → Type 0
IsSmall (Store order clauses) = clauses ≤ 30000000
IsSmall (Rewrites order clauses) = clauses ≤ 30000000
IsSmall (MapWrite repairs) = repairs ≤ 30000000
IsSmall (Read name) = Unit {0}
IsSmall (MapRead name) = Unit {0}
IsSmall (MapCopy name) = Unit {0}
