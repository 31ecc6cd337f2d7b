use Rattle.std.proofs.Common.{◌≡◌, ◌++◌, length, false}
use Rattle.mp_text.specs.Tokens.{tokens_of}
use Rattle.yardstick.specs.Copying.{spaced}
use Rattle.yardstick.proofs.copying.copied.Given as goal

abbrev pub invariant-tokens : goal.invariant-tokens
invariant-tokens l = l.copy ++ spaced l.cursor ≡ spaced (tokens_of false l.fn.text)

abbrev pub decreases-tokens : goal.decreases-tokens
decreases-tokens l = length l.cursor
