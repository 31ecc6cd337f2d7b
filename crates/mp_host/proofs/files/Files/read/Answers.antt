use Rattle.std.proofs.Common.{arith}
use Rattle.mp_host.proofs.Worlds.{next_bytes}
use Rattle.mp_host.proofs.files.Files.read.Goals as goal

pub returns-clause-bytes : goal.returns-clause-bytes
returns-clause-bytes c =
    next_bytes _ c.open_content.result.now _ _ c.args.self.now.at c.min-count.result c.open_content.ensures c.copy_from_slice.ensures.after (omega (arith, c.min-count.ensures, c.min.ensures))
