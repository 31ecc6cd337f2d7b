use Rattle.library_cases.proofs.Answering.{all-right}
use Rattle.library_cases.proofs.probes.answer.Goals as goal

pub returns-in_ok-copy-in-Core : goal.returns-in_ok-copy-in-Core
returns-in_ok-copy-in-Core c = rw c.in_ok-copy-in-Core.ensures (all-right c.args.query.now c.in-Core.field-0 (rw c.in-Core.is at c.in_ok-verdict.ensures))
