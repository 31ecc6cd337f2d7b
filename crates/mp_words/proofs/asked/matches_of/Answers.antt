use Rattle.clap.specs.Words.{found_of}
use Rattle.mp_words.proofs.Chosen.{matched}
use Rattle.mp_words.proofs.asked.matches_of.Goals as goal

pub returns-in-Ok-clause-some : goal.returns-in-Ok-clause-some
returns-in-Ok-clause-some c = matched c.args.mode c.args.words.now _ (found_of c.in-Ok.matches) (c.in_ok-is_line.ensures.0 c.if-not-branch.false) c.items.ensures c.in-Ok.ensures.ok
