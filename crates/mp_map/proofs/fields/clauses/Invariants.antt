use Rattle.std.proofs.Common.{◌≡◌, length}
use Rattle.mp_map.specs.Reading.{clauses_in}
use Rattle.mp_map.proofs.Gathering.{gathered}
use Rattle.mp_map.proofs.fields.clauses.Given as goal

abbrev pub invariant-loop-word : goal.invariant-loop-word
invariant-loop-word l = gathered l.made l.begun (clauses_in l.most l.words) ≡ clauses_in l.most l.fn.words

abbrev pub decreases-loop-word : goal.decreases-loop-word
decreases-loop-word l = length l.words
