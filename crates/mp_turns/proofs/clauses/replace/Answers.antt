use Rattle.mp_store.proofs.Replaced.{replacement_is_valid}
use Rattle.mp_turns.specs.Clauses.{replacing}
use Rattle.mp_turns.proofs.clauses.replace.Goals as goal

pub rewrite-requires-clause-valid : goal.rewrite-requires-clause-valid
rewrite-requires-clause-valid c = rw c.new.ensures (replacement_is_valid (replacing c.args.gone c.args.added c.args.repairs) c.args.store.now c.vars.ensures.sound c.requires.valid)

pub returns-clause-ok : goal.returns-clause-ok
returns-clause-ok c = rw c.new.ensures at c.in_ok-rewrite.ensures.ok
