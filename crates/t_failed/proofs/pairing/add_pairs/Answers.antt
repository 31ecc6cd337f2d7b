use Rattle.t_failed.proofs.PairClauses.{pairs-replace, pairs-done}
use Rattle.t_failed.proofs.pairing.add_pairs.Goals as goal

pub replace-requires-clause-valid : goal.replace-requires-clause-valid
replace-requires-clause-valid c = pairs-replace c.args.store.now c.args.lit c.args.partners.now c.loop-other.other-index _ _ _ c.new-gone.ensures c.loop-other.invariant c.loop-other-test.false c.new-repairs.ensures c.requires.lit c.requires.partners

pub returns-clause-ok : goal.returns-clause-ok
returns-clause-ok c = pairs-done c.args.store.now c.replace.new.store c.args.lit c.args.partners.now c.loop-other.other-index _ _ _ c.new-gone.ensures c.loop-other.invariant c.loop-other-test.false c.new-repairs.ensures c.in_ok-replace.ensures.ok
