use Rattle.std.proofs.Common.{arith}
use Rattle.mp_store.proofs.Clashes.{ids-live}
use Rattle.mp_turns.specs.Clauses.{replacing}
use Rattle.t_elim.specs.Resolved.{Eliminates}
use Rattle.t_elim.proofs.Gone.{new-is, candidate-is}
use Rattle.t_elim.proofs.Steps.{eliminates-by, eliminates-fits, eliminates-after}
use Rattle.t_elim.proofs.elimination.resolve_away.Goals as goal

pub new-positive-requires : goal.new-positive-requires
new-positive-requires c = (candidate-is c.args.store.now c.args.variable c.requires.candidate).up.0

pub occurrences-positive_ids-requires : goal.occurrences-positive_ids-requires
occurrences-positive_ids-requires c = let up = (candidate-is c.args.store.now c.args.variable c.requires.candidate).up.1 in omega (arith, up, c.new-positive.ensures.variable)

pub occurrences-negative_ids-requires : goal.occurrences-negative_ids-requires
occurrences-negative_ids-requires c = let up = (candidate-is c.args.store.now c.args.variable c.requires.candidate).up.1 in omega (arith, up, c.new-negative.ensures.variable)

pub resolve_all-requires-clause-positive : goal.resolve_all-requires-clause-positive
resolve_all-requires-clause-positive c = rw c.occurrences-positive_ids.ensures.rising (ids-live c.new-positive.result c.args.store.now.slots)

pub resolve_all-requires-clause-negative : goal.resolve_all-requires-clause-negative
resolve_all-requires-clause-negative c = rw c.occurrences-negative_ids.ensures.rising (ids-live c.new-negative.result c.args.store.now.slots)

pub repairs_for-requires : goal.repairs_for-requires
repairs_for-requires c = rw c.occurrences-positive_ids.ensures.rising (ids-live c.new-positive.result c.args.store.now.slots)

pub replace-requires-clause-valid : goal.replace-requires-clause-valid
replace-requires-clause-valid c =
    let is : Eliminates c.args.variable c.args.store.now (replacing c.in_ok-gone.gone c.in_ok-added.added c.in_ok-repairs.repairs) =
    eliminates-by c.args.variable c.args.store.now c.new-positive.result c.new-negative.result _ _ _ _ _
    (new-is c.new-positive.result _ _ c.new-positive.ensures.variable c.new-positive.ensures.sign) (new-is c.new-negative.result _ _ c.new-negative.ensures.variable c.new-negative.ensures.sign)
    c.occurrences-positive_ids.ensures.rising c.occurrences-negative_ids.ensures.rising c.in_ok-gone.ensures c.in_ok-added.ensures c.in_ok-repairs.ensures in
    eliminates-fits c.args.variable c.args.store.now _ c.vars.ensures.sound c.requires.candidate is

pub returns-clause-ok : goal.returns-clause-ok
returns-clause-ok c =
    let is : Eliminates c.args.variable c.args.store.now (replacing c.in_ok-gone.gone c.in_ok-added.added c.in_ok-repairs.repairs) =
    eliminates-by c.args.variable c.args.store.now c.new-positive.result c.new-negative.result _ _ _ _ _
    (new-is c.new-positive.result _ _ c.new-positive.ensures.variable c.new-positive.ensures.sign) (new-is c.new-negative.result _ _ c.new-negative.ensures.variable c.new-negative.ensures.sign)
    c.occurrences-positive_ids.ensures.rising c.occurrences-negative_ids.ensures.rising c.in_ok-gone.ensures c.in_ok-added.ensures c.in_ok-repairs.ensures in
    eliminates-after c.args.variable c.args.store.now c.replace.new.store _ is c.in_ok-replace.ensures.ok
