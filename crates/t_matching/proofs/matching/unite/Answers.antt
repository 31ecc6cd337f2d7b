use Rattle.t_matching.proofs.MatchSteps.{matching-is-valid, matching-steps}
use Rattle.t_matching.proofs.matching.unite.Goals as goal

pub rewrite-requires-clause-valid : goal.rewrite-requires-clause-valid
rewrite-requires-clause-valid c = matching-is-valid c.args.store.now c.args.kept c.args.dropped c.in_ok-rewrite.rewrite c.vars.ensures.sound c.requires.matching c.in_ok-rewrite.ensures

pub returns-clause-ok : goal.returns-clause-ok
returns-clause-ok c = matching-steps c.args.store.now c.rewrite.new.self c.args.kept c.args.dropped c.in_ok-rewrite.rewrite c.vars.ensures.sound c.requires.unrefuted c.requires.matching c.in_ok-rewrite.ensures c.in_ok-rewrite-2.ensures.ok
