use Rattle.t_matching.proofs.CoreStepping.{core-is-valid, core-steps}
use Rattle.t_matching.proofs.cores.relax.Goals as goal

pub rewrite-requires-clause-valid : goal.rewrite-requires-clause-valid
rewrite-requires-clause-valid c = core-is-valid c.args.store.now c.args.kept c.args.dropped c.in_ok-rewrite.rewrite c.vars.ensures.sound c.requires.core c.in_ok-rewrite.ensures

pub returns-clause-ok : goal.returns-clause-ok
returns-clause-ok c = core-steps c.args.store.now c.rewrite.new.self c.args.kept c.args.dropped c.in_ok-rewrite.rewrite c.vars.ensures.sound c.requires.unrefuted c.requires.core c.in_ok-rewrite.ensures c.in_ok-rewrite-2.ensures.ok
