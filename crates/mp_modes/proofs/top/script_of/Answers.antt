use Rattle.mp_modes.proofs.top.script_of.Goals as goal

pub returns-clause-runs : goal.returns-clause-runs
returns-clause-runs c = c.scripts_can_run.ensures c.args.techniques.now c.in-Ok.script c.in-Ok.ensures
