use Rattle.std.proofs.Common.{arith, refl}
use Rattle.mp_modes.proofs.Traced.{refusal_said}
use Rattle.mp_modes.proofs.outputs.said.Goals as goal

pub returns-clause-says : goal.returns-clause-says
returns-clause-says g c =
    let line = c.say-failed.ensures.line in
    refusal_said _ _ _ _ _ line.0 c.requires line.1 line.2 c.say-failed.ensures.names c.status.ensures refl (omega (arith, c.faults.ensures, line.3))

pub returns-clause-counted : goal.returns-clause-counted
returns-clause-counted g c = λ below. let more = c.say-failed.ensures.counted below in omega (arith, more, c.faults.ensures)
