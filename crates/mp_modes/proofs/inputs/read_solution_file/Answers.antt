use Rattle.mp_map.specs.Solutions.{Reports}
use Rattle.mp_modes.specs.ReconstructMode.{IsSolutionFault}
use Rattle.mp_modes.specs.declared.refusal.TextRefusal.TheVariants as texts
use Rattle.mp_modes.proofs.Reading.{read_as, read_refused, unread_stops}
use Rattle.mp_modes.proofs.inputs.read_solution_file.Goals as goal

pub returns-in-Err-clause-refused : goal.returns-in-Err-clause-refused
returns-in-Err-clause-refused g c = unread_stops (IsSolutionFault c.args.written) _ _ c.in-Err.ensures.refused

pub returns-in-Ok-read_solution-clause-found : goal.returns-in-Ok-read_solution-clause-found
returns-in-Ok-read_solution-clause-found g c =
    read_as (g.H.Host.world c.args.host.now) c.args.name.now c.in-Ok.text (λ text. Reports text c.args.written c.in-Ok-read_solution.solution) c.in-Ok.ensures.whole c.in-Ok.ensures.fits
    (rw c.items.ensures at c.in-Ok-read_solution.ensures.found)

pub returns-in-Err-BadSolution-clause-refused : goal.returns-in-Err-BadSolution-clause-refused
returns-in-Err-BadSolution-clause-refused g c =
    read_refused (IsSolutionFault c.args.written) ((g.H.Host.world c.args.host.now).file c.args.name.now) c.in-Ok.text (texts.Solution c.in-Err-BadSolution.line) c.in-Ok.ensures.whole c.in-Ok.ensures.fits
    (rw (c.items.ensures, c.in-Err-BadSolution.field-0-is) at c.in-Err-BadSolution.ensures.refused)
