use Rattle.std.proofs.Common.{◌≡◌, ap}
use Rattle.mp_logic.specs.Formula.{Formula}
use Rattle.mp_modes.specs.Traces.{outside_of}
use Rattle.mp_modes.proofs.Modes.{evaluate_unread, evaluate_unanswered, evaluate_refused, evaluate_built}
use Rattle.mp_modes.proofs.evaluate.evaluate_file.Goals as goal

pub returns-in-Err-clause-stopped : goal.returns-in-Err-clause-stopped
returns-in-Err-clause-stopped g c = evaluate_unread _ _ _ _ _ (rw c.as_str.ensures.value at c.in-Err.ensures.refused) c.in-Err.ensures.frame (rw c.as_str.ensures.value at c.in-Err.ensures.names)

pub returns-in-Err-read_values_file-clause-stopped : goal.returns-in-Err-read_values_file-clause-stopped
returns-in-Err-read_values_file-clause-stopped g c =
    evaluate_unanswered _ _ _ (outside_of g.H.Host.world g.H.Host.asked g.H.Host.read_faults g.H.Host.write_faults c.read_instance_file.new.host) _ _ c.in-Ok.instance _ (ap (λ (f : Formula). f.vars) c.instance.view_is)
    (rw c.as_str.ensures.value at c.in-Ok.ensures.found) c.in-Ok.ensures.frame (rw c.as_str.ensures.value at c.in-Ok.ensures.names)
    (rw c.as_str-2.ensures.value at c.in-Err-read_values_file.ensures.refused) c.in-Err-read_values_file.ensures.frame (rw c.as_str-2.ensures.value at c.in-Err-read_values_file.ensures.names)

pub returns-in-Err-evaluated-clause-stopped : goal.returns-in-Err-evaluated-clause-stopped
returns-in-Err-evaluated-clause-stopped g c =
    evaluate_refused _ _ _ (outside_of g.H.Host.world g.H.Host.asked g.H.Host.read_faults g.H.Host.write_faults c.read_instance_file.new.host) _ _ c.in-Ok.instance _ c.in-Ok-read_values_file.values (ap (λ (f : Formula). f.vars) c.instance.view_is)
    (rw c.as_str.ensures.value at c.in-Ok.ensures.found) c.in-Ok.ensures.frame (rw c.as_str.ensures.value at c.in-Ok.ensures.names)
    (rw c.as_str-2.ensures.value at c.in-Ok-read_values_file.ensures.found) c.in-Err-evaluated.ensures.refused c.in-Ok-read_values_file.ensures.frame (rw c.as_str-2.ensures.value at c.in-Ok-read_values_file.ensures.names)

pub returns-clause-prepared : goal.returns-clause-prepared
returns-clause-prepared g c =
    evaluate_built _ _ _ (outside_of g.H.Host.world g.H.Host.asked g.H.Host.read_faults g.H.Host.write_faults c.read_instance_file.new.host) _ c.in-Ok.instance _ c.in-Ok-read_values_file.values c.in-Ok-evaluated.out _ (ap (λ (f : Formula). f.vars) c.instance.view_is)
    (rw c.as_str.ensures.value at c.in-Ok.ensures.found) c.in-Ok.ensures.frame (rw c.as_str.ensures.value at c.in-Ok.ensures.names)
    (rw c.as_str-2.ensures.value at c.in-Ok-read_values_file.ensures.found) c.in-Ok-read_values_file.ensures.frame (rw c.as_str-2.ensures.value at c.in-Ok-read_values_file.ensures.names)
    c.in-Ok-evaluated.ensures.model c.in-Ok-evaluated.ensures.text c.one_output.ensures
