use Rattle.mp_modes.specs.Traces.{outside_of}
use Rattle.mp_modes.proofs.Modes.{reconstruct_unmapped, reconstruct_unanswered, reconstruct_wants, reconstruct_built}
use Rattle.mp_modes.proofs.reconstruct.reconstruct_alone.Goals as goal

pub returns-in-Err-clause-stopped : goal.returns-in-Err-clause-stopped
returns-in-Err-clause-stopped g c = reconstruct_unmapped _ _ _ _ _ _ c.in-Err.ensures.refused c.in-Err.ensures.frame c.in-Err.ensures.names

pub returns-in-Err-read_solution_file-clause-stopped : goal.returns-in-Err-read_solution_file-clause-stopped
returns-in-Err-read_solution_file-clause-stopped g c =
    reconstruct_unanswered _ _ _ _ (outside_of g.H.Host.world g.H.Host.asked g.H.Host.read_faults g.H.Host.write_faults c.read_map_file.new.host) _ _ c.in-Ok.way c.in-Ok.ensures.found c.in-Ok.ensures.frame c.in-Ok.ensures.names
    c.in-Err-read_solution_file.ensures.refused c.in-Err-read_solution_file.ensures.frame c.in-Err-read_solution_file.ensures.names

pub returns-in-Err-reconstructed-clause-stopped : goal.returns-in-Err-reconstructed-clause-stopped
returns-in-Err-reconstructed-clause-stopped g c =
    reconstruct_wants _ _ _ _ (outside_of g.H.Host.world g.H.Host.asked g.H.Host.read_faults g.H.Host.write_faults c.read_map_file.new.host) _ c.in-Ok.way c.in-Ok-read_solution_file.solution c.in-Ok.ensures.found c.in-Ok.ensures.frame c.in-Ok.ensures.names
    c.in-Ok-read_solution_file.ensures.found c.in-Ok-read_solution_file.ensures.frame c.in-Ok-read_solution_file.ensures.names

pub returns-clause-prepared : goal.returns-clause-prepared
returns-clause-prepared g c =
    reconstruct_built _ _ _ _ (outside_of g.H.Host.world g.H.Host.asked g.H.Host.read_faults g.H.Host.write_faults c.read_map_file.new.host) _ c.in-Ok.way c.in-Ok-read_solution_file.solution c.in-Ok-reconstructed.out _ c.in-Ok.ensures.found c.in-Ok.ensures.frame c.in-Ok.ensures.names
    c.in-Ok-read_solution_file.ensures.found c.in-Ok-read_solution_file.ensures.frame c.in-Ok-read_solution_file.ensures.names c.in-Ok-reconstructed.ensures c.one_output.ensures
