use Rattle.mp_modes.specs.Traces.{outside_of}
use Rattle.mp_modes.proofs.Modes.{tried_unread, tried_unmapped, tried_unanswered, tried_refused, tried_built}
use Rattle.mp_modes.proofs.reconstruct.reconstruct_tried.Goals as goal

pub returns-in-Err-clause-stopped : goal.returns-in-Err-clause-stopped
returns-in-Err-clause-stopped g c = tried_unread _ _ _ _ _ _ _ c.in-Err.ensures.refused c.in-Err.ensures.frame c.in-Err.ensures.names

pub returns-in-Err-read_map_file-clause-stopped : goal.returns-in-Err-read_map_file-clause-stopped
returns-in-Err-read_map_file-clause-stopped g c =
    tried_unmapped _ _ _ _ _ (outside_of g.H.Host.world g.H.Host.asked g.H.Host.read_faults g.H.Host.write_faults c.read_instance_file.new.host) _ _ c.in-Ok.instance c.in-Ok.ensures.found c.in-Ok.ensures.frame c.in-Ok.ensures.names
    c.in-Err-read_map_file.ensures.refused c.in-Err-read_map_file.ensures.frame c.in-Err-read_map_file.ensures.names

pub returns-in-Err-read_solution_file-clause-stopped : goal.returns-in-Err-read_solution_file-clause-stopped
returns-in-Err-read_solution_file-clause-stopped g c =
    tried_unanswered _ _ _ _ _ (outside_of g.H.Host.world g.H.Host.asked g.H.Host.read_faults g.H.Host.write_faults c.read_instance_file.new.host)
    (outside_of g.H.Host.world g.H.Host.asked g.H.Host.read_faults g.H.Host.write_faults c.read_map_file.new.host) _ _ c.in-Ok.instance c.in-Ok-read_map_file.way c.in-Ok.ensures.found c.in-Ok.ensures.frame c.in-Ok.ensures.names
    c.in-Ok-read_map_file.ensures.found c.in-Ok-read_map_file.ensures.frame c.in-Ok-read_map_file.ensures.names
    c.in-Err-read_solution_file.ensures.refused c.in-Err-read_solution_file.ensures.frame c.in-Err-read_solution_file.ensures.names

pub returns-in-Err-tried-clause-stopped : goal.returns-in-Err-tried-clause-stopped
returns-in-Err-tried-clause-stopped g c =
    tried_refused _ _ _ _ _ (outside_of g.H.Host.world g.H.Host.asked g.H.Host.read_faults g.H.Host.write_faults c.read_instance_file.new.host)
    (outside_of g.H.Host.world g.H.Host.asked g.H.Host.read_faults g.H.Host.write_faults c.read_map_file.new.host) _ _ c.in-Ok.instance c.in-Ok-read_map_file.way c.in-Ok-read_solution_file.solution
    c.in-Ok.ensures.found c.in-Ok.ensures.frame c.in-Ok.ensures.names c.in-Ok-read_map_file.ensures.found c.in-Ok-read_map_file.ensures.frame c.in-Ok-read_map_file.ensures.names
    c.in-Ok-read_solution_file.ensures.found c.in-Err-tried.ensures.refused c.in-Ok-read_solution_file.ensures.frame c.in-Ok-read_solution_file.ensures.names

pub returns-clause-prepared : goal.returns-clause-prepared
returns-clause-prepared g c =
    tried_built _ _ _ _ _ (outside_of g.H.Host.world g.H.Host.asked g.H.Host.read_faults g.H.Host.write_faults c.read_instance_file.new.host)
    (outside_of g.H.Host.world g.H.Host.asked g.H.Host.read_faults g.H.Host.write_faults c.read_map_file.new.host) _ c.in-Ok.instance c.in-Ok-read_map_file.way c.in-Ok-read_solution_file.solution c.in-Ok-tried.out _
    c.in-Ok.ensures.found c.in-Ok.ensures.frame c.in-Ok.ensures.names c.in-Ok-read_map_file.ensures.found c.in-Ok-read_map_file.ensures.frame c.in-Ok-read_map_file.ensures.names
    c.in-Ok-read_solution_file.ensures.found c.in-Ok-read_solution_file.ensures.frame c.in-Ok-read_solution_file.ensures.names c.in-Ok-tried.ensures.model c.in-Ok-tried.ensures.text c.one_output.ensures
