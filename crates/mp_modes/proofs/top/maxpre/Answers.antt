use Rattle.std.proofs.Common.{Result, Err, refl, ap}
use Rattle.mp_modes.specs.declared.outputs.Outputs.{Outputs}
use Rattle.mp_modes.specs.declared.refusal.Refusal.{Refusal}
use Rattle.mp_modes.specs.Traces.{outside_of}
use Rattle.mp_modes.proofs.Complete.{complete}
use Rattle.mp_modes.proofs.Ended.{few_tasks, unread, unread_request, unread_counted, turned_away_by, done_by, cut_short_by, refusal_counted, refusal_seen, done_counted, cut_counted}
use Rattle.mp_modes.proofs.top.maxpre.Goals as goal

pub returns-in-Err-clause-command : goal.returns-in-Err-clause-command
returns-in-Err-clause-command g c = λ request h. unread_request _ c.in-Err.error _ request _ _ _ c.unspelled.ensures c.in-Err.ensures h c.refuse.ensures.says

pub returns-in-Err-clause-usage : goal.returns-in-Err-clause-usage
returns-in-Err-clause-usage g c = λ none. unread c.in-Err.error _ _ _ _ c.unspelled.ensures c.refuse.ensures.says

pub returns-in-Err-clause-counted : goal.returns-in-Err-clause-counted
returns-in-Err-clause-counted g c = unread_counted c.in-Err.error _ _ _ _ c.unspelled.ensures c.refuse.ensures.says c.refuse.ensures.counted c.refuse.ensures.reads

pub returns-in-Err-clause-seen : goal.returns-in-Err-clause-seen
returns-in-Err-clause-seen g c = refusal_seen _ _ _ _ c.refuse.ensures.says

pub returns-in-Err-clause-complete : goal.returns-in-Err-clause-complete
returns-in-Err-clause-complete g c = λ request h sound none. complete request _ _ _ sound none (returns-in-Err-clause-counted g c) (returns-in-Err-clause-command g c request h)

pub returns-in-Err-prepare-clause-command : goal.returns-in-Err-prepare-clause-command
returns-in-Err-prepare-clause-command g c = λ request h. turned_away_by _ request _ _ _ _ _ _ h c.in-Ok.ensures c.in-Err-prepare.ensures.stopped c.refuse-in-Err-prepare.ensures.says

pub returns-in-Err-prepare-clause-counted : goal.returns-in-Err-prepare-clause-counted
returns-in-Err-prepare-clause-counted g c =
    refusal_counted _ (outside_of g.H.Host.world g.H.Host.asked g.H.Host.read_faults g.H.Host.write_faults c.prepare.new.host) _ c.in-Err-prepare.refusal _
    (λ q. c.in-Err-prepare.ensures.fault (ap (λ (r : Refusal). let e : Result Outputs Refusal = Err r in e) q)) c.in-Err-prepare.ensures.later c.in-Err-prepare.ensures.writes
    c.refuse-in-Err-prepare.ensures.says c.refuse-in-Err-prepare.ensures.counted c.refuse-in-Err-prepare.ensures.reads

pub returns-in-Err-prepare-clause-seen : goal.returns-in-Err-prepare-clause-seen
returns-in-Err-prepare-clause-seen g c = refusal_seen _ _ _ _ c.refuse-in-Err-prepare.ensures.says

pub returns-in-Err-prepare-clause-complete : goal.returns-in-Err-prepare-clause-complete
returns-in-Err-prepare-clause-complete g c = λ request h sound none. complete request _ _ _ sound none (returns-in-Err-prepare-clause-counted g c) (returns-in-Err-prepare-clause-command g c request h)

pub returns-in-Ok-write_outputs-clause-command : goal.returns-in-Ok-write_outputs-clause-command
returns-in-Ok-write_outputs-clause-command g c = λ request h. done_by _ request _ _ _ _ _ _ h c.in-Ok.ensures c.in-Ok-prepare.ensures.prepared c.in-Ok-write_outputs.ensures.whole refl refl refl

pub returns-in-Ok-write_outputs-clause-counted : goal.returns-in-Ok-write_outputs-clause-counted
returns-in-Ok-write_outputs-clause-counted g c =
    done_counted _ (outside_of g.H.Host.world g.H.Host.asked g.H.Host.read_faults g.H.Host.write_faults c.prepare.new.host) _ _ c.in-Ok-prepare.ensures.later c.in-Ok-prepare.ensures.writes
    c.in-Ok-write_outputs.ensures.later c.in-Ok-write_outputs.ensures.reads refl refl

pub returns-in-Ok-write_outputs-clause-complete : goal.returns-in-Ok-write_outputs-clause-complete
returns-in-Ok-write_outputs-clause-complete g c = λ request h sound none. complete request _ _ _ sound none (returns-in-Ok-write_outputs-clause-counted g c) (returns-in-Ok-write_outputs-clause-command g c request h)

pub returns-clause-command : goal.returns-clause-command
returns-clause-command g c = λ request h. cut_short_by _ request _ _ _ _ _ _ h c.in-Ok.ensures c.in-Ok-prepare.ensures.prepared c.in-Err-write_outputs.ensures.part refl refl refl

pub returns-clause-counted : goal.returns-clause-counted
returns-clause-counted g c =
    cut_counted _ (outside_of g.H.Host.world g.H.Host.asked g.H.Host.read_faults g.H.Host.write_faults c.prepare.new.host) _ _ c.in-Ok-prepare.ensures.later c.in-Ok-prepare.ensures.writes
    c.in-Err-write_outputs.ensures.fault c.in-Err-write_outputs.ensures.reads refl refl

pub returns-clause-complete : goal.returns-clause-complete
returns-clause-complete g c = λ request h sound none. complete request _ _ _ sound none (returns-clause-counted g c) (returns-clause-command g c request h)

pub prepare-requires : goal.prepare-requires
prepare-requires g c = few_tasks _ _ c.in-Ok.ensures
