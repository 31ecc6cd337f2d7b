-- How the top call ends, from how its inputs were read and how its texts were written.
use Rattle.std.proofs.Common.{◌≡◌, ◌≢◌, ◌⊎◌, ◌<◌, ◌≤◌, ◌+◌, ◌-◌, ◌^◌, ℕ, Bool, true, false, cond, List, [], ◌∷◌, ◌++◌, Option, Some, length, refl, ap, sym, ◌∙◌, subst, arith, inl, inr}
use Rattle.std.specs.Prelude.{None, nat_le, nat_lt}
use Rattle.std.proofs.lemmas.Option.{none-some, same_Some}
use Rattle.mp_text.specs.Numbers.{at_most, natural_of}
use Rattle.std.proofs.lemmas.Bool.{cases_lt, leb-true}
use Rattle.mp_host.specs.World.{Rose, last_count}
use Rattle.mp_engine.specs.declared.done.Done.{Done}
use Rattle.mp_words.specs.Commands.{IsFault, Request, Preprocess, Reconstruct, Evaluate, Workload, Upgrade, Spells, most_tasks}
use Rattle.mp_words.specs.declared.command.CommandError.{CommandError}
use Rattle.mp_words.specs.declared.command.CommandError.TheVariants as faults
use Rattle.mp_words.proofs.OneCommand.{commands_one}
use Rattle.mp_modes.specs.Commands.{Answers, BarsRequest, EndsUnspelled, HasFewTasks, OfMode, PreparesRequest, StopsRequest, refused_words}
use Rattle.mp_modes.specs.EvaluateMode.{evaluate_mode}
use Rattle.mp_modes.specs.Inputs.{Input, Stops, StopsAt}
use Rattle.mp_modes.specs.PreprocessMode.{preprocess_mode}
use Rattle.mp_modes.specs.ReconstructMode.{reconstruct_mode}
use Rattle.mp_modes.specs.UpgradeMode.{upgrade_mode}
use Rattle.mp_modes.specs.WorkloadMode.{workload_mode}
use Rattle.mp_modes.specs.Refusals.{HasFixedLine, faults_of, line_of, status_of, text_status}
use Rattle.mp_modes.specs.Running.{Mode, IsPrepared, IsSaid, IsSeen, unsaid, Says, SaysOrWants, Does, DoesPart, Prepares, StopsReading, IsDone, IsCutShort, IsTurnedAway, Ends, EndsUnread, IsCounted, after_reading}
use Rattle.mp_modes.specs.Outputs.{steps_of}
use Rattle.mp_modes.specs.Traces.{Outside, Trace, begun, asking}
use Rattle.mp_modes.specs.declared.outputs.Outputs.{Outputs}
use Rattle.mp_modes.specs.declared.status.Outcome.{Outcome}
use Rattle.mp_modes.specs.declared.status.Status.{Status}
use Rattle.mp_modes.specs.declared.status.Status.TheVariants as statuses
use Rattle.mp_modes.specs.declared.refusal.TextRefusal.{TextRefusal}
use Rattle.mp_modes.specs.declared.refusal.TextRefusal.TheVariants as texts
use Rattle.mp_modes.specs.declared.refusal.Refusal.{Refusal}
use Rattle.mp_modes.specs.declared.refusal.Refusal.TheVariants as refusals
use Rattle.mp_modes.proofs.Traced.{left-begun}

-- where a run stops, memory may be wanting
want_at : (Refuses : List ℕ → TextRefusal → Type 0) (content : Option (List ℕ)) (r : Refusal) → StopsAt Refuses content r → StopsAt Refuses content refusals.NoMemory
want_at Refuses content r h = tt

stops_wanting : (t : Trace) (before : List (List ℕ)) (is : List Input) (r : Refusal) (end : Trace) → Stops t before is r end → Stops t before is refusals.NoMemory end
stops_wanting t before [] r end h = (refl, h.1)
stops_wanting t before (i ∷ is) r end h =
    elim h [
      | inl at ↦ inl (tt, at.1)
      | inr later ↦ inr (later.0, later.1, later.2, stops_wanting (asking t i.name) (before ++ later.0 ∷ []) is r end later.3)
    ]

-- a refusal whose line takes no memory is said
unread_said : (refusal : Refusal) (old new : Outside) (outcome : Outcome) → HasFixedLine refusal → SaysOrWants refusal old new outcome → EndsUnread refusal old new outcome
unread_said refusal old new outcome fixed h = elim h [ inl says ↦ says (begun old.world) old (left-begun old) | inr want ↦ absurd (want.0 fixed) ]

-- the words were not read
pub unread : (error : CommandError) (refusal : Refusal) (old new : Outside) (outcome : Outcome) → refusal ≡ refused_words error → SaysOrWants refusal old new outcome → EndsUnspelled old new outcome
unread faults.Usage refusal old new outcome is h = let P : Refusal → Type 0 = λ r. SaysOrWants r old new outcome in inl (unread_said refusals.Usage old new outcome tt (subst P is h))
unread faults.NoMemory refusal old new outcome is h = let P : Refusal → Type 0 = λ r. SaysOrWants r old new outcome in inr (unread_said refusals.NoMemory old new outcome tt (subst P is h))

-- memory may be wanting for each request
wanting : (request : Request) → BarsRequest request refusals.NoMemory
wanting (Preprocess file techniques map form merge version) = tt
wanting (Reconstruct file map original form) = refl
wanting (Evaluate file solution) = refl
wanting (Workload tasks techniques) = tt
wanting (Upgrade file map) = refl

-- where they spell a request, that was for want of memory
pub unread_request : (words : List (List ℕ)) (error : CommandError) (refusal : Refusal) (request : Request) (old new : Outside) (outcome : Outcome) → refusal ≡ refused_words error → IsFault words error → Spells words request
    → SaysOrWants refusal old new outcome → Answers request old new outcome
unread_request words faults.Usage refusal request old new outcome is fault spelled h = absurd (fault (request, spelled))
unread_request words faults.NoMemory refusal request old new outcome is fault spelled h =
    let P : Refusal → Type 0 = λ r. SaysOrWants r old new outcome in
    inl (refusals.NoMemory, wanting request, unread_said refusals.NoMemory old new outcome tt (subst P is h))

-- an input stopped the run
pub turned_away : (mode : Mode) (old mid new : Outside) (refusal : Refusal) (outcome : Outcome) → StopsReading mode old mid refusal → SaysOrWants refusal mid new outcome → Ends mode old new outcome
turned_away mode old mid new refusal outcome stop h =
    elim h [
      | inl says ↦ inr (inr (record { refusal = refusal; end = stop.end; stops = stop.stops; said = says stop.end old stop.left }))
      | inr want ↦ inr (inr (record {
        refusal = refusals.NoMemory;
        end = stop.end;
        stops = stops_wanting (begun old.world) [] mode.inputs refusal stop.end stop.stops;
        said = want.1 stop.end old stop.left;
      }))
    ]

-- all steps were done
pub done : (mode : Mode) (old mid new : Outside) (outputs : Outputs) (outcome : Outcome) → Prepares mode old mid outputs → Does (steps_of outputs) mid new
    → outcome.status ≡ statuses.Ok → outcome.faults_seen ≡ 0 → outcome.done ≡ outputs.done → Ends mode old new outcome
done mode old mid new outputs outcome p does status seen run =
    let Ready : Option Done → Type 0 = λ d. IsPrepared mode old.world d (steps_of outputs) in
    inl (record { steps = steps_of outputs; prepared = subst Ready (sym run) p.prepared; left = does (after_reading mode old) old p.left; status = status; seen = seen })

-- a step failed
pub cut_short : (mode : Mode) (old mid new : Outside) (outputs : Outputs) (outcome : Outcome) → Prepares mode old mid outputs → DoesPart (steps_of outputs) mid new
    → outcome.status ≡ statuses.WriteFault → outcome.faults_seen ≡ 1 → outcome.done ≡ outputs.done → Ends mode old new outcome
cut_short mode old mid new outputs outcome p does status seen run =
    let part = does (after_reading mode old) old p.left in
    let Ready : Option Done → Type 0 = λ d. IsPrepared mode old.world d (steps_of outputs) in
    inr (inl (record { steps = steps_of outputs; prepared = subst Ready (sym run) p.prepared; end = part.0; cut = part.1; left = part.2; status = status; seen = seen }))

-- a refusal with the status of a fault is that fault
reads : (r : Refusal) → status_of r ≡ statuses.ReadFault → r ≡ refusals.ReadFault
reads refusals.NoMemory q = absurd cc
reads refusals.Usage q = absurd cc
reads refusals.ReadFault q = refl
reads refusals.TooLong q = absurd cc
reads (refusals.Text (texts.Instance line)) q = absurd cc
reads (refusals.Text (texts.Limit exceeded)) q = absurd cc
reads (refusals.Text (texts.Map line)) q = absurd cc
reads (refusals.Text (texts.Solution line)) q = absurd cc
reads (refusals.Text (texts.NotModel clause)) q = absurd cc
reads (refusals.Text (texts.Script place)) q = absurd cc

never_writes : (r : Refusal) → status_of r ≢ statuses.WriteFault
never_writes refusals.NoMemory q = absurd cc
never_writes refusals.Usage q = absurd cc
never_writes refusals.ReadFault q = absurd cc
never_writes refusals.TooLong q = absurd cc
never_writes (refusals.Text (texts.Instance line)) q = absurd cc
never_writes (refusals.Text (texts.Limit exceeded)) q = absurd cc
never_writes (refusals.Text (texts.Map line)) q = absurd cc
never_writes (refusals.Text (texts.Solution line)) q = absurd cc
never_writes (refusals.Text (texts.NotModel clause)) q = absurd cc
never_writes (refusals.Text (texts.Script place)) q = absurd cc

-- the status of a run that was refused
said_status : (refusal : Refusal) (old new : Outside) (outcome : Outcome) → SaysOrWants refusal old new outcome → (outcome.status ≡ status_of refusal) ⊎ (outcome.status ≡ statuses.NoMemory)
said_status refusal old new outcome h =
    elim h [
      | inl says ↦ inl (says (begun old.world) old (left-begun old)).status
      | inr want ↦ inr (want.1 (begun old.world) old (left-begun old)).status
    ]

-- a count that rose is greater by one, or at its last value
risen : (before now : ℕ) → Rose before now → now < last_count → before + 1 ≤ now
risen before now rose below = elim (cases_lt before now) [ inl less ↦ omega (arith, less) | inr not ↦ absurd (let at = rose not in omega (arith, at, below)) ]

-- the faults on the way to a refusal
on_the_way : (r : Refusal) (before now : ℕ) → (r ≡ refusals.ReadFault → Rose before now) → before ≤ now → now < last_count → before + faults_of r ≤ now
on_the_way refusals.ReadFault before now rose later below = risen before now (rose refl) below
on_the_way refusals.NoMemory before now rose later below = omega (arith, later)
on_the_way refusals.Usage before now rose later below = omega (arith, later)
on_the_way refusals.TooLong before now rose later below = omega (arith, later)
on_the_way (refusals.Text x) before now rose later below = omega (arith, later)

-- a refused run is counted
pub refusal_counted : (old mid new : Outside) (refusal : Refusal) (outcome : Outcome) → (refusal ≡ refusals.ReadFault → Rose old.read_faults mid.read_faults) → old.read_faults ≤ mid.read_faults → mid.write_faults ≡ old.write_faults
    → SaysOrWants refusal mid new outcome → (new.write_faults < last_count → mid.write_faults + outcome.faults_seen ≤ new.write_faults + faults_of refusal) → new.read_faults ≡ mid.read_faults
    → IsCounted old new outcome
refusal_counted old mid new refusal outcome rose later writes h counted same = record {
  rose = λ below below'.
      let way = on_the_way refusal old.read_faults mid.read_faults rose later (omega (arith, below, same)) in
      let more = counted below' in
      omega (arith, way, more, same, writes);
  reading = λ q.
      elim (said_status refusal mid new outcome h) [
        | inl is ↦ let P : ℕ → Type 0 = λ n. Rose old.read_faults n in subst P (sym same) (rose (reads refusal (sym is ∙ q)))
        | inr is ↦ let clash : statuses.NoMemory ≡ statuses.ReadFault = sym is ∙ q in absurd cc
      ];
  writing = λ q.
      elim (said_status refusal mid new outcome h) [
        | inl is ↦ absurd (never_writes refusal (sym is ∙ q))
        | inr is ↦ let clash : statuses.NoMemory ≡ statuses.WriteFault = sym is ∙ q in absurd cc
      ];
}

-- a run that did all its steps is counted
pub done_counted : (old mid new : Outside) (outcome : Outcome) → old.read_faults ≤ mid.read_faults → mid.write_faults ≡ old.write_faults → mid.write_faults ≤ new.write_faults → new.read_faults ≡ mid.read_faults
    → outcome.status ≡ statuses.Ok → outcome.faults_seen ≡ 0 → IsCounted old new outcome
done_counted old mid new outcome later writes more same status seen = record {
  rose = λ below below'. omega (arith, later, writes, more, same, seen);
  reading = λ q. let clash : statuses.Ok ≡ statuses.ReadFault = sym status ∙ q in absurd cc;
  writing = λ q. let clash : statuses.Ok ≡ statuses.WriteFault = sym status ∙ q in absurd cc;
}

-- and one of which a step failed
pub cut_counted : (old mid new : Outside) (outcome : Outcome) → old.read_faults ≤ mid.read_faults → mid.write_faults ≡ old.write_faults → Rose mid.write_faults new.write_faults → new.read_faults ≡ mid.read_faults
    → outcome.status ≡ statuses.WriteFault → outcome.faults_seen ≡ 1 → IsCounted old new outcome
cut_counted old mid new outcome later writes rose same status seen = record {
  rose = λ below below'. let up = risen mid.write_faults new.write_faults rose below' in omega (arith, later, writes, up, same, seen);
  reading = λ q. let clash : statuses.WriteFault ≡ statuses.ReadFault = sym status ∙ q in absurd cc;
  writing = λ q. let P : ℕ → Type 0 = λ n. Rose n new.write_faults in subst P writes rose;
}

never_reads : (error : CommandError) → refused_words error ≡ refusals.ReadFault → ⊥
never_reads faults.Usage q = absurd cc
never_reads faults.NoMemory q = absurd cc

-- the words were not read, and the run is counted
pub unread_counted : (error : CommandError) (refusal : Refusal) (old new : Outside) (outcome : Outcome) → refusal ≡ refused_words error → SaysOrWants refusal old new outcome
    → (new.write_faults < last_count → old.write_faults + outcome.faults_seen ≤ new.write_faults + faults_of refusal) → new.read_faults ≡ old.read_faults → IsCounted old new outcome
unread_counted error refusal old new outcome is h counted same = refusal_counted old old new refusal outcome (λ q. absurd (never_reads error (sym is ∙ q))) (omega arith) refl h counted same

-- what holds of the mode of a request
for_mode : (request : Request) (P Q : Mode → Type 0) → ((mode : Mode) → P mode → Q mode) → OfMode request P → OfMode request Q
for_mode (Preprocess file techniques map form merge version) P Q f h = record {
  script = h.script;
  spelled = h.spelled;
  holds = f (preprocess_mode file (record { script = h.script; merged = merge; version = version; form = form }) map) h.holds;
}
for_mode (Reconstruct file map original form) P Q f h = f (reconstruct_mode file map original form) h
for_mode (Evaluate file solution) P Q f h = f (evaluate_mode file solution) h
for_mode (Workload tasks techniques) P Q f h = record { script = h.script; spelled = h.spelled; holds = f (workload_mode tasks h.script) h.holds }
for_mode (Upgrade file map) P Q f h = f (upgrade_mode file map) h

-- a request was stopped
barred : (request : Request) (old mid new : Outside) (refusal : Refusal) (outcome : Outcome) → BarsRequest request refusal → mid ≡ old → SaysOrWants refusal mid new outcome
    → (r : Refusal) × BarsRequest request r × EndsUnread r old new outcome
barred request old mid new refusal outcome bars same h =
    let P : Outside → Type 0 = λ o. SaysOrWants refusal o new outcome in
    elim (subst P same h) [
      | inl says ↦ (refusal, bars, says (begun old.world) old (left-begun old))
      | inr want ↦ (refusals.NoMemory, wanting request, want.1 (begun old.world) old (left-begun old))
    ]

stopped_request : (request : Request) (old mid new : Outside) (refusal : Refusal) (outcome : Outcome) → StopsRequest request old mid refusal → SaysOrWants refusal mid new outcome → Answers request old new outcome
stopped_request request old mid new refusal outcome stop h =
    elim stop [
      | inl bars ↦ inl (barred request old mid new refusal outcome bars.0 bars.1 h)
      | inr s ↦ inr (for_mode request (λ mode. StopsReading mode old mid refusal) (λ mode. Ends mode old new outcome) (λ mode stops. turned_away mode old mid new refusal outcome stops h) s)
    ]

-- or it did all its steps
done_request : (request : Request) (old mid new : Outside) (outputs : Outputs) (outcome : Outcome) → PreparesRequest request old mid outputs → Does (steps_of outputs) mid new
    → outcome.status ≡ statuses.Ok → outcome.faults_seen ≡ 0 → outcome.done ≡ outputs.done → Answers request old new outcome
done_request request old mid new outputs outcome p does status seen run =
    inr (for_mode request (λ mode. Prepares mode old mid outputs) (λ mode. Ends mode old new outcome) (λ mode prepares. done mode old mid new outputs outcome prepares does status seen run) p)

-- or a step failed
cut_request : (request : Request) (old mid new : Outside) (outputs : Outputs) (outcome : Outcome) → PreparesRequest request old mid outputs → DoesPart (steps_of outputs) mid new
    → outcome.status ≡ statuses.WriteFault → outcome.faults_seen ≡ 1 → outcome.done ≡ outputs.done → Answers request old new outcome
cut_request request old mid new outputs outcome p does status seen run =
    inr (for_mode request (λ mode. Prepares mode old mid outputs) (λ mode. Ends mode old new outcome) (λ mode prepares. cut_short mode old mid new outputs outcome prepares does status seen run) p)

-- the request that was read is the one that the words spell
pub turned_away_by : (words : List (List ℕ)) (request read : Request) (old mid new : Outside) (refusal : Refusal) (outcome : Outcome) → Spells words request → Spells words read
    → StopsRequest read old mid refusal → SaysOrWants refusal mid new outcome → Answers request old new outcome
turned_away_by words request read old mid new refusal outcome h k stop says =
    let P : Request → Type 0 = λ r. StopsRequest r old mid refusal in
    stopped_request request old mid new refusal outcome (subst P (commands_one words read request k h) stop) says

pub done_by : (words : List (List ℕ)) (request read : Request) (old mid new : Outside) (outputs : Outputs) (outcome : Outcome) → Spells words request → Spells words read
    → PreparesRequest read old mid outputs → Does (steps_of outputs) mid new → outcome.status ≡ statuses.Ok → outcome.faults_seen ≡ 0 → outcome.done ≡ outputs.done → Answers request old new outcome
done_by words request read old mid new outputs outcome h k p does status seen run =
    let P : Request → Type 0 = λ r. PreparesRequest r old mid outputs in
    done_request request old mid new outputs outcome (subst P (commands_one words read request k h) p) does status seen run

pub cut_short_by : (words : List (List ℕ)) (request read : Request) (old mid new : Outside) (outputs : Outputs) (outcome : Outcome) → Spells words request → Spells words read
    → PreparesRequest read old mid outputs → DoesPart (steps_of outputs) mid new → outcome.status ≡ statuses.WriteFault → outcome.faults_seen ≡ 1 → outcome.done ≡ outputs.done → Answers request old new outcome
cut_short_by words request read old mid new outputs outcome h k p does status seen run =
    let P : Request → Type 0 = λ r. PreparesRequest r old mid outputs in
    cut_request request old mid new outputs outcome (subst P (commands_one words read request k h) p) does status seen run

-- at most one write of a line fails
unsaid_few : (line : List ℕ) (count : ℕ) → unsaid line count ≤ 1
unsaid_few line count =
    let step : (b : Bool) → cond b 1 0 ≤ 1 = λ (b : Bool). elim b as (λ b. cond b 1 0 ≤ 1) [ true ↦ omega arith | false ↦ omega arith ] in
    step (nat_lt count (length line))

-- a refused run saw as many faults as its status says
seen_at : (r : Refusal) (more n : ℕ) → more ≤ 1 → n ≡ faults_of r + more → IsSeen (status_of r) n
seen_at refusals.ReadFault more n few is = (omega (arith, is), omega (arith, few, is))
seen_at refusals.NoMemory more n few is = omega (arith, few, is)
seen_at refusals.Usage more n few is = omega (arith, few, is)
seen_at refusals.TooLong more n few is = omega (arith, few, is)
seen_at (refusals.Text (texts.Instance line)) more n few is = omega (arith, few, is)
seen_at (refusals.Text (texts.Limit exceeded)) more n few is = omega (arith, few, is)
seen_at (refusals.Text (texts.Map line)) more n few is = omega (arith, few, is)
seen_at (refusals.Text (texts.Solution line)) more n few is = omega (arith, few, is)
seen_at (refusals.Text (texts.NotModel clause)) more n few is = omega (arith, few, is)
seen_at (refusals.Text (texts.Script place)) more n few is = omega (arith, few, is)

said_seen : (refusal : Refusal) (old new : Outside) (outcome : Outcome) → Says refusal old new outcome → IsSeen outcome.status outcome.faults_seen
said_seen refusal old new outcome says =
    let said = says (begun old.world) old (left-begun old) in
    let At : Status → Type 0 = λ status. IsSeen status outcome.faults_seen in
    subst At (sym said.status) (seen_at refusal (unsaid (line_of refusal) said.count) outcome.faults_seen (unsaid_few (line_of refusal) said.count) said.seen)

pub refusal_seen : (refusal : Refusal) (old new : Outside) (outcome : Outcome) → SaysOrWants refusal old new outcome → IsSeen outcome.status outcome.faults_seen
refusal_seen refusal old new outcome h = elim h [ inl says ↦ said_seen refusal old new outcome says | inr want ↦ said_seen refusals.NoMemory old new outcome want.1 ]

-- a number that is at most another is no greater
at_most_few : (max : ℕ) (o : Option ℕ) (n : ℕ) → at_most max o ≡ Some n → n ≤ max
at_most_few max None n e = absurd (none-some n e)
at_most_few max (Some m) n e =
    let step : (b : Bool) → nat_le m max ≡ b → cond b (Some m) None ≡ Some n → n ≤ max =
    λ (b : Bool). elim b as (λ b. nat_le m max ≡ b → cond b (Some m) None ≡ Some n → n ≤ max) [
      | true ↦ λ below is. let l = leb-true m max below in let same : m ≡ n = same_Some m n is in omega (arith, l, same)
      | false ↦ λ above is. absurd (none-some n is)
    ] in
    step (nat_le m max) refl e

-- the words of a workload ask for few tasks
pub few_tasks : (words : List (List ℕ)) (request : Request) → Spells words request → HasFewTasks request
few_tasks words (Preprocess file techniques map form merge version) h = tt
few_tasks words (Reconstruct file map original form) h = tt
few_tasks words (Evaluate file solution) h = tt
few_tasks words (Workload tasks techniques) h = at_most_few most_tasks (natural_of h.operand) tasks (sym h.tasks_are)
few_tasks words (Upgrade file map) h = tt
