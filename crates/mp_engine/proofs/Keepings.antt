-- What a run keeps.
use Rattle.std.proofs.Common.{◌≡◌, ℕ, List, [], ◌∷◌, Bool, true, false, cond, sym, subst}
use Rattle.std.specs.Prelude.{Option, Result, Ok, Err, IfOk, ◌≤◌}
use Rattle.mp_logic.specs.declared.lists.NoMemory.{NoMemory}
use Rattle.mp_logic.specs.Keeping.{State, Keeps}
use Rattle.mp_logic.specs.Labelled.{IsLabelled}
use Rattle.mp_logic.specs.declared.instances.Repair.{Repair}
use Rattle.mp_logic.proofs.Kept.{keeping_is_reflexive, keeping_joins}
use Rattle.mp_store.proofs.Started.{started_keeps}
use Rattle.mp_store.specs.Held.{labelled_of}
use Rattle.mp_clauses.specs.Slots.{has_empty}
use Rattle.mp_store.specs.Rewriting.{started}
use Rattle.mp_script.specs.declared.scripts.Stage.{Stage}
use Rattle.mp_script.specs.declared.scripts.Rounds.{Rounds}
use Rattle.mp_script.specs.declared.scripts.Rounds.TheVariants.{Once, Settle, At}
use Rattle.mp_script.specs.declared.scripts.Group.{Group}
use Rattle.mp_engine.specs.declared.done.StageLine.{StageLine}
use Rattle.mp_engine.specs.declared.done.Close.{Close}
use Rattle.mp_engine.specs.declared.done.Close.TheVariants.{Single}
use Rattle.mp_engine.specs.declared.done.Done.{Done}
use Rattle.mp_engine.specs.Stages.{IsNothing, IsStageThen, IsSequence}
use Rattle.mp_engine.specs.Runs.{IsLoop, IsGroup, IsRun, IsDone}
use Rattle.mp_engine.specs.Runs.{refuted as loop_refuted_at, settles as loop_settles_by, stops as loop_stops_by, goes_on as loop_goes_on}
use Rattle.mp_engine.specs.Laws.{RunsKeep}

nothing_keeps : (s t : State) (lines : List StageLine) (rs : List Repair) → IsNothing s lines t rs → Keeps s t rs
nothing_keeps s t lines rs n =
    subst (λ (x : List Repair). Keeps s t x) (sym n.repairs_are) (subst (λ (x : State). Keeps s x []) (sym n.same) (keeping_is_reflexive s))

stage_keeps : (inner : ℕ) (stage : Stage) (Later : State → List StageLine → State → List Repair → Type 0) (s t : State) (lines : List StageLine) (rs : List Repair)
    → ((u : State) (later : List StageLine) (second : List Repair) → Later u later t second → Keeps u t second) → IsStageThen inner stage Later s lines t rs → Keeps s t rs
stage_keeps inner stage Later s t lines rs h k =
    subst (λ (x : List Repair). Keeps s t x) (sym k.repairs_are) (keeping_joins s k.between t k.first k.second k.stage_is.step.keeps (h k.between k.later k.second k.then_is))

cond_keeps : (b : Bool) (s t : State) (rs : List Repair) (P Q : Type 0) → (P → Keeps s t rs) → (Q → Keeps s t rs) → cond b P Q → Keeps s t rs
cond_keeps true s t rs P Q f g h = f h
cond_keeps false s t rs P Q f g h = g h

pub sequence_keeps : (inner : ℕ) (stages : List Stage) (s : State) (lines : List StageLine) (t : State) (rs : List Repair) → IsSequence inner stages s lines t rs → Keeps s t rs
sequence_keeps inner [] s lines t rs h = nothing_keeps s t lines rs h
sequence_keeps inner (stage ∷ stages) s lines t rs h =
    cond_keeps (has_empty s.hard) s t rs (IsNothing s lines t rs) (IsStageThen inner stage (IsSequence inner stages) s lines t rs) (nothing_keeps s t lines rs)
    (stage_keeps inner stage (IsSequence inner stages) s t lines rs (λ u later second k. sequence_keeps inner stages u later t second k)) h

pub loop_keeps : {inner : ℕ} {stages : List Stage} {left : Option ℕ} {s t : State} {lines : List StageLine} {rs : List Repair} {close : Close} → IsLoop inner stages left s lines t rs close → Keeps s t rs
loop_keeps (loop_refuted_at e) = keeping_is_reflexive _
loop_keeps (loop_settles_by r same done) = sequence_keeps _ _ _ _ _ _ r.sequence
loop_keeps (loop_stops_by r last done) = sequence_keeps _ _ _ _ _ _ r.sequence
loop_keeps (loop_goes_on r further k) = keeping_joins _ _ _ _ _ (sequence_keeps _ _ _ _ _ _ r.sequence) (loop_keeps k)

pub group_keeps : (inner : ℕ) (stages : List Stage) (rounds : Rounds) (s : State) (lines : List StageLine) (t : State) (rs : List Repair) (close : Close) → IsGroup inner stages rounds s lines t rs close → Keeps s t rs
group_keeps inner stages Once s lines t rs close h = sequence_keeps inner stages s lines t rs h.0
group_keeps inner stages Settle s lines t rs close h = loop_keeps h
group_keeps inner stages (At n) s lines t rs close h = loop_keeps h

pub groups_keep : (inner : ℕ) (script : List Group) (close last : Close) (s : State) (lines : List StageLine) (t : State) (rs : List Repair) → IsRun inner script close last s lines t rs → Keeps s t rs
groups_keep inner [] close last s lines t rs h = nothing_keeps s t lines rs h.0
groups_keep inner (group ∷ groups) close last s lines t rs k =
    subst (λ (x : List Repair). Keeps s t x) (sym k.repairs_are)
    (keeping_joins s k.between t k.before k.behind (group_keeps inner group.stages group.rounds s k.first k.between k.before k.closed k.group_is)
    (groups_keep inner groups k.closed last k.between k.second t k.behind k.then_is))

pub runs_keep : RunsKeep
runs_keep inner script s done sound d =
    keeping_joins s (labelled_of (started s inner)) done.labelled [] done.repairs (started_keeps s inner sound) (groups_keep inner script Single d.last (labelled_of (started s inner)) done.stages done.labelled done.repairs d.run)

pub run_keeps : (r : Result Done NoMemory) (inner : ℕ) (script : List Group) (s : State) → IsLabelled s.vars s.hard s.costs s.offset → IfOk r (λ done. IsDone inner script s done) → IfOk r (λ done. Keeps s done.labelled done.repairs)
run_keeps (Ok done) inner script s sound d = runs_keep inner script s done sound d
run_keeps (Err e) inner script s sound d = tt

pub run_vars : (r : Result Done NoMemory) (a b : ℕ) → a ≡ b → IfOk r (λ done. done.labelled.vars ≤ a) → IfOk r (λ done. done.labelled.vars ≤ b)
run_vars (Ok done) a b e h = subst (λ (n : ℕ). done.labelled.vars ≤ n) e h
run_vars (Err x) a b e h = tt
