-- Nothing but want of memory keeps a sound request from being done.
use Rattle.std.proofs.Common.{◌≡◌, ◌⊎◌, ◌<◌, ◌≤◌, ◌+◌, ◌-◌, ◌^◌, ℕ, suc, Bool, List, [], ◌∷◌, ◌++◌, Option, Some, None, IfSome, length, take, drop, refl, ap, sym, ◌∙◌, subst, arith, inl, inr}
use Rattle.std.proofs.lemmas.Bool.{cases_lt}
use Rattle.std.proofs.lemmas.List.{take-append-drop}
use Rattle.mp_host.specs.World.{World, Rose, last_count}
use Rattle.mp_logic.specs.Formula.{Formula}
use Rattle.mp_script.specs.Grammar.{IsBadPlace, IsScriptOf}
use Rattle.mp_script.specs.declared.scripts.Group.{Group}
use Rattle.mp_map.specs.Solutions.{Reports}
use Rattle.mp_map.specs.declared.maps.MapFile.{MapFile}
use Rattle.mp_map.specs.declared.solutions.Solution.{Solution}
use Rattle.mp_words.specs.Commands.{Request, Preprocess, Reconstruct, Evaluate, Workload, Upgrade}
use Rattle.mp_modes.specs.Commands.{Answers, Bars, BarsRequest, OfMode}
use Rattle.mp_modes.specs.Completeness.{HasFile, HasNoFault, IsOkOrWant, IsScript, IsSound}
use Rattle.mp_modes.specs.EvaluateMode.{evaluate_mode, readable_input, values_input}
use Rattle.mp_modes.specs.Inputs.{Input, IsFine, IsTextOf, Stops, StopsAt}
use Rattle.mp_modes.specs.Limits.{longest}
use Rattle.mp_modes.specs.PreprocessMode.{instance_input, preprocess_mode}
use Rattle.mp_modes.specs.ReconstructMode.{map_input, solution_input, reconstruct_mode}
use Rattle.mp_modes.specs.Refusals.{status_of}
use Rattle.mp_modes.specs.Running.{Mode, Ends, IsCounted}
use Rattle.mp_modes.specs.Traces.{Outside, Trace, asking, begun}
use Rattle.mp_modes.specs.UpgradeMode.{upgrade_mode}
use Rattle.mp_modes.specs.WorkloadMode.{workload_mode}
use Rattle.mp_modes.specs.declared.refusal.Refusal.{Refusal}
use Rattle.mp_modes.specs.declared.refusal.Refusal.TheVariants as refusals
use Rattle.mp_modes.specs.declared.refusal.TextRefusal.{TextRefusal}
use Rattle.mp_modes.specs.declared.refusal.TextRefusal.TheVariants as texts
use Rattle.mp_modes.specs.declared.status.Outcome.{Outcome}
use Rattle.mp_modes.specs.declared.status.Status.TheVariants as statuses
use Rattle.mp_modes.proofs.Readings.{evaluation-fine, map-fine, solution-fine, tried-fine}
use Rattle.mp_modes.proofs.Refused.{accepted-fine, readable-fine}

-- all inputs are there, and nothing is wrong with their texts
abbrev AreSound : World → List (List ℕ) → List Input → Type 0
AreSound w before [] = Unit {0}
AreSound w before (i ∷ is) = (text : List ℕ) × (w.file i.name ≡ Some text) × IsFine before i text × AreSound w (before ++ text ∷ []) is

-- a told text is the one that was read
same_text : (w : World) (name text read : List ℕ) → w.file name ≡ Some text → IsTextOf w name read → read ≡ text
same_text w name text read told is = let P : Option (List ℕ) → Type 0 = λ o. IfSome o (λ c. read ≡ c) in subst P told is

-- why reading stops at a fine input
fine_stops : (Refuses : List ℕ → TextRefusal → Type 0) (text : List ℕ) (r : Refusal) → length text ≤ longest → ((x : TextRefusal) → Refuses text x → ⊥) → StopsAt Refuses (Some text) r
    → (r ≡ refusals.NoMemory) ⊎ (r ≡ refusals.ReadFault)
fine_stops Refuses text refusals.NoMemory fits fine h = inl refl
fine_stops Refuses text refusals.ReadFault fits fine h = inr refl
fine_stops Refuses text refusals.TooLong fits fine h = absurd (omega (arith, fits, h))
fine_stops Refuses text (refusals.Text x) fits fine h = absurd (fine x h.1)
fine_stops Refuses text refusals.Usage fits fine h = absurd h

-- reading sound inputs stops only for want of memory, or by a fault of the host
sound_stops : (t : Trace) (before : List (List ℕ)) (is : List Input) (r : Refusal) (end : Trace) → AreSound t.world before is → Stops t before is r end → (r ≡ refusals.NoMemory) ⊎ (r ≡ refusals.ReadFault)
sound_stops t before [] r end s h = inl h.0
sound_stops t before (i ∷ is) r end s h =
    elim h [
      | inl at ↦
          let At : Option (List ℕ) → Type 0 = λ content. StopsAt (i.Refuses before) content r in
          fine_stops (i.Refuses before) s.0 r s.2.fits s.2.unrefused (subst At s.1 at.0)
      | inr later ↦
          let same : later.0 ≡ s.0 = same_text t.world i.name s.0 later.0 s.1 later.1 in
          let Later : List ℕ → Type 0 = λ text. AreSound t.world (before ++ text ∷ []) is in
          sound_stops (asking t i.name) (before ++ later.0 ∷ []) is r end (subst Later (sym same) s.3) later.3
    ]

-- a count that did not rise and may rise did not see a fault
no_rise : (before now : ℕ) → Rose before now → now ≡ before → now < last_count → ⊥
no_rise before now rose same below = let at = rose (omega (arith, same)) in omega (arith, at, below)

sound_ends : (mode : Mode) (old new : Outside) (outcome : Outcome) → AreSound old.world [] mode.inputs → HasNoFault old new → IsCounted old new outcome → Ends mode old new outcome → IsOkOrWant outcome.status
sound_ends mode old new outcome sound none counted h =
    elim h [
      | inl done ↦ inl done.status
      | inr other ↦
          elim other [
            | inl cut ↦ absurd (no_rise old.write_faults new.write_faults (counted.writing cut.status) none.2 none.3)
            | inr away ↦
                elim (sound_stops (begun old.world) [] mode.inputs away.refusal away.end sound away.stops) [
                  | inl is ↦ inr (away.said.status ∙ ap status_of is)
                  | inr is ↦ absurd (no_rise old.read_faults new.read_faults (counted.reading (away.said.status ∙ ap status_of is)) none.0 none.1)
                ]
          ]
    ]

-- a script has no place at fault
no_bad_place : (techniques : List ℕ) (place : ℕ) (script : List Group) → IsScriptOf techniques script → IsBadPlace techniques place → ⊥
no_bad_place techniques place script is bad =
    elim (cases_lt place (length techniques)) [
      | inl below ↦
          let Spelled : List ℕ → Type 0 = λ text. IsScriptOf text script in
          bad.ends below (drop (suc place) techniques, script, subst Spelled (sym (take-append-drop (suc place) techniques)) is)
      | inr not ↦ bad.whole (omega (arith, not, bad.within)) script is
    ]

script_bars : (techniques : List ℕ) (r : Refusal) → IsScript techniques → Bars techniques r → r ≡ refusals.NoMemory
script_bars techniques refusals.NoMemory is h = refl
script_bars techniques (refusals.Text (texts.Script place)) is h = absurd (no_bad_place techniques place is.0 is.1 h)
script_bars techniques (refusals.Text (texts.Instance line)) is h = absurd h
script_bars techniques (refusals.Text (texts.Limit exceeded)) is h = absurd h
script_bars techniques (refusals.Text (texts.Map line)) is h = absurd h
script_bars techniques (refusals.Text (texts.Solution line)) is h = absurd h
script_bars techniques (refusals.Text (texts.NotModel clause)) is h = absurd h
script_bars techniques refusals.ReadFault is h = absurd h
script_bars techniques refusals.TooLong is h = absurd h
script_bars techniques refusals.Usage is h = absurd h

sound_bars : (w : World) (request : Request) (r : Refusal) → IsSound w request → BarsRequest request r → r ≡ refusals.NoMemory
sound_bars w (Preprocess file techniques map form merge version) r sound h = script_bars techniques r sound.0 h
sound_bars w (Reconstruct file map original form) r sound h = h
sound_bars w (Evaluate file solution) r sound h = h
sound_bars w (Workload tasks techniques) r sound h = script_bars techniques r sound h
sound_bars w (Upgrade file map) r sound h = h

-- one sound input
sound_input : (w : World) (before : List (List ℕ)) (i : Input) (is : List Input) (text : List ℕ) → w.file i.name ≡ Some text → length text ≤ longest → ((x : TextRefusal) → i.Refuses before text x → ⊥)
    → AreSound w (before ++ text ∷ []) is → AreSound w before (i ∷ is)
sound_input w before i is text told fits fine later = (text, told, record { fits = fits; unrefused = fine }, later)

sound_request : (request : Request) (old new : Outside) (outcome : Outcome) → IsSound old.world request → HasNoFault old new → IsCounted old new outcome
    → OfMode request (λ mode. Ends mode old new outcome) → IsOkOrWant outcome.status
sound_request (Preprocess file techniques map form merge version) old new outcome sound none counted h =
    let f = sound.1.0 in
    let i = sound.1.1 in
    sound_ends (preprocess_mode file (record { script = h.script; merged = merge; version = version; form = form }) map) old new outcome
    (sound_input old.world [] (instance_input file) [] i.0 i.1 i.2 (accepted-fine i.0 f i.3) tt) none counted h.holds
sound_request (Reconstruct file map None form) old new outcome sound none counted h =
    let m = sound.2 in
    let s = sound.3 in
    sound_ends (reconstruct_mode file map None form) old new outcome
    (sound_input old.world [] (map_input map) (solution_input file ∷ []) m.0 m.1 m.2 (map-fine m.0 sound.0 m.3)
    (sound_input old.world (m.0 ∷ []) (solution_input file) [] s.0 s.1 s.2 (solution-fine m.0 s.0 sound.0 sound.1 m.3 s.3) tt)) none counted h
sound_request (Reconstruct file map (Some original) form) old new outcome sound none counted h =
    let i = sound.1 in
    let a = sound.2 in
    let m = a.2 in
    let s = a.3 in
    sound_ends (reconstruct_mode file map (Some original) form) old new outcome
    (sound_input old.world [] (readable_input original) (map_input map ∷ (solution_input file ∷ [])) i.0 i.1 i.2 (readable-fine i.0 sound.0 i.3)
    (sound_input old.world (i.0 ∷ []) (map_input map) (solution_input file ∷ []) m.0 m.1 m.2 (map-fine m.0 a.0 m.3)
    (sound_input old.world (i.0 ∷ (m.0 ∷ [])) (solution_input file) [] s.0 s.1 s.2 (tried-fine i.0 m.0 s.0 sound.0 a.0 a.1 i.3 m.3 s.3 a.4) tt))) none counted h
sound_request (Evaluate file solution) old new outcome sound none counted h =
    let i = sound.2 in
    let s = sound.3 in
    sound_ends (evaluate_mode file solution) old new outcome
    (sound_input old.world [] (readable_input file) (values_input solution ∷ []) i.0 i.1 i.2 (readable-fine i.0 sound.0 i.3)
    (sound_input old.world (i.0 ∷ []) (values_input solution) [] s.0 s.1 s.2 (evaluation-fine i.0 s.0 sound.0 sound.1 i.3 s.3 sound.4) tt)) none counted h
sound_request (Workload tasks techniques) old new outcome sound none counted h = sound_ends (workload_mode tasks h.script) old new outcome tt none counted h.holds
sound_request (Upgrade file map) old new outcome sound none counted h =
    let m = sound.1 in
    sound_ends (upgrade_mode file map) old new outcome (sound_input old.world [] (map_input file) [] m.0 m.1 m.2 (map-fine m.0 sound.0 m.3) tt) none counted h

-- a sound request is done, but for want of memory
pub complete : (request : Request) (old new : Outside) (outcome : Outcome) → IsSound old.world request → HasNoFault old new → IsCounted old new outcome → Answers request old new outcome → IsOkOrWant outcome.status
complete request old new outcome sound none counted h =
    elim h [
      | inl unread ↦ inr (unread.2.status ∙ ap status_of (sound_bars old.world request unread.0 sound unread.1))
      | inr ends ↦ sound_request request old new outcome sound none counted ends
    ]
