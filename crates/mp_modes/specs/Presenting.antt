-- What a run of techniques leaves, and the instance and the map that present it: private functions speak of these.
use Rattle.std.specs.Prelude.{◌≡◌, ◌<◌, ℕ, Bool, false, List, [], Contains}
use Rattle.mp_logic.specs.Formula.{Formula, IsFormula}
use Rattle.mp_logic.specs.Keeping.{State, Keeps}
use Rattle.mp_logic.specs.Carrying.{IsLabelView, Carries, WrittenForm}
use Rattle.mp_logic.specs.Truth.{weights_of}
use Rattle.mp_logic.specs.Weights.{weight_bound}
use Rattle.mp_logic.specs.declared.instances.Repair.{Repair}
use Rattle.mp_words.specs.declared.command.MapVersion.{MapVersion}
use Rattle.mp_map.specs.Maps.{IsMap, reconstruction_of}
use Rattle.mp_map.specs.declared.maps.MapFile.{MapFile}
use Rattle.mp_wcnf.specs.Writing.{IsTight}
use Rattle.mp_script.specs.declared.scripts.Group.{Group}
use Rattle.mp_engine.specs.Alike.{IsAlike}
use Rattle.mp_engine.specs.LogText.{log_of}
use Rattle.mp_engine.specs.Runs.{IsDone}
use Rattle.mp_engine.specs.Stages.{IsRefuted}
use Rattle.mp_engine.specs.declared.done.Done.{Done}
use Rattle.mp_modes.specs.EndStates.{CountsAs, Tells}
use Rattle.mp_modes.specs.Preprocessing.{IsFormOf, map_file_of}

-- a written form and a map that present a state after these repairs
pub record PresentsRun (merged : Bool) (version : MapVersion) (original : ℕ) (s : State) (repairs : List Repair) (w : WrittenForm) (m : MapFile) : Type 0 where
  pub form : IsFormOf merged s w
  pub way_is : m ≡ map_file_of version original w s repairs
  pub valid : IsMap m
  pub carries : (f : Formula) (view : State) → IsFormula f.vars f.hard f.soft → f.vars ≡ original → IsLabelView f view → Keeps view s repairs → Carries f w.«instance» (reconstruction_of m)
  pub alike : merged ≡ false → (Contains s.hard [] → ⊥) → (t : State) × CountsAs w.«instance» t × IsAlike s t × (w.offset ≡ s.offset)
  pub tight : IsTight w.«instance»
  pub below : weights_of w.«instance».soft < weight_bound

-- the instance of some such written form
abbrev pub PresentsAs : Bool → MapVersion → ℕ → State → List Repair → Formula → MapFile → Type 0
PresentsAs merged version original s repairs g m = (w : WrittenForm) × (w.«instance» ≡ g) × PresentsRun merged version original s repairs w m

-- the law: the log of a run that isn't refuted tells what nothing is left of in each instance that counts as a state like its
-- last one
abbrev pub RunsTell : Type 0
RunsTell = (inner : ℕ) (script : List Group) (start : State) (done : Done) (g : Formula) (t : State) → IsDone inner script start done → (IsRefuted done.labelled → ⊥)
    → CountsAs g t → IsAlike done.labelled t → Tells script done.stages done.close (log_of done.stages done.close) g done.labelled.offset
