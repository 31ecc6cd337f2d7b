-- What preprocessing makes of the text of an instance.
use Rattle.std.specs.Prelude.{◌≡◌, ◌+◌, ◌<◌, ◌≤◌, ℕ, Bool, true, false, List, [], ◌++◌, Contains, length, if◌then◌else◌}
use Rattle.mp_logic.specs.Formula.{Formula}
use Rattle.mp_logic.specs.Carrying.{Carries, WrittenForm}
use Rattle.mp_logic.specs.Keeping.{State}
use Rattle.mp_logic.specs.Truth.{IsHardModel, cost_of}
use Rattle.mp_logic.specs.declared.instances.Repair.{Repair}
use Rattle.mp_wcnf.specs.Meaning.{Denotes}
use Rattle.mp_wcnf.specs.Refusals.{IsWithinLimits}
use Rattle.mp_wcnf.specs.Writing.{instance_text}
use Rattle.mp_wcnf.specs.declared.writer.Form.{Form}
use Rattle.mp_labels.specs.LabelView.{label_view, long_softs}
use Rattle.mp_labels.specs.UnitForm.{IsPlainForm}
use Rattle.mp_merging.specs.MergedForm.{IsMergingForm}
use Rattle.mp_words.specs.Commands.{version_number}
use Rattle.mp_words.specs.declared.command.MapVersion.{MapVersion}
use Rattle.mp_words.specs.declared.command.Preprocess.{Preprocess}
use Rattle.mp_words.specs.declared.command.MapVersion.TheVariants as versions
use Rattle.mp_clauses.specs.Slots.{has_empty}
use Rattle.mp_script.specs.declared.scripts.Group.{Group}
use Rattle.mp_engine.specs.LogText.{log_of}
use Rattle.mp_engine.specs.Runs.{IsDone}
use Rattle.mp_engine.specs.Stages.{IsRefuted}
use Rattle.mp_engine.specs.declared.done.Done.{Done}
use Rattle.mp_engine.specs.declared.done.StageEnding.TheVariants as endings
use Rattle.mp_engine.specs.declared.done.StageLine.{StageLine}
use Rattle.mp_map.specs.Entries.{entries_of}
use Rattle.mp_map.specs.declared.maps.Entry.{Entry}
use Rattle.mp_map.specs.Maps.{IsMap, map_text, reconstruction_of}
use Rattle.mp_map.specs.declared.maps.MapFile.{MapFile}
use Rattle.mp_modes.specs.EndStates.{Tells}
use Rattle.mp_modes.specs.Instances.{IsReadable, PassesReading, IsReadingFault}
use Rattle.mp_modes.specs.Limits.{program_limits}
use Rattle.mp_modes.specs.declared.refusal.Exceeded.{Exceeded}
use Rattle.mp_modes.specs.declared.refusal.Exceeded.TheVariants as limits
use Rattle.mp_modes.specs.declared.refusal.TextRefusal.{TextRefusal}
use Rattle.mp_modes.specs.declared.refusal.TextRefusal.TheVariants as texts

-- the variables of an instance and of the labels that its long soft clauses get
abbrev pub inner_vars : Formula → ℕ
inner_vars f = f.vars + length (long_softs f.soft)

-- the text denotes an instance within all limits of the program
pub record IsAccepted (text : List ℕ) (f : Formula) : Type 0 where
  pub denotes : Denotes text f
  pub within : IsWithinLimits program_limits f
  pub inner : inner_vars f ≤ program_limits.inner

-- what preprocessing is asked for: the script, whether cost literals are merged into the clauses that they label, the version
-- of the map, and the form of the output
pub record Choices : Type 0 where
  pub script : List Group
  pub merged : Bool
  pub version : MapVersion
  pub form : Form

-- what a command with a script asks for
abbrev pub chosen_by : List Group → Preprocess → Choices
chosen_by script asked = record { script = script; merged = asked.merge; version = asked.version; form = asked.form }

-- the written form of a state, merged or not
abbrev pub IsFormOf : Bool → State → WrittenForm → Type 0
IsFormOf false s w = IsPlainForm s w
IsFormOf true s w = IsMergingForm s w

-- the repairs of the way back: those of the run and then those of the written form, but none from a refuted run, which has no
-- model to bring back
abbrev pub way_of : State → List Repair → List Repair → List Repair
way_of s repairs own = if has_empty s.hard then [] else repairs ++ own

-- neighbours that set the same literals are joined in the later version alone
abbrev pub joins : MapVersion → Bool
joins versions.One = false
joins versions.Two = true

-- the map of a written form with these entries
abbrev pub map_by : MapVersion → ℕ → WrittenForm → List Entry → MapFile
map_by version original w entries = record {
  version = version_number version;
  original = original;
  inner = w.inner;
  written = w.«instance».vars;
  offset = w.offset;
  names = w.names;
  repairs = entries;
}

-- the map of a written form after a run: its entries are those of the repairs of the way back
abbrev pub map_file_of : MapVersion → ℕ → WrittenForm → State → List Repair → MapFile
map_file_of version original w s repairs = map_by version original w (entries_of (joins version) (way_of s repairs w.repairs))

-- each bound that a stage found is reached by some hard model
abbrev pub AreReached : Formula → List StageLine → Type 0
AreReached f stages = (line : StageLine) → Contains stages line → (n : ℕ) → line.ending ≡ endings.Bound n → (a : List Bool) × IsHardModel f a × (cost_of f a ≤ n)

-- The map, the output and the log are right for the text of an instance, what is asked for and what a run left: the text
-- denotes an original instance; the run is one of the script from its label view; the state that it left has a written
-- form, merged where that is asked for; the output is the whole text of that, with its offset in its first line; the map is
-- the one spelling of a valid map, that of the written form by the repairs of the run and then its own, and carries the
-- original's models and optimum back; the log is the text of the run, whose bounds hold of the original, and where that is
-- neither refuted nor merged, it tells what nothing is left of in the written instance.
pub record Preprocesses (chosen : Choices) (done : Done) (text map out log : List ℕ) : Type 0 where
  pub original : Formula
  pub written : WrittenForm
  pub way : MapFile
  pub accepted : IsAccepted text original
  pub run : IsDone program_limits.inner chosen.script (label_view original) done
  pub form_is : IsFormOf chosen.merged done.labelled written
  pub way_is : way ≡ map_file_of chosen.version original.vars written done.labelled done.repairs
  pub out_is : out ≡ instance_text chosen.form way.offset written.«instance»
  pub out_denotes : Denotes out written.«instance»
  pub map_is : map ≡ map_text way
  pub map_valid : IsMap way
  pub carries : Carries original written.«instance» (reconstruction_of way)
  pub log_is : log ≡ log_of done.stages done.close
  pub bounds : AreReached original done.stages
  pub told : chosen.merged ≡ false → (IsRefuted done.labelled → ⊥) → Tells chosen.script done.stages done.close log written.«instance» way.offset

-- the text passes this limit of the program: while it is read, or by the variables with labels of the instance that it denotes
abbrev pub Passes : Exceeded → List ℕ → Type 0
Passes limits.Inner text = (f : Formula) × IsReadable text f × (program_limits.inner < inner_vars f)
Passes limits.Variables text = PassesReading limits.Variables text
Passes limits.Clauses text = PassesReading limits.Clauses text
Passes limits.Literals text = PassesReading limits.Literals text
Passes limits.Weight text = PassesReading limits.Weight text

-- why the text of an instance is refused
abbrev pub IsInstanceFault : List ℕ → TextRefusal → Type 0
IsInstanceFault text (texts.Limit exceeded) = Passes exceeded text
IsInstanceFault text refusal = IsReadingFault text refusal

-- why an instance that was read is refused
abbrev pub IsLabelFault : Formula → TextRefusal → Type 0
IsLabelFault f (texts.Limit limits.Inner) = program_limits.inner < inner_vars f
IsLabelFault f _ = ⊥
