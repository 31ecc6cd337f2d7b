-- Commands: what a mode, its operand and the values of its options ask for, defaults filled in.
use Rattle.std.specs.Prelude.{◌≡◌, ℕ, Bool, true, false, List, Option, Some, codes, string_bytes, unwrap_or, option_map}
use Rattle.mp_text.specs.Numbers.{at_most, natural_of}
use Rattle.mp_wcnf.specs.declared.writer.Form.{Form}
use Rattle.mp_wcnf.specs.declared.writer.Form.TheVariants as forms
use Rattle.mp_map.specs.declared.solutions.Values.{Values}
use Rattle.mp_map.specs.declared.solutions.Values.TheVariants as values
use Rattle.mp_words.specs.declared.command.MapVersion.{MapVersion}
use Rattle.mp_words.specs.declared.command.MapVersion.TheVariants as versions
use Rattle.mp_words.specs.declared.command.Command.{Command}
use Rattle.mp_words.specs.declared.command.Command.TheVariants as commands
use Rattle.mp_words.specs.declared.command.CommandError.{CommandError}
use Rattle.mp_words.specs.declared.command.CommandError.TheVariants as errors
use Rattle.mp_words.specs.declared.modes.Mode.TheVariants as modes
use Rattle.mp_words.specs.CommandLines.{Given, IsLine, value_of}

-- the value of an option, or else its default
abbrev pub value_or : List ℕ → List ℕ → List Given → List ℕ
value_or name default options = unwrap_or (value_of name options) default

-- the techniques that run where none are named
abbrev pub default_techniques : List ℕ
default_techniques = codes "[bu]#[buvsrgc]"

-- the greatest number of tasks that a workload may have
abbrev pub most_tasks : ℕ
most_tasks = 1000000

abbrev pub form_text : Form → List ℕ
form_text forms.H = codes "h"
form_text forms.P = codes "p"

-- the number that a map of the version begins with
abbrev pub version_number : MapVersion → ℕ
version_number versions.One = 1
version_number versions.Two = 2

abbrev pub version_text : MapVersion → List ℕ
version_text versions.One = codes "1"
version_text versions.Two = codes "2"

-- whether the output is merged
abbrev pub merge_text : Bool → List ℕ
merge_text true = codes "yes"
merge_text false = codes "no"

abbrev pub values_text : Values → List ℕ
values_text values.Bits = codes "bits"
values_text values.Literals = codes "literals"

-- the words ask to preprocess a file by techniques, in a form, merged or not, and to write a map of a version where a name for
-- it is given
pub record IsPreprocess (words : List (List ℕ)) (file techniques : List ℕ) (map : Option (List ℕ)) (form : Form) (merge : Bool) (version : MapVersion) : Type 0 where
  pub options : List Given
  pub line : IsLine modes.Preprocess words file options
  pub techniques_are : techniques ≡ value_or (codes "techniques") default_techniques options
  pub map_is : map ≡ value_of (codes "mapfile") options
  pub form_is : form_text form ≡ value_or (codes "form") (codes "h") options
  pub merge_is : merge_text merge ≡ value_or (codes "merge") (codes "no") options
  pub version_is : version_text version ≡ value_or (codes "mapversion") (codes "2") options

-- the words ask to carry the solution in a file back by a map, and to tell its cost in the original where that is given
pub record IsReconstruct (words : List (List ℕ)) (file map : List ℕ) (original : Option (List ℕ)) (form : Values) : Type 0 where
  pub options : List Given
  pub line : IsLine modes.Reconstruct words file options
  pub map_is : Some map ≡ value_of (codes "mapfile") options
  pub original_is : original ≡ value_of (codes "original") options
  pub form_is : values_text form ≡ value_or (codes "values") (codes "bits") options

-- the words ask for the cost of a solution of the instance in a file
pub record IsEvaluate (words : List (List ℕ)) (file solution : List ℕ) : Type 0 where
  pub options : List Given
  pub line : IsLine modes.Evaluate words file options
  pub solution_is : Some solution ≡ value_of (codes "solution") options

-- the words ask to preprocess a made instance of so many tasks, written in decimal digits, by techniques
pub record IsWorkload (words : List (List ℕ)) (tasks : ℕ) (techniques : List ℕ) : Type 0 where
  pub operand : List ℕ
  pub options : List Given
  pub line : IsLine modes.Workload words operand options
  pub tasks_are : Some tasks ≡ at_most most_tasks (natural_of operand)
  pub techniques_are : techniques ≡ value_or (codes "techniques") default_techniques options

-- the words ask to write the map in a file anew, in the later version, to another
pub record IsUpgrade (words : List (List ℕ)) (file map : List ℕ) : Type 0 where
  pub options : List Given
  pub line : IsLine modes.Upgrade words file options
  pub map_is : Some map ≡ value_of (codes "mapfile") options

-- what words may ask for
pub data Request : Type 0 where
  Preprocess : List ℕ → List ℕ → Option (List ℕ) → Form → Bool → MapVersion → Request
  Reconstruct : List ℕ → List ℕ → Option (List ℕ) → Values → Request
  Evaluate : List ℕ → List ℕ → Request
  Workload : ℕ → List ℕ → Request
  Upgrade : List ℕ → List ℕ → Request

-- the words spell this request
abbrev pub Spells : List (List ℕ) → Request → Type 0
Spells words (Preprocess file techniques map form merge version) = IsPreprocess words file techniques map form merge version
Spells words (Reconstruct file map original form) = IsReconstruct words file map original form
Spells words (Evaluate file solution) = IsEvaluate words file solution
Spells words (Workload tasks techniques) = IsWorkload words tasks techniques
Spells words (Upgrade file map) = IsUpgrade words file map

-- the words are a command of one of the modes
abbrev pub IsCommandLine : List (List ℕ) → Type 0
IsCommandLine words = (request : Request) × Spells words request

-- the request that a read command stands for
abbrev pub request_of : Command → Request
request_of (commands.Preprocess c) = Preprocess (string_bytes c.file) (string_bytes c.techniques) (option_map string_bytes c.map) c.form c.merge c.version
request_of (commands.Reconstruct c) = Reconstruct (string_bytes c.file) (string_bytes c.map) (option_map string_bytes c.original) c.form
request_of (commands.Evaluate c) = Evaluate (string_bytes c.file) (string_bytes c.solution)
request_of (commands.Workload c) = Workload c.tasks (string_bytes c.techniques)
request_of (commands.Upgrade c) = Upgrade (string_bytes c.file) (string_bytes c.map)

-- what a refusal says
abbrev pub IsFault : List (List ℕ) → CommandError → Type 0
IsFault words errors.Usage = IsCommandLine words → ⊥
IsFault words errors.NoMemory = Unit {0}

-- the law: words spell one request at most
abbrev pub CommandsAreOne : Type 0
CommandsAreOne = (words : List (List ℕ)) (one other : Request) → Spells words one → Spells words other → one ≡ other
