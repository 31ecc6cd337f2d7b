-- Commands out of what clap found.
use Rattle.std.proofs.Common.{◌≡◌, ◌≤◌, ◌∙◌, [], ℕ, List, Some, Bool, codes, refl, sym, ap, subst, map, arith}
use Rattle.std.specs.Prelude.{Option, None, Contains, nat_le, unwrap_or}
use Rattle.clap.specs.Matches.{first_value}
use Rattle.clap.specs.Simple.{matches_of}
use Rattle.clap.specs.Walk.{Row, Text, first_of, rows_of}
use Rattle.clap.specs.declared.parser.matches.Found.{Found}
use Rattle.clap.proofs.WalkLemmas.{first_value-rows}
use Rattle.std.proofs.lemmas.Bool.{leb-true}
use Rattle.std.proofs.lemmas.Option.{cond_some}
use Rattle.mp_text.specs.Numbers.{at_most, natural_of}
use Rattle.mp_wcnf.specs.declared.writer.Form.{Form}
use Rattle.mp_map.specs.declared.solutions.Values.{Values}
use Rattle.mp_words.specs.declared.command.MapVersion.{MapVersion}
use Rattle.mp_words.specs.declared.modes.Mode.{Mode}
use Rattle.mp_words.specs.declared.modes.Mode.TheVariants as modes
use Rattle.mp_words.specs.Modes.{all_options}
use Rattle.mp_words.specs.CommandLines.{Given, IsLine, value_of}
use Rattle.mp_words.specs.Commands.{form_text, merge_text, version_text, values_text, value_or, default_techniques, most_tasks, IsPreprocess, IsReconstruct, IsEvaluate, IsWorkload, IsUpgrade}
use Rattle.mp_words.specs.Parsed.{app}
use Rattle.mp_words.specs.Reading.{HasLine, IsMatched}
use Rattle.mp_words.proofs.Readings.{line_once}
use Rattle.mp_words.proofs.Taken.{line_operand, line_option}

pub matched : (mode : Mode) (words given : List (List ℕ)) (found : Found) → HasLine mode words → given ≡ words → rows_of found ≡ matches_of app given → IsMatched mode words found
matched mode words given found (operand, options, line) same e = record {
  operand = operand;
  options = options;
  line = line;
  operand_is = first_value-rows found (codes "operand") ∙ ap (λ (rows : List Row). first_of (codes "operand") rows) (e ∙ ap (λ (t : List Text). matches_of app t) same) ∙ line_operand mode words operand options line;
  options_are = λ name own. first_value-rows found name ∙ ap (λ (rows : List Row). first_of name rows) (e ∙ ap (λ (t : List Text). matches_of app t) same) ∙ line_option mode words operand options line name own;
}

techniques_own : Contains all_options (codes "techniques")
techniques_own = (0, omega arith, refl)

mapfile_own : Contains all_options (codes "mapfile")
mapfile_own = (1, omega arith, refl)

form_own : Contains all_options (codes "form")
form_own = (2, omega arith, refl)

merge_own : Contains all_options (codes "merge")
merge_own = (3, omega arith, refl)

mapversion_own : Contains all_options (codes "mapversion")
mapversion_own = (4, omega arith, refl)

original_own : Contains all_options (codes "original")
original_own = (5, omega arith, refl)

values_own : Contains all_options (codes "values")
values_own = (6, omega arith, refl)

solution_own : Contains all_options (codes "solution")
solution_own = (7, omega arith, refl)

-- the value that is found, or else the default
or_found : (mode : Mode) (words : List (List ℕ)) (found : Found) (m : IsMatched mode words found) (name default : List ℕ) → Contains all_options name
    → unwrap_or (first_value found name) default ≡ value_or name default m.options
or_found mode words found m name default own = ap (λ (o : Option (List ℕ)). unwrap_or o default) (m.options_are name own)

operand_at : (mode : Mode) (words : List (List ℕ)) (found : Found) (m : IsMatched mode words found) (text : List ℕ) → text ≡ unwrap_or (first_value found (codes "operand")) [] → text ≡ m.operand
operand_at mode words found m text e = e ∙ ap (λ (o : Option (List ℕ)). unwrap_or o []) m.operand_is

line_at : (mode : Mode) (words : List (List ℕ)) (found : Found) (m : IsMatched mode words found) (file : List ℕ) → file ≡ unwrap_or (first_value found (codes "operand")) [] → IsLine mode words file m.options
line_at mode words found m file e = subst (λ (f : List ℕ). IsLine mode words f m.options) (sym (operand_at mode words found m file e)) m.line

-- another reading of the words has the same operand
operand_again : (mode : Mode) (words : List (List ℕ)) (found : Found) → IsMatched mode words found → (text : List ℕ) → text ≡ unwrap_or (first_value found (codes "operand")) []
    → (operand : List ℕ) (options : List Given) → IsLine mode words operand options → operand ≡ text
operand_again mode words found m text e operand options line =
    (line_once mode words operand m.operand options m.options line m.line).0 ∙ sym (operand_at mode words found m text e)

same_options : (mode : Mode) (words : List (List ℕ)) (found : Found) (m : IsMatched mode words found) (operand : List ℕ) (options : List Given) → IsLine mode words operand options → options ≡ m.options
same_options mode words found m operand options line = (line_once mode words operand m.operand options m.options line m.line).1

-- the same value of an option
value_again : (mode : Mode) (words : List (List ℕ)) (found : Found) → IsMatched mode words found → (name default text : List ℕ) → Contains all_options name → text ≡ unwrap_or (first_value found name) default
    → (operand : List ℕ) (options : List Given) → IsLine mode words operand options → value_or name default options ≡ text
value_again mode words found m name default text own e operand options line =
    ap (λ (o : List Given). value_or name default o) (same_options mode words found m operand options line) ∙ sym (or_found mode words found m name default own) ∙ sym e

some_none : {X : Type 0} (x : X) → let none : Option X = None in Some x ≡ none → ⊥
some_none x e = cc

-- and lacks an option where this one does
none_again : (mode : Mode) (words : List (List ℕ)) (found : Found) → IsMatched mode words found → (name : List ℕ) → Contains all_options name → None ≡ first_value found name
    → (operand value : List ℕ) (options : List Given) → IsLine mode words operand options → Some value ≡ value_of name options → ⊥
none_again mode words found m name own none operand value options line e =
    some_none value (e ∙ ap (λ (o : List Given). value_of name o) (same_options mode words found m operand options line) ∙ sym (m.options_are name own) ∙ sym none)

pub reconstruct_some : (words : List (List ℕ)) (found : Found) → IsMatched modes.Reconstruct words found → (file map : List ℕ) (original : Option (List ℕ)) (form : Values)
    → file ≡ unwrap_or (first_value found (codes "operand")) [] → Some map ≡ first_value found (codes "mapfile") → original ≡ first_value found (codes "original")
    → values_text form ≡ unwrap_or (first_value found (codes "values")) (codes "bits") → IsReconstruct words file map original form
reconstruct_some words found m file map original form f n o v = record {
  options = m.options;
  line = line_at modes.Reconstruct words found m file f;
  map_is = n ∙ m.options_are (codes "mapfile") mapfile_own;
  original_is = o ∙ m.options_are (codes "original") original_own;
  form_is = v ∙ or_found modes.Reconstruct words found m (codes "values") (codes "bits") values_own;
}

pub reconstruct_form : (words : List (List ℕ)) (found : Found) → IsMatched modes.Reconstruct words found → (text : List ℕ) → text ≡ unwrap_or (first_value found (codes "values")) (codes "bits")
    → ((form : Values) → values_text form ≡ text → ⊥) → (file map : List ℕ) (original : Option (List ℕ)) (form : Values) → IsReconstruct words file map original form → ⊥
reconstruct_form words found m text e h file map original form k =
    h form (k.form_is ∙ value_again modes.Reconstruct words found m (codes "values") (codes "bits") text values_own e file k.options k.line)

pub reconstruct_map : (words : List (List ℕ)) (found : Found) → IsMatched modes.Reconstruct words found → None ≡ first_value found (codes "mapfile")
    → (file map : List ℕ) (original : Option (List ℕ)) (form : Values) → IsReconstruct words file map original form → ⊥
reconstruct_map words found m none file map original form k = none_again modes.Reconstruct words found m (codes "mapfile") mapfile_own none file map k.options k.line k.map_is

pub preprocess_some : (words : List (List ℕ)) (found : Found) → IsMatched modes.Preprocess words found → (file techniques : List ℕ) (map : Option (List ℕ)) (form : Form) (merge : Bool) (version : MapVersion)
    → file ≡ unwrap_or (first_value found (codes "operand")) [] → techniques ≡ unwrap_or (first_value found (codes "techniques")) default_techniques
    → map ≡ first_value found (codes "mapfile") → form_text form ≡ unwrap_or (first_value found (codes "form")) (codes "h")
    → merge_text merge ≡ unwrap_or (first_value found (codes "merge")) (codes "no") → version_text version ≡ unwrap_or (first_value found (codes "mapversion")) (codes "2")
    → IsPreprocess words file techniques map form merge version
preprocess_some words found m file techniques map form merge version f t n v g w = record {
  options = m.options;
  line = line_at modes.Preprocess words found m file f;
  techniques_are = t ∙ or_found modes.Preprocess words found m (codes "techniques") default_techniques techniques_own;
  map_is = n ∙ m.options_are (codes "mapfile") mapfile_own;
  form_is = v ∙ or_found modes.Preprocess words found m (codes "form") (codes "h") form_own;
  merge_is = g ∙ or_found modes.Preprocess words found m (codes "merge") (codes "no") merge_own;
  version_is = w ∙ or_found modes.Preprocess words found m (codes "mapversion") (codes "2") mapversion_own;
}

-- the words don't ask to preprocess
abbrev NoPreprocess : List (List ℕ) → Type 0
NoPreprocess words = (file techniques : List ℕ) (map : Option (List ℕ)) (form : Form) (merge : Bool) (version : MapVersion) → IsPreprocess words file techniques map form merge version → ⊥

pub preprocess_form : (words : List (List ℕ)) (found : Found) → IsMatched modes.Preprocess words found → (text : List ℕ) → text ≡ unwrap_or (first_value found (codes "form")) (codes "h")
    → ((form : Form) → form_text form ≡ text → ⊥) → NoPreprocess words
preprocess_form words found m text e h file techniques map form merge version k =
    h form (k.form_is ∙ value_again modes.Preprocess words found m (codes "form") (codes "h") text form_own e file k.options k.line)

pub preprocess_merge : (words : List (List ℕ)) (found : Found) → IsMatched modes.Preprocess words found → (text : List ℕ) → text ≡ unwrap_or (first_value found (codes "merge")) (codes "no")
    → ((merge : Bool) → merge_text merge ≡ text → ⊥) → NoPreprocess words
preprocess_merge words found m text e h file techniques map form merge version k =
    h merge (k.merge_is ∙ value_again modes.Preprocess words found m (codes "merge") (codes "no") text merge_own e file k.options k.line)

pub preprocess_version : (words : List (List ℕ)) (found : Found) → IsMatched modes.Preprocess words found → (text : List ℕ) → text ≡ unwrap_or (first_value found (codes "mapversion")) (codes "2")
    → ((version : MapVersion) → version_text version ≡ text → ⊥) → NoPreprocess words
preprocess_version words found m text e h file techniques map form merge version k =
    h version (k.version_is ∙ value_again modes.Preprocess words found m (codes "mapversion") (codes "2") text mapversion_own e file k.options k.line)

pub evaluate_some : (words : List (List ℕ)) (found : Found) → IsMatched modes.Evaluate words found → (file solution : List ℕ) → file ≡ unwrap_or (first_value found (codes "operand")) []
    → Some solution ≡ first_value found (codes "solution") → IsEvaluate words file solution
evaluate_some words found m file solution f s = record {
  options = m.options;
  line = line_at modes.Evaluate words found m file f;
  solution_is = s ∙ m.options_are (codes "solution") solution_own;
}

pub evaluate_solution : (words : List (List ℕ)) (found : Found) → IsMatched modes.Evaluate words found → None ≡ first_value found (codes "solution") → (file solution : List ℕ) → IsEvaluate words file solution → ⊥
evaluate_solution words found m none file solution k = none_again modes.Evaluate words found m (codes "solution") solution_own none file solution k.options k.line k.solution_is

pub workload_some : (words : List (List ℕ)) (found : Found) → IsMatched modes.Workload words found → (operand : List ℕ) (tasks : ℕ) (techniques : List ℕ) → operand ≡ unwrap_or (first_value found (codes "operand")) []
    → Some tasks ≡ at_most most_tasks (natural_of operand) → techniques ≡ unwrap_or (first_value found (codes "techniques")) default_techniques → IsWorkload words tasks techniques
workload_some words found m operand tasks techniques f n t = record {
  operand = operand;
  options = m.options;
  line = line_at modes.Workload words found m operand f;
  tasks_are = n;
  techniques_are = t ∙ or_found modes.Workload words found m (codes "techniques") default_techniques techniques_own;
}

pub workload_tasks : (words : List (List ℕ)) (found : Found) → IsMatched modes.Workload words found → (text : List ℕ) → text ≡ unwrap_or (first_value found (codes "operand")) []
    → None ≡ at_most most_tasks (natural_of text) → (tasks : ℕ) (techniques : List ℕ) → IsWorkload words tasks techniques → ⊥
workload_tasks words found m text e none tasks techniques k =
    some_none tasks (k.tasks_are ∙ ap (λ (t : List ℕ). at_most most_tasks (natural_of t)) (operand_again modes.Workload words found m text e k.operand k.options k.line) ∙ sym none)

pub upgrade_some : (words : List (List ℕ)) (found : Found) → IsMatched modes.Upgrade words found → (file map : List ℕ) → file ≡ unwrap_or (first_value found (codes "operand")) []
    → Some map ≡ first_value found (codes "mapfile") → IsUpgrade words file map
upgrade_some words found m file map f n = record {
  options = m.options;
  line = line_at modes.Upgrade words found m file f;
  map_is = n ∙ m.options_are (codes "mapfile") mapfile_own;
}

pub upgrade_map : (words : List (List ℕ)) (found : Found) → IsMatched modes.Upgrade words found → None ≡ first_value found (codes "mapfile") → (file map : List ℕ) → IsUpgrade words file map → ⊥
upgrade_map words found m none file map k = none_again modes.Upgrade words found m (codes "mapfile") mapfile_own none file map k.options k.line k.map_is

-- a number of tasks is small
pub tasks_bound : (n : ℕ) (o : Option ℕ) → Some n ≡ at_most most_tasks o → n ≤ most_tasks
tasks_bound n None e = absurd (some_none n e)
tasks_bound n (Some k) e = let f = cond_some (nat_le k most_tasks) k n (sym e) in subst (λ (v : ℕ). v ≤ most_tasks) f.1 (leb-true k most_tasks f.0)
