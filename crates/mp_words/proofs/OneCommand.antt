-- Words are at most one command.
use Rattle.std.proofs.Common.{◌≡◌, ◌∙◌, ◌==◌, ◌∷◌, [], ℕ, List, Some, Bool, true, false, cond, codes, refl, sym, ap, ap₂, subst, map}
use Rattle.std.specs.Prelude.{All, Option, unwrap_or}
use Rattle.std.specs.Str.{bytes_eq}
use Rattle.std.proofs.lemmas.List.Elements.{All-head, All-tail}
use Rattle.mp_text.specs.Numbers.{at_most, natural_of}
use Rattle.mp_wcnf.specs.declared.writer.Form.{Form}
use Rattle.mp_wcnf.specs.declared.writer.Form.TheVariants as forms
use Rattle.mp_map.specs.declared.solutions.Values.{Values}
use Rattle.mp_map.specs.declared.solutions.Values.TheVariants as values
use Rattle.mp_words.specs.declared.command.MapVersion.{MapVersion}
use Rattle.mp_words.specs.declared.command.MapVersion.TheVariants as versions
use Rattle.mp_words.specs.declared.modes.Mode.{Mode}
use Rattle.mp_words.specs.declared.modes.Mode.TheVariants as modes
use Rattle.mp_words.specs.Modes.{mode_word, options_of}
use Rattle.mp_words.specs.CommandLines.{Given, Word, plain, option, word_text, IsWord, plain_words, IsLine, value_of}
use Rattle.mp_words.specs.Commands.{form_text, merge_text, version_text, values_text, value_or, default_techniques, most_tasks, IsPreprocess, IsReconstruct, IsEvaluate, IsWorkload, IsUpgrade, Request, Preprocess, Reconstruct, Evaluate, Workload, Upgrade, Spells, IsCommandLine, CommandsAreOne}
use Rattle.mp_words.proofs.Readings.{line_once, first_text}
use Rattle.mp_words.proofs.Taken.{not_hyphen}

-- the text, where it doesn't begin with `-`
abbrev plain_text : List ℕ → List (List ℕ) → List (List ℕ)
plain_text [] rest = [] ∷ rest
plain_text (x ∷ xs) rest = cond (x == 45) rest ((x ∷ xs) ∷ rest)

abbrev plain_texts : List (List ℕ) → List (List ℕ)
plain_texts [] = []
plain_texts (text ∷ texts) = plain_text text (plain_texts texts)

plain_are : (names : List (List ℕ)) (read : List Word) → All (IsWord names) read → plain_texts (map word_text read) ≡ plain_words read
plain_are names [] a = refl
plain_are names (plain [] ∷ read) a = absurd (All-head (IsWord names) (plain []) read a)
plain_are names (plain (x ∷ xs) ∷ read) a =
    ap (λ (b : Bool). cond b (plain_texts (map word_text read)) ((x ∷ xs) ∷ plain_texts (map word_text read))) (not_hyphen x (All-head (IsWord names) (plain (x ∷ xs)) read a))
    ∙ ap (λ (t : List (List ℕ)). (x ∷ xs) ∷ t) (plain_are names read (All-tail (IsWord names) (plain (x ∷ xs)) read a))
plain_are names (option g ∷ read) a = plain_are names read (All-tail (IsWord names) (option g) read a)

-- two lines of the same words begin with the same word
line_word : (a b : Mode) (words : List (List ℕ)) (o p : List ℕ) (gs hs : List Given) → IsLine a words o gs → IsLine b words p hs → mode_word a ≡ mode_word b
line_word a b words o p gs hs h k =
    first_text (mode_word a) (mode_word b) (o ∷ []) (p ∷ [])
    (sym h.plain_are ∙ sym (plain_are (options_of a) h.read h.are) ∙ ap (λ (t : List (List ℕ)). plain_texts t) (sym h.spelled ∙ k.spelled) ∙ plain_are (options_of b) k.read k.are ∙ k.plain_are)

-- what texts name
abbrev mode_at : List ℕ → Mode
mode_at text =
    cond (bytes_eq text (codes "preprocess")) modes.Preprocess
    (cond (bytes_eq text (codes "reconstruct")) modes.Reconstruct (cond (bytes_eq text (codes "evaluate")) modes.Evaluate (cond (bytes_eq text (codes "workload")) modes.Workload modes.Upgrade)))

abbrev form_at : List ℕ → Form
form_at text = cond (bytes_eq text (codes "h")) forms.H forms.P

abbrev merge_at : List ℕ → Bool
merge_at text = bytes_eq text (codes "yes")

abbrev version_at : List ℕ → MapVersion
version_at text = cond (bytes_eq text (codes "1")) versions.One versions.Two

abbrev values_at : List ℕ → Values
values_at text = cond (bytes_eq text (codes "bits")) values.Bits values.Literals

mode_named : (mode : Mode) → mode ≡ mode_at (mode_word mode)
mode_named modes.Preprocess = refl
mode_named modes.Reconstruct = refl
mode_named modes.Evaluate = refl
mode_named modes.Workload = refl
mode_named modes.Upgrade = refl

form_named : (form : Form) → form ≡ form_at (form_text form)
form_named forms.H = refl
form_named forms.P = refl

merge_named : (merge : Bool) → merge ≡ merge_at (merge_text merge)
merge_named true = refl
merge_named false = refl

version_named : (version : MapVersion) → version ≡ version_at (version_text version)
version_named versions.One = refl
version_named versions.Two = refl

values_named : (form : Values) → form ≡ values_at (values_text form)
values_named values.Bits = refl
values_named values.Literals = refl

-- the request of a line
abbrev request_at : Mode → List ℕ → List Given → Request
request_at modes.Preprocess operand options =
    Preprocess operand (value_or (codes "techniques") default_techniques options) (value_of (codes "mapfile") options) (form_at (value_or (codes "form") (codes "h") options))
    (merge_at (value_or (codes "merge") (codes "no") options)) (version_at (value_or (codes "mapversion") (codes "2") options))
request_at modes.Reconstruct operand options =
    Reconstruct operand (value_or (codes "mapfile") [] options) (value_of (codes "original") options) (values_at (value_or (codes "values") (codes "bits") options))
request_at modes.Evaluate operand options = Evaluate operand (value_or (codes "solution") [] options)
request_at modes.Workload operand options = Workload (unwrap_or (at_most most_tasks (natural_of operand)) 0) (value_or (codes "techniques") default_techniques options)
request_at modes.Upgrade operand options = Upgrade operand (value_or (codes "mapfile") [] options)

-- the request is that of a line of the words
record IsAsked (words : List (List ℕ)) (request : Request) : Type 0 where
  mode : Mode
  operand : List ℕ
  options : List Given
  line : IsLine mode words operand options
  is : request ≡ request_at mode operand options

required : (x : List ℕ) (o : Option (List ℕ)) → Some x ≡ o → x ≡ unwrap_or o []
required x o e = ap (λ (v : Option (List ℕ)). unwrap_or v []) e

number_there : (n : ℕ) (o : Option ℕ) → Some n ≡ o → n ≡ unwrap_or o 0
number_there n o e = ap (λ (v : Option ℕ). unwrap_or v 0) e

asked : (words : List (List ℕ)) (request : Request) → Spells words request → IsAsked words request
asked words (Preprocess file techniques maps form merge version) h = record {
  mode = modes.Preprocess;
  operand = file;
  options = h.options;
  line = h.line;
  is =
      let forms_are = form_named form ∙ ap form_at h.form_is in
      let merges_are = merge_named merge ∙ ap merge_at h.merge_is in
      let versions_are = version_named version ∙ ap version_at h.version_is in
      ap (λ (t : List ℕ). Preprocess file t maps form merge version) h.techniques_are
      ∙ ap (λ (t : Option (List ℕ)). Preprocess file (value_or (codes "techniques") default_techniques h.options) t form merge version) h.map_is
      ∙ ap (λ (t : Form). Preprocess file (value_or (codes "techniques") default_techniques h.options) (value_of (codes "mapfile") h.options) t merge version) forms_are
      ∙ ap₂ (λ (t : Bool) (v : MapVersion). Preprocess file (value_or (codes "techniques") default_techniques h.options) (value_of (codes "mapfile") h.options) (form_at (value_or (codes "form") (codes "h") h.options)) t v) merges_are versions_are;
}
asked words (Reconstruct file maps original form) h = record {
  mode = modes.Reconstruct;
  operand = file;
  options = h.options;
  line = h.line;
  is =
      let forms_are = values_named form ∙ ap values_at h.form_is in
      ap₂ (λ (t : List ℕ) (u : Option (List ℕ)). Reconstruct file t u form) (required maps _ h.map_is) h.original_is
      ∙ ap (λ (t : Values). Reconstruct file (value_or (codes "mapfile") [] h.options) (value_of (codes "original") h.options) t) forms_are;
}
asked words (Evaluate file solution) h = record {
  mode = modes.Evaluate;
  operand = file;
  options = h.options;
  line = h.line;
  is = ap (λ (t : List ℕ). Evaluate file t) (required solution _ h.solution_is);
}
asked words (Workload tasks techniques) h = record {
  mode = modes.Workload;
  operand = h.operand;
  options = h.options;
  line = h.line;
  is = ap₂ (λ (n : ℕ) (t : List ℕ). Workload n t) (number_there tasks _ h.tasks_are) h.techniques_are;
}
asked words (Upgrade file maps) h = record {
  mode = modes.Upgrade;
  operand = file;
  options = h.options;
  line = h.line;
  is = ap (λ (t : List ℕ). Upgrade file t) (required maps _ h.map_is);
}

request_once : (words : List (List ℕ)) (mode : Mode) (o p : List ℕ) (gs hs : List Given) → IsLine mode words o gs → IsLine mode words p hs → request_at mode o gs ≡ request_at mode p hs
request_once words mode o p gs hs h k = let e = line_once mode words o p gs hs h k in ap₂ (λ (t : List ℕ) (x : List Given). request_at mode t x) e.0 e.1

pub commands_one : CommandsAreOne
commands_one words one other h k =
    let a : IsAsked words one = asked words one h in
    let b : IsAsked words other = asked words other k in
    let same : b.mode ≡ a.mode = mode_named b.mode ∙ ap mode_at (line_word b.mode a.mode words b.operand a.operand b.options a.options b.line a.line) ∙ sym (mode_named a.mode) in
    let line : IsLine a.mode words b.operand b.options = subst (λ (m : Mode). IsLine m words b.operand b.options) same b.line in
    a.is ∙ request_once words a.mode a.operand b.operand a.options b.options a.line line ∙ ap (λ (m : Mode). request_at m b.operand b.options) (sym same) ∙ sym b.is

-- where the words spell no request of a mode, they spell none
pub no_request : (words : List (List ℕ))
    → ((file techniques : List ℕ) (map : Option (List ℕ)) (form : Form) (merge : Bool) (version : MapVersion) → IsPreprocess words file techniques map form merge version → ⊥)
    → ((file map : List ℕ) (original : Option (List ℕ)) (form : Values) → IsReconstruct words file map original form → ⊥)
    → ((file solution : List ℕ) → IsEvaluate words file solution → ⊥)
    → ((tasks : ℕ) (techniques : List ℕ) → IsWorkload words tasks techniques → ⊥)
    → ((file map : List ℕ) → IsUpgrade words file map → ⊥)
    → IsCommandLine words → ⊥
no_request words p r e w u (Preprocess file techniques maps form merge version, h) = p file techniques maps form merge version h
no_request words p r e w u (Reconstruct file maps original form, h) = r file maps original form h
no_request words p r e w u (Evaluate file solution, h) = e file solution h
no_request words p r e w u (Workload tasks techniques, h) = w tasks techniques h
no_request words p r e w u (Upgrade file maps, h) = u file maps h
