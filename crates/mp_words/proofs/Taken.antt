-- What clap reads of a command line.
use Rattle.std.proofs.Common.{◌≡◌, ◌≢◌, ◌∙◌, ◌==◌, ◌&&◌, ◌+◌, ◌∷◌, [], ℕ, List, Option, Some, None, Bool, true, false, not, cond, codes, refl, sym, ap, subst, map, fold, arith}
use Rattle.std.specs.Prelude.{Contains, length, All}
use Rattle.std.specs.List.{list_any, list_all, find}
use Rattle.std.specs.Option.{option_map_or}
use Rattle.std.specs.Prelude.{option_and_then, slice_get}
use Rattle.std.specs.Str.{bytes_eq}
use Rattle.std.proofs.lemmas.Bool.{and_parts, or_parts, or_from}
use Rattle.std.proofs.lemmas.List.Elements.{All-head, All-tail}
use Rattle.clap.specs.Facts.{explicit_source}
use Rattle.clap.specs.Simple.{App, HasMatchesOf, built, matches_of, is_simple}
use Rattle.clap.specs.Takes.{level_passes, is_given, is_valid, takes, settle_passes, walk_passes}
use Rattle.clap.specs.Words.{found_of}
use Rattle.clap.specs.declared.parser.matches.ArgMatches.{ArgMatches}
use Rattle.clap.specs.Walk.{rows_of, Rule, Text, Row, first_of, finished, is_empty, nothing_held, reading_by, default_rows, has_row, with_default, settled_rows, walk_from}
use Rattle.clap.proofs.SimpleLemmas.{is_nil}
use Rattle.clap.proofs.TakesLemmas.{leaf_takes}
use Rattle.mp_words.specs.declared.modes.Mode.{Mode}
use Rattle.mp_words.specs.declared.modes.Mode.TheVariants as modes
use Rattle.mp_words.specs.CommandLines.{Given, Word, plain, option, word_text, IsWord, plain_words, options_in, no_twins, names_in, IsLine, value_of}
use Rattle.mp_words.specs.Modes.{all_options, options_of}
use Rattle.mp_words.specs.Parsed.{app}
use Rattle.mp_words.proofs.Names.{Each, each_of, true_not}
use Rattle.mp_words.proofs.Walks.{shape, rules, row, Place, first, second, last, number, Fits, noted, IsWalked, walk_all, walk_end, at, nothing}

-- each option of a mode is an option
pub known : (mode : Mode) (name : List ℕ) → Contains (options_of mode) name → Contains all_options name
known modes.Preprocess name h = each_of (Contains all_options) (options_of modes.Preprocess) name ((0, omega arith, refl), ((1, omega arith, refl), ((2, omega arith, refl), ((3, omega arith, refl), ((4, omega arith, refl), tt))))) h
known modes.Reconstruct name h = each_of (Contains all_options) (options_of modes.Reconstruct) name ((1, omega arith, refl), ((5, omega arith, refl), ((6, omega arith, refl), tt))) h
known modes.Evaluate name h = each_of (Contains all_options) (options_of modes.Evaluate) name ((7, omega arith, refl), tt) h
known modes.Workload name h = each_of (Contains all_options) (options_of modes.Workload) name ((0, omega arith, refl), tt) h
known modes.Upgrade name h = each_of (Contains all_options) (options_of modes.Upgrade) name ((1, omega arith, refl), tt) h

-- no option is named as the mode or the operand
pub record IsUnlike (name : List ℕ) : Type 0 where
  pub mode : bytes_eq name (codes "mode") ≡ false
  pub operand : bytes_eq name (codes "operand") ≡ false
  pub of_mode : bytes_eq (codes "mode") name ≡ false
  pub of_operand : bytes_eq (codes "operand") name ≡ false

apart : (name : List ℕ) → bytes_eq name (codes "mode") ≡ false → bytes_eq name (codes "operand") ≡ false → bytes_eq (codes "mode") name ≡ false → bytes_eq (codes "operand") name ≡ false → IsUnlike name
apart name m o f g = record { mode = m; operand = o; of_mode = f; of_operand = g }

unlike_all : Each IsUnlike all_options
unlike_all = (apart _ refl refl refl refl, (apart _ refl refl refl refl, (apart _ refl refl refl refl, (apart _ refl refl refl refl, (apart _ refl refl refl refl, (apart _ refl refl refl refl, (apart _ refl refl refl refl, (apart _ refl refl refl refl, tt))))))))

unlike : (name : List ℕ) → Contains all_options name → IsUnlike name
unlike name h = each_of IsUnlike all_options name unlike_all h

pub not_hyphen : (x : ℕ) → x ≢ 45 → (x == 45) ≡ false
not_hyphen x h = grind arith

-- what is read of a mode fits
pub fits : (place : Place) (mode : Mode) (words : List Word) → All (IsWord (options_of mode)) words → length (plain_words words) + number place ≡ 3 → Fits place words
fits place mode [] a e = tt
fits place mode (option g ∷ words) a e =
    (known mode g.name (All-head (IsWord (options_of mode)) (option g) words a).0, fits place mode words (All-tail (IsWord (options_of mode)) (option g) words a) e)
fits first mode (plain [] ∷ words) a e = All-head (IsWord (options_of mode)) (plain []) words a
fits first mode (plain (x ∷ xs) ∷ words) a e =
    (not_hyphen x (All-head (IsWord (options_of mode)) (plain (x ∷ xs)) words a), fits second mode words (All-tail (IsWord (options_of mode)) (plain (x ∷ xs)) words a) (omega (arith, e)))
fits second mode (plain [] ∷ words) a e = All-head (IsWord (options_of mode)) (plain []) words a
fits second mode (plain (x ∷ xs) ∷ words) a e =
    (not_hyphen x (All-head (IsWord (options_of mode)) (plain (x ∷ xs)) words a), fits last mode words (All-tail (IsWord (options_of mode)) (plain (x ∷ xs)) words a) (omega (arith, e)))
fits last mode (plain text ∷ words) a e = absurd (omega (arith, e))

-- the test misses what may still come besides options
abbrev Misses : Place → (List ℕ → Bool) → Type 0
Misses first q = (q (codes "mode") ≡ false) × (q (codes "operand") ≡ false)
Misses second q = q (codes "operand") ≡ false
Misses last q = Unit {0}

any_noted : (q : List ℕ → Bool) (place : Place) (words : List Word) → Misses place q → Fits place words → list_any q (names_in (options_in words)) ≡ false → list_any q (names_in (noted place words)) ≡ false
any_noted q place [] m f h = refl
any_noted q place (option g ∷ words) m (own, f) h =
    let p = or_parts (q g.name) (list_any q (names_in (options_in words))) h in
    or_from (q g.name) (list_any q (names_in (noted place words))) p.0 (any_noted q place words m f p.1)
any_noted q first (plain [] ∷ words) m f h = absurd f
any_noted q first (plain (x ∷ xs) ∷ words) m (e, f) h = or_from (q (codes "mode")) (list_any q (names_in (noted second words))) m.0 (any_noted q second words m.1 f h)
any_noted q second (plain [] ∷ words) m f h = absurd f
any_noted q second (plain (x ∷ xs) ∷ words) m (e, f) h = or_from (q (codes "operand")) (list_any q (names_in (noted last words))) m (any_noted q last words tt f h)
any_noted q last (plain text ∷ words) m f h = absurd f

none_of : (q : List ℕ → Bool) → ((name : List ℕ) → Contains all_options name → q name ≡ false) → (place : Place) (words : List Word) → Fits place words → list_any q (names_in (options_in words)) ≡ false
none_of q h place [] f = refl
none_of q h place (option g ∷ words) (own, f) = or_from (q g.name) (list_any q (names_in (options_in words))) (h g.name own) (none_of q h place words f)
none_of q h first (plain [] ∷ words) f = absurd f
none_of q h first (plain (x ∷ xs) ∷ words) (e, f) = none_of q h second words f
none_of q h second (plain [] ∷ words) f = absurd f
none_of q h second (plain (x ∷ xs) ∷ words) (e, f) = none_of q h last words f
none_of q h last (plain text ∷ words) f = absurd f

not_any : (a b : Bool) → a ≡ false → b ≡ true → (not a && b) ≡ true
not_any true b e h = cc
not_any false b e h = h

noted_twins : (place : Place) (words : List Word) → Fits place words → no_twins (names_in (options_in words)) ≡ true → no_twins (names_in (noted place words)) ≡ true
noted_twins place [] f h = refl
noted_twins place (option g ∷ words) (own, f) h =
    let p = and_parts (not (list_any (λ other. bytes_eq g.name other) (names_in (options_in words)))) (no_twins (names_in (options_in words))) h in
    let u : IsUnlike g.name = unlike g.name own in
    not_any (list_any (λ other. bytes_eq g.name other) (names_in (noted place words))) (no_twins (names_in (noted place words)))
    (any_noted (λ other. bytes_eq g.name other) place words (misses place u) f (true_not _ p.0)) (noted_twins place words f p.1)
  where
    misses : {name : List ℕ} (place : Place) → IsUnlike name → Misses place (λ other. bytes_eq name other)
    misses first u = (u.mode, u.operand)
    misses second u = u.operand
    misses last u = tt
noted_twins first (plain [] ∷ words) f h = absurd f
noted_twins first (plain (x ∷ xs) ∷ words) (e, f) h =
    not_any (list_any (λ other. bytes_eq (codes "mode") other) (names_in (noted second words))) (no_twins (names_in (noted second words)))
    (any_noted (λ other. bytes_eq (codes "mode") other) second words refl f (none_of (λ other. bytes_eq (codes "mode") other) (λ name c. (unlike name c).of_mode) second words f))
    (noted_twins second words f h)
noted_twins second (plain [] ∷ words) f h = absurd f
noted_twins second (plain (x ∷ xs) ∷ words) (e, f) h =
    not_any (list_any (λ other. bytes_eq (codes "operand") other) (names_in (noted last words))) (no_twins (names_in (noted last words)))
    (any_noted (λ other. bytes_eq (codes "operand") other) last words tt f (none_of (λ other. bytes_eq (codes "operand") other) (λ name c. (unlike name c).of_operand) last words f))
    (noted_twins last words f h)
noted_twins last (plain text ∷ words) f h = absurd f

-- what is noted of an option is its value
noted_value : (name : List ℕ) → IsUnlike name → (place : Place) (words : List Word) → Fits place words → value_of name (noted place words) ≡ value_of name (options_in words)
noted_value name u place [] f = refl
noted_value name u place (option g ∷ words) (own, f) = ap (λ (v : Option (List ℕ)). cond (bytes_eq g.name name) (Some g.value) v) (noted_value name u place words f)
noted_value name u first (plain [] ∷ words) f = absurd f
noted_value name u first (plain (x ∷ xs) ∷ words) (e, f) =
    ap (λ (b : Bool). cond b (Some (x ∷ xs)) (value_of name (noted second words))) u.of_mode ∙ noted_value name u second words f
noted_value name u second (plain [] ∷ words) f = absurd f
noted_value name u second (plain (x ∷ xs) ∷ words) (e, f) =
    ap (λ (b : Bool). cond b (Some (x ∷ xs)) (value_of name (noted last words))) u.of_operand ∙ noted_value name u last words f
noted_value name u last (plain text ∷ words) f = absurd f

same_first : (x m : List ℕ) (xs ms : List (List ℕ)) → x ∷ xs ≡ m ∷ ms → x ≡ m
same_first x m xs ms e = cc

same_rest : (x m : List ℕ) (xs ms : List (List ℕ)) → x ∷ xs ≡ m ∷ ms → xs ≡ ms
same_rest x m xs ms e = cc

noted_mode : (m o : List ℕ) (words : List Word) → Fits first words → plain_words words ≡ m ∷ (o ∷ []) → value_of (codes "mode") (noted first words) ≡ Some m
noted_mode m o [] f e = cc
noted_mode m o (option g ∷ words) (own, f) e =
    ap (λ (b : Bool). cond b (Some g.value) (value_of (codes "mode") (noted first words))) (unlike g.name own).mode ∙ noted_mode m o words f e
noted_mode m o (plain [] ∷ words) f e = absurd f
noted_mode m o (plain (x ∷ xs) ∷ words) f e = ap (λ (t : List ℕ). Some t) (same_first (x ∷ xs) m (plain_words words) (o ∷ []) e)

noted_second : (o : List ℕ) (words : List Word) → Fits second words → plain_words words ≡ o ∷ [] → value_of (codes "operand") (noted second words) ≡ Some o
noted_second o [] f e = cc
noted_second o (option g ∷ words) (own, f) e =
    ap (λ (b : Bool). cond b (Some g.value) (value_of (codes "operand") (noted second words))) (unlike g.name own).operand ∙ noted_second o words f e
noted_second o (plain [] ∷ words) f e = absurd f
noted_second o (plain (x ∷ xs) ∷ words) f e = ap (λ (t : List ℕ). Some t) (same_first (x ∷ xs) o (plain_words words) [] e)

noted_operand : (m o : List ℕ) (words : List Word) → Fits first words → plain_words words ≡ m ∷ (o ∷ []) → value_of (codes "operand") (noted first words) ≡ Some o
noted_operand m o [] f e = cc
noted_operand m o (option g ∷ words) (own, f) e =
    ap (λ (b : Bool). cond b (Some g.value) (value_of (codes "operand") (noted first words))) (unlike g.name own).operand ∙ noted_operand m o words f e
noted_operand m o (plain [] ∷ words) f e = absurd f
noted_operand m o (plain (x ∷ xs) ∷ words) (n, f) e = noted_second o words f (same_rest (x ∷ xs) m (plain_words words) (o ∷ []) e)

-- the first value of a name among the rows
first_is : (name : List ℕ) (all : List Given) → first_of name (map row all) ≡ value_of name all
first_is name [] = refl
first_is name (g ∷ all) = step (bytes_eq g.name name) (first_is name all)
  where
    step : (b : Bool) → first_of name (map row all) ≡ value_of name all → option_and_then (λ (r : Row). slice_get r.values 0) (cond b (Some (row g)) (find (λ (r : Row). bytes_eq r.id name) (map row all))) ≡ cond b (Some g.value) (value_of name all)
    step true h = refl
    step false h = h

given_is : (name : List ℕ) (all : List Given) (v : List ℕ) → value_of name all ≡ Some v → is_given name (map row all) ≡ true
given_is name [] v e = cc
given_is name (g ∷ all) v e = step (bytes_eq g.name name) (given_is name all v) e
  where
    step : (b : Bool) → (value_of name all ≡ Some v → is_given name (map row all) ≡ true) → cond b (Some g.value) (value_of name all) ≡ Some v → option_map_or (λ (r : Row). explicit_source r.source) (cond b (Some (row g)) (find (λ (r : Row). bytes_eq r.id name) (map row all))) false ≡ true
    step true h e = refl
    step false h e = h e

-- no option has a default value of clap's
same_both : (b : Bool) (rows : List Row) → cond b rows rows ≡ rows
same_both true rows = refl
same_both false rows = refl

default_same : (a : Rule) (rows : List Row) → a.defaults ≡ [] → with_default rows a ≡ rows
default_same a rows e = ap (λ (d : List Text). cond (has_row a.id rows) rows (default_rows a.id (reading_by a) d rows)) e ∙ same_both (has_row a.id rows) rows

finished_same : (rs : List Rule) (rows : List Row) → list_all (λ a. is_empty a.defaults) rs ≡ true → fold with_default rows rs ≡ rows
finished_same [] rows h = refl
finished_same (a ∷ rs) rows h =
    let p = and_parts (is_empty a.defaults) (list_all (λ (a : Rule). is_empty a.defaults) rs) h in
    ap (λ (x : List Row). fold with_default x rs) (default_same a rows (is_nil a.defaults p.0)) ∙ finished_same rs rows p.1

no_defaults : list_all (λ a. is_empty a.defaults) rules ≡ true
no_defaults = refl

both_given : (a b : Bool) → a ≡ true → b ≡ true → (a && (b && true)) ≡ true
both_given true true p q = refl
both_given true false p q = cc
both_given false b p q = cc

valid : (rows : List Row) → is_given (codes "mode") rows ≡ true → is_given (codes "operand") rows ≡ true → is_valid shape rows false ≡ true
valid rows p q = both_given (is_given (codes "mode") rows) (is_given (codes "operand") rows) p q

both : (a b : Bool) → a ≡ true → b ≡ true → (a && b) ≡ true
both true b p q = q
both false b p q = cc

counted : (m o : List ℕ) (ws : List (List ℕ)) → ws ≡ m ∷ (o ∷ []) → length ws ≡ 2
counted m o ws e = ap (λ (x : List (List ℕ)). length x) e

line_fits : (mode : Mode) (words : List (List ℕ)) (operand : List ℕ) (options : List Given) (line : IsLine mode words operand options) → Fits first line.read
line_fits mode words operand options line = fits first mode line.read line.are (omega (arith, counted _ _ (plain_words line.read) line.plain_are))

line_walked : (mode : Mode) (words : List (List ℕ)) (operand : List ℕ) (options : List Given) (line : IsLine mode words operand options) → IsWalked line.read (at [] None 1) (noted first line.read)
line_walked mode words operand options line =
    let f : Fits first line.read = line_fits mode words operand options line in
    walk_all first line.read [] nothing f (noted_twins first line.read f (subst (λ (x : List Given). no_twins (names_in x) ≡ true) (sym line.options_are) line.once))

-- the rows that clap ends with
rows_are : (mode : Mode) (words : List (List ℕ)) (operand : List ℕ) (options : List Given) (line : IsLine mode words operand options)
    → finished rules (walk_end line.read (walk_from nothing_held)).held ≡ map row (noted first line.read)
rows_are mode words operand options line =
    let w = line_walked mode words operand options line in
    finished_same rules (settled_rows rules (walk_end line.read (walk_from nothing_held)).held.pending (walk_end line.read (walk_from nothing_held)).held.rows) no_defaults ∙ w.rows

matches_are : (mode : Mode) (words : List (List ℕ)) (operand : List ℕ) (options : List Given) (line : IsLine mode words operand options) → matches_of app words ≡ map row (noted first line.read)
matches_are mode words operand options line = ap (λ (x : List (List ℕ)). matches_of app x) line.spelled ∙ rows_are mode words operand options line

level : (mode : Mode) (words : List (List ℕ)) (operand : List ℕ) (options : List Given) (line : IsLine mode words operand options) → level_passes shape [] nothing_held (map word_text line.read) false ≡ true
level mode words operand options line =
    let w = line_walked mode words operand options line in
    let f : Fits first line.read = line_fits mode words operand options line in
    let rows : List Row = finished rules (walk_end line.read (walk_from nothing_held)).held in
    let e : map row (noted first line.read) ≡ rows = sym (rows_are mode words operand options line) in
    both (walk_passes shape [] (walk_from nothing_held) (map word_text line.read)) _ w.passes
    (both (settle_passes rules false (walk_end line.read (walk_from nothing_held)).held) (is_valid shape rows false) w.settles
    (valid rows
    (subst (λ (x : List Row). is_given (codes "mode") x ≡ true) e (given_is (codes "mode") (noted first line.read) _ (noted_mode _ operand line.read f line.plain_are)))
    (subst (λ (x : List Row). is_given (codes "operand") x ≡ true) e (given_is (codes "operand") (noted first line.read) operand (noted_operand _ operand line.read f line.plain_are)))))

app_is_simple : is_simple app ≡ true
app_is_simple = refl

-- what clap found of an app that is this one
pub matches_moved : (a : App) (words : List (List ℕ)) (m : ArgMatches) → a ≡ app → HasMatchesOf a words m → rows_of (found_of m) ≡ matches_of app words
matches_moved a words m e h = (subst (λ (x : App). HasMatchesOf x words m) e h app_is_simple).0

-- clap takes each command line
pub line_taken : (mode : Mode) (words : List (List ℕ)) (operand : List ℕ) (options : List Given) → IsLine mode words operand options → takes app words ≡ true
line_taken mode words operand options line =
    subst (λ (x : List (List ℕ)). takes app x ≡ true) (sym line.spelled)
    (both (is_simple app) _ app_is_simple (leaf_takes (built app) nothing_held (map word_text line.read) refl (level mode words operand options line)))

-- and reads the operand and the options of it
pub line_operand : (mode : Mode) (words : List (List ℕ)) (operand : List ℕ) (options : List Given) → IsLine mode words operand options → first_of (codes "operand") (matches_of app words) ≡ Some operand
line_operand mode words operand options line =
    ap (λ (rows : List Row). first_of (codes "operand") rows) (matches_are mode words operand options line)
    ∙ first_is (codes "operand") (noted first line.read)
    ∙ noted_operand _ operand line.read (line_fits mode words operand options line) line.plain_are

pub line_option : (mode : Mode) (words : List (List ℕ)) (operand : List ℕ) (options : List Given) → IsLine mode words operand options
    → (name : List ℕ) → Contains all_options name → first_of name (matches_of app words) ≡ value_of name options
line_option mode words operand options line name own =
    ap (λ (rows : List Row). first_of name rows) (matches_are mode words operand options line)
    ∙ first_is name (noted first line.read)
    ∙ noted_value name (unlike name own) first line.read (line_fits mode words operand options line)
    ∙ ap (λ (x : List Given). value_of name x) line.options_are
