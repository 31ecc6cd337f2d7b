-- What clap reads of words in any order.
use Rattle.std.proofs.Common.{◌≡◌, ◌∙◌, ◌==◌, ◌&&◌, ◌||◌, ◌++◌, ◌∷◌, [], ℕ, List, Option, Some, None, Bool, true, false, not, cond, codes, refl, sym, ap, subst, map, fold}
use Rattle.std.specs.Prelude.{Contains}
use Rattle.std.specs.Str.{bytes_eq}
use Rattle.std.proofs.lemmas.Bool.{or_parts}
use Rattle.std.proofs.lemmas.List.{append_assoc, append-nil}
use Rattle.clap.specs.Simple.{Shape, built}
use Rattle.clap.specs.Takes.{settle_passes, turn_passes, walk_passes}
use Rattle.clap.specs.Walk.{Rule, Text, Row, Walk, walked, settled_rows, reading_by, at_row, with_values, more_values, without, has_row}
use Rattle.clap.specs.Walk.Waiting.{idle}
use Rattle.clap.specs.declared.builder.value_parser.Reading.{Reading}
use Rattle.clap.specs.declared.parser.matches.ValueSource.TheVariants.{CommandLine}
use Rattle.clap.proofs.OnLiterals.{clap_on_literals}
use Rattle.mp_words.specs.CommandLines.{Given, Word, plain, option, option_text, word_text, no_twins, names_in}
use Rattle.mp_words.specs.Modes.{all_options}
use Rattle.mp_words.specs.Parsed.{app, mode_rule}
use Rattle.mp_words.proofs.Names.{Each, each_of, has, twins_at}

abbrev pub shape : Shape
shape = (built app).top

abbrev pub rules : List Rule
rules = shape.rules

abbrev pub reading : Reading
reading = reading_by mode_rule

-- what clap notes of a value
abbrev pub row : Given → Row
row g = record { id = g.name; values = g.value ∷ []; count = None; source = Some CommandLine; reading = reading }

-- between two words
abbrev pub at : List Row → Option (Text × List Text) → ℕ → Walk
at rows pending position = record { held = record { rows = rows; pending = pending; skip = 0 }; waiting = idle; position = position; is_trailing = false; stopped = None }

has_rows : (name : Text) (done : List Given) → has_row name (map row done) ≡ has name done
has_rows name [] = refl
has_rows name (g ∷ done) = ap (λ (b : Bool). bytes_eq g.name name || b) (has_rows name done)

at_none : (name : Text) (change : Row → List Row) (missing : List Row) (done : List Given) → has name done ≡ false → at_row name change missing (map row done) ≡ map row done ++ missing
at_none name change missing [] h = refl
at_none name change missing (g ∷ done) h =
    let p = or_parts (bytes_eq g.name name) (has name done) h in
    ap (λ (b : Bool). cond b (change (row g) ++ map row done) (row g ∷ at_row name change missing (map row done))) p.0
    ∙ ap (λ (rows : List Row). row g ∷ rows) (at_none name change missing done p.1)

map_last : (done : List Given) (g : Given) → map row done ++ row g ∷ [] ≡ map row (done ++ g ∷ [])
map_last [] g = refl
map_last (x ∷ done) g = ap (λ (rows : List Row). row x ∷ rows) (map_last done g)

-- a value is noted last
put : (g : Given) (done : List Given) → has g.name done ≡ false
    → with_values g.name reading CommandLine (g.value ∷ []) (without g.name (map row done)) ≡ map row (done ++ g ∷ [])
put g done h =
    ap (λ (rows : List Row). with_values g.name reading CommandLine (g.value ∷ []) rows) (at_none g.name (λ _. []) [] done h ∙ append-nil (map row done))
    ∙ at_none g.name (more_values CommandLine (g.value ∷ [])) (row g ∷ []) done h
    ∙ map_last done g

-- a plain word that waits for the next word
pub data Pend : Type 0 where
  nothing : Pend
  mode_word : Text → Pend
  operand_word : Text → Pend

abbrev pub mode_given : Text → Given
mode_given text = record { name = codes "mode"; value = text }

abbrev pub operand_given : Text → Given
operand_given text = record { name = codes "operand"; value = text }

abbrev pub pending : Pend → Option (Text × List Text)
pending nothing = None
pending (mode_word text) = Some (codes "mode", text ∷ [])
pending (operand_word text) = Some (codes "operand", text ∷ [])

abbrev pub waiting : Pend → List Given
waiting nothing = []
waiting (mode_word text) = mode_given text ∷ []
waiting (operand_word text) = operand_given text ∷ []

-- nothing so far has its name
abbrev pub IsApart : Pend → List Given → Type 0
IsApart nothing done = Unit {0}
IsApart (mode_word text) done = has (codes "mode") done ≡ false
IsApart (operand_word text) done = has (codes "operand") done ≡ false

apart_of : (p : Pend) (done rest : List Given) → no_twins (names_in (done ++ (waiting p ++ rest))) ≡ true → IsApart p done
apart_of nothing done rest t = tt
apart_of (mode_word text) done rest t = twins_at done (mode_given text) rest t
apart_of (operand_word text) done rest t = twins_at done (operand_given text) rest t

settled_is : (p : Pend) (done : List Given) → IsApart p done → settled_rows rules (pending p) (map row done) ≡ map row (done ++ waiting p)
settled_is nothing done a = ap (λ (x : List Given). map row x) (sym (append-nil done))
settled_is (mode_word text) done a = put (mode_given text) done a
settled_is (operand_word text) done a = put (operand_given text) done a

once : (b : Bool) → b ≡ false → ((not b || false) && true) ≡ true
once true e = cc
once false e = refl

settles_is : (p : Pend) (done : List Given) → IsApart p done → settle_passes rules false (record { rows = map row done; pending = pending p; skip = 0 }) ≡ true
settles_is nothing done a = refl
settles_is (mode_word text) done a = once (has_row (codes "mode") (map row done)) (has_rows (codes "mode") done ∙ a)
settles_is (operand_word text) done a = once (has_row (codes "operand") (map row done)) (has_rows (codes "operand") done ∙ a)

-- what a word of each option does
abbrev OptionWalks : Text → Type 0
OptionWalks name = (rows : List Row) (waits : Option (Text × List Text)) (position : ℕ) (value : Text)
    → walked rules [] (at rows waits position) (option_text name value) ≡ at (with_values name reading CommandLine (value ∷ []) (without name (settled_rows rules waits rows))) None position

option_walks : Each OptionWalks all_options
unfolding clap_on_literals
option_walks = (λ rows waits position value. refl, (λ rows waits position value. refl, (λ rows waits position value. refl, (λ rows waits position value. refl, (λ rows waits position value. refl, (λ rows waits position value. refl, (λ rows waits position value. refl, (λ rows waits position value. refl, tt))))))))

option_once : (settles there : Bool) → settles ≡ true → there ≡ false → ((settles && ((not there || false) && true)) && true) ≡ true
option_once true true p h = cc
option_once true false p h = refl
option_once false there p h = cc

abbrev OptionPasses : Text → Type 0
OptionPasses name = (rows : List Row) (waits : Option (Text × List Text)) (position : ℕ) (value : Text)
    → settle_passes rules false (record { rows = rows; pending = waits; skip = 0 }) ≡ true → has_row name (settled_rows rules waits rows) ≡ false
    → turn_passes shape [] (at rows waits position) (option_text name value) ≡ true

option_passes : Each OptionPasses all_options
unfolding clap_on_literals
option_passes = (λ rows waits position value p h. option_once _ _ p h, (λ rows waits position value p h. option_once _ _ p h, (λ rows waits position value p h. option_once _ _ p h, (λ rows waits position value p h. option_once _ _ p h, (λ rows waits position value p h. option_once _ _ p h, (λ rows waits position value p h. option_once _ _ p h, (λ rows waits position value p h. option_once _ _ p h, (λ rows waits position value p h. option_once _ _ p h, tt))))))))

and_false : (b : Bool) → (b && false) ≡ false
and_false true = refl
and_false false = refl

or_true : (a b : Bool) → b ≡ true → (a || b) ≡ true
or_true true b e = refl
or_true false b e = e

mode_walks : (rows : List Row) (waits : Option (Text × List Text)) (x : ℕ) (xs : Text) → (x == 45) ≡ false
    → walked rules [] (at rows waits 1) (x ∷ xs) ≡ at (settled_rows rules waits rows) (Some (codes "mode", (x ∷ xs) ∷ [])) 2
unfolding clap_on_literals
mode_walks rows waits x xs e = simp (e, and_false)

operand_walks : (rows : List Row) (waits : Option (Text × List Text)) (x : ℕ) (xs : Text) → (x == 45) ≡ false
    → walked rules [] (at rows waits 2) (x ∷ xs) ≡ at (settled_rows rules waits rows) (Some (codes "operand", (x ∷ xs) ∷ [])) 3
unfolding clap_on_literals
operand_walks rows waits x xs e = simp (e, and_false)

mode_passes : (rows : List Row) (waits : Option (Text × List Text)) (x : ℕ) (xs : Text) → (x == 45) ≡ false
    → settle_passes rules false (record { rows = rows; pending = waits; skip = 0 }) ≡ true → turn_passes shape [] (at rows waits 1) (x ∷ xs) ≡ true
unfolding clap_on_literals
mode_passes rows waits x xs e p = simp (e, p, and_false)

operand_passes : (rows : List Row) (waits : Option (Text × List Text)) (x : ℕ) (xs : Text) → (x == 45) ≡ false
    → settle_passes rules false (record { rows = rows; pending = waits; skip = 0 }) ≡ true → turn_passes shape [] (at rows waits 2) (x ∷ xs) ≡ true
unfolding clap_on_literals
operand_passes rows waits x xs e p = simp (e, p, and_false)

-- how many plain words have come
pub data Place : Type 0 where
  first : Place
  second : Place
  last : Place

abbrev pub number : Place → ℕ
number first = 1
number second = 2
number last = 3

-- words that clap takes from a place on
abbrev pub Fits : Place → List Word → Type 0
Fits place [] = Unit {0}
Fits place (option g ∷ words) = Contains all_options g.name × Fits place words
Fits first (plain [] ∷ words) = ⊥
Fits first (plain (x ∷ xs) ∷ words) = ((x == 45) ≡ false) × Fits second words
Fits second (plain [] ∷ words) = ⊥
Fits second (plain (x ∷ xs) ∷ words) = ((x == 45) ≡ false) × Fits last words
Fits last (plain text ∷ words) = ⊥

-- what clap notes of words from a place on
abbrev pub noted : Place → List Word → List Given
noted place [] = []
noted place (option g ∷ words) = g ∷ noted place words
noted first (plain text ∷ words) = mode_given text ∷ noted second words
noted second (plain text ∷ words) = operand_given text ∷ noted last words
noted last (plain text ∷ words) = []

abbrev pub walk_end : List Word → Walk → Walk
walk_end words w = fold (walked rules []) w (map word_text words)

pub record IsWalked (words : List Word) (w : Walk) (all : List Given) : Type 0 where
  pub rows : settled_rows rules (walk_end words w).held.pending (walk_end words w).held.rows ≡ map row all
  pub passes : walk_passes shape [] w (map word_text words) ≡ true
  pub settles : settle_passes rules false (walk_end words w).held ≡ true

both : (a b : Bool) → a ≡ true → b ≡ true → (a && b) ≡ true
both true b p q = q
both false b p q = cc

next_word : (word : Word) (words : List Word) (w u : Walk) (all : List Given) → walked rules [] w (word_text word) ≡ u → turn_passes shape [] w (word_text word) ≡ true → IsWalked words u all → IsWalked (word ∷ words) w all
unfolding walk_passes
next_word word words w u all e turn h = record {
  rows = subst (λ (x : Walk). settled_rows rules (walk_end words x).held.pending (walk_end words x).held.rows ≡ map row all) (sym e) h.rows;
  passes = both (turn_passes shape [] w (word_text word)) (walk_passes shape [] (walked rules [] w (word_text word)) (map word_text words)) turn
      (subst (λ (x : Walk). walk_passes shape [] x (map word_text words) ≡ true) (sym e) h.passes);
  settles = subst (λ (x : Walk). settle_passes rules false (walk_end words x).held ≡ true) (sym e) h.settles;
}

no_word : (w : Walk) → walk_passes shape [] w [] ≡ true
unfolding walk_passes
no_word w = refl

pub walk_all : (place : Place) (words : List Word) (done : List Given) (p : Pend) → Fits place words → no_twins (names_in (done ++ (waiting p ++ noted place words))) ≡ true
    → IsWalked words (at (map row done) (pending p) (number place)) (done ++ (waiting p ++ noted place words))
walk_all place [] done p f t =
    let a : IsApart p done = apart_of p done [] t in
    record {
      rows = settled_is p done a ∙ ap (λ (x : List Given). map row (done ++ x)) (sym (append-nil (waiting p)));
      passes = no_word (at (map row done) (pending p) (number place));
      settles = settles_is p done a;
    }
walk_all place (option g ∷ words) done p (own, f) t =
    let rest : List Given = noted place words in
    let a : IsApart p done = apart_of p done (g ∷ rest) t in
    let so_far : List Given = done ++ waiting p in
    let joined : so_far ++ (g ∷ rest) ≡ done ++ (waiting p ++ (g ∷ rest)) = append_assoc done (waiting p) (g ∷ rest) in
    let free : has g.name so_far ≡ false = twins_at so_far g rest (subst (λ (x : List Given). no_twins (names_in x) ≡ true) (sym joined) t) in
    let here : settled_rows rules (pending p) (map row done) ≡ map row so_far = settled_is p done a in
    let step : walked rules [] (at (map row done) (pending p) (number place)) (option_text g.name g.value) ≡ at (map row (so_far ++ g ∷ [])) None (number place) =
    each_of OptionWalks all_options g.name option_walks own (map row done) (pending p) (number place) g.value
    ∙ ap (λ (rows : List Row). at rows None (number place))
    (ap (λ (rows : List Row). with_values g.name reading CommandLine (g.value ∷ []) (without g.name rows)) here ∙ put g so_far free) in
    let turn : turn_passes shape [] (at (map row done) (pending p) (number place)) (option_text g.name g.value) ≡ true =
    each_of OptionPasses all_options g.name option_passes own (map row done) (pending p) (number place) g.value (settles_is p done a)
    (ap (λ (rows : List Row). has_row g.name rows) here ∙ has_rows g.name so_far ∙ free) in
    let whole : (so_far ++ g ∷ []) ++ rest ≡ done ++ (waiting p ++ (g ∷ rest)) = append_assoc so_far (g ∷ []) rest ∙ joined in
    next_word (option g) words (at (map row done) (pending p) (number place)) (at (map row (so_far ++ g ∷ [])) None (number place)) (done ++ (waiting p ++ (g ∷ rest))) step turn
    (subst (λ (x : List Given). IsWalked words (at (map row (so_far ++ g ∷ [])) None (number place)) x) whole
    (walk_all place words (so_far ++ g ∷ []) nothing f (subst (λ (x : List Given). no_twins (names_in x) ≡ true) (sym whole) t)))
walk_all first (plain [] ∷ words) done p f t = absurd f
walk_all first (plain (x ∷ xs) ∷ words) done p (e, f) t =
    let rest : List Given = noted second words in
    let a : IsApart p done = apart_of p done (mode_given (x ∷ xs) ∷ rest) t in
    let so_far : List Given = done ++ waiting p in
    let joined : so_far ++ (mode_given (x ∷ xs) ∷ rest) ≡ done ++ (waiting p ++ (mode_given (x ∷ xs) ∷ rest)) = append_assoc done (waiting p) (mode_given (x ∷ xs) ∷ rest) in
    let step : walked rules [] (at (map row done) (pending p) 1) (x ∷ xs) ≡ at (map row so_far) (pending (mode_word (x ∷ xs))) 2 =
    mode_walks (map row done) (pending p) x xs e ∙ ap (λ (rows : List Row). at rows (pending (mode_word (x ∷ xs))) 2) (settled_is p done a) in
    next_word (plain (x ∷ xs)) words (at (map row done) (pending p) 1) (at (map row so_far) (pending (mode_word (x ∷ xs))) 2) (done ++ (waiting p ++ (mode_given (x ∷ xs) ∷ rest))) step
    (mode_passes (map row done) (pending p) x xs e (settles_is p done a))
    (subst (λ (y : List Given). IsWalked words (at (map row so_far) (pending (mode_word (x ∷ xs))) 2) y) joined
    (walk_all second words so_far (mode_word (x ∷ xs)) f (subst (λ (y : List Given). no_twins (names_in y) ≡ true) (sym joined) t)))
walk_all second (plain [] ∷ words) done p f t = absurd f
walk_all second (plain (x ∷ xs) ∷ words) done p (e, f) t =
    let rest : List Given = noted last words in
    let a : IsApart p done = apart_of p done (operand_given (x ∷ xs) ∷ rest) t in
    let so_far : List Given = done ++ waiting p in
    let joined : so_far ++ (operand_given (x ∷ xs) ∷ rest) ≡ done ++ (waiting p ++ (operand_given (x ∷ xs) ∷ rest)) = append_assoc done (waiting p) (operand_given (x ∷ xs) ∷ rest) in
    let step : walked rules [] (at (map row done) (pending p) 2) (x ∷ xs) ≡ at (map row so_far) (pending (operand_word (x ∷ xs))) 3 =
    operand_walks (map row done) (pending p) x xs e ∙ ap (λ (rows : List Row). at rows (pending (operand_word (x ∷ xs))) 3) (settled_is p done a) in
    next_word (plain (x ∷ xs)) words (at (map row done) (pending p) 2) (at (map row so_far) (pending (operand_word (x ∷ xs))) 3) (done ++ (waiting p ++ (operand_given (x ∷ xs) ∷ rest))) step
    (operand_passes (map row done) (pending p) x xs e (settles_is p done a))
    (subst (λ (y : List Given). IsWalked words (at (map row so_far) (pending (operand_word (x ∷ xs))) 3) y) joined
    (walk_all last words so_far (operand_word (x ∷ xs)) f (subst (λ (y : List Given). no_twins (names_in y) ≡ true) (sym joined) t)))
walk_all last (plain text ∷ words) done p f t = absurd f
