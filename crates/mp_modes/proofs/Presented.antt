-- What presents a run: a valid map, and an instance that carries.
use Rattle.std.proofs.Common.{◌≡◌, ◌≤◌, ◌<◌, ◌+◌, ◌^◌, ℕ, Bool, true, false, not, cond, ◌||◌, ◌&&◌, List, [], ◌∷◌, ◌++◌, All, Contains, IsTrue, length, refl, ap, sym, ◌∙◌, subst, arith, inl, inr, lit<}
use Rattle.std.specs.Prelude.{nat_eq, nat_lt, nat_le, max}
use Rattle.std.specs.List.{list_any}
use Rattle.std.proofs.lemmas.Bool.{and_parts, or_cases, or_parts, eq-eqb, eqb-true, ltb-true, leb-true, true≢false, false≢true}
use Rattle.std.proofs.lemmas.List.Elements.{All-append}
use Rattle.mp_logic.specs.Literal.{Literal, negation}
use Rattle.mp_logic.specs.Formula.{Formula, IsFormula}
use Rattle.mp_logic.specs.Truth.{value_of, weights_of}
use Rattle.mp_logic.specs.Optimum.{HasHardModel}
use Rattle.mp_logic.specs.Keeping.{State, IsModel, total_of}
use Rattle.mp_logic.specs.Carrying.{WrittenForm, ReconstructionMap, IsLabelView, Presents, Carries, map_of}
use Rattle.mp_logic.specs.Labelled.{IsLabelled, IsProper, IsWrittenForm, names_rise}
use Rattle.mp_logic.specs.declared.instances.Repair.{Repair}
use Rattle.mp_logic.proofs.Carried.{keeping_carries, refutation_carries}
use Rattle.mp_logic.proofs.Members.{Contains-none, Contains-first, Contains-later, Contains-cases, satisfied}
use Rattle.mp_labels.specs.LabelView.{label_view, positive}
use Rattle.mp_labels.specs.UnitForm.{IsPlainForm, Occurs, refuted_form}
use Rattle.mp_map.specs.Maps.{IsMap, reconstruction_of}
use Rattle.mp_map.specs.declared.maps.MapFile.{MapFile}
use Rattle.mp_map.specs.Entries.{entries_of, fits_version}
use Rattle.mp_map.specs.Maps.{latest_version}
use Rattle.mp_map.specs.declared.maps.Entry.{Entry}
use Rattle.mp_map.proofs.Joins.{repairs_of-entries_of, entries_of-fit}
use Rattle.mp_clauses.specs.Slots.{has_empty}
use Rattle.mp_engine.specs.Alike.{IsAlike}
use Rattle.mp_engine.specs.Laws.{BoundsAreReached}
use Rattle.mp_engine.specs.Runs.{IsDone}
use Rattle.mp_engine.specs.declared.done.Done.{Done}
use Rattle.mp_script.specs.declared.scripts.Group.{Group}
use Rattle.mp_words.specs.Commands.{version_number}
use Rattle.mp_words.specs.declared.command.MapVersion.{MapVersion}
use Rattle.mp_words.specs.declared.command.MapVersion.TheVariants as versions
use Rattle.mp_modes.specs.EndStates.{CountsAs}
use Rattle.mp_modes.specs.Preprocessing.{AreReached, IsFormOf, joins, map_by, map_file_of, way_of}
use Rattle.mp_modes.specs.Presenting.{PresentsRun}
use Rattle.mp_modes.proofs.Counted.{form_counts, state_of}
use Rattle.mp_modes.proofs.Tight.{tight}
use Rattle.mp_modes.proofs.Told.{form_alike}

-- the test for an empty clause finds one exactly where there is one
pub empty-found : (cs : List (List Literal)) → list_any (λ c. nat_eq (length c) 0) cs ≡ true → Contains cs []
empty-found [] h = absurd (false≢true h)
empty-found ([] ∷ cs) h = Contains-first [] cs
empty-found ((l ∷ c) ∷ cs) h =
    elim (or_cases (nat_eq (length (l ∷ c)) 0) (list_any (λ c. nat_eq (length c) 0) cs) h) [
      | inl e ↦ absurd (let n = eqb-true (length (l ∷ c)) 0 e in omega (arith, n))
      | inr more ↦ Contains-later (l ∷ c) cs [] (empty-found cs more)
    ]

pub empty-missed : (cs : List (List Literal)) → list_any (λ c. nat_eq (length c) 0) cs ≡ false → Contains cs [] → ⊥
empty-missed [] h i = Contains-none [] i
empty-missed (c ∷ cs) h i =
    let parts = or_parts (nat_eq (length c) 0) (list_any (λ c. nat_eq (length c) 0) cs) h in
    elim (Contains-cases c cs [] i) [
      | inl e ↦ true≢false (sym (eq-eqb (length c) 0 (sym (ap (λ (d : List Literal). length d) e))) ∙ parts.0)
      | inr more ↦ empty-missed cs parts.1 more
    ]

-- so many names rise up to n
names_fit : (least n : ℕ) (names : List ℕ) → least ≤ n → names_rise least n names ≡ true → length names + least ≤ n
names_fit least n [] h r = omega arith
names_fit least n (name ∷ names) h r =
    let parts = and_parts (nat_lt least name && nat_le name n) (names_rise name n names) r in
    let here = and_parts (nat_lt least name) (nat_le name n) parts.0 in
    let below = ltb-true least name here.0 in
    let within = leb-true name n here.1 in
    let more = names_fit name n names within parts.1 in
    omega (arith, below, more)

-- a state with an empty clause has no model
no_model : (s : State) → Contains s.hard [] → (a : List Bool) → IsModel s a → ⊥
no_model s i a m = false≢true (satisfied a s.hard [] m i)

clash : (v : Bool) → (v || false) ≡ true → (not v || false) ≡ true → ⊥
clash true p q = false≢true q
clash false p q = false≢true p

-- nor has the refuted form
no_hard_model : (vars : ℕ) → HasHardModel (refuted_form vars).«instance» → ⊥
no_hard_model vars h =
    let one : List Literal = positive 1 ∷ [] in
    let other : List Literal = negation (positive 1) ∷ [] in
    clash (value_of h.0 1)
    (satisfied h.0 (one ∷ (other ∷ [])) one h.1 (Contains-first one (other ∷ [])))
    (satisfied h.0 (one ∷ (other ∷ [])) other h.1 (Contains-later one (other ∷ []) other (Contains-first other [])))

-- what is known of a run's end and of its written form
pub record Ends (merged : Bool) (original : ℕ) (s : State) (repairs : List Repair) (w : WrittenForm) : Type 0 where
  pub few : original ≤ 8388607
  pub least : original ≤ s.vars
  pub most : s.vars ≤ 16777215
  pub proper : All (IsProper s.vars) repairs
  pub labelled : IsLabelled s.vars s.hard s.costs s.offset
  pub written : IsWrittenForm w.«instance» w.names w.inner w.repairs
  pub form : IsFormOf merged s w
  pub presents : Presents s w
  pub total : w.offset + weights_of w.«instance».soft ≤ total_of s
  pub inner_from : s.vars ≤ w.inner
  pub inner_to : w.inner ≤ max 1 s.vars
  pub all_occur : (v : ℕ) → 1 ≤ v → v ≤ w.«instance».vars → Occurs w.«instance» v
  pub formula : IsFormula w.«instance».vars w.«instance».hard w.«instance».soft

-- the version of a map and how it has its entries fit
version_from : (version : MapVersion) → 1 ≤ version_number version
version_from versions.One = omega arith
version_from versions.Two = omega arith

version_to : (version : MapVersion) → version_number version ≤ latest_version
version_to versions.One = omega arith
version_to versions.Two = omega arith

version_joins : (version : MapVersion) → cond (joins version) 2 1 ≡ version_number version
version_joins versions.One = refl
version_joins versions.Two = refl

valid : (merged : Bool) (version : MapVersion) (original : ℕ) (s : State) (repairs kept : List Repair) (w : WrittenForm) → Ends merged original s repairs w → length kept < 2 ^ 64 → All (IsProper w.inner) kept
    → IsMap (map_by version original w (entries_of (joins version) kept))
valid merged version original s repairs kept w e few proper =
    let back = repairs_of-entries_of (joins version) kept in
    record {
      first_version = version_from version;
      last_version = version_to version;
      original = e.few;
      least_inner = omega (arith, e.least, e.inner_from);
      inner = omega (arith, e.inner_to, e.most);
      written = let fit = names_fit 0 w.inner w.names (omega arith) e.written.names_rising in omega (arith, fit, e.written.each_named);
      offset = omega (arith, e.total, e.labelled.below);
      each_named = e.written.each_named;
      names_rising = e.written.names_rising;
      entries_fit =
          let Fit : ℕ → Type 0 = λ n. All (λ (x : Entry). IsTrue (fits_version n (length x.clauses))) (entries_of (joins version) kept) in
          subst Fit (version_joins version) (entries_of-fit (joins version) kept);
      repairs_few = let size = ap (λ (rs : List Repair). length rs) back in omega (arith, few, size);
      repairs_proper = let Proper : List Repair → Type 0 = λ rs. All (IsProper w.inner) rs in subst Proper (sym back) proper;
    }

-- where no clause is empty, the inner variables of the form are those of the state
inner_is : (merged : Bool) (s : State) (w : WrittenForm) → IsFormOf merged s w → (Contains s.hard [] → ⊥) → w.inner ≡ s.vars
inner_is false s w form none = (form.otherwise none).inner
inner_is true s w form none = (form.otherwise none).inner

-- where one is, it is the refuted one
refuted_is : (merged : Bool) (s : State) (w : WrittenForm) → IsFormOf merged s w → Contains s.hard [] → w ≡ refuted_form s.vars
refuted_is false s w form empty = form.refuted empty
refuted_is true s w form empty = form.refuted empty

-- a form that isn't merged counts as a state like its own
form_alike_at : (merged : Bool) (original : ℕ) (s : State) (repairs : List Repair) (w : WrittenForm) → Ends merged original s repairs w → merged ≡ false → (Contains s.hard [] → ⊥)
    → (t : State) × CountsAs w.«instance» t × IsAlike s t × (w.offset ≡ s.offset)
form_alike_at merged original s repairs w e plain none =
    let Form : Bool → Type 0 = λ m. IsFormOf m s w in
    let form : IsPlainForm s w = subst Form plain e.form in
    let u = form.otherwise none in
    (state_of s w u, form_counts s w e.labelled u, form_alike s w e.labelled u, u.offset)

-- what the map of a form by these repairs says of the way back
abbrev said_by : ℕ → WrittenForm → List Repair → ReconstructionMap
said_by original w kept = record { original = original; inner = w.inner; offset = w.offset; names = w.names; repairs = kept }

reconstruction_is : (version : MapVersion) (original : ℕ) (w : WrittenForm) (kept : List Repair) → said_by original w kept ≡ reconstruction_of (map_by version original w (entries_of (joins version) kept))
reconstruction_is version original w kept = ap (said_by original w) (sym (repairs_of-entries_of (joins version) kept))

-- where no clause is empty
presents-whole : (merged : Bool) (version : MapVersion) (original : ℕ) (s : State) (repairs : List Repair) (w : WrittenForm) → Ends merged original s repairs w → length (repairs ++ w.repairs) < 2 ^ 64
    → has_empty s.hard ≡ false → (Contains s.hard [] → ⊥) → PresentsRun merged version original s repairs w (map_file_of version original w s repairs)
presents-whole merged version original s repairs w e few off none =
    let kept = repairs ++ w.repairs in
    let way : way_of s repairs w.repairs ≡ kept = ap (λ (b : Bool). cond b [] kept) off in
    let At : List Repair → Type 0 = λ rs. IsMap (map_by version original w (entries_of (joins version) rs)) in
    let Near : ℕ → Type 0 = λ n. All (IsProper n) repairs in
    let proper = All-append (IsProper w.inner) repairs w.repairs (subst Near (sym (inner_is merged s w e.form none)) e.proper) e.written.repairs_proper in
    record {
      form = e.form;
      way_is = refl;
      valid = subst At (sym way) (valid merged version original s repairs kept w e few proper);
      carries = λ f view ok same v k.
          let Map : List Repair → ReconstructionMap = λ rs. reconstruction_of (map_by version original w (entries_of (joins version) rs)) in
          let whole : map_of f repairs w ≡ Map (way_of s repairs w.repairs) = ap (λ (n : ℕ). said_by n w kept) same ∙ (reconstruction_is version original w kept ∙ ap Map (sym way)) in
          let P : ReconstructionMap → Type 0 = λ m. Carries f w.«instance» m in
          subst P whole (keeping_carries f view s w repairs ok v k e.presents);
      alike = form_alike_at merged original s repairs w e;
      tight = tight w.«instance» e.formula e.all_occur;
      below = omega (arith, e.total, e.labelled.below);
    }

-- where a clause is empty
presents-refuted : (merged : Bool) (version : MapVersion) (original : ℕ) (s : State) (repairs : List Repair) (w : WrittenForm) → Ends merged original s repairs w → has_empty s.hard ≡ true → Contains s.hard []
    → PresentsRun merged version original s repairs w (map_file_of version original w s repairs)
presents-refuted merged version original s repairs w e on empty =
    let is = refuted_is merged s w e.form empty in
    let none : HasHardModel w.«instance» → ⊥ = λ h. let P : WrittenForm → Type 0 = λ x. HasHardModel x.«instance» in no_hard_model s.vars (subst P is h) in
    let way : way_of s repairs w.repairs ≡ [] = ap (λ (b : Bool). cond b [] (repairs ++ w.repairs)) on in
    let At : List Repair → Type 0 = λ rs. IsMap (map_by version original w (entries_of (joins version) rs)) in
    record {
      form = e.form;
      way_is = refl;
      valid = subst At (sym way) (valid merged version original s repairs [] w e (lit< tt) (λ k d l. absurd (omega arith)));
      carries = λ f view ok same v k. refutation_carries f w.«instance» view s repairs (reconstruction_of (map_file_of version original w s repairs)) v k (no_model s empty) none;
      alike = form_alike_at merged original s repairs w e;
      tight = tight w.«instance» e.formula e.all_occur;
      below = omega (arith, e.total, e.labelled.below);
    }

pub presents_run : (merged : Bool) (version : MapVersion) (original : ℕ) (s : State) (repairs : List Repair) (w : WrittenForm) → Ends merged original s repairs w → length (way_of s repairs w.repairs) < 2 ^ 64
    → PresentsRun merged version original s repairs w (map_file_of version original w s repairs)
presents_run merged version original s repairs w e few =
    let step : (b : Bool) → has_empty s.hard ≡ b → PresentsRun merged version original s repairs w (map_file_of version original w s repairs) =
    λ (b : Bool). elim b as (λ b. has_empty s.hard ≡ b → PresentsRun merged version original s repairs w (map_file_of version original w s repairs)) [
      | true ↦ λ on. presents-refuted merged version original s repairs w e on (empty-found s.hard on)
      | false ↦ λ off.
          let size : length (way_of s repairs w.repairs) ≡ length (repairs ++ w.repairs) = ap (λ (b : Bool). length (cond b [] (repairs ++ w.repairs))) off in
          presents-whole merged version original s repairs w e (omega (arith, size, few)) off (empty-missed s.hard off)
    ] in
    step (has_empty s.hard) refl

-- the bounds that a run found from the label view of an instance are reached there
pub bounds_reached : BoundsAreReached → (inner : ℕ) (script : List Group) (f : Formula) (done : Done) → IsLabelled (label_view f).vars (label_view f).hard (label_view f).costs (label_view f).offset → IsLabelView f (label_view f)
    → IsDone inner script (label_view f) done → AreReached f done.stages
bounds_reached law inner script f done ok view run = λ line own n is.
    let m = law inner script (label_view f) done ok run line own n is in
    let down = view.down m.0 m.1 in
    (m.0, down.0, omega (arith, down.1, m.2))
