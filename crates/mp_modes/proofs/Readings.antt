-- Why the texts of inputs that were read are not refused.
use Rattle.std.proofs.Common.{◌≡◌, ◌+◌, ℕ, Bool, true, not, cond, IsTrue, List, [], ◌∷◌, Option, Some, None, refl, ap, sym, ◌∙◌, subst, inl, inr}
use Rattle.std.specs.List.{position, position_from}
use Rattle.std.specs.Option.{option_map}
use Rattle.std.proofs.lemmas.Iterator.Adapters.{position_from-zero}
use Rattle.std.proofs.lemmas.List.Elements.{All-head, All-tail}
use Rattle.mp_logic.specs.Carrying.{carried_back}
use Rattle.mp_logic.specs.Formula.{Formula}
use Rattle.mp_logic.specs.Literal.{Literal}
use Rattle.mp_logic.specs.Truth.{IsHardModel, IsSatisfied, clause_value}
use Rattle.mp_map.specs.Maps.{reconstruction_of}
use Rattle.mp_map.specs.Solutions.{Reports, solution_fault}
use Rattle.mp_map.specs.declared.maps.MapFile.{MapFile}
use Rattle.mp_map.specs.declared.solutions.Solution.{Solution}
use Rattle.mp_map.proofs.WholeTexts.{one_spelling}
use Rattle.mp_modes.specs.EvaluateMode.{IsEvaluationFault, IsEvaluationFaultBehind}
use Rattle.mp_modes.specs.Evaluating.{IsFalseAt, IsValuesFault, ReportsValues, first_false}
use Rattle.mp_modes.specs.Instances.{IsReadable}
use Rattle.mp_modes.specs.ReconstructMode.{IsCarriedFault, IsFalseBack, IsMapFault, IsSolutionFault, IsSolutionFaultBehind}
use Rattle.mp_modes.specs.Reconstructing.{IsMapText, IsModelBack, values_back}
use Rattle.mp_modes.specs.declared.refusal.TextRefusal.{TextRefusal}
use Rattle.mp_modes.specs.declared.refusal.TextRefusal.TheVariants as texts
use Rattle.mp_modes.proofs.Refused.{no_line, one_instance}

-- no clause of a satisfied list is false
clear_from : (a : List Bool) (i : ℕ) (cs : List (List Literal)) → IsSatisfied a cs → position_from (λ c. not (clause_value a c)) i cs ≡ None
clear_from a i [] h = refl
clear_from a i (c ∷ cs) h =
    let here : clause_value a c ≡ true = All-head (λ d. IsTrue (clause_value a d)) c cs h in
    let rest = clear_from a (i + 1) cs (All-tail (λ d. IsTrue (clause_value a d)) c cs h) in
    let Step : Bool → Option ℕ = λ v. cond (not v) (Some i) (position_from (λ d. not (clause_value a d)) (i + 1) cs) in
    ap Step here ∙ rest

-- so a hard model makes none false
pub model-takes : (f : Formula) (a : List Bool) (clause : ℕ) → IsHardModel f a → first_false f a ≡ Some clause → ⊥
model-takes f a clause model h =
    let none : position (λ c. not (clause_value a c)) f.hard ≡ None = position_from-zero (λ c. not (clause_value a c)) f.hard ∙ clear_from a 0 f.hard model in
    let Mapped : Option ℕ → Option ℕ = λ o. option_map (λ place. place + 1) o in
    no_line (first_false f a) clause (ap Mapped none) h

-- the text of a map that was read is not refused
pub map-fine : (text : List ℕ) (way : MapFile) → IsMapText text way → (x : TextRefusal) → IsMapFault text x → ⊥
map-fine text way is (texts.Map line) h = h.0 (way, is.valid, is.spelled)
map-fine text way is (texts.Instance line) h = absurd h
map-fine text way is (texts.Limit exceeded) h = absurd h
map-fine text way is (texts.Solution line) h = absurd h
map-fine text way is (texts.NotModel clause) h = absurd h
map-fine text way is (texts.Script place) h = absurd h

-- a text spells one map at most
pub one_map : (text : List ℕ) (way other : MapFile) → IsMapText text way → IsMapText text other → way ≡ other
one_map text way other is like = one_spelling way other is.valid like.valid (is.spelled ∙ sym like.spelled)

-- that of a solution that was read is not refused
sound-fine : (text : List ℕ) (written : ℕ) (s : Solution) → Reports text written s → (x : TextRefusal) → IsSolutionFault written text x → ⊥
sound-fine text written s reports (texts.Solution line) h = no_line (solution_fault text written) line reports.sound h
sound-fine text written s reports (texts.Instance line) h = absurd h
sound-fine text written s reports (texts.Limit exceeded) h = absurd h
sound-fine text written s reports (texts.Map line) h = absurd h
sound-fine text written s reports (texts.NotModel clause) h = absurd h
sound-fine text written s reports (texts.Script place) h = absurd h

pub solution-fine : (map text : List ℕ) (way : MapFile) (s : Solution) → IsMapText map way → Reports text way.written s → (x : TextRefusal) → IsSolutionFaultBehind (map ∷ []) text x → ⊥
solution-fine map text way s is reports x h =
    let Here : MapFile → Type 0 = λ w. IsSolutionFault w.written text x in
    sound-fine text way.written s reports x (subst Here (one_map map h.0 way h.1 is) h.2)

-- a text reports one solution at most
pub one_solution : (text : List ℕ) (vars : ℕ) (s t : Solution) → Reports text vars s → Reports text vars t → s.values ≡ t.values
one_solution text vars s t a b = a.values ∙ sym b.values

-- two values that are there are one
some-same : (a b : List Bool) → Some a ≡ Some b → a ≡ b
some-same a b q = cc

carried-fine : (f : Formula) (way : MapFile) (text : List ℕ) (s : Solution) → Reports text way.written s → IsModelBack (Some f) (values_back way s) → (x : TextRefusal) → IsCarriedFault f way text x → ⊥
carried-fine f way text s reports fits (texts.NotModel clause) h =
    let same : s.values ≡ Some h.2.0 = one_solution text way.written s h.0 reports h.1 ∙ h.2.1 in
    let Back : Option (List Bool) → Type 0 = λ o. IsModelBack (Some f) (option_map (carried_back (reconstruction_of way)) o) in
    model-takes f (carried_back (reconstruction_of way) h.2.0) clause (subst Back same fits) h.2.2
carried-fine f way text s reports fits (texts.Solution line) h = sound-fine text way.written s reports (texts.Solution line) h
carried-fine f way text s reports fits (texts.Instance line) h = absurd h
carried-fine f way text s reports fits (texts.Limit exceeded) h = absurd h
carried-fine f way text s reports fits (texts.Map line) h = absurd h
carried-fine f way text s reports fits (texts.Script place) h = absurd h

-- where values are carried back to a hard model, the solution is not refused behind the original and the map
pub tried-fine : (original map text : List ℕ) (f : Formula) (way : MapFile) (s : Solution) → IsReadable original f → IsMapText map way → Reports text way.written s
    → IsModelBack (Some f) (values_back way s) → (x : TextRefusal) → IsSolutionFaultBehind (original ∷ (map ∷ [])) text x → ⊥
tried-fine original map text f way s reads is reports fits x h =
    let Here : Formula → Type 0 = λ g. IsCarriedFault g h.1 text x in
    let There : MapFile → Type 0 = λ w. IsCarriedFault f w text x in
    let here : IsCarriedFault f way text x = subst There (one_map map h.1 way h.3 is) (subst Here (one_instance original h.0 f h.2 reads) h.4) in
    carried-fine f way text s reports fits x here

-- nor is one whose values an instance takes
values-fine : (f : Formula) (text : List ℕ) (values : List Bool) → ReportsValues text f.vars (Some values) → IsHardModel f values → (x : TextRefusal) → IsEvaluationFault f text x → ⊥
values-fine f text values told fits (texts.NotModel clause) h =
    let same : h.0 ≡ values = some-same h.0 values (sym h.1.2 ∙ (one_solution text f.vars h.1.0 told.0 h.1.1 told.1 ∙ told.2)) in
    let At : List Bool → Type 0 = λ a. first_false f a ≡ Some clause in
    model-takes f values clause fits (subst At same h.2)
values-fine f text values told fits (texts.Solution line) h =
    elim h [
      | inl fault ↦ no_line (solution_fault text f.vars) line told.1.sound fault
      | inr none ↦
          let same : Some values ≡ None = sym told.2 ∙ (one_solution text f.vars told.0 none.0.0 told.1 none.0.1 ∙ none.0.2) in
          absurd cc
    ]
values-fine f text values told fits (texts.Instance line) h = absurd h
values-fine f text values told fits (texts.Limit exceeded) h = absurd h
values-fine f text values told fits (texts.Map line) h = absurd h
values-fine f text values told fits (texts.Script place) h = absurd h

pub evaluation-fine : (text solution : List ℕ) (f : Formula) (values : List Bool) → IsReadable text f → ReportsValues solution f.vars (Some values) → IsHardModel f values
    → (x : TextRefusal) → IsEvaluationFaultBehind (text ∷ []) solution x → ⊥
evaluation-fine text solution f values reads told fits x h =
    let Here : Formula → Type 0 = λ g. IsEvaluationFault g solution x in
    values-fine f solution values told fits x (subst Here (one_instance text h.0 f h.1 reads) h.2)
