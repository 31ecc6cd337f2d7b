-- How each mode reads its inputs and builds its texts.
use Rattle.std.proofs.Common.{◌≡◌, ◌≤◌, ℕ, Bool, List, [], ◌∷◌, ◌++◌, Option, Some, None, IfSome, length, refl, ap, sym, ◌∙◌, subst, inl, inr}
use Rattle.mp_host.specs.World.{World, Asked, SameButInput}
use Rattle.mp_host.specs.declared.host.Port.TheVariants as ports
use Rattle.mp_logic.specs.Carrying.{carried_back}
use Rattle.mp_logic.specs.Formula.{Formula}
use Rattle.mp_logic.specs.Truth.{IsHardModel, cost_of}
use Rattle.mp_map.specs.Maps.{map_text, reconstruction_of, upgraded}
use Rattle.mp_map.specs.Solutions.{Reports}
use Rattle.mp_map.specs.declared.maps.MapFile.{MapFile}
use Rattle.mp_map.specs.declared.solutions.Solution.{Solution}
use Rattle.mp_map.specs.declared.solutions.Values.{Values}
use Rattle.mp_engine.specs.declared.done.Done.{Done}
use Rattle.mp_modes.specs.EvaluateMode.{IsEvaluationFault, IsEvaluationFaultBehind, evaluate_mode, readable_input, values_input}
use Rattle.mp_modes.specs.Evaluating.{IsFalseAt, IsValuesFault, ReportsValues, evaluation_text}
use Rattle.mp_modes.specs.Inputs.{IsReadAs, IsTextOf, StopsAt}
use Rattle.mp_modes.specs.Instances.{IsReadable, IsReadingFault, IsWantOr}
use Rattle.mp_modes.specs.Limits.{longest}
use Rattle.mp_modes.specs.Outputs.{IsOneOutput, map_steps, steps_of}
use Rattle.mp_modes.specs.PreprocessMode.{instance_input, preprocess_mode, steps_of_map}
use Rattle.mp_modes.specs.Preprocessing.{Choices, Preprocesses, IsInstanceFault}
use Rattle.mp_modes.specs.ReconstructMode.{IsCarriedFault, IsFalseBack, IsMapFault, IsSolutionFault, IsSolutionFaultBehind, map_input, solution_input, reconstruct_mode}
use Rattle.mp_modes.specs.Reconstructing.{IsMapText, IsModelBack, reconstructed_text, values_back}
use Rattle.mp_modes.specs.Running.{Prepares, StopsReading}
use Rattle.mp_modes.specs.Traces.{Outside, Step, Creates, Sends}
use Rattle.mp_modes.specs.UpgradeMode.{upgrade_mode}
use Rattle.mp_modes.specs.WorkloadMode.{Works, workload_mode}
use Rattle.mp_modes.specs.declared.outputs.MapText.{MapText}
use Rattle.mp_script.specs.declared.scripts.Group.{Group}
use Rattle.mp_modes.specs.declared.outputs.Outputs.{Outputs}
use Rattle.mp_modes.specs.declared.refusal.Refusal.{Refusal}
use Rattle.mp_modes.specs.declared.refusal.Refusal.TheVariants as refusals
use Rattle.mp_modes.specs.declared.refusal.TextRefusal.{TextRefusal}
use Rattle.mp_modes.specs.declared.refusal.TextRefusal.TheVariants as texts
use Rattle.mp_modes.proofs.Reading.{HasRead, none_read, one_read, next_stops, next_refused, memory_wants, stops_more, texts_built, unread_stops}
use Rattle.mp_modes.proofs.Readings.{evaluation-fine, map-fine, solution-fine, tried-fine}
use Rattle.mp_modes.proofs.Refused.{accepted-fine, readable-fine}

-- `preprocess` could not read its file
pub preprocess_unread : (file : List ℕ) (chosen : Choices) (map : Option (List ℕ)) (old new : Outside) (e : Refusal)
    → StopsAt (λ _ _. ⊥) (old.world.file file) e → SameButInput old.world new.world → Asked old.asked new.asked (file ∷ []) → StopsReading (preprocess_mode file chosen map) old new e
preprocess_unread file chosen map old new e cause frame names =
    next_stops (preprocess_mode file chosen map) old old new [] [] (instance_input file) [] e refl (none_read old) (unread_stops IsInstanceFault (old.world.file file) e cause) frame names

-- its text is refused
pub preprocess_refused : (file : List ℕ) (chosen : Choices) (map : Option (List ℕ)) (old new : Outside) (e : Refusal) (text : List ℕ)
    → IsTextOf old.world file text → length text ≤ longest → IsWantOr (IsInstanceFault text) e → SameButInput old.world new.world → Asked old.asked new.asked (file ∷ [])
    → StopsReading (preprocess_mode file chosen map) old new e
preprocess_refused file chosen map old new e text told fits cause frame names =
    next_refused (preprocess_mode file chosen map) old old new [] [] (instance_input file) [] text (IsInstanceFault text) e refl (none_read old) told fits (λ x h. h) cause frame names

-- its texts are built
pub preprocess_built : (file : List ℕ) (chosen : Choices) (name : Option (List ℕ)) (old new : Outside) (text : List ℕ) (way : MapFile) (run : Done) (outputs : Outputs)
    → IsTextOf old.world file text → length text ≤ longest → map_steps outputs.map ≡ steps_of_map name (map_text way) → Preprocesses chosen run text (map_text way) outputs.out outputs.log → outputs.done ≡ Some run
    → SameButInput old.world new.world → Asked old.asked new.asked (file ∷ []) → Prepares (preprocess_mode file chosen name) old new outputs
preprocess_built file chosen name old new text way run outputs told fits mapped right is frame names =
    let mode = preprocess_mode file chosen name in
    let steps = ap (λ (steps : List Step). steps ++ Sends ports.Out outputs.out ∷ Sends ports.Log outputs.log ∷ []) mapped in
    let Right : Option Done → Type 0 = λ d. mode.IsRight (text ∷ []) d (steps_of outputs) in
    texts_built mode old new (text ∷ []) outputs
    (one_read old old new [] [] (instance_input file) text (none_read old) told (record { fits = fits; unrefused = accepted-fine text right.original right.accepted }) frame names)
    (subst Right (sym is) (map_text way, outputs.out, outputs.log, right, steps))

-- an instance was read
pub instance_read : (file : List ℕ) (old mid : Outside) (f : Formula) (found : IsReadAs old.world file (λ text. IsReadable text f)) → SameButInput old.world mid.world → Asked old.asked mid.asked (file ∷ [])
    → HasRead old mid (readable_input file ∷ []) (found.0 ∷ [])
instance_read file old mid f found frame names =
    one_read old old mid [] [] (readable_input file) found.0 (none_read old) found.1 (record { fits = found.2; unrefused = readable-fine found.0 f found.3 }) frame names

-- `evaluate` got no instance
pub evaluate_unread : (file solution : List ℕ) (old new : Outside) (e : Refusal) → StopsAt IsReadingFault (old.world.file file) e → SameButInput old.world new.world → Asked old.asked new.asked (file ∷ [])
    → StopsReading (evaluate_mode file solution) old new e
evaluate_unread file solution old new e cause frame names = next_stops (evaluate_mode file solution) old old new [] [] (readable_input file) (values_input solution ∷ []) e refl (none_read old) cause frame names

-- a fault of the values is one of the evaluation
values_fault : (f : Formula) (text : List ℕ) (x : TextRefusal) → IsValuesFault f.vars text x → IsEvaluationFault f text x
values_fault f text (texts.Solution line) h = h
values_fault f text (texts.NotModel clause) h = absurd h
values_fault f text (texts.Instance line) h = absurd h
values_fault f text (texts.Limit exceeded) h = absurd h
values_fault f text (texts.Map line) h = absurd h
values_fault f text (texts.Script place) h = absurd h

-- it got no values
pub evaluate_unanswered : (file solution : List ℕ) (old mid new : Outside) (e : Refusal) (f : Formula) (vars : ℕ) → vars ≡ f.vars → IsReadAs old.world file (λ text. IsReadable text f)
    → SameButInput old.world mid.world → Asked old.asked mid.asked (file ∷ []) → StopsAt (IsValuesFault vars) (mid.world.file solution) e
    → SameButInput mid.world new.world → Asked mid.asked new.asked (solution ∷ []) → StopsReading (evaluate_mode file solution) old new e
evaluate_unanswered file solution old mid new e f vars same found frame names cause frame' names' =
    let At : ℕ → Type 0 = λ n. StopsAt (IsValuesFault n) (mid.world.file solution) e in
    next_stops (evaluate_mode file solution) old mid new (readable_input file ∷ []) (found.0 ∷ []) (values_input solution) [] e refl (instance_read file old mid f found frame names)
    (stops_more (IsValuesFault f.vars) (IsEvaluationFaultBehind (found.0 ∷ [])) (mid.world.file solution) e (λ text x h. (f, found.3, values_fault f text x h)) (subst At same cause)) frame' names'

-- values that make a clause false are a fault of the evaluation
false_fault : (f : Formula) (text : List ℕ) (values : List Bool) → ReportsValues text f.vars (Some values) → (x : TextRefusal) → IsFalseAt f values x → IsEvaluationFault f text x
false_fault f text values told (texts.NotModel clause) h = (values, told, h)
false_fault f text values told (texts.Solution line) h = absurd h
false_fault f text values told (texts.Instance line) h = absurd h
false_fault f text values told (texts.Limit exceeded) h = absurd h
false_fault f text values told (texts.Map line) h = absurd h
false_fault f text values told (texts.Script place) h = absurd h

-- its values are refused
pub evaluate_refused : (file solution : List ℕ) (old mid new : Outside) (e : Refusal) (f : Formula) (vars : ℕ) (values : List Bool) → vars ≡ f.vars → IsReadAs old.world file (λ text. IsReadable text f)
    → SameButInput old.world mid.world → Asked old.asked mid.asked (file ∷ []) → IsReadAs mid.world solution (λ text. ReportsValues text vars (Some values)) → IsWantOr (IsFalseAt f values) e
    → SameButInput mid.world new.world → Asked mid.asked new.asked (solution ∷ []) → StopsReading (evaluate_mode file solution) old new e
evaluate_refused file solution old mid new e f vars values same found frame names told cause frame' names' =
    let Told : ℕ → Type 0 = λ n. ReportsValues told.0 n (Some values) in
    next_refused (evaluate_mode file solution) old mid new (readable_input file ∷ []) (found.0 ∷ []) (values_input solution) [] told.0 (IsFalseAt f values) e refl (instance_read file old mid f found frame names) told.1 told.2
    (λ x h. (f, found.3, false_fault f told.0 values (subst Told same told.3) x h)) cause frame' names'

-- its text is built
pub evaluate_built : (file solution : List ℕ) (old mid new : Outside) (f : Formula) (vars : ℕ) (values : List Bool) (out : List ℕ) (outputs : Outputs) → vars ≡ f.vars → IsReadAs old.world file (λ text. IsReadable text f)
    → SameButInput old.world mid.world → Asked old.asked mid.asked (file ∷ []) → IsReadAs mid.world solution (λ text. ReportsValues text vars (Some values))
    → SameButInput mid.world new.world → Asked mid.asked new.asked (solution ∷ []) → IsHardModel f values → out ≡ evaluation_text (cost_of f values) → IsOneOutput out outputs.done (steps_of outputs)
    → Prepares (evaluate_mode file solution) old new outputs
evaluate_built file solution old mid new f vars values out outputs same found frame names told frame' names' model text one =
    let Told : ℕ → Type 0 = λ n. ReportsValues told.0 n (Some values) in
    let reports = subst Told same told.3 in
    texts_built (evaluate_mode file solution) old new (found.0 ∷ (told.0 ∷ [])) outputs
    (one_read old mid new (readable_input file ∷ []) (found.0 ∷ []) (values_input solution) told.0 (instance_read file old mid f found frame names) told.1
    (record { fits = told.2; unrefused = evaluation-fine found.0 told.0 f values found.3 reports model }) frame' names')
    (out, record { original = f; values = values; readable = found.3; reports = reports; model = model; out_is = text }, one)

-- the map was read first
map_read : (map : List ℕ) (old mid : Outside) (way : MapFile) (found : IsReadAs old.world map (λ text. IsMapText text way)) → SameButInput old.world mid.world → Asked old.asked mid.asked (map ∷ [])
    → HasRead old mid (map_input map ∷ []) (found.0 ∷ [])
map_read map old mid way found frame names = one_read old old mid [] [] (map_input map) found.0 (none_read old) found.1 (record { fits = found.2; unrefused = map-fine found.0 way found.3 }) frame names

-- `reconstruct` got no map
pub reconstruct_unmapped : (file map : List ℕ) (form : Values) (old new : Outside) (e : Refusal) → StopsAt IsMapFault (old.world.file map) e → SameButInput old.world new.world → Asked old.asked new.asked (map ∷ [])
    → StopsReading (reconstruct_mode file map None form) old new e
reconstruct_unmapped file map form old new e cause frame names = next_stops (reconstruct_mode file map None form) old old new [] [] (map_input map) (solution_input file ∷ []) e refl (none_read old) cause frame names

-- it got no solution
pub reconstruct_unanswered : (file map : List ℕ) (form : Values) (old mid new : Outside) (e : Refusal) (way : MapFile) → IsReadAs old.world map (λ text. IsMapText text way)
    → SameButInput old.world mid.world → Asked old.asked mid.asked (map ∷ []) → StopsAt (IsSolutionFault way.written) (mid.world.file file) e
    → SameButInput mid.world new.world → Asked mid.asked new.asked (file ∷ []) → StopsReading (reconstruct_mode file map None form) old new e
reconstruct_unanswered file map form old mid new e way found frame names cause frame' names' =
    next_stops (reconstruct_mode file map None form) old mid new (map_input map ∷ []) (found.0 ∷ []) (solution_input file) [] e refl (map_read map old mid way found frame names)
    (stops_more (IsSolutionFault way.written) (IsSolutionFaultBehind (found.0 ∷ [])) (mid.world.file file) e (λ text x h. (way, found.3, h)) cause) frame' names'

both_read : (file map : List ℕ) (old mid new : Outside) (way : MapFile) (s : Solution) (found : IsReadAs old.world map (λ text. IsMapText text way)) → SameButInput old.world mid.world → Asked old.asked mid.asked (map ∷ [])
    → (solved : IsReadAs mid.world file (λ text. Reports text way.written s)) → SameButInput mid.world new.world → Asked mid.asked new.asked (file ∷ [])
    → HasRead old new (map_input map ∷ (solution_input file ∷ [])) (found.0 ∷ (solved.0 ∷ []))
both_read file map old mid new way s found frame names solved frame' names' =
    one_read old mid new (map_input map ∷ []) (found.0 ∷ []) (solution_input file) solved.0 (map_read map old mid way found frame names) solved.1
    (record { fits = solved.2; unrefused = solution-fine found.0 solved.0 way s found.3 solved.3 }) frame' names'

-- it got both, and no memory for its output
pub reconstruct_wants : (file map : List ℕ) (form : Values) (old mid new : Outside) (way : MapFile) (s : Solution) → IsReadAs old.world map (λ text. IsMapText text way)
    → SameButInput old.world mid.world → Asked old.asked mid.asked (map ∷ []) → IsReadAs mid.world file (λ text. Reports text way.written s)
    → SameButInput mid.world new.world → Asked mid.asked new.asked (file ∷ []) → StopsReading (reconstruct_mode file map None form) old new refusals.NoMemory
reconstruct_wants file map form old mid new way s found frame names solved frame' names' =
    memory_wants (reconstruct_mode file map None form) old new (found.0 ∷ (solved.0 ∷ [])) (both_read file map old mid new way s found frame names solved frame' names')

-- its text is built
pub reconstruct_built : (file map : List ℕ) (form : Values) (old mid new : Outside) (way : MapFile) (s : Solution) (out : List ℕ) (outputs : Outputs) → IsReadAs old.world map (λ text. IsMapText text way)
    → SameButInput old.world mid.world → Asked old.asked mid.asked (map ∷ []) → IsReadAs mid.world file (λ text. Reports text way.written s)
    → SameButInput mid.world new.world → Asked mid.asked new.asked (file ∷ []) → out ≡ reconstructed_text None way s form → IsOneOutput out outputs.done (steps_of outputs)
    → Prepares (reconstruct_mode file map None form) old new outputs
reconstruct_built file map form old mid new way s out outputs found frame names solved frame' names' text one =
    texts_built (reconstruct_mode file map None form) old new (found.0 ∷ (solved.0 ∷ [])) outputs (both_read file map old mid new way s found frame names solved frame' names')
    (out, record { original = None; way = way; reported = s; original_is = refl; map_is = found.3; reports = solved.3; model = tt; out_is = text }, one)

-- with the original, it got no instance
pub tried_unread : (file map original : List ℕ) (form : Values) (old new : Outside) (e : Refusal) → StopsAt IsReadingFault (old.world.file original) e → SameButInput old.world new.world → Asked old.asked new.asked (original ∷ [])
    → StopsReading (reconstruct_mode file map (Some original) form) old new e
tried_unread file map original form old new e cause frame names =
    next_stops (reconstruct_mode file map (Some original) form) old old new [] [] (readable_input original) (map_input map ∷ (solution_input file ∷ [])) e refl (none_read old) cause frame names

-- it got no map
pub tried_unmapped : (file map original : List ℕ) (form : Values) (old one new : Outside) (e : Refusal) (f : Formula) → IsReadAs old.world original (λ text. IsReadable text f)
    → SameButInput old.world one.world → Asked old.asked one.asked (original ∷ []) → StopsAt IsMapFault (one.world.file map) e
    → SameButInput one.world new.world → Asked one.asked new.asked (map ∷ []) → StopsReading (reconstruct_mode file map (Some original) form) old new e
tried_unmapped file map original form old one new e f read frame names cause frame' names' =
    next_stops (reconstruct_mode file map (Some original) form) old one new (readable_input original ∷ []) (read.0 ∷ []) (map_input map) (solution_input file ∷ []) e refl (instance_read original old one f read frame names) cause frame' names'

-- the original was read, and then the map
second_read : (map original : List ℕ) (old one two : Outside) (f : Formula) (way : MapFile) (read : IsReadAs old.world original (λ text. IsReadable text f)) → SameButInput old.world one.world → Asked old.asked one.asked (original ∷ [])
    → (found : IsReadAs one.world map (λ text. IsMapText text way)) → SameButInput one.world two.world → Asked one.asked two.asked (map ∷ [])
    → HasRead old two (readable_input original ∷ (map_input map ∷ [])) (read.0 ∷ (found.0 ∷ []))
second_read map original old one two f way read frame names found frame' names' =
    one_read old one two (readable_input original ∷ []) (read.0 ∷ []) (map_input map) found.0 (instance_read original old one f read frame names) found.1
    (record { fits = found.2; unrefused = map-fine found.0 way found.3 }) frame' names'

-- a fault of the solution is one where it is tried
solution_fault_is : (f : Formula) (way : MapFile) (text : List ℕ) (x : TextRefusal) → IsSolutionFault way.written text x → IsCarriedFault f way text x
solution_fault_is f way text (texts.Solution line) h = h
solution_fault_is f way text (texts.NotModel clause) h = absurd h
solution_fault_is f way text (texts.Instance line) h = absurd h
solution_fault_is f way text (texts.Limit exceeded) h = absurd h
solution_fault_is f way text (texts.Map line) h = absurd h
solution_fault_is f way text (texts.Script place) h = absurd h

-- it got no solution
pub tried_unanswered : (file map original : List ℕ) (form : Values) (old one two new : Outside) (e : Refusal) (f : Formula) (way : MapFile) → IsReadAs old.world original (λ text. IsReadable text f)
    → SameButInput old.world one.world → Asked old.asked one.asked (original ∷ []) → IsReadAs one.world map (λ text. IsMapText text way) → SameButInput one.world two.world → Asked one.asked two.asked (map ∷ [])
    → StopsAt (IsSolutionFault way.written) (two.world.file file) e → SameButInput two.world new.world → Asked two.asked new.asked (file ∷ [])
    → StopsReading (reconstruct_mode file map (Some original) form) old new e
tried_unanswered file map original form old one two new e f way read frame names found frame' names' cause frame'' names'' =
    next_stops (reconstruct_mode file map (Some original) form) old two new (readable_input original ∷ (map_input map ∷ [])) (read.0 ∷ (found.0 ∷ [])) (solution_input file) [] e refl
    (second_read map original old one two f way read frame names found frame' names')
    (stops_more (IsSolutionFault way.written) (IsSolutionFaultBehind (read.0 ∷ (found.0 ∷ []))) (two.world.file file) e (λ text x h. (f, way, read.3, found.3, solution_fault_is f way text x h)) cause) frame'' names''

-- values that make a clause of the original false are a fault
false_back_fault : (f : Formula) (way : MapFile) (text : List ℕ) (s : Solution) → Reports text way.written s → (x : TextRefusal) → IsFalseBack f way s x → IsCarriedFault f way text x
false_back_fault f way text s reports (texts.NotModel clause) h = (s, reports, h)
false_back_fault f way text s reports (texts.Solution line) h = absurd h.2
false_back_fault f way text s reports (texts.Instance line) h = absurd h.2
false_back_fault f way text s reports (texts.Limit exceeded) h = absurd h.2
false_back_fault f way text s reports (texts.Map line) h = absurd h.2
false_back_fault f way text s reports (texts.Script place) h = absurd h.2

-- its values are refused
pub tried_refused : (file map original : List ℕ) (form : Values) (old one two new : Outside) (e : Refusal) (f : Formula) (way : MapFile) (s : Solution) → IsReadAs old.world original (λ text. IsReadable text f)
    → SameButInput old.world one.world → Asked old.asked one.asked (original ∷ []) → IsReadAs one.world map (λ text. IsMapText text way) → SameButInput one.world two.world → Asked one.asked two.asked (map ∷ [])
    → IsReadAs two.world file (λ text. Reports text way.written s) → IsWantOr (IsFalseBack f way s) e → SameButInput two.world new.world → Asked two.asked new.asked (file ∷ [])
    → StopsReading (reconstruct_mode file map (Some original) form) old new e
tried_refused file map original form old one two new e f way s read frame names found frame' names' solved cause frame'' names'' =
    next_refused (reconstruct_mode file map (Some original) form) old two new (readable_input original ∷ (map_input map ∷ [])) (read.0 ∷ (found.0 ∷ [])) (solution_input file) [] solved.0 (IsFalseBack f way s) e refl
    (second_read map original old one two f way read frame names found frame' names') solved.1 solved.2 (λ x h. (f, way, read.3, found.3, false_back_fault f way solved.0 s solved.3 x h)) cause frame'' names''

-- its text is built
pub tried_built : (file map original : List ℕ) (form : Values) (old one two new : Outside) (f : Formula) (way : MapFile) (s : Solution) (out : List ℕ) (outputs : Outputs) → IsReadAs old.world original (λ text. IsReadable text f)
    → SameButInput old.world one.world → Asked old.asked one.asked (original ∷ []) → IsReadAs one.world map (λ text. IsMapText text way) → SameButInput one.world two.world → Asked one.asked two.asked (map ∷ [])
    → IsReadAs two.world file (λ text. Reports text way.written s) → SameButInput two.world new.world → Asked two.asked new.asked (file ∷ [])
    → IsModelBack (Some f) (values_back way s) → out ≡ reconstructed_text (Some f) way s form → IsOneOutput out outputs.done (steps_of outputs)
    → Prepares (reconstruct_mode file map (Some original) form) old new outputs
tried_built file map original form old one two new f way s out outputs read frame names found frame' names' solved frame'' names'' model text single =
    texts_built (reconstruct_mode file map (Some original) form) old new (read.0 ∷ (found.0 ∷ (solved.0 ∷ []))) outputs
    (one_read old two new (readable_input original ∷ (map_input map ∷ [])) (read.0 ∷ (found.0 ∷ [])) (solution_input file) solved.0 (second_read map original old one two f way read frame names found frame' names') solved.1
    (record { fits = solved.2; unrefused = tried-fine read.0 found.0 solved.0 f way s read.3 found.3 solved.3 model }) frame'' names'')
    (out, record { original = Some f; way = way; reported = s; original_is = read.3; map_is = found.3; reports = solved.3; model = model; out_is = text }, single)

-- `upgrade` got no map
pub upgrade_unread : (file map : List ℕ) (old new : Outside) (e : Refusal) → StopsAt IsMapFault (old.world.file file) e → SameButInput old.world new.world → Asked old.asked new.asked (file ∷ [])
    → StopsReading (upgrade_mode file map) old new e
upgrade_unread file map old new e cause frame names = next_stops (upgrade_mode file map) old old new [] [] (map_input file) [] e refl (none_read old) cause frame names

-- it got no memory for its text
pub upgrade_wants : (file map : List ℕ) (old new : Outside) (way : MapFile) → IsReadAs old.world file (λ text. IsMapText text way) → SameButInput old.world new.world → Asked old.asked new.asked (file ∷ [])
    → StopsReading (upgrade_mode file map) old new refusals.NoMemory
upgrade_wants file map old new way found frame names = memory_wants (upgrade_mode file map) old new (found.0 ∷ []) (map_read file old new way found frame names)

-- its text is built
pub upgrade_built : (file map : List ℕ) (old new : Outside) (way : MapFile) (outputs : Outputs) → IsReadAs old.world file (λ text. IsMapText text way) → SameButInput old.world new.world → Asked old.asked new.asked (file ∷ [])
    → outputs.done ≡ None → steps_of outputs ≡ Creates map ∷ (Sends ports.Map (map_text (upgraded way)) ∷ (Sends ports.Out [] ∷ (Sends ports.Log [] ∷ []))) → Prepares (upgrade_mode file map) old new outputs
upgrade_built file map old new way outputs found frame names none steps =
    texts_built (upgrade_mode file map) old new (found.0 ∷ []) outputs (map_read file old new way found frame names) (way, found.3, none, steps)

-- `workload` got no memory
pub workload_wants : (tasks : ℕ) (script : List Group) (old : Outside) → StopsReading (workload_mode tasks script) old old refusals.NoMemory
workload_wants tasks script old = memory_wants (workload_mode tasks script) old old [] (none_read old)

-- its texts are built
pub workload_built : (tasks : ℕ) (script : List Group) (old : Outside) (run : Done) (outputs : Outputs) → Works tasks script run outputs.out outputs.log → outputs.map ≡ None → outputs.done ≡ Some run
    → Prepares (workload_mode tasks script) old old outputs
workload_built tasks script old run outputs right unmapped is =
    let mode = workload_mode tasks script in
    let Right : Option Done → Type 0 = λ d. mode.IsRight [] d (steps_of outputs) in
    let steps = ap (λ (m : Option MapText). map_steps m ++ Sends ports.Out outputs.out ∷ Sends ports.Log outputs.log ∷ []) unmapped in
    texts_built mode old old [] outputs (none_read old) (subst Right (sym is) (outputs.out, outputs.log, right, steps))
