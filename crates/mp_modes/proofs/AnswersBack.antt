-- What is printed for an answer to an instance that `preprocess` wrote.
use Rattle.std.proofs.Common.{◌≡◌, ℕ, Bool, List, Option, Some, None, ap, ◌∙◌, subst}
use Rattle.std.specs.Option.{option_map}
use Rattle.mp_logic.specs.Carrying.{carried_back}
use Rattle.mp_logic.specs.Formula.{Formula}
use Rattle.mp_logic.proofs.Optimal.{optimum_comes_back}
use Rattle.mp_map.specs.Maps.{reconstruction_of}
use Rattle.mp_map.specs.Solutions.{solution_text}
use Rattle.mp_map.specs.declared.maps.MapFile.{MapFile}
use Rattle.mp_map.proofs.WholeTexts.{one_spelling}
use Rattle.mp_modes.specs.Instances.{IsReadable}
use Rattle.mp_modes.specs.Reconstructing.{IsOriginal, cost_back, reconstructed_text}
use Rattle.mp_modes.specs.RoundTrip.{AnswersComeBack}
use Rattle.mp_modes.proofs.Refused.{one_instance}

-- the original that is read again is the one that the text denotes
read_again : (text : List ℕ) (f : Formula) (original : Option Formula) → IsReadable text f → IsOriginal (Some text) original → original ≡ Some f
read_again text f None is h = absurd h
read_again text f (Some g) is h = ap (λ (x : Formula). let o : Option Formula = Some x in o) (one_instance text g f h is)

pub answers_come_back : AnswersComeBack
answers_come_back chosen done text map instance_out log form again solution out values p r told model =
    let same : r.way ≡ p.way = one_spelling r.way p.way r.map_is.valid p.map_valid (r.map_is.spelled ∙ p.map_is) in
    let printed : out ≡ reconstructed_text r.original p.way r.reported form = r.out_is ∙ ap (λ (w : MapFile). reconstructed_text r.original w r.reported form) same in
    let Printed : Option (List Bool) → List ℕ = λ v. solution_text r.reported.answer (option_map (carried_back (reconstruction_of p.way)) v) form (cost_back r.original (option_map (carried_back (reconstruction_of p.way)) v)) in (
      printed ∙ ap Printed told,
      λ is.
          let Read : Option (List ℕ) → Type 0 = λ o. IsOriginal o r.original in
          read_again text p.original r.original (record { denotes = p.accepted.denotes; within = p.accepted.within }) (subst Read is r.original_is),
      (p.carries.models values model).0,
      (p.carries.models values model).1,
      λ best.
          let back = optimum_comes_back p.original p.written.«instance» (reconstruction_of p.way) values p.carries model best in
          (back.1, back.2),
    )
