use Rattle.std.proofs.Common.{◌≡◌, ◌∙◌, ◌++◌, List, subst, ap}
use Rattle.mp_logic.specs.Literal.{Literal}
use Rattle.mp_logic.specs.Normal.{SameLiterals}
use Rattle.mp_labels.proofs.NormalForms.{normal_form_is}
use Rattle.mp_labels.proofs.label_view.put_normal_form.Goals as goal

pub returns : goal.returns
returns c =
    let all : c.append_clause.new.made ≡ c.args.clause.now = c.in_ok-append_clause.ensures ∙ ap (λ (k : List Literal). k ++ c.args.clause.now) c.cut.ensures in
    normal_form_is c.args.clause.now c.normalise.new.clause c.normalise.ensures.rising
    (subst (λ (k : List Literal). SameLiterals k c.normalise.new.clause) all c.normalise.ensures.same)
