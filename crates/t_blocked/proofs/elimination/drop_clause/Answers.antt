use Rattle.std.proofs.Common.{[], ◌∷◌, ◌++◌, ap, ◌∙◌}
use Rattle.mp_logic.specs.Rewrites.{set_repair}
use Rattle.t_blocked.proofs.Dropped.{dropping-fits}
use Rattle.t_blocked.proofs.elimination.drop_clause.Goals as goal

pub replace-requires-clause-valid : goal.replace-requires-clause-valid
replace-requires-clause-valid c =
    let gone = c.in_ok-push.ensures.ok ∙ ap (λ x. x ++ c.args.id ∷ []) c.new-gone.ensures in
    let repair = c.in_ok-repair_setting.ensures ∙ ap (set_repair c.args.lit) c.literals.ensures in
    let repairs = c.in_ok-push-2.ensures.ok ∙ (ap (λ x. x ++ c.in_ok-repair_setting.field-0 ∷ []) c.new-repairs.ensures ∙ ap (λ r. r ∷ []) repair) in
    rw (gone, c.new.ensures, repairs) (dropping-fits c.args.store.now c.args.id c.args.lit c.args.hand.now c.vars.ensures.sound c.requires.live c.requires.has)

pub returns-clause-ok : goal.returns-clause-ok
returns-clause-ok c =
    let gone = c.in_ok-push.ensures.ok ∙ ap (λ x. x ++ c.args.id ∷ []) c.new-gone.ensures in
    let repair = c.in_ok-repair_setting.ensures ∙ ap (set_repair c.args.lit) c.literals.ensures in
    let repairs = c.in_ok-push-2.ensures.ok ∙ (ap (λ x. x ++ c.in_ok-repair_setting.field-0 ∷ []) c.new-repairs.ensures ∙ ap (λ r. r ∷ []) repair) in
    rw (gone, c.new.ensures, repairs) at c.in_ok-replace.ensures.ok
