use Rattle.std.proofs.Common.{◌≡◌, [], ◌∷◌, ◌++◌, ap, subst, ◌∙◌}
use Rattle.mp_store.specs.Held.{IsUntouched}
use Rattle.mp_store.specs.Fixing.{fixing_of}
use Rattle.mp_store.specs.Rewriting.{after}
use Rattle.t_probe.proofs.changes.fix.Goals as goal

pub returns-clause-ok : goal.returns-clause-ok
returns-clause-ok c =
    let lits : c.push.new.self ≡ c.args.lit ∷ [] = c.in_ok-push.ensures.ok ∙ ap (λ x. x ++ c.args.lit ∷ []) c.new-lits.ensures in
    let is : c.in_ok-rewrite.rewrite ≡ fixing_of (c.args.lit ∷ []) c.args.store.now = c.in_ok-rewrite.ensures.exact ∙ ap (λ us. fixing_of us c.args.store.now) lits in
    subst (λ r. IsUntouched (after r c.args.store.now) c.rewrite.new.self) is c.in_ok-rewrite-2.ensures.ok
