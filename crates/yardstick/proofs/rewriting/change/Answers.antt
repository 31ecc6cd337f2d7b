use Rattle.std.proofs.Common.{◌≡◌, ◌∙◌, ap, arith, false, refl}
use Rattle.mp_clauses.specs.Slots.{has_empty}
use Rattle.mp_store.specs.Held.{Held}
use Rattle.yardstick.proofs.Drawing.{none_empty}
use Rattle.yardstick.proofs.rewriting.change.Goals as goal

pub returns-clause-exact : goal.returns-clause-exact
returns-clause-exact c =
    let filled : has_empty c.args.added ≡ false = none_empty c.args.store.now.vars c.args.added c.requires.drawn in
    ap (λ (h : Held). h.slots) c.in_ok-rewrite.ensures.ok ∙ (rw (filled, c.in_ok-push.ensures.ok, c.new-gone.ensures) refl)

pub returns-clause-vars : goal.returns-clause-vars
returns-clause-vars c =
    let filled : has_empty c.args.added ≡ false = none_empty c.args.store.now.vars c.args.added c.requires.drawn in
    ap (λ (h : Held). h.vars) c.in_ok-rewrite.ensures.ok ∙ (rw (filled) (omega arith))

pub returns-clause-unrefuted : goal.returns-clause-unrefuted
returns-clause-unrefuted c =
    let filled : has_empty c.args.added ≡ false = none_empty c.args.store.now.vars c.args.added c.requires.drawn in
    ap (λ (h : Held). h.refuted) c.in_ok-rewrite.ensures.ok ∙ (rw (filled) c.requires.unrefuted)
