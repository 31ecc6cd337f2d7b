use Rattle.std.proofs.Common.{◌≡◌, ◌∙◌, List, ℕ, All, map, refl, sym, subst, true}
use Rattle.mp_clauses.specs.Slots.{is_live}
use Rattle.mp_store.specs.declared.rewrite.Rewrite.{Rewrite}
use Rattle.t_equiv.specs.Substitutions.{AreImageClauses, IsImageRewrite}
use Rattle.t_equiv.proofs.Kept.{moved-live, rewrite-valid}
use Rattle.t_equiv.proofs.Rounds.{pairs-known}
use Rattle.t_equiv.proofs.substitution.substitute.Goals as goal

pub image_clauses-requires-clause-live : goal.image_clauses-requires-clause-live
image_clauses-requires-clause-live c = subst (All (λ id. is_live c.args.store.now.slots id ≡ true)) (sym (c.items.ensures ∙ c.in_ok-gone.ensures)) (moved-live c.args.images.now c.args.store.now.slots)

pub image_repairs-requires : goal.image_repairs-requires
image_repairs-requires c = pairs-known c.args.replaced.now c.requires.sound.substitution.from_one

pub rewrite-requires-clause-valid : goal.rewrite-requires-clause-valid
rewrite-requires-clause-valid c =
    let vs : List ℕ = map (λ (p : ℕ × ℕ). p.1) c.args.replaced.now in
    let r : Rewrite = record { gone = c.in_ok-gone.gone; added = c.in_ok-added.added; costs = c.in_ok-pooled.pooled.costs; shift = c.in_ok-pooled.pooled.shift; repairs = c.in_ok-repairs.repairs; fresh = 0 } in
    let is : IsImageRewrite c.args.images.now vs c.args.store.now r = record {
      gone = c.in_ok-gone.ensures;
      added = subst (λ (ids : List ℕ). AreImageClauses c.args.images.now c.args.store.now.slots ids c.in_ok-added.added) c.items.ensures c.in_ok-added.ensures;
      pooled = c.in_ok-pooled.ensures;
      repairs = c.in_ok-repairs.ensures;
      fresh = refl;
    } in
    rewrite-valid c.args.images.now vs c.args.store.now r c.vars.ensures.sound c.requires.sound is

pub returns-clause-ok : goal.returns-clause-ok
returns-clause-ok c =
    let vs : List ℕ = map (λ (p : ℕ × ℕ). p.1) c.args.replaced.now in
    let r : Rewrite = record { gone = c.in_ok-gone.gone; added = c.in_ok-added.added; costs = c.in_ok-pooled.pooled.costs; shift = c.in_ok-pooled.pooled.shift; repairs = c.in_ok-repairs.repairs; fresh = 0 } in
    let is : IsImageRewrite c.args.images.now vs c.args.store.now r = record {
      gone = c.in_ok-gone.ensures;
      added = subst (λ (ids : List ℕ). AreImageClauses c.args.images.now c.args.store.now.slots ids c.in_ok-added.added) c.items.ensures c.in_ok-added.ensures;
      pooled = c.in_ok-pooled.ensures;
      repairs = c.in_ok-repairs.ensures;
      fresh = refl;
    } in
    record { rewrite = r; is = is; applied = c.in_ok-rewrite.ensures.ok }
