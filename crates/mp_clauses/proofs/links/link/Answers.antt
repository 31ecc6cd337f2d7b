use Rattle.std.proofs.Common.{arith, ap, ◌∙◌}
use Rattle.std.proofs.lemmas.Grind.{common_steps}
use Rattle.mp_clauses.specs.Places.{place_of}
use Rattle.mp_clauses.proofs.Steps.{link-room, link-more}
use Rattle.mp_clauses.proofs.links.link.Goals as goal

pub push_spare-requires : goal.push_spare-requires
push_spare-requires c =
    let w = c.requires.within c.loop-lit.lit-index c.lit-item.result (omega arith) in
    let e = c.place.ensures ∙ ap place_of c.lit-item.is in
    link-room _ _ c.lit-item.result _ _ _ _ _ (omega arith) c.requires.distinct (omega (arith, w, e)) e c.index_mut-list.ensures.value c.requires.room c.loop-lit.invariant.each

pub loop-lit-preserved : goal.loop-lit-preserved
loop-lit-preserved c =
    let w = c.requires.within c.loop-lit.lit-index c.lit-item.result (omega arith) in
    let e = c.place.ensures ∙ ap place_of c.lit-item.is in
    record {
      len = grind (arith, common_steps);
      each = link-more _ _ c.lit-item.result _ _ _ _ _ _ (omega arith) c.requires.distinct (omega (arith, w, e)) e c.index_mut-list.ensures.value c.push_spare.ensures.items c.push_spare.ensures.spare c.loop-lit.invariant.each;
    }
