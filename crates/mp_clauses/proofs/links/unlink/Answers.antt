use Rattle.std.proofs.Common.{arith, ap, ◌∙◌, take}
use Rattle.std.proofs.lemmas.Grind.{common_steps}
use Rattle.mp_clauses.specs.Places.{place_of, has}
use Rattle.mp_clauses.specs.Tables.{at}
use Rattle.mp_clauses.proofs.Unlinked.{unlink-more, read-at}
use Rattle.mp_clauses.proofs.links.unlink.Goals as goal

pub take_out-requires : goal.take_out-requires
take_out-requires c =
    let w = c.requires.within c.loop-lit.lit-index c.lit-item.result (omega arith) in
    let e = c.place.ensures ∙ ap place_of c.lit-item.is in
    read-at c.loop-lit.lists.items c.place.result _ (at c.args.lists.now.items c.place.result) (has c.place.result (take c.loop-lit.lit-index c.args.clause.now)) c.args.id (omega (arith, w, e, c.loop-lit.invariant.len)) c.index_mut-list.ensures.value (c.requires.rising c.place.result) (c.loop-lit.invariant.items c.place.result)

pub loop-lit-preserved : goal.loop-lit-preserved
loop-lit-preserved c =
    let w = c.requires.within c.loop-lit.lit-index c.lit-item.result (omega arith) in
    let e = c.place.ensures ∙ ap place_of c.lit-item.is in
    record {
      len = grind (arith, common_steps);
      items = unlink-more _ _ c.lit-item.result _ _ _ _ _ _ (omega arith) (omega (arith, w, e, c.loop-lit.invariant.len)) e c.index_mut-list.ensures.value c.take_out.ensures.items c.loop-lit.invariant.items;
      spare = grind (arith, common_steps, c.loop-lit.invariant.spare);
    }
