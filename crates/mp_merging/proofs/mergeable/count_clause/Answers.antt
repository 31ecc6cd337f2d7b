use Rattle.std.proofs.Common.{◌<◌, ◌∙◌, List, All, get_or, length, ap, sym, subst, arith}
use Rattle.mp_logic.specs.Literal.{Literal}
use Rattle.mp_clauses.specs.Places.{place_of}
use Rattle.mp_clauses.specs.Tables.{apart}
use Rattle.mp_merging.proofs.Tabled.{counted_more}
use Rattle.mp_merging.proofs.mergeable.count_clause.Goals as goal

pub loop-lit-preserved : goal.loop-lit-preserved
loop-lit-preserved c =
    let items = c.items-lit-items.result.now in
    let lit = c.lit-item.result in
    let n = length c.args.uses.now in
    let within = subst (λ (ls : List Literal). All (λ l. place_of l < n) ls) (sym c.items-lit-items.ensures) c.requires.within in
    let below : place_of (get_or items c.loop-lit.lit-index lit) < n = within c.loop-lit.lit-index lit c.loop-lit-test.true in
    let place = c.place-place.ensures ∙ ap place_of c.lit-item.is in
    counted_more items c.loop-lit.lit-index c.place-place.result c.one_more.result lit c.args.uses.now c.loop-lit.uses c.loop-lit-test.true (ap apart c.items-lit-items.ensures ∙ c.requires.apart) place (omega arith) c.one_more.ensures c.loop-lit.invariant
