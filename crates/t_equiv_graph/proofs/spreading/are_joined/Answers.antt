use Rattle.std.proofs.Common.{Bool, List, subst, sym}
use Rattle.t_equiv_graph.specs.Spreads.{IsSpread}
use Rattle.t_equiv_graph.proofs.Placed.{joined-by}
use Rattle.t_equiv_graph.proofs.spreading.are_joined.Goals as goal

pub returns : goal.returns
returns c =
    let q : IsSpread c.args.count c.args.from.now c.args.to.now c.args.other c.as_slice.result.now = subst (λ (s : List Bool). IsSpread c.args.count c.args.from.now c.args.to.now c.args.other s) (sym c.as_slice.ensures.value) c.in_ok-back.ensures in
    let j = joined-by c.args.count c.args.from.now c.args.to.now c.args.node c.args.other c.args.seen.now c.as_slice.result.now c.requires.seen q in
    (λ t. j.0 (c.are_both-both.ensures.0 t), λ k. c.are_both-both.ensures.1 (j.1 k))
