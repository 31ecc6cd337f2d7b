use Rattle.std.proofs.Common.{◌≡◌, ◌<◌, ◌∙◌, subst, sym, arith}
use Rattle.t_equiv_graph.proofs.Placed.{placed}
use Rattle.t_equiv_graph.proofs.spreading.numbers_by_spreading.Goals as goal

pub returns : goal.returns
returns c =
    let e : c.loop-node.node ≡ c.args.count = omega arith in
    placed c.args.count c.args.from.now c.args.to.now c.loop-node.numbers.items (c.loop-node.invariant.many ∙ e) c.requires.even c.requires.starts c.requires.ends (λ x i. c.loop-node.invariant.placed x (subst (λ m. x < m) (sym e) i))
