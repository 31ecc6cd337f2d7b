use Rattle.std.proofs.Common.{◌≡◌, get_or, ◌∙◌, arith}
use Rattle.std.proofs.lemmas.List.{get_or_default}
use Rattle.t_subsume.proofs.Filtered.{covers-before, covers-own}
use Rattle.t_subsume.proofs.filter.put_bits.Goals as goal

pub returns-then-place-len-clause-before : goal.returns-then-place-len-clause-before
returns-then-place-len-clause-before c =
    let was : c.index_mut.result.now ≡ get_or c.args.wide.now.items c.args.place 0 = c.index_mut.ensures.value ∙ get_or_default c.args.wide.now.items c.args.place c.index_mut.result.now 0 (omega (arith, c.if-place-len.true, c.len.ensures)) in
    rw was (covers-before c.args.wide.now.items c.args.place c.args.bits)

pub returns-then-place-len-clause-own : goal.returns-then-place-len-clause-own
returns-then-place-len-clause-own c =
    let was : c.index_mut.result.now ≡ get_or c.args.wide.now.items c.args.place 0 = c.index_mut.ensures.value ∙ get_or_default c.args.wide.now.items c.args.place c.index_mut.result.now 0 (omega (arith, c.if-place-len.true, c.len.ensures)) in
    rw was (covers-own c.args.wide.now.items c.args.place c.args.bits)
