use Rattle.std.proofs.Common.{◌≡◌, ◌<◌, length, sym, ◌∙◌, ap, subst, arith}
use Rattle.t_subsume.specs.Filtering.{Tell}
use Rattle.mp_clauses.specs.Signatures.{signature_at}
use Rattle.t_subsume.proofs.Filtered.{tell-dead, tell-live}
use Rattle.t_subsume.proofs.filter.Filter.of.Goals.{then-live, else-live}
use Rattle.t_subsume.proofs.filter.Filter.of.Goals as goal

pub loop-id-preserved : goal.loop-id-preserved
loop-id-preserved c =
    let slots = c.args.store.now.slots in
    let lt : c.loop-id.id < length slots = omega (arith, c.loop-id-test.true, c.next_id-upto.ensures) in
    elim c.if-live.branch [
      | then-live w ↦
          rw (w.wide-is, w.pairs-is)
          (tell-live c.args.from c.loop-id.id w.signature.result w.clause.result.now c.loop-id.wide.items c.loop-id.pairs.items w.note.new.wide.items w.note.new.pairs.items slots lt (sym w.clause.ensures) (w.signature.ensures ∙ ap signature_at (sym w.clause.ensures)) w.note.ensures.lens.1 w.note.ensures.wide w.note.ensures.pairs w.note.ensures.covered w.note.ensures.counted c.loop-id.invariant)
      | else-live w ↦ rw (w.wide-is, w.pairs-is) (tell-dead c.args.from c.loop-id.id c.loop-id.wide.items c.loop-id.pairs.items slots lt (sym c.live.ensures ∙ w.if-live.false) c.loop-id.invariant)
    ]

pub returns : goal.returns
returns c =
    let inside = c.loop-id.invariant.within in
    let same : c.loop-id.id ≡ c.next_id-upto.result = omega (arith, c.loop-id-test.false, inside, c.next_id-upto.ensures) in
    subst (λ n. Tell c.args.from n c.loop-id.wide.items c.loop-id.pairs.items c.args.store.now.slots) same c.loop-id.invariant
