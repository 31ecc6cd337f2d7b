use Rattle.std.proofs.Common.{◌≡◌, ◌<◌, length, sym, ◌∙◌, ap, arith}
use Rattle.std.specs.Prelude.{is_some}
use Rattle.std.proofs.lemmas.Bool.{true≢false}
use Rattle.t_subsume.proofs.Nearby.{apart-dead, apart-live}
use Rattle.t_subsume.proofs.Subsuming.{clause-within}
use Rattle.t_subsume.proofs.near.Near.since.Goals.{then-live, else-live}
use Rattle.t_subsume.proofs.near.Near.since.Goals as goal

pub touch_clause-requires-clause-within : goal.touch_clause-requires-clause-within
touch_clause-requires-clause-within c = clause-within c.args.store.now c.loop-id.id c.clause.result.now c.vars-vars.ensures.sound (sym c.clause.ensures)

pub loop-id-preserved : goal.loop-id-preserved
loop-id-preserved c =
    let slots = c.args.store.now.slots in
    let from = c.newer_from-from.result in
    let lt : c.loop-id.id < length slots = omega (arith, c.loop-id-test.true, c.next_id-upto.ensures) in
    elim c.if-live.branch [
      | then-live w ↦
          rw (w.touched-is, w.walked-is)
          (record {
            within = omega (arith, lt);
            len = w.touch_clause.ensures.len ∙ c.loop-id.invariant.len;
            walked = w.touch_clause.ensures.walked;
            apart = apart-live from c.loop-id.id w.clause.result.now c.loop-id.touched w.touch_clause.new.touched slots (sym w.clause.ensures) w.touch_clause.ensures.before w.touch_clause.ensures.own c.loop-id.invariant.apart;
          })
      | else-live w ↦
          rw (w.touched-is, w.walked-is)
          (record {
            within = omega (arith, lt);
            len = c.loop-id.invariant.len;
            walked = c.loop-id.invariant.walked;
            apart = apart-dead from c.loop-id.id c.loop-id.touched slots (λ d e. true≢false (sym (ap is_some e) ∙ sym c.live.ensures ∙ w.if-live.false)) c.loop-id.invariant.apart;
          })
    ]

pub returns : goal.returns
returns c =
    let slots = c.args.store.now.slots in
    let from = c.newer_from-from.result in
    let inside = c.loop-id.invariant.within in
    let len = c.loop-id.invariant.len in
    let low = c.newer_from-from.ensures.0 in
    let old = c.newer_from-from.ensures.1 in
    let same : c.loop-id.id ≡ c.next_id-upto.result = omega (arith, c.loop-id-test.false, inside, c.next_id-upto.ensures) in
    record {
      within = omega (arith, c.next_id-upto.ensures);
      short = omega (arith, len, low);
      old = omega (arith, len, old);
      apart = λ id x e f j d k l above high. c.loop-id.invariant.apart id x e f j d k l (omega (arith, above, old)) (omega (arith, high, same));
    }
