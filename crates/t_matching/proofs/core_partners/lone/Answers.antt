use Rattle.std.proofs.Common.{◌∙◌, refl, sym}
use Rattle.std.proofs.lemmas.List.{drop_all}
use Rattle.t_matching.proofs.PairIds.{lone-skip, lone-take, lone-two, lone-done, none-of, some-of}
use Rattle.t_matching.proofs.core_partners.lone.Goals.{then-has+else-is_some, else-has}
use Rattle.t_matching.proofs.core_partners.lone.Goals as goal

pub returns : goal.returns
returns c = lone-done c.args.lit c.args.store.now.slots c.args.ids.now c.loop-id.id-index c.loop-id.found (drop_all c.loop-id.id-index c.args.ids.now c.loop-id-test.false) c.loop-id.invariant

pub returns-then-is_some : goal.returns-then-is_some
returns-then-is_some c = (let w = some-of c.loop-id.found (sym c.is_some.ensures ∙ c.if-is_some.true) in lone-two c.args.lit c.args.store.now.slots c.args.ids.now c.loop-id.id-index _ c.clause.result.now w.0 c.loop-id.found c.loop-id-test.true refl c.clause.ensures (sym c.has.ensures ∙ c.if-has.true) w.1 c.loop-id.invariant)

pub loop-id-preserved : goal.loop-id-preserved
loop-id-preserved c = elim c.if-has.branch [
  | then-has+else-is_some w ↦ rw w.found-is (lone-take c.args.lit c.args.store.now.slots c.args.ids.now c.loop-id.id-index _ c.clause.result.now c.loop-id.found c.loop-id-test.true refl c.clause.ensures (sym c.has.ensures ∙ w.if-has.true) (none-of c.loop-id.found (sym w.is_some.ensures ∙ w.if-is_some.false)) c.loop-id.invariant)
  | else-has w ↦ rw w.found-is (lone-skip c.args.lit c.args.store.now.slots c.args.ids.now c.loop-id.id-index _ c.clause.result.now c.loop-id.found c.loop-id-test.true refl c.clause.ensures (sym c.has.ensures ∙ w.if-has.false) c.loop-id.invariant)
]
