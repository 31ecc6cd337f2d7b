use Rattle.t_equiv.proofs.Heads.{images-first, images-known, images-many}
use Rattle.t_equiv.proofs.images.images_of.Goals as goal

pub loop-place-preserved : goal.loop-place-preserved
loop-place-preserved c = record {
  heads = c.first_place-first.ensures.heads;
  many = images-many c.loop-place.made.items c.push.new.self.items c.numbered_literal.result c.loop-place.place c.in_ok-push.ensures.items c.loop-place.invariant.many;
  known = images-known c.loop-place.made.items c.push.new.self.items c.numbered_literal.result c.in_ok-push.ensures.items c.numbered_literal.ensures.from_one c.loop-place.invariant.known;
  first = images-first c.args.numbers.now c.loop-place.place c.loop-place.made.items c.push.new.self.items c.numbered_literal.result c.loop-place.invariant.many c.in_ok-push.ensures.items (rw c.numbered_literal.ensures.number c.first_place-first.ensures.first) c.loop-place.invariant.first;
}
