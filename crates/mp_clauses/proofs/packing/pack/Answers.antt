use Rattle.std.proofs.Common.{arith, ap, refl, length, length-append, get_or, cond, [], ◌∷◌, ◌∙◌}
use Rattle.std.proofs.lemmas.List.{take_all}
use Rattle.mp_clauses.specs.Tables.{kept_part, place_at}
use Rattle.mp_clauses.proofs.Packed.{ArePacked, here, packed-none, packed-step, packed-laid, packed-rows, packed-total, laid-total, sum-ahead, one-at-most}
use Rattle.mp_clauses.proofs.packing.pack.Goals as goal

pub move_part-requires-clause-known : goal.move_part-requires-clause-known
move_part-requires-clause-known c = (here c.args.old.now c.args.places.now.items c.args.ids.now c.loop-id.id-index _ _ _ c.requires.laid c.loop-id.invariant.packed c.loop-id-test.true).0

pub move_part-requires-clause-inside : goal.move_part-requires-clause-inside
move_part-requires-clause-inside c = (here c.args.old.now c.args.places.now.items c.args.ids.now c.loop-id.id-index _ _ _ c.requires.laid c.loop-id.invariant.packed c.loop-id-test.true).2

pub move_part-requires-clause-room : goal.move_part-requires-clause-room
move_part-requires-clause-room c =
    let same = (here c.args.old.now c.args.places.now.items c.args.ids.now c.loop-id.id-index _ _ _ c.requires.laid c.loop-id.invariant.packed c.loop-id-test.true).1 in
    let ahead = sum-ahead (λ id. length (kept_part c.args.old.now (place_at c.args.places.now.items id))) c.args.ids.now c.loop-id.id-index c.loop-id-test.true in
    let room = c.loop-id.invariant.room in
    let cap = c.loop-id.invariant.same_room in
    rw same (omega (arith, ahead, room, cap))

pub move_part-requires-clause-free : goal.move_part-requires-clause-free
move_part-requires-clause-free c = omega (arith, c.loop-id.invariant.free, c.loop-id.invariant.same_free)

pub loop-id-init : goal.loop-id-init
loop-id-init c = record {
  packed = packed-none c.args.old.now c.args.places.now.items _ _ _ refl c.requires.empty.0 c.requires.empty.1;
  room =
      let total = laid-total c.args.old.now c.args.places.now.items c.args.ids.now c.requires.laid in
      omega (arith, total, c.requires.room, ap length c.requires.empty.0, c.args.literals.now.ok);
  free = omega (arith, c.requires.free, ap length c.requires.empty.1, c.args.order.now.ok);
  same_room = omega arith;
  same_free = refl;
  kept = refl;
}

pub loop-id-preserved : goal.loop-id-preserved
loop-id-preserved c =
    let same = (here c.args.old.now c.args.places.now.items c.args.ids.now c.loop-id.id-index _ _ _ c.requires.laid c.loop-id.invariant.packed c.loop-id-test.true).1 in
    let ahead = sum-ahead (λ id. length (kept_part c.args.old.now (place_at c.args.places.now.items id))) c.args.ids.now c.loop-id.id-index c.loop-id-test.true in
    let part = ap length (rw same at c.move_part.ensures.literals) in
    let joined = length-append c.loop-id.literals.items (kept_part c.args.old.now (place_at c.args.places.now.items (get_or c.args.ids.now c.loop-id.id-index 0))) in
    let live = (place_at c.args.places.now.items (get_or c.args.ids.now c.loop-id.id-index 0)).live in
    let one = ap length (rw same at c.move_part.ensures.order) in
    let longer = length-append c.loop-id.order.items (cond live (get_or c.args.ids.now c.loop-id.id-index 0 ∷ []) []) in
    record {
      packed = packed-step c.args.old.now c.args.places.now.items c.args.ids.now c.loop-id.id-index _ _ _ _ _ _ c.requires.laid c.loop-id-test.true c.move_part.ensures.literals c.move_part.ensures.places c.move_part.ensures.order c.loop-id.invariant.packed;
      room = omega (arith, ahead, part, joined, c.loop-id.invariant.room, c.loop-id.literals.ok, c.move_part.new.literals.ok);
      free = omega (arith, one, longer, one-at-most live (get_or c.args.ids.now c.loop-id.id-index 0), c.loop-id.invariant.free, c.loop-id.order.ok, c.move_part.new.order.ok);
      same_room = omega (arith, c.move_part.ensures.room, c.loop-id.invariant.same_room);
      same_free = c.move_part.ensures.free ∙ c.loop-id.invariant.same_free;
      kept = c.move_part.ensures.kept ∙ c.loop-id.invariant.kept;
    }

pub returns : goal.returns
returns c =
    let p = rw (take_all c.loop-id.id-index c.args.ids.now c.loop-id-test.false) at c.loop-id.invariant.packed in
    let few = p.few in
    record {
      laid = packed-laid c.args.old.now c.args.places.now.items c.args.ids.now _ _ _ c.requires.laid p;
      rows = packed-rows c.args.old.now c.args.places.now.items c.args.ids.now _ _ _ c.requires.laid p;
      literals = packed-total c.args.old.now c.args.places.now.items c.args.ids.now _ _ _ c.requires.laid p;
      room = c.loop-id.invariant.same_room;
      free = (c.loop-id.invariant.same_free, few);
      len = p.len;
      kept = c.loop-id.invariant.kept;
    }
