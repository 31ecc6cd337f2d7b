use Rattle.std.proofs.Common.{arith}
use Rattle.t_equiv.proofs.PooledStores.{Comes, comes-fits, comes-more}
use Rattle.t_equiv.proofs.pooling.move_weight.Goals as goal

pub overflow_add-index_mut : goal.overflow_add-index_mut
overflow_add-index_mut c =
    let w : Comes c.args.store.now c.args.images.now c.args.moved.now.items c.args.lit c.image.result c.place-at.result c.index_mut.result.now c.weight-weight.result = record { sound = c.requires.sound; known = c.requires.known; up = c.requires.up; so_far = c.requires.moved; image = c.image.ensures; place = c.place-at.ensures; found = c.index_mut.ensures.value; weight = c.weight-weight.ensures } in
    omega (arith, comes-fits _ _ _ _ _ _ _ _ w)

pub returns : goal.returns
returns c =
    let w : Comes c.args.store.now c.args.images.now c.args.moved.now.items c.args.lit c.image.result c.place-at.result c.index_mut.result.now c.weight-weight.result = record { sound = c.requires.sound; known = c.requires.known; up = c.requires.up; so_far = c.requires.moved; image = c.image.ensures; place = c.place-at.ensures; found = c.index_mut.ensures.value; weight = c.weight-weight.ensures } in
    comes-more _ _ _ _ _ _ _ _ w
