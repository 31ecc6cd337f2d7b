use Rattle.std.proofs.Common.{◌≤◌, length, arith}
use Rattle.t_equiv.proofs.Adding.{nodes-below, starts-below, ends-below, finished}
use Rattle.t_equiv.proofs.numbering.components.Goals as goal

pub components-requires-clause-starts : goal.components-requires-clause-starts
components-requires-clause-starts c = nodes-below c.args.store.now.vars c.vars-vars.result c.loop-id.from.items c.as_slice.result.now c.vars-vars.ensures.vars c.as_slice.ensures.value (starts-below c.args.store.now.vars c.args.store.now.slots c.loop-id.id c.loop-id.from.items c.loop-id.to.items c.loop-id.invariant)

pub components-requires-clause-ends : goal.components-requires-clause-ends
components-requires-clause-ends c = nodes-below c.args.store.now.vars c.vars-vars.result c.loop-id.to.items c.as_slice-2.result.now c.vars-vars.ensures.vars c.as_slice-2.ensures.value (ends-below c.args.store.now.vars c.args.store.now.slots c.loop-id.id c.loop-id.from.items c.loop-id.to.items c.loop-id.invariant)

pub returns : goal.returns
returns c =
    let all : length c.args.store.now.slots ≤ c.loop-id.id = omega arith in
    rw c.from_vec.ensures (finished c.args.store.now.vars c.vars-vars.result c.args.store.now.slots c.loop-id.id c.loop-id.from.items c.loop-id.to.items c.as_slice.result.now c.as_slice-2.result.now c.in_ok-numbers.numbers.items c.vars-vars.ensures.vars c.as_slice.ensures.value c.as_slice-2.ensures.value all c.loop-id.invariant c.in_ok-numbers.ensures)
