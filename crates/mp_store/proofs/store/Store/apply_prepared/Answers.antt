use Rattle.std.proofs.Common.{arith, sym, ◌∙◌}
use Rattle.mp_store.proofs.Sound.{prepared-valid, applied-changed, applied-refuted, total_below, known-live, all-apart}
use Rattle.mp_store.proofs.store.Store.apply_prepared.Goals as goal

pub overflow_add-self : goal.overflow_add-self
overflow_add-self c =
    let v = prepared-valid _ c.in-Some.ready c.self.invariant.0 (sym c.take-taken.ensures.value ∙ c.in-Some.is) in
    let below = total_below _ c.self.invariant.0 in
    omega (arith, v.0.total, below)

pub invariant_of-self : goal.invariant_of-self
invariant_of-self c =
    let e = sym c.take-taken.ensures.value ∙ c.in-Some.is in
    let ready = rw e at c.self.invariant.2 in (
      applied-refuted c.in-Some.ready _ _ _ _ _ _ _ c.self.invariant.0 e (record { slots_is = c.refute.ensures.slots; weights_is = c.clear.ensures; repairs_is = c.append.ensures; prepared_is = c.take-taken.ensures.after }),
      omega (arith, ready.places, c.refute.ensures.len),
      rw c.take-taken.ensures.after tt,
    )

pub replace-requires-clause-known : goal.replace-requires-clause-known
replace-requires-clause-known c =
    let v = prepared-valid _ c.in-Some.ready c.self.invariant.0 (sym c.take-taken.ensures.value ∙ c.in-Some.is) in
    rw c.items-in-Some.ensures (known-live _ _ v.0.gone_live)

pub replace-requires-clause-distinct : goal.replace-requires-clause-distinct
replace-requires-clause-distinct c =
    let v = prepared-valid _ c.in-Some.ready c.self.invariant.0 (sym c.take-taken.ensures.value ∙ c.in-Some.is) in
    all-apart _ v.0.added_normal

pub invariant_of-self-in-Some : goal.invariant_of-self-in-Some
invariant_of-self-in-Some c =
    let e = sym c.take-taken.ensures.value ∙ c.in-Some.is in
    let ready = rw e at c.self.invariant.2 in
    let full = rw c.items.ensures at (sym c.has_empty_clause.ensures ∙ c.if-has_empty_clause.false) in
    let slots = rw c.items-in-Some.ensures at c.replace.ensures.slots in
    let weights = rw c.items-in-Some-2.ensures at c.change.ensures in (
      applied-changed c.in-Some.ready _ _ _ _ _ _ _ c.self.invariant.0 e full (record { slots_is = slots; weights_is = weights; repairs_is = c.append.ensures; prepared_is = c.take-taken.ensures.after }),
      omega (arith, ready.places, c.replace.ensures.len),
      rw c.take-taken.ensures.after tt,
    )
