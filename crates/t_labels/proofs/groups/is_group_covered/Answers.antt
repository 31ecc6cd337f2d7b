use Rattle.std.proofs.Common.{sym, subst, List, All}
use Rattle.mp_logic.specs.Literal.{Literal, IsUpTo}
use Rattle.mp_clauses.specs.Places.{place_of}
use Rattle.mp_clauses.specs.Occurrences.{ids_with}
use Rattle.mp_store.proofs.Clashes.{ids-live}
use Rattle.t_labels.specs.Groups.{AreInOrder}
use Rattle.t_labels.specs.Grouping.{clauses_at}
use Rattle.t_labels.proofs.GroupRounds.{order-within, tested-bare, tested-whole}
use Rattle.t_labels.proofs.groups.is_group_covered.Goals as goal

pub each_may_be_met-requires : goal.each_may_be_met-requires
each_may_be_met-requires c = rw c.occurrences-ids.ensures.rising (ids-live c.args.lit c.args.store.now.slots)

pub returns-then-not-each_may_be_met : goal.returns-then-not-each_may_be_met
returns-then-not-each_may_be_met c = tested-bare c.args.store.now c.args.lit c.occurrences-ids.result.now c.each_may_be_met.result c.occurrences-ids.ensures.rising c.each_may_be_met.ensures c.if-not-each_may_be_met.true

pub in_order-requires : goal.in_order-requires
in_order-requires c = rw c.occurrences-ids.ensures.rising (ids-live c.args.lit c.args.store.now.slots)

pub is_covered_by_group-requires : goal.is_covered_by_group-requires
is_covered_by_group-requires c =
    let order : AreInOrder (clauses_at c.args.store.now.slots (ids_with (place_of c.args.lit) c.args.store.now.slots)) c.in_ok-clauses.clauses.items = rw c.occurrences-ids.ensures.rising at c.in_ok-clauses.ensures in
    subst (λ (cs : List (List Literal)). All (All (IsUpTo c.args.store.now.vars)) cs) (sym c.deref.ensures.value) (order-within c.args.store.now c.args.lit c.in_ok-clauses.clauses.items c.vars.ensures.sound order)

pub returns : goal.returns
returns c = tested-whole c.args.store.now c.args.lit c.occurrences-ids.result.now c.in_ok-clauses.clauses.items c.in_ok-covered.covered c.vars.ensures.sound c.occurrences-ids.ensures.rising c.in_ok-clauses.ensures (rw c.deref.ensures.value at c.in_ok-covered.ensures)
