use Rattle.std.proofs.Common.{◌∙◌, ◌++◌, ap}
use Rattle.mp_store.proofs.Clashes.{ids-live}
use Rattle.t_labels.specs.Near.{literals_at}
use Rattle.t_labels.proofs.Nearby.{with-is}
use Rattle.t_labels.proofs.lowering.find_with.Goals as goal

pub gather-requires : goal.gather-requires
gather-requires c = rw c.occurrences.ensures.rising (ids-live c.args.lit c.args.store.now.slots)

pub returns : goal.returns
returns c =
    with-is c.args.lit c.args.store.now.slots c.occurrences.result.now c.gather.new.found c.normalise.new.clause c.occurrences.ensures.rising
    (c.in_ok-gather.ensures ∙ ap (λ xs. xs ++ literals_at c.args.store.now.slots c.occurrences.result.now) c.cut.ensures) (λ k. (c.normalise.ensures.same k).0) (λ k. (c.normalise.ensures.same k).1)
