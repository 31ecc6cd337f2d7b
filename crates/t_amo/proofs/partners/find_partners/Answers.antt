use Rattle.std.proofs.Common.{◌∙◌, ◌++◌, ap}
use Rattle.mp_store.proofs.Clashes.{ids-live}
use Rattle.t_amo.specs.Choosing.{others_at}
use Rattle.t_amo.proofs.PairClauses.{found-partners}
use Rattle.t_amo.proofs.partners.find_partners.Goals as goal

pub gather-requires : goal.gather-requires
gather-requires c = rw c.occurrences.ensures.rising (ids-live c.args.lit c.args.store.now.slots)

pub returns : goal.returns
returns c =
    found-partners c.args.store.now c.args.lit c.occurrences.result.now c.gather.new.found c.occurrences.ensures.rising
    (c.in_ok-gather.ensures ∙ ap (λ xs. xs ++ others_at c.args.store.now.weights c.args.lit c.args.store.now.slots c.occurrences.result.now) c.cut.ensures)
