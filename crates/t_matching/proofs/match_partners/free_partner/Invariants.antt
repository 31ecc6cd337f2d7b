use Rattle.std.proofs.Common.{drop}
use Rattle.mp_store.specs.Held.{labelled_of}
use Rattle.t_matching.specs.Pairing.{AreFreelyMatching}
use Rattle.t_matching.proofs.Lowest.{AreLeft}
use Rattle.t_matching.proofs.match_partners.free_partner.Given as goal

abbrev pub invariant-loop-other : goal.invariant-loop-other
invariant-loop-other l = AreLeft (λ m. AreFreelyMatching l.lit m (labelled_of l.store)) (drop l.other-index l.others) l.others
