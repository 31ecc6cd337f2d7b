use Rattle.std.proofs.Common.{take}
use Rattle.t_failed.specs.Partners.{ArePartnersOf}
use Rattle.t_failed.proofs.partners.put_partners.Given as goal

abbrev pub invariant-loop-other : goal.invariant-loop-other
invariant-loop-other l = ArePartnersOf l.store l.lit (take l.other-index l.lits) l.partners.items
