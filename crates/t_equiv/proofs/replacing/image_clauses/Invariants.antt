use Rattle.std.proofs.Common.{take}
use Rattle.t_equiv.specs.Substitutions.{AreImageClauses}
use Rattle.t_equiv.proofs.replacing.image_clauses.Given as goal

abbrev pub invariant-loop-id : goal.invariant-loop-id
invariant-loop-id l = AreImageClauses l.images l.fn.store.slots (take l.id-index l.ids) l.made
