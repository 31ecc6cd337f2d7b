use Rattle.std.proofs.Common.{arith}
use Rattle.mp_resting.proofs.Rested.{up-to-last, below-found, above-found, around-missed}
use Rattle.mp_resting.proofs.seen.below.Goals as goal

pub returns-then-ids-many-clause-below : goal.returns-then-ids-many-clause-below
returns-then-ids-many-clause-below c = let none = c.if-many-eq0.false in up-to-last c.args.ids.now c.args.mark c.requires (omega (arith, none)) c.if-ids-many.true

pub returns-in-Ok-clause-below : goal.returns-in-Ok-clause-below
returns-in-Ok-clause-below c = below-found c.args.ids.now c.args.mark _ c.requires c.in-Ok.ensures.position

pub returns-in-Ok-clause-above : goal.returns-in-Ok-clause-above
returns-in-Ok-clause-above c = above-found c.args.ids.now c.args.mark _ c.requires c.in-Ok.ensures.position

pub returns-in-Err-clause-below : goal.returns-in-Err-clause-below
returns-in-Err-clause-below c = (around-missed c.args.ids.now c.args.mark _ c.requires c.in-Err.ensures.position).0

pub returns-in-Err-clause-above : goal.returns-in-Err-clause-above
returns-in-Err-clause-above c = (around-missed c.args.ids.now c.args.mark _ c.requires c.in-Err.ensures.position).1
