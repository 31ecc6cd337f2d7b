use Rattle.std.proofs.Common.{◌∙◌, sym}
use Rattle.t_blocked.proofs.Passed.{kept-unblocked}
use Rattle.t_blocked.proofs.elimination.needs_look.Goals as goal

pub returns-then-has-clause-idle : goal.returns-then-has-clause-idle
returns-then-has-clause-idle c f =
    kept-unblocked c.args.seen.now c.args.kept.now c.args.store.now c.args.id c.args.lit c.requires.rested c.if-id-seen.true (rw c.negated.ensures at (sym c.has.ensures ∙ c.if-has.true))
