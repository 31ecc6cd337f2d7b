use Rattle.std.proofs.lemmas.Bool.{not-true}
use Rattle.t_elim.proofs.Stayed.{stayed-by}
use Rattle.t_elim.proofs.untouched.has_stayed.Goals as goal

pub returns-then-has_kept : goal.returns-then-has_kept
returns-then-has_kept c t before s = stayed-by c.args.lit c.args.seen.now before c.args.store.now s (c.has_kept.ensures c.if-has_kept.true before s) (c.has_gained.ensures (not-true c.has_gained.result t))
