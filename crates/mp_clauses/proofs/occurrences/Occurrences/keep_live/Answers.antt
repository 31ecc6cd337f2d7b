use Rattle.std.proofs.Common.{rules}
use Rattle.std.proofs.lemmas.Fn.{filter_same}
use Rattle.mp_clauses.specs.Tables.{live_in}
use Rattle.mp_clauses.proofs.occurrences.Occurrences.keep_live.Goals as goal

pub returns-clause-items : goal.returns-clause-items
returns-clause-items c = rw (← c.self.view_is) (filter_same _ (live_in c.args.rows.now.rows) _ (λ x b q h. search rules) _ _ c.retain.ensures.filtered)
