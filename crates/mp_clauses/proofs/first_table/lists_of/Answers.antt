use Rattle.std.proofs.Common.{arith, ◌∙◌}
use Rattle.mp_clauses.proofs.FirstLists.{dealt-in, ids_from-past, widened-empty}
use Rattle.mp_clauses.proofs.first_table.lists_of.Goals as goal

pub link_buckets-requires : goal.link_buckets-requires
link_buckets-requires c = λ p l. dealt-in c.args.rows.now.rows _ _ c.in_ok-buckets.ensures.empty c.in_ok-deal_all.ensures.ok p ∙ ids_from-past c.args.places p 0 c.args.rows.now.rows (omega (arith, l, c.in_ok-widen.ensures.ok)) c.requires.within

pub returns-clause-items : goal.returns-clause-items
returns-clause-items c = λ p. widened-empty _ _ c.deal_all.new.buckets.items p (rw c.in_ok-lists.ensures.items at c.widen.ensures.same) (c.in_ok-link_buckets.ensures.ok p) ∙ dealt-in c.args.rows.now.rows _ _ c.in_ok-buckets.ensures.empty c.in_ok-deal_all.ensures.ok p
