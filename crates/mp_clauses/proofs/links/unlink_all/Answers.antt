use Rattle.std.proofs.Common.{arith, refl, ◌∙◌, get_or}
use Rattle.mp_clauses.proofs.Unlinked.{one-gone, unlinked-one, unlinked-many}
use Rattle.mp_clauses.proofs.links.unlink_all.Goals as goal

pub unlink-requires-clause-within : goal.unlink-requires-clause-within
unlink-requires-clause-within c = rw c.clause.ensures.clause (c.requires.within _)

pub returns-then-gone-eq1-clause-items : goal.returns-then-gone-eq1-clause-items
returns-then-gone-eq1-clause-items c = λ before k m p.
    let below = c.requires.known 0 0 (omega arith) in
    unlinked-one p (get_or c.args.gone.now 0 0) c.args.gone.now c.clause.result.now before c.args.rows.now.rows _ _ (one-gone c.args.gone.now c.if-gone-eq1.true) k below c.clause.ensures.clause (m p) (c.unlink.ensures.items p)

pub returns-clause-items : goal.returns-clause-items
returns-clause-items c = λ before k m p.
    let unmarked = c.requires.unmarked p in
    let marks = c.mark_all.ensures.marks p in
    unlinked-many p c.args.gone.now before c.args.rows.now.rows _ _ _ k (m p) (marks ∙ rw unmarked refl) (c.sweep_all.ensures.items p)
