use Rattle.std.proofs.Common.{ap, ◌∙◌, arith}
use Rattle.mp_clauses.specs.Slots.{live_clauses}
use Rattle.mp_clauses.specs.Tables.{slots_of, literals_of}
use Rattle.mp_clauses.proofs.Steps.{settled-table, settled-slots}
use Rattle.mp_clauses.proofs.clauses.ClauseTable.compact.Goals as goal

pub invariant_of-self-2 : goal.invariant_of-self-2
invariant_of-self-2 c = rw c.in_ok-compact.ensures.rows (settled-table _ _ _ _ c.self.invariant)

pub returns-clause-slots : goal.returns-clause-slots
returns-clause-slots c = rw (← c.self.view_is) (ap slots_of c.in_ok-compact.ensures.rows ∙ settled-slots c.self.inside.rows.rows)

pub returns-clause-small : goal.returns-clause-small
returns-clause-small c =
    let slots = ap slots_of c.in_ok-compact.ensures.rows ∙ settled-slots c.self.inside.rows.rows in
    let live = c.self.invariant.sized.literals in
    let same = ap (λ s. literals_of (live_clauses s)) slots in
    omega (arith, c.in_ok-compact.ensures.len, live, same)
