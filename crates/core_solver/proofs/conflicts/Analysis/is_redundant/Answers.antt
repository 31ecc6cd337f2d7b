use Rattle.std.proofs.Common.{◌≡◌, ◌⊎◌, ◌<◌, length, Contains, ap, subst, ◌∙◌, arith}
use Rattle.mp_logic.specs.Literal.{Literal, negation}
use Rattle.core_solver.specs.History.{clause_of}
use Rattle.core_solver.specs.Conflicts.{IsKnown}
use Rattle.core_solver.proofs.Analysed.{read-clause}
use Rattle.core_solver.proofs.conflicts.Analysis.is_redundant.Goals as goal

pub returns : goal.returns
returns c = λ t.
    let cs = c.args.clauses.now in
    let lits = c.args.trail.now.lits in
    let learnt = c.args.self.now.learnt in
    let known : c.reason-reason.result < length cs = omega (arith, c.if-reason-len.false, c.len.ensures) in
    let read = read-clause cs c.items.result.now c.reason-reason.result c.index-items-reason.result c.items-2.result.now c.items.ensures c.index-items-reason.is c.items-2.ensures known in
    let others = subst (λ (b : Literal). (k : Literal) → Contains c.items-2.result.now k → (k ≡ b) ⊎ IsKnown lits learnt c.args.base k) c.negated-2.ensures (c.are_known.ensures t) in
    record {
      at = c.in-Some.position;
      there = rw c.negated.ensures at c.in-Some.ensures.found;
      undecided = λ e. omega (arith, e, c.reason-reason.ensures, c.if-reason-len.false, c.len.ensures, c.len.type_inv);
      others = subst (λ x. (k : Literal) → Contains x k → (k ≡ negation c.args.lit) ⊎ IsKnown lits learnt c.args.base k) (read.0 ∙ ap (clause_of cs) c.reason-reason.ensures) others;
    }
