use Rattle.std.proofs.Common.{◌≡◌, ◌≤◌, ◌<◌, ◌-◌, arith, ap, sym, ◌∙◌, subst, length, take, get_or, true, false}
use Rattle.std.proofs.lemmas.List.{get_or_read, length-set}
use Rattle.std.specs.Prelude.{slice_index}
use Rattle.mp_logic.specs.Learning.{MakesFalse}
use Rattle.core_solver.specs.History.{clause_of, IsReason}
use Rattle.core_solver.specs.Conflicts.{noted, IsAnalysis}
use Rattle.core_solver.proofs.Analysed.{analysis-begin, analysis-step, analysis-end, read-clause, at_position}
use Rattle.core_solver.proofs.conflicts.Analysis.resolve.Goals as goal

pub resolve-init : goal.resolve-init
resolve-init c =
    let cs = c.args.clauses.now in
    let lits = c.args.trail.now.lits in
    let read = read-clause cs c.items.result.now c.args.conflict c.index-items-conflict.result c.items-2.result.now c.items.ensures c.index-items-conflict.is c.items-2.ensures c.requires.known in
    let false_clause : MakesFalse lits c.items-2.result.now = subst (λ x. MakesFalse lits x) (sym read.0) c.requires.conflict in
    let begun = analysis-begin cs lits c.args.mark c.items-2.result.now (record { seen = c.args.self.now.seen.items; learnt = c.args.self.now.learnt; lowest = c.len-position.result }) (noted c.absorb.new.self)
    c.requires.propagated c.requires.mark read.1 false_clause c.requires.clear c.requires.empty c.len-position.ensures.len c.in_ok-absorb.ensures in
    record { analysis = subst (λ x. IsAnalysis cs lits c.args.mark x (noted c.absorb.new.self)) (sym c.len-position.ensures.len) begun; room = c.in_ok-absorb.ensures.size }

pub resolve-preserved-in-Continue-branch-3 : goal.resolve-preserved-in-Continue-branch-3
resolve-preserved-in-Continue-branch-3 c =
    let cs = c.args.clauses.now in
    let lits = c.args.trail.now.lits in
    let old = c.resolve.invariant.analysis in
    let i : _ = c.resolve.position - 1 in
    let test = c.resolve-test.true in
    let within = old.within in
    let above : c.args.mark ≤ c.resolve.self.lowest = old.seen_above c.resolve.self.lowest old.least in
    let inside : i < length lits = omega (arith, test, within) in
    let forced = c.requires.forced i (omega (arith, test, above)) inside in
    let reason : c.reason-reason.result ≡ slice_index c.args.trail.now.reasons i = c.reason-reason.ensures in
    let known : c.reason-reason.result < length cs = subst (λ x. x < length cs) (sym reason) forced.known in
    let read = read-clause cs c.items-then-index.result.now c.reason-reason.result c.index-items-reason.result c.items-then-index-2.result.now c.items-then-index.ensures c.index-items-reason.is c.items-then-index-2.ensures known in
    let there = at_position lits i inside in
    let why : IsReason (take i lits) there.0 c.items-then-index-2.result.now = subst (λ x. IsReason (take i lits) there.0 x) (sym (read.0 ∙ ap (clause_of cs) reason)) (forced.forces there.0 there.1) in
    let room = c.resolve.invariant.room in
    let wide = c.requires.room in
    let seen : get_or c.resolve.self.seen.items i false ≡ true = sym (get_or_read c.resolve.self.seen.items i c.index.result.now (omega (arith, inside, room, wide)) c.index.ensures false) ∙ c.if-index.true in
    record {
      analysis = analysis-step cs lits c.args.mark c.resolve.position i c.items-then-index-2.result.now there.0 c.resolve.self.seen.items c.resolve.self.learnt c.resolve.self.lowest (noted c.absorb-then-index.new.self)
          c.len-position.ensures.sound.consistent c.len-position.ensures.sound.distinct old (omega (arith, test)) (omega (arith, test)) seen there.1 why read.1 c.in_ok-absorb-2.ensures;
      room = c.in_ok-absorb-2.ensures.size ∙ (length-set c.resolve.self.seen.items i false ∙ room);
    }

pub returns-clause-taught : goal.returns-clause-taught
returns-clause-taught c =
    analysis-end c.args.clauses.now c.args.trail.now.lits c.args.mark c.resolve.position c.negated-asserting.result c.lit-2.result c.push-2.new.self (noted c.resolve.self) c.resolve.invariant.analysis c.resolve-test.false c.lit-2.ensures.value c.negated-asserting.ensures c.in_ok-push-2.ensures.ok
