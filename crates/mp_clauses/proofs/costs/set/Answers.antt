use Rattle.std.proofs.Common.{◌≡◌, ◌∙◌, sym, arith, length}
use Rattle.mp_clauses.proofs.Steps.{get_or-any}
use Rattle.mp_clauses.proofs.Numbered.{number-kept, set-kept, set-none, number-new, set-new}
use Rattle.mp_clauses.proofs.costs.set.Goals as goal

pub returns-then-number-ne0-clause-numbered : goal.returns-then-number-ne0-clause-numbered
returns-then-number-ne0-clause-numbered c =
    let e = c.index.ensures ∙ get_or-any c.args.numbers.now.items c.args.place c.index.result.now 0 c.requires.within in
    rw e (number-kept c.args.numbers.now.items c.args.weights.now.items c.args.place c.args.weight c.requires.numbered c.requires.within (λ z. c.if-number-ne0.true (e ∙ z)))

pub returns-then-number-ne0-clause-weights : goal.returns-then-number-ne0-clause-weights
returns-then-number-ne0-clause-weights c =
    let e = c.index.ensures ∙ get_or-any c.args.numbers.now.items c.args.place c.index.result.now 0 c.requires.within in
    rw e (set-kept c.args.numbers.now.items c.args.weights.now.items c.args.place c.args.weight c.requires.numbered c.requires.within (λ z. c.if-number-ne0.true (e ∙ z)))

pub returns-then-weight-eq0-clause-weights : goal.returns-then-weight-eq0-clause-weights
returns-then-weight-eq0-clause-weights c =
    let e = c.index.ensures ∙ get_or-any c.args.numbers.now.items c.args.place c.index.result.now 0 c.requires.within in
    set-none c.args.numbers.now.items c.args.weights.now.items c.args.place c.args.weight c.requires.numbered (sym e ∙ c.if-number-ne0.false) c.if-weight-eq0.true

pub returns-clause-numbered : goal.returns-clause-numbered
returns-clause-numbered c =
    let len = c.len.ensures in
    let own = c.args.weights.now.ok in
    let few = c.requires.few in
    let same : c.len.result ≡ length c.args.weights.now.items = omega (arith, len, own) in
    rw (c.push_reserved.ensures.items, same) (number-new c.args.numbers.now.items c.args.weights.now.items c.args.place c.args.weight c.requires.numbered c.requires.within (omega (arith, own, few)))

pub returns-clause-weights : goal.returns-clause-weights
returns-clause-weights c =
    let len = c.len.ensures in
    let own = c.args.weights.now.ok in
    let same : c.len.result ≡ length c.args.weights.now.items = omega (arith, len, own) in
    rw (c.push_reserved.ensures.items, same) (set-new c.args.numbers.now.items c.args.weights.now.items c.args.place c.args.weight c.requires.numbered c.requires.within)
