use Rattle.mp_clauses.specs.Slots.{live_clauses}
use Rattle.t_failed.proofs.Roots.{failed-refuted, failed-false, probed-known, probed-more, probe-within, probe-settled, grown-more, grown-none, push-longer}
use Rattle.t_failed.proofs.root.probe.Goals as goal

pub returns-then-root-clause-grown : goal.returns-then-root-clause-grown
returns-then-root-clause-grown c = grown-none _

pub returns-then-root-clause-answer : goal.returns-then-root-clause-answer
returns-then-root-clause-answer c = failed-refuted c.args.store.now _ _ c.args.lit c.requires.root c.if-root.true

pub returns-then-has-clause-grown : goal.returns-then-has-clause-grown
returns-then-has-clause-grown c = grown-none _

pub returns-then-has-clause-answer : goal.returns-then-has-clause-answer
returns-then-has-clause-answer c =
    let there = rw c.negated.ensures at c.if-has.ensures.found in
    failed-false c.args.store.now _ _ c.args.lit c.requires.root there (c.requires.occurs there)

pub returns-then-has-2-clause-grown : goal.returns-then-has-2-clause-grown
returns-then-has-2-clause-grown c = grown-none _

pub returns-then-has-2-clause-answer : goal.returns-then-has-2-clause-answer
returns-then-has-2-clause-answer c = probed-known c.args.store.now _ _ c.args.lit c.requires.root c.if-root.false c.if-has-2.ensures.found

pub push-requires-clause-not_false : goal.push-requires-clause-not_false
push-requires-clause-not_false c = rw c.negated.ensures at c.if-has.ensures.found

pub propagate-requires-clause-from : goal.propagate-requires-clause-from
propagate-requires-clause-from c = push-longer _ c.push.new.self c.args.lit c.len-from.result c.in_ok-push.ensures c.len-from.ensures.len

pub propagate-requires-clause-within : goal.propagate-requires-clause-within
propagate-requires-clause-within c = probe-within c.args.store.now _ c.push.new.self _ c.args.lit c.requires.root c.requires.lit c.in_ok-push.ensures

pub propagate-requires-clause-settled : goal.propagate-requires-clause-settled
propagate-requires-clause-settled c = rw c.len-from.ensures.len (probe-settled c.args.store.now _ c.push.new.self _ c.args.lit c.requires.root c.if-root.false c.in_ok-push.ensures)

pub returns-clause-grown : goal.returns-clause-grown
returns-clause-grown c = grown-more c.args.store.now.vars (live_clauses c.args.store.now.slots) _ c.push.new.self c.propagate.new.trail c.args.lit c.in_ok-push.ensures c.in_ok-rests.ensures.extended

pub returns-clause-answer : goal.returns-clause-answer
returns-clause-answer c = probed-more c.args.store.now _ c.push.new.self c.propagate.new.trail _ _ c.args.lit c.requires.root c.requires.lit c.in_ok-push.ensures c.in_ok-rests.ensures.extended c.in_ok-rests.ensures.answer
