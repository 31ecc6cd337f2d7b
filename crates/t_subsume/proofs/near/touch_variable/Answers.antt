use Rattle.std.proofs.Common.{Bool, List, true, get_or, set, false, sym, ◌∙◌, ap, subst, arith}
use Rattle.mp_logic.specs.Literal.{Literal}
use Rattle.t_subsume.specs.Nearness.{AreWalked}
use Rattle.t_subsume.proofs.Nearby.{touched-both, walked-on, walked-more}
use Rattle.t_subsume.proofs.near.touch_variable.Goals as goal

pub returns-then-is_marked-clause-own : goal.returns-then-is_marked-clause-own
returns-then-is_marked-clause-own c =
    let same = ap (λ (l : Literal). l.variable) c.lit.view_is in
    c.requires.walked c.args.lit.variable (ap (λ v. get_or c.args.walked.now.items v false) (sym same) ∙ ap (λ (xs : List Bool). get_or xs c.lit.inside.variable false) (sym c.deref.ensures.value) ∙ sym c.is_marked.ensures ∙ c.if-is_marked.true)

pub returns-then-place-len-clause-walked : goal.returns-then-place-len-clause-walked
returns-then-place-len-clause-walked c =
    let same = ap (λ (l : Literal). l.variable) c.lit.view_is in
    let own = touched-both c.args.lit c.negated.result c.args.store.now.slots c.occurrences.result.now c.occurrences-2.result.now c.touch.new.self c.touch-2.new.self c.negated.ensures c.occurrences.ensures.exact c.occurrences-2.ensures.exact c.touch.ensures.own c.touch-2.ensures.before c.touch-2.ensures.own in
    let before = walked-on c.args.walked.now.items c.args.touched.now c.touch-2.new.self c.args.store.now.slots (λ i m. c.touch-2.ensures.before i (c.touch.ensures.before i m)) c.requires.walked in
    let lt = c.if-place-len.true in
    subst (λ v. AreWalked (set c.args.walked.now.items v true) c.touch-2.new.self c.args.store.now.slots) (sym same) (walked-more c.args.walked.now.items c.touch-2.new.self c.args.store.now.slots c.args.lit.variable (omega (arith, lt, same, c.len.ensures)) own before)

pub returns-then-place-len-clause-own : goal.returns-then-place-len-clause-own
returns-then-place-len-clause-own c = touched-both c.args.lit c.negated.result c.args.store.now.slots c.occurrences.result.now c.occurrences-2.result.now c.touch.new.self c.touch-2.new.self c.negated.ensures c.occurrences.ensures.exact c.occurrences-2.ensures.exact c.touch.ensures.own c.touch-2.ensures.before c.touch-2.ensures.own

pub returns-else-place-len-clause-walked : goal.returns-else-place-len-clause-walked
returns-else-place-len-clause-walked c = walked-on c.args.walked.now.items c.args.touched.now c.touch-2.new.self c.args.store.now.slots (λ i m. c.touch-2.ensures.before i (c.touch.ensures.before i m)) c.requires.walked

pub returns-else-place-len-clause-own : goal.returns-else-place-len-clause-own
returns-else-place-len-clause-own c = touched-both c.args.lit c.negated.result c.args.store.now.slots c.occurrences.result.now c.occurrences-2.result.now c.touch.new.self c.touch-2.new.self c.negated.ensures c.occurrences.ensures.exact c.occurrences-2.ensures.exact c.touch.ensures.own c.touch-2.ensures.before c.touch-2.ensures.own
