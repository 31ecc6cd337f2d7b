use Rattle.std.proofs.Common.{◌≡◌, [], ◌∷◌, ◌++◌, refl, ◌∙◌, ap, arith}
use Rattle.t_units.proofs.Propagated.{untouched-run, step-run, step-fits, step-turned, done-turned}
use Rattle.t_units.proofs.propagation.PropagationTurn.turn.Goals as goal

pub returns-in_err-self-clause-run : goal.returns-in_err-self-clause-run
returns-in_err-self-clause-run c = untouched-run c.args.store.now c.args.store.now refl

pub returns-in_default-clause-run : goal.returns-in_default-clause-run
returns-in_default-clause-run c = untouched-run c.args.store.now c.args.store.now refl

pub returns-in_default-clause-turned : goal.returns-in_default-clause-turned
returns-in_default-clause-turned c = rw c.requires.empty (done-turned c.args.store.now c.args.arg4 c.vars.ensures.sound c.requires.unrefuted c.in_default.ensures)

pub returns-in_err-push-clause-run : goal.returns-in_err-push-clause-run
returns-in_err-push-clause-run c = untouched-run c.args.store.now c.args.store.now refl

pub returns-in_err-fix-clause-run : goal.returns-in_err-fix-clause-run
returns-in_err-fix-clause-run c = untouched-run c.args.store.now c.fix.new.store c.in_err-fix.ensures.err

pub returns-clause-run : goal.returns-clause-run
returns-clause-run c = step-run c.args.store.now c.fix.new.store c.in-Some.lit c.vars.ensures.sound c.in-Some.ensures.0 c.in_ok-fix.ensures.ok

pub returns-clause-fits : goal.returns-clause-fits
returns-clause-fits c = λ n. step-fits c.args.store.now c.fix.new.store c.in-Some.lit c.in_ok-self.field-0 c.next.new.self c.in_ok-fix.ensures.ok (let seen = c.in_ok-self.ensures.seen in omega arith) c.in-Some.ensures.1 n

pub returns-clause-turned : goal.returns-clause-turned
returns-clause-turned c =
    let again : c.push.new.self ≡ 0 ∷ [] = c.in_ok-push.ensures.ok ∙ ap (λ xs. xs ++ 0 ∷ []) c.requires.empty in
    step-turned c.args.store.now c.fix.new.store c.args.arg4 c.push.new.self c.in-Some.lit c.vars.ensures.sound c.in-Some.ensures.0 c.in_ok-fix.ensures.ok again
