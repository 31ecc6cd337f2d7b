use Rattle.std.proofs.Common.{◌∙◌, ◌++◌, ◌∷◌, [], List, ℕ, map, ap, arith}
use Rattle.mp_turns.proofs.Pacing.{run-itself}
use Rattle.t_equiv.specs.Equivalences.{substituting}
use Rattle.t_equiv.proofs.Rounds.{substituting-sound, untouched-run, refuted-run, replaced-run, opposite-here, AtHand, hand-sound, hand-done, hand-turned}
use Rattle.t_equiv.proofs.substitution.SubstitutionTurn.turn.Goals as goal

pub returns-in_err-numbers-clause-run : goal.returns-in_err-numbers-clause-run
returns-in_err-numbers-clause-run c = run-itself substituting c.args.store.now substituting-sound

pub returns-in_err-images-clause-run : goal.returns-in_err-images-clause-run
returns-in_err-images-clause-run c = run-itself substituting c.args.store.now substituting-sound

pub returns-in_err-replaced-clause-run : goal.returns-in_err-replaced-clause-run
returns-in_err-replaced-clause-run c = run-itself substituting c.args.store.now substituting-sound

pub returns-then-len-eq0-clause-run : goal.returns-then-len-eq0-clause-run
returns-then-len-eq0-clause-run c = run-itself substituting c.args.store.now substituting-sound

pub returns-in_err-refute-clause-run : goal.returns-in_err-refute-clause-run
returns-in_err-refute-clause-run c = untouched-run c.args.store.now c.refute.new.store c.in_err-refute.ensures.err

pub returns-then-has_opposites-clause-run : goal.returns-then-has_opposites-clause-run
returns-then-has_opposites-clause-run c =
    let opposite = opposite-here c.args.store.now.vars c.vars-vars.result c.in_ok-numbers.numbers c.items.result.now c.vars-vars.ensures.vars c.items.ensures (c.has_opposites.ensures.some c.if-has_opposites.true) in
    refuted-run c.args.store.now c.refute.new.store c.in_ok-numbers.numbers c.in_ok-numbers.ensures opposite c.in_ok-refute.ensures.ok

pub returns-then-len-eq0-clause-turned : goal.returns-then-len-eq0-clause-turned
returns-then-len-eq0-clause-turned c =
    let hand : AtHand c.args.store.now c.vars-vars.result c.in_ok-numbers.numbers c.items.result.now c.items-2.result.now c.in_ok-images.images.items c.as_slice.result.now c.in_ok-replaced.replaced.items = record {
      store = c.vars-vars.ensures.sound;
      vars = c.vars-vars.ensures.vars;
      numbers = c.in_ok-numbers.ensures;
      first = c.items.ensures;
      second = c.items-2.ensures;
      none = c.has_opposites.ensures.none c.if-has_opposites.false;
      images = c.in_ok-images.ensures;
      slice = c.as_slice.ensures.value;
      replaced = c.in_ok-replaced.ensures;
    } in
    hand-done c.args.store.now c.vars-vars.result c.in_ok-numbers.numbers c.items.result.now c.items-2.result.now c.in_ok-images.images.items c.as_slice.result.now c.in_ok-replaced.replaced.items c.args.again.now c.args.arg4 hand (omega (arith, c.if-len-eq0.true, c.len.ensures)) c.requires.empty

pub substitute-requires-clause-sound : goal.substitute-requires-clause-sound
substitute-requires-clause-sound c =
    let hand : AtHand c.args.store.now c.vars-vars.result c.in_ok-numbers.numbers c.items.result.now c.items-2.result.now c.in_ok-images.images.items c.as_slice.result.now c.in_ok-replaced.replaced.items = record {
      store = c.vars-vars.ensures.sound;
      vars = c.vars-vars.ensures.vars;
      numbers = c.in_ok-numbers.ensures;
      first = c.items.ensures;
      second = c.items-2.ensures;
      none = c.has_opposites.ensures.none c.if-has_opposites.false;
      images = c.in_ok-images.ensures;
      slice = c.as_slice.ensures.value;
      replaced = c.in_ok-replaced.ensures;
    } in
    hand-sound c.args.store.now c.vars-vars.result c.in_ok-numbers.numbers c.items.result.now c.items-2.result.now c.in_ok-images.images.items c.as_slice.result.now c.as_slice-2.result.now c.in_ok-replaced.replaced.items c.as_slice-3.result.now c.as_slice-2.ensures.value c.as_slice-3.ensures.value hand

pub returns-in_err-substitute-clause-run : goal.returns-in_err-substitute-clause-run
returns-in_err-substitute-clause-run c = untouched-run c.args.store.now c.substitute.new.store c.in_err-substitute.ensures.err

pub returns-in_err-push-clause-run : goal.returns-in_err-push-clause-run
returns-in_err-push-clause-run c =
    let hand : AtHand c.args.store.now c.vars-vars.result c.in_ok-numbers.numbers c.items.result.now c.items-2.result.now c.in_ok-images.images.items c.as_slice.result.now c.in_ok-replaced.replaced.items = record {
      store = c.vars-vars.ensures.sound;
      vars = c.vars-vars.ensures.vars;
      numbers = c.in_ok-numbers.ensures;
      first = c.items.ensures;
      second = c.items-2.ensures;
      none = c.has_opposites.ensures.none c.if-has_opposites.false;
      images = c.in_ok-images.ensures;
      slice = c.as_slice.ensures.value;
      replaced = c.in_ok-replaced.ensures;
    } in
    replaced-run c.args.store.now c.substitute.new.store c.as_slice-2.result.now (map (λ (p : ℕ × ℕ). p.1) c.as_slice-3.result.now) c.vars-vars.ensures.sound (hand-sound c.args.store.now c.vars-vars.result c.in_ok-numbers.numbers c.items.result.now c.items-2.result.now c.in_ok-images.images.items c.as_slice.result.now c.as_slice-2.result.now c.in_ok-replaced.replaced.items c.as_slice-3.result.now c.as_slice-2.ensures.value c.as_slice-3.ensures.value hand) c.in_ok-substitute.ensures.ok

pub returns-clause-run : goal.returns-clause-run
returns-clause-run c =
    let hand : AtHand c.args.store.now c.vars-vars.result c.in_ok-numbers.numbers c.items.result.now c.items-2.result.now c.in_ok-images.images.items c.as_slice.result.now c.in_ok-replaced.replaced.items = record {
      store = c.vars-vars.ensures.sound;
      vars = c.vars-vars.ensures.vars;
      numbers = c.in_ok-numbers.ensures;
      first = c.items.ensures;
      second = c.items-2.ensures;
      none = c.has_opposites.ensures.none c.if-has_opposites.false;
      images = c.in_ok-images.ensures;
      slice = c.as_slice.ensures.value;
      replaced = c.in_ok-replaced.ensures;
    } in
    replaced-run c.args.store.now c.substitute.new.store c.as_slice-2.result.now (map (λ (p : ℕ × ℕ). p.1) c.as_slice-3.result.now) c.vars-vars.ensures.sound (hand-sound c.args.store.now c.vars-vars.result c.in_ok-numbers.numbers c.items.result.now c.items-2.result.now c.in_ok-images.images.items c.as_slice.result.now c.as_slice-2.result.now c.in_ok-replaced.replaced.items c.as_slice-3.result.now c.as_slice-2.ensures.value c.as_slice-3.ensures.value hand) c.in_ok-substitute.ensures.ok

pub returns-clause-turned : goal.returns-clause-turned
returns-clause-turned c =
    let hand : AtHand c.args.store.now c.vars-vars.result c.in_ok-numbers.numbers c.items.result.now c.items-2.result.now c.in_ok-images.images.items c.as_slice.result.now c.in_ok-replaced.replaced.items = record {
      store = c.vars-vars.ensures.sound;
      vars = c.vars-vars.ensures.vars;
      numbers = c.in_ok-numbers.ensures;
      first = c.items.ensures;
      second = c.items-2.ensures;
      none = c.has_opposites.ensures.none c.if-has_opposites.false;
      images = c.in_ok-images.ensures;
      slice = c.as_slice.ensures.value;
      replaced = c.in_ok-replaced.ensures;
    } in
    hand-turned c.args.store.now c.substitute.new.store c.vars-vars.result c.in_ok-numbers.numbers c.items.result.now c.items-2.result.now c.in_ok-images.images.items c.as_slice.result.now c.as_slice-2.result.now c.in_ok-replaced.replaced.items c.as_slice-3.result.now c.push.new.self c.args.arg4 c.requires.unrefuted c.as_slice-2.ensures.value c.as_slice-3.ensures.value hand (λ e. c.if-len-eq0.false (omega (arith, e, c.len.ensures))) c.in_ok-substitute.ensures.ok (c.in_ok-push.ensures.ok ∙ ap (λ (x : List ℕ). x ++ 0 ∷ []) c.requires.empty)
