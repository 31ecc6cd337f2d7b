use Rattle.std.proofs.Common.{◌∙◌, ◌++◌, ◌∷◌, List, [], Contains, ap, sym}
use Rattle.mp_logic.specs.Literal.{Literal}
use Rattle.t_amo.proofs.Choices.{choice-begun, choice-more, choice-done, kept-fewer, left-some, left-none, next-within}
use Rattle.t_amo.proofs.choosing.choose.Goals as goal

pub choose-init : goal.choose-init
choose-init c =
    choice-begun c.args.store.now c.args.lit c.push.new.self.items c.args.left.now.items c.requires.label c.requires.partners c.requires.some (c.in_ok-push.ensures.items ∙ ap (λ (xs : List Literal). xs ++ c.args.lit ∷ []) c.clear.ensures.items)

pub keep_partners-requires : goal.keep_partners-requires
keep_partners-requires c =
    let some = left-some c.choose.left.items c.choose.left.len c.is_empty.result c.is_empty.ensures c.choose.left.ok.0 c.choose-test.true in
    let there : Contains c.choose.left.items c.index-next.result.now = (0, some, sym c.index-next.ensures) in
    next-within c.args.store.now c.args.lit c.index-next.result.now c.choose.chosen.items c.choose.left.items c.vars.ensures.sound c.choose.invariant there

pub choose-smaller : goal.choose-smaller
choose-smaller c =
    let some = left-some c.choose.left.items c.choose.left.len c.is_empty.result c.is_empty.ensures c.choose.left.ok.0 c.choose-test.true in
    let there : Contains c.choose.left.items c.index-next.result.now = (0, some, sym c.index-next.ensures) in
    kept-fewer c.args.store.now c.index-next.result.now c.choose.left.items c.keep_partners.new.left.items there c.in_ok-keep_partners.ensures

pub choose-preserved : goal.choose-preserved
choose-preserved c =
    let some = left-some c.choose.left.items c.choose.left.len c.is_empty.result c.is_empty.ensures c.choose.left.ok.0 c.choose-test.true in
    let there : Contains c.choose.left.items c.index-next.result.now = (0, some, sym c.index-next.ensures) in
    choice-more c.args.store.now c.args.lit c.index-next.result.now c.choose.chosen.items c.choose.left.items c.push-in-choose.new.self.items c.keep_partners.new.left.items c.choose.invariant there c.in_ok-push-2.ensures.items c.in_ok-keep_partners.ensures

pub returns : goal.returns
returns c =
    choice-done c.args.store.now c.args.lit c.choose.chosen.items c.choose.left.items c.choose.invariant (left-none c.choose.left.items c.choose.left.len c.is_empty.result c.is_empty.ensures c.choose.left.ok.0 c.choose-test.false)
