use Rattle.std.proofs.Common.{◌≡◌, true, sym, subst, ◌∙◌}
use Rattle.std.specs.Prelude.{All}
use Rattle.mp_logic.specs.Literal.{IsUpTo}
use Rattle.mp_logic.specs.Normal.{rises}
use Rattle.t_subsume.specs.Containment.{HasNoHolderBelow}
use Rattle.t_subsume.proofs.Flipping.{flip-rises, flip-within}
use Rattle.t_subsume.proofs.Subsuming.{clause-normal, clause-within}
use Rattle.t_subsume.proofs.Strengthened.{flipped-no-holder}
use Rattle.t_subsume.proofs.Parts.{flipped-from, put-back, used-from}
use Rattle.t_subsume.proofs.strengthening.find_strengthened.Goals as goal

pub holders-found-requires-clause-normal : goal.holders-found-requires-clause-normal
holders-found-requires-clause-normal c =
    let flip = flipped-from c.args.lits.now c.set.new.self c.items-2.result.now c.args.place c.literal_of-lit.result c.negated.result c.literal_of-lit.ensures c.negated.ensures c.set.ensures c.items-2.ensures in
    subst (λ x. rises 0 x ≡ true) (sym flip) (flip-rises 0 c.args.lits.now c.args.place (clause-normal c.args.store.now c.args.id c.args.lits.now c.vars.ensures.sound c.requires.own))

pub holders-found-requires-clause-within : goal.holders-found-requires-clause-within
holders-found-requires-clause-within c =
    let flip = flipped-from c.args.lits.now c.set.new.self c.items-2.result.now c.args.place c.literal_of-lit.result c.negated.result c.literal_of-lit.ensures c.negated.ensures c.set.ensures c.items-2.ensures in
    subst (All (IsUpTo c.args.store.now.vars)) (sym flip)
    (flip-within c.args.store.now.vars c.args.lits.now c.args.place (clause-normal c.args.store.now c.args.id c.args.lits.now c.vars.ensures.sound c.requires.own) c.requires.place (clause-within c.args.store.now c.args.id c.args.lits.now c.vars.ensures.sound c.requires.own))

pub least_holder-least-requires-clause-rested : goal.least_holder-least-requires-clause-rested
least_holder-least-requires-clause-rested c =
    let flip = flipped-from c.args.lits.now c.set.new.self c.items.result.now c.args.place c.literal_of-lit.result c.negated.result c.literal_of-lit.ensures c.negated.ensures c.set.ensures c.items.ensures in
    subst (λ x. HasNoHolderBelow c.args.least c.args.store.now.slots x c.args.id) (sym flip) (flipped-no-holder c.args.least c.args.id c.args.place c.args.store.now.slots c.args.lits.now c.requires.place c.requires.rested)

pub least_holder-least-requires-clause-normal : goal.least_holder-least-requires-clause-normal
least_holder-least-requires-clause-normal c =
    let flip = flipped-from c.args.lits.now c.set.new.self c.items.result.now c.args.place c.literal_of-lit.result c.negated.result c.literal_of-lit.ensures c.negated.ensures c.set.ensures c.items.ensures in
    subst (λ x. rises 0 x ≡ true) (sym flip) (flip-rises 0 c.args.lits.now c.args.place (clause-normal c.args.store.now c.args.id c.args.lits.now c.vars.ensures.sound c.requires.own))

pub holders-found-requires-clause-rested : goal.holders-found-requires-clause-rested
holders-found-requires-clause-rested c = subst (λ x. HasNoHolderBelow c.least_holder-least.result c.args.store.now.slots x c.args.id) (c.items.ensures ∙ sym c.items-2.ensures) c.least_holder-least.ensures

pub returns-in_err-gone-clause-lits : goal.returns-in_err-gone-clause-lits
returns-in_err-gone-clause-lits c = put-back c.args.lits.now c.set.new.self c.set-2.new.self c.args.place c.literal_of-lit.result c.negated.result c.literal_of-lit.ensures c.set.ensures c.set-2.ensures

pub returns-clause-lits : goal.returns-clause-lits
returns-clause-lits c = put-back c.args.lits.now c.set.new.self c.set-2.new.self c.args.place c.literal_of-lit.result c.negated.result c.literal_of-lit.ensures c.set.ensures c.set-2.ensures

pub returns-clause-found : goal.returns-clause-found
returns-clause-found c =
    let flip = flipped-from c.args.lits.now c.set.new.self c.items-2.result.now c.args.place c.literal_of-lit.result c.negated.result c.literal_of-lit.ensures c.negated.ensures c.set.ensures c.items-2.ensures in
    used-from c.args.store.now c.args.id c.args.place c.args.lits.now c.items-2.result.now c.in_ok-gone.gone c.vars.ensures.sound c.requires.own c.requires.place flip c.in_ok-gone.ensures
