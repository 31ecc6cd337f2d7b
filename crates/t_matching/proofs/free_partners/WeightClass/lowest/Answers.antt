use Rattle.std.proofs.Common.{◌∙◌, sym}
use Rattle.std.proofs.lemmas.Bool.{true≢false}
use Rattle.t_matching.proofs.FreeLabels.{free-all, free-unused, rest-is, rise-drop}
use Rattle.t_matching.proofs.free_partners.WeightClass.lowest.Goals as goal

pub free_partner-requires-clause-all : goal.free_partner-requires-clause-all
free_partner-requires-clause-all c = λ m match. rw c.items.ensures (free-all c.args.store.now c.args.lit c.args.weight c.args.self.now c.requires.weight c.requires.class m match)

pub free_partner-requires-2-clause-rising : goal.free_partner-requires-2-clause-rising
free_partner-requires-2-clause-rising c = rw (rest-is, c.items-3.ensures) (rise-drop c.first_unused-self.result c.args.self.now.labels c.requires.class.rising)

pub free_partner-requires-2-clause-all : goal.free_partner-requires-2-clause-all
free_partner-requires-2-clause-all c = λ m match. rw (rest-is, c.items-3.ensures) (free-unused c.args.store.now c.args.lit c.args.weight c.args.self.now c.first_unused-self.result c.requires.weight c.requires.class (rw c.items-2.ensures at c.first_unused-self.ensures.behind) (λ u. true≢false (sym (c.is_unused.ensures.1 u) ∙ c.if-is_unused.false)) m match)
