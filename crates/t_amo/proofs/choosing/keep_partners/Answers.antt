use Rattle.std.proofs.Common.{rules}
use Rattle.std.proofs.lemmas.Fn.{filter_same}
use Rattle.mp_logic.specs.Literal.{Literal}
use Rattle.mp_clauses.specs.Places.{place_of, has}
use Rattle.t_amo.proofs.Choices.{kept-is}
use Rattle.t_amo.proofs.choosing.keep_partners.Goals as goal

pub returns : goal.returns
returns c =
    kept-is c.args.store.now c.args.lit c.find_partners.new.found c.items.result.now c.hold.new.self _ c.retain.new.self.items c.in_ok-find_partners.ensures c.items.ensures c.in_ok-hold.ensures
    (filter_same _ (λ (k : Literal). has (place_of k) c.hold.new.self) _ (λ x b q h. search rules) _ _ c.retain.ensures.filtered)
