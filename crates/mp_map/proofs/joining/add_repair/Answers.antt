use Rattle.std.proofs.Common.{◌≡◌, ◌++◌, ◌∷◌, [], List, ap, sym, ◌∙◌}
use Rattle.std.proofs.lemmas.Result.{on_ok_weaker}
use Rattle.mp_logic.specs.Literal.{Literal}
use Rattle.mp_map.specs.Entries.{entry_of}
use Rattle.mp_map.specs.declared.maps.Entry.{Entry}
use Rattle.mp_map.proofs.Joins.{IsTaken, taken}
use Rattle.mp_map.proofs.joining.add_repair.Goals as goal

pub returns-then-set_the_same : goal.returns-then-set_the_same
returns-then-set_the_same c =
    let made : List Entry = c.args.made.now in
    let last : Entry = c.args.last.now in
    let next : Entry = entry_of c.args.repair.now in
    let step : c.push.new.self ≡ last.clauses ++ c.in_ok-copy.field-0 ∷ [] → IsTaken made last next c.push.new.self =
    λ e. taken made last next c.push.new.self (sym c.set_the_same.ensures ∙ c.if-set_the_same.true) (e ∙ ap (λ (x : List Literal). last.clauses ++ x ∷ []) c.in_ok-copy.ensures) in
    on_ok_weaker c.push.result step c.push.ensures.ok
