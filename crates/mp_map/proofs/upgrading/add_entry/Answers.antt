use Rattle.std.proofs.Common.{◌≡◌, ◌++◌, List, sym, ◌∙◌}
use Rattle.std.proofs.lemmas.Result.{on_ok_weaker}
use Rattle.mp_map.specs.declared.maps.Entry.{Entry}
use Rattle.mp_map.proofs.Joins.{IsTaken, taken}
use Rattle.mp_map.proofs.upgrading.add_entry.Goals as goal

pub returns-then-set_the_same : goal.returns-then-set_the_same
returns-then-set_the_same c =
    let made : List Entry = c.args.made.now in
    let last : Entry = c.args.last.now in
    let next : Entry = c.args.entry.now in
    let step : c.add_clauses.new.clauses ≡ last.clauses ++ next.clauses → IsTaken made last next c.add_clauses.new.clauses =
    λ e. taken made last next c.add_clauses.new.clauses (sym c.set_the_same.ensures ∙ c.if-set_the_same.true) e in
    on_ok_weaker c.add_clauses.result step c.add_clauses.ensures
