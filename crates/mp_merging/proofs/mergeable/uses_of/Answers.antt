use Rattle.std.proofs.Common.{List, All, IsTrue, sym, subst}
use Rattle.mp_logic.specs.Literal.{Literal}
use Rattle.mp_logic.specs.Normal.{rises}
use Rattle.mp_merging.proofs.Tests.{rises_apart}
use Rattle.mp_merging.proofs.mergeable.uses_of.Goals as goal

pub count_clause-requires-clause-apart : goal.count_clause-requires-clause-apart
count_clause-requires-clause-apart c =
    let normal = subst (λ (cs : List (List Literal)). All (λ d. IsTrue (rises 0 d)) cs) (sym c.items-clause-items.ensures) c.requires.normal in
    rises_apart 0 c.clause-item.result (subst (λ (d : List Literal). IsTrue (rises 0 d)) (sym c.clause-item.is) (normal c.loop-clause.clause-index c.clause-item.result c.loop-clause-test.true))
