use Rattle.std.proofs.Common.{sym, ◌∙◌}
use Rattle.std.proofs.lemmas.List.{drop_all}
use Rattle.std.proofs.lemmas.Bool.{true≢false}
use Rattle.mp_store.specs.Held.{labelled_of}
use Rattle.t_matching.specs.Cores.{AreCore}
use Rattle.t_matching.proofs.Lowest.{left-step, left-found, left-none}
use Rattle.t_matching.proofs.core_partners.first_core.Goals as goal

pub returns-then-are_core : goal.returns-then-are_core
returns-then-are_core c = left-found (λ m. AreCore c.args.lit m (labelled_of c.args.store.now)) c.args.others.now c.loop-other.other-index c.other-item.result c.loop-other-test.true c.other-item.is (c.are_core.ensures.0 c.if-are_core.true) c.loop-other.invariant

pub loop-other-preserved : goal.loop-other-preserved
loop-other-preserved c = left-step (λ m. AreCore c.args.lit m (labelled_of c.args.store.now)) c.args.others.now c.loop-other.other-index c.other-item.result c.loop-other-test.true c.other-item.is (λ m. true≢false (sym (c.are_core.ensures.1 m) ∙ c.if-are_core.false)) c.loop-other.invariant

pub returns : goal.returns
returns c = left-none (λ m. AreCore c.args.lit m (labelled_of c.args.store.now)) c.args.others.now c.loop-other.other-index (drop_all c.loop-other.other-index c.args.others.now c.loop-other-test.false) c.loop-other.invariant
