use Rattle.std.proofs.Common.{sym, ◌∙◌}
use Rattle.std.proofs.lemmas.List.{drop_all}
use Rattle.std.proofs.lemmas.Bool.{true≢false}
use Rattle.mp_store.specs.Held.{labelled_of}
use Rattle.t_matching.specs.Matching.{AreMatching}
use Rattle.t_matching.proofs.Lowest.{left-step, left-found, left-none}
use Rattle.t_matching.proofs.match_partners.first_match.Goals as goal

pub returns-then-do_match : goal.returns-then-do_match
returns-then-do_match c = left-found (λ m. AreMatching c.args.lit m (labelled_of c.args.store.now)) c.args.others.now c.loop-other.other-index c.other-item.result c.loop-other-test.true c.other-item.is (c.do_match.ensures.0 c.if-do_match.true) c.loop-other.invariant

pub loop-other-preserved : goal.loop-other-preserved
loop-other-preserved c = left-step (λ m. AreMatching c.args.lit m (labelled_of c.args.store.now)) c.args.others.now c.loop-other.other-index c.other-item.result c.loop-other-test.true c.other-item.is (λ m. true≢false (sym (c.do_match.ensures.1 m) ∙ c.if-do_match.false)) c.loop-other.invariant

pub returns : goal.returns
returns c = left-none (λ m. AreMatching c.args.lit m (labelled_of c.args.store.now)) c.args.others.now c.loop-other.other-index (drop_all c.loop-other.other-index c.args.others.now c.loop-other-test.false) c.loop-other.invariant
