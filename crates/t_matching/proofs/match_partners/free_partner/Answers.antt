use Rattle.std.proofs.Common.{◌∙◌, sym}
use Rattle.std.proofs.lemmas.List.{drop_all}
use Rattle.std.proofs.lemmas.Bool.{true≢false}
use Rattle.mp_store.specs.Held.{labelled_of}
use Rattle.t_matching.specs.Pairing.{AreFreelyMatching}
use Rattle.t_matching.proofs.Lowest.{left-step}
use Rattle.t_matching.proofs.Partners.{freely-found, freely-none}
use Rattle.t_matching.proofs.match_partners.free_partner.Goals as goal

pub returns-then-do_match_freely : goal.returns-then-do_match_freely
returns-then-do_match_freely c = freely-found c.args.lit (labelled_of c.args.store.now) c.args.others.now c.loop-other.other-index c.other-item.result c.loop-other-test.true c.other-item.is (c.do_match_freely.ensures.0 c.if-do_match_freely.true) c.requires.all c.loop-other.invariant

pub loop-other-preserved : goal.loop-other-preserved
loop-other-preserved c = left-step (λ m. AreFreelyMatching c.args.lit m (labelled_of c.args.store.now)) c.args.others.now c.loop-other.other-index c.other-item.result c.loop-other-test.true c.other-item.is (λ m. true≢false (sym (c.do_match_freely.ensures.1 m) ∙ c.if-do_match_freely.false)) c.loop-other.invariant

pub returns : goal.returns
returns c = freely-none c.args.lit (labelled_of c.args.store.now) c.args.others.now c.loop-other.other-index (drop_all c.loop-other.other-index c.args.others.now c.loop-other-test.false) c.requires.all c.loop-other.invariant
