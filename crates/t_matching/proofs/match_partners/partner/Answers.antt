use Rattle.t_matching.proofs.Partners.{lowest-of}
use Rattle.t_matching.proofs.match_partners.partner.Goals as goal

pub returns : goal.returns
returns c =
    let first = rw c.items.ensures at c.first_match-first.ensures in
    rw c.lower.ensures (lowest-of c.args.store.now c.args.lit c.in_ok-others.others c.first_match-first.result c.args.free c.in_ok-others.ensures.all first c.requires.free)
