use Rattle.std.specs.Prelude.{nat_eq}
use Rattle.std.specs.HashMap.{get}
use Rattle.t_matching.proofs.FreeLabels.{HasMore, class-set, more-same, more-put}
use Rattle.t_matching.proofs.free_partners.FreeLabels.put.Goals as goal

pub returns-clause-others : goal.returns-clause-others
returns-clause-others c = λ w m i.
    (let more = more-put c.index_mut-class.result.now c.put.new.self c.args.lit c.in_ok-put.ensures.labels c.in_ok-put.ensures.passed in
    let within = c.in_ok-number.ensures.numbers c.args.weight c.in_ok-number.number c.in_ok-number.ensures.own in
    (class-set HasMore c.number.new.self.classes.items c.in_ok-number.number c.index_mut-class.result.now c.put.new.self more-same within c.index_mut-class.ensures.value more (get nat_eq c.number.new.self.numbers w)).0 m (rw (c.in_ok-number.ensures.same w) i))
