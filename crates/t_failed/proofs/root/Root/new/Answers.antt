use Rattle.t_failed.proofs.Roots.{root-none}
use Rattle.t_failed.proofs.root.Root.new.Goals as goal

pub follow-requires : goal.follow-requires
follow-requires c = root-none c.args.store.now _ c.new.ensures
