use Rattle.std.proofs.Common.{Decides, ◌≡◌}
use Rattle.std.proofs.lemmas.Slice.Eq.{slice_eq-Decides}
use Rattle.mp_logic.proofs.Literals.{lit_decides}
use Rattle.mp_map.proofs.Joins.{decided}
use Rattle.mp_map.proofs.joining.set_the_same.Goals as goal

pub returns : goal.returns
returns c =
    let d : Decides c.eq.result (c.args.a.now ≡ c.args.b.now) = rw (← c.items.ensures, ← c.items-2.ensures) (slice_eq-Decides lit_decides _ _ c.eq.result c.eq.ensures) in
    decided c.eq.result c.args.a.now c.args.b.now d
