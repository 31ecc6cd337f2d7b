use Rattle.std.proofs.Common.{◌≡◌, length}
use Rattle.t_matching.proofs.FreeLabels.{AreInOrder, AreSameFrom}
use Rattle.t_matching.proofs.free_partners.put_in_order.Given as goal

abbrev pub invariant-loop-number : goal.invariant-loop-number
invariant-loop-number l = record {
  len : length l.classes.items ≡ length l.fn.classes.items;
  done : AreInOrder l.fn.classes.items l.classes.items l.number;
  rest : AreSameFrom l.fn.classes.items l.classes.items l.number;
}
