use Rattle.std.proofs.Common.{◌≡◌, get_or, length, true, false}
use Rattle.t_equiv_graph.specs.Spreads.{IsSound, no_of}
use Rattle.t_equiv_graph.proofs.spreading.spread.Given as goal

abbrev pub invariant-ways : goal.invariant-ways
invariant-ways l = record {
  many : length l.seen.items ≡ l.fn.count;
  own : get_or l.seen.items l.fn.node false ≡ true;
  sound : IsSound l.from l.to l.fn.node l.seen.items;
}

abbrev pub decreases-ways : goal.decreases-ways
decreases-ways l = no_of l.seen.items
