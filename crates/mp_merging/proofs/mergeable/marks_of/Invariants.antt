use Rattle.std.proofs.Common.{◌≡◌, ◌&&◌, false, take, length, get_or}
use Rattle.mp_logic.specs.Literal.{Literal}
use Rattle.mp_clauses.specs.Places.{place_of}
use Rattle.mp_merging.specs.MergedForm.{is_cost}
use Rattle.mp_merging.specs.Tables.{is_sole}
use Rattle.mp_merging.proofs.mergeable.marks_of.Given as goal

abbrev pub invariant-loop-cost : goal.invariant-loop-cost
invariant-loop-cost l = record {
  len : length l.marks.items ≡ length l.uses.items;
  each : (k : Literal) → get_or l.marks.items (place_of k) false ≡ (is_cost (take l.cost-index l.cost-items) k && is_sole l.uses.items k);
}
