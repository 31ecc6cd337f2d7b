use Rattle.std.proofs.Common.{◌≡◌, ◌<◌, ℕ, length}
use Rattle.mp_clauses.specs.Places.{place_of}
use Rattle.t_subsume.specs.Filtering.{CoversAt}
use Rattle.t_subsume.specs.Shortening.{lit_at}
use Rattle.t_subsume.proofs.filter.widen.Given as goal

abbrev pub invariant-loop-lit : goal.invariant-loop-lit
invariant-loop-lit l = record {
  len : length l.wide.items ≡ length l.fn.wide.items;
  before : (p s : ℕ) → CoversAt l.fn.wide.items p s → CoversAt l.wide.items p s;
  own : (k : ℕ) → k < l.lit-index → CoversAt l.wide.items (place_of (lit_at l.clause k)) l.bits;
}
