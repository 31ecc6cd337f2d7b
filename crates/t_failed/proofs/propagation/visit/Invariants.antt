use Rattle.std.proofs.Common.{◌≡◌, ℕ, List, Contains, length, take}
use Rattle.std.specs.Prelude.{Some}
use Rattle.mp_logic.specs.Literal.{Literal}
use Rattle.mp_clauses.specs.Slots.{clause_of, live_clauses}
use Rattle.t_failed.specs.Propagating.{IsExtended, IsSettled}
use Rattle.t_failed.proofs.propagation.visit.Given as goal

abbrev pub invariant-loop-id : goal.invariant-loop-id
invariant-loop-id l = record {
  extended : IsExtended l.store.vars (live_clauses l.store.slots) l.initial.trail l.trail;
  settled : (id : ℕ) (c : List Literal) → Contains (take l.id-index l.id-items) id → clause_of l.store.slots id ≡ Some c → IsSettled l.trail (length l.initial.trail) c;
}
