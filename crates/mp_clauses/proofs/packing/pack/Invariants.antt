use Rattle.std.proofs.Common.{◌≡◌, ◌+◌, ◌-◌, ◌≤◌, length, take, drop, sum_by}
use Rattle.std.specs.Prelude.{vec_len, vec_capacity}
use Rattle.mp_clauses.specs.Tables.{kept_part, place_at}
use Rattle.mp_clauses.proofs.Packed.{ArePacked}
use Rattle.mp_clauses.proofs.packing.pack.Given as goal

abbrev pub invariant-loop-id : goal.invariant-loop-id
invariant-loop-id l = record {
  packed : ArePacked l.old l.initial.places.items (take l.id-index l.ids) l.literals.items l.places.items l.order.items;
  room : vec_len l.literals + sum_by (λ id. length (kept_part l.old (place_at l.initial.places.items id))) (drop l.id-index l.ids) ≤ vec_capacity l.initial.literals;
  free : vec_len l.order + (length l.ids - l.id-index) ≤ vec_capacity l.initial.order;
  same_room : vec_capacity l.initial.literals ≤ vec_capacity l.literals;
  same_free : vec_capacity l.order ≡ vec_capacity l.initial.order;
  kept : vec_capacity l.places ≡ vec_capacity l.initial.places;
}
