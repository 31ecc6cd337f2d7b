use Rattle.std.proofs.Common.{◌≡◌, ◌<◌, ℕ, Bool, false, List, length, sym, ◌∙◌, inl, inr}
use Rattle.std.proofs.lemmas.Bool.{cases_lt, true≢false}
use Rattle.std.proofs.lemmas.List.{get_or_past}
use Rattle.mp_logic.specs.Literal.{Literal}
use Rattle.mp_logic.proofs.Members.{All-from_contained}
use Rattle.mp_clauses.specs.Places.{place_of, has}
use Rattle.mp_clauses.specs.Tables.{marked, AreWithin}
use Rattle.mp_clauses.proofs.Found.{has-by}
use Rattle.mp_store.proofs.literal_set.LiteralSet.clear.Goals as goal

held-within : (marks : List Bool) (lits : List Literal) → ((p : ℕ) → marked marks p ≡ has p lits) → AreWithin (length marks) lits
held-within marks lits h = All-from_contained (λ l. place_of l < length marks) lits (λ l i. elim (cases_lt (place_of l) (length marks)) [
  | inl b ↦ b
  | inr past ↦ absurd (true≢false (sym (has-by lits l i) ∙ (sym (h (place_of l)) ∙ get_or_past marks (place_of l) false past)))
])

pub unmark-requires : goal.unmark-requires
unmark-requires c = rw c.deref.ensures.value (held-within c.self.inside.marks.items c.self.inside.lits.items c.self.invariant)
