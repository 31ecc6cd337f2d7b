use Rattle.std.proofs.Common.{◌≡◌, ◌≤◌, ◌<◌, ℕ, get_or, length, All}
use Rattle.mp_logic.specs.Literal.{Literal}
use Rattle.t_equiv.specs.Implications.{number_place}
use Rattle.t_equiv.specs.Images.{IsFirst, AreHeads}
use Rattle.t_equiv.proofs.images.images_of.Given as goal

abbrev pub invariant-loop-place : goal.invariant-loop-place
invariant-loop-place l = record {
  heads : AreHeads l.numbers l.place l.heads.items;
  many : length l.made.items ≡ l.place;
  known : All (λ (k : Literal). 1 ≤ k.variable) l.made.items;
  first : (p : ℕ) (k : Literal) → p < l.place → IsFirst l.numbers p (number_place (get_or l.made.items p k));
}
