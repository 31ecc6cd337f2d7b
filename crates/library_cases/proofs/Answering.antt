-- Why what the oracle answers is right.
use Rattle.std.proofs.Common.{◌≡◌, Bool, true, IsTrue, List, length, Contains}
use Rattle.std.specs.List.{list_all}
use Rattle.std.proofs.lemmas.List.Elements.{All-contains}
use Rattle.std.proofs.lemmas.List.Sums.{AllPass-from_list_all}
use Rattle.mp_logic.specs.Literal.{Literal}
use Rattle.mp_logic.specs.Truth.{clause_value, literal_value}
use Rattle.core_solver.specs.declared.query.Query.{Query}
use Rattle.core_solver.specs.declared.query.Verdict.TheVariants.{Model, Core}
use Rattle.core_solver.specs.Verdicts.{IsRightVerdict}

pub met-right : (q : Query) (a : List Bool) → length a ≡ q.vars → list_all (clause_value a) q.hard ≡ true → list_all (literal_value a) q.assumptions ≡ true → IsRightVerdict q (Model a)
met-right q a n h l = (n, AllPass-from_list_all (clause_value a) q.hard h, λ k i. All-contains (λ x. IsTrue (literal_value a x)) q.assumptions k (AllPass-from_list_all (literal_value a) q.assumptions l) i)

-- assumptions that are among others make no more of them true
pub all-right : (q : Query) (c : List Literal) → IsRightVerdict q (Core c) → IsRightVerdict q (Core q.assumptions)
all-right q c h = (λ l i. i, λ a s m. h.1 a s (λ l i. m l (h.0 l i)))
