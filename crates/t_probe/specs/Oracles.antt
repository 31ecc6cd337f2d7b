-- An oracle: a closure that answers queries.
use Rattle.std.specs.Prelude.{◌≡◌, Ok, Result}
use Rattle.std.specs.Borrow.{Bor}
use Rattle.std.specs.declared.alloc.Global.{Global}
use Rattle.mp_logic.specs.declared.lists.NoMemory.{NoMemory}
use Rattle.core_solver.specs.declared.query.Query.{Query}
use Rattle.core_solver.specs.declared.query.Verdict.{Verdict}
use Rattle.core_solver.specs.Verdicts.{IsQuery, IsRightVerdict}
use Rattle.t_probe.specs.declared.oracle.Oracle.{Oracle}

-- the closure may be called on every valid query, and each verdict that it gives is right
pub record AnswersRightly {F : Type 0} (pre : F → Global → Bor Query → Type 0) (post : F → Global → Bor Query → Result Verdict NoMemory → Type 0) (f : F) : Type 0 where
  pub callable : (alloc : Global) (query : Bor Query) → IsQuery query.now → pre f alloc query
  pub right : (alloc : Global) (query : Bor Query) (verdict : Verdict) → IsQuery query.now → post f alloc query (Ok verdict) → IsRightVerdict query.now verdict

-- the stored closure does so
abbrev pub IsSound : {F : Type 0} → (F → Global → Bor Query → Type 0) → (F → Global → Bor Query → Result Verdict NoMemory → Type 0) → Oracle F → Type 0
IsSound pre post oracle = AnswersRightly pre post oracle.f

-- the stored closure may answer the query with the verdict
abbrev pub MayAnswer : {F : Type 0} → (F → Global → Bor Query → Result Verdict NoMemory → Type 0) → Oracle F → Query → Verdict → Type 0
MayAnswer post oracle query verdict = (alloc : Global) × (asked : Bor Query) × (asked.now ≡ query) × post oracle.f alloc asked (Ok verdict)
