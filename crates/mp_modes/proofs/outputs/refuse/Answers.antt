use Rattle.std.proofs.Common.{inl, inr, sym, arith}
use Rattle.mp_modes.proofs.Traced.{fixed_unsaid}
use Rattle.mp_modes.proofs.outputs.refuse.Goals as goal

pub returns-in-None-clause-says : goal.returns-in-None-clause-says
returns-in-None-clause-says g c = inl c.said.ensures.says

pub returns-in-Ok-clause-says : goal.returns-in-Ok-clause-says
returns-in-Ok-clause-says g c = inl c.said-in-Ok.ensures.says

pub returns-in-Err-clause-says : goal.returns-in-Err-clause-says
returns-in-Err-clause-says g c = inr (fixed_unsaid _ _ c.in-Some.ensures.some, c.said-in-Err.ensures.says)
