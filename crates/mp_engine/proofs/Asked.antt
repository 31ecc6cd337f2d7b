-- What a technique that asks a solver answered, as a step of its letter.
use Rattle.std.proofs.Common.{◌≡◌, ◌<◌, ◌≤◌, ◌+◌, ℕ, Bool, sum_by, refl, sym, subst, inl, inr, arith}
use Rattle.std.specs.Prelude.{Option}
use Rattle.mp_logic.specs.Keeping.{State, charged}
use Rattle.mp_logic.specs.Weights.{weight_bound}
use Rattle.mp_logic.specs.declared.instances.Cost.{Cost}
use Rattle.mp_logic.proofs.Charges.{charged_at_most}
use Rattle.mp_logic.proofs.Members.{sum_by_le}
use Rattle.mp_store.specs.Held.{Held, labelled_of}
use Rattle.mp_store.specs.Techniques.{IsRun, IsChange}
use Rattle.core_solver.specs.declared.query.Query.{Query}
use Rattle.core_solver.specs.declared.query.Verdict.{Verdict}
use Rattle.t_probe.specs.declared.probed.Probed.{Probed}
use Rattle.t_probe.specs.declared.probed.ProbeEnding.{ProbeEnding}
use Rattle.t_probe.specs.declared.probed.ProbeEnding.TheVariants as probes
use Rattle.t_probe.specs.Asking.{Asking, IsProbeEnd, IsProbed}
use Rattle.t_probe.specs.Hardening.{IsHardened, hardening}
use Rattle.mp_engine.specs.declared.done.StageEnding.{StageEnding}
use Rattle.mp_engine.specs.Letters.{asks, hardens}
use Rattle.mp_engine.specs.Stages.{learning_budget, IsAskEnding, IsHardenEnding}
use Rattle.mp_engine.specs.Stores.{asked_ending_of, HasStepped}

-- a technique that never answers a bound
ask_ends : (asking : Asking) (Answers : Query → Verdict → Type 0) (budget : Option ℕ) (t : State) (e : ProbeEnding) → ((u : ℕ) → asking.HasBound u t → ⊥)
    → IsProbeEnd asking Answers (learning_budget budget) t e → IsAskEnding asking.HasEndState budget t (asked_ending_of t.offset e)
ask_ends asking Answers budget t probes.Finished none h = h
ask_ends asking Answers budget t (probes.Spent query learnt) none h = (learnt, h.many, h.lessons)
ask_ends asking Answers budget t (probes.Bound u) none h = absurd (none u h)

harden_ends : (Answers : Query → Verdict → Type 0) (budget : Option ℕ) (t : State) (e : ProbeEnding)
    → IsProbeEnd hardening Answers (learning_budget budget) t e → IsHardenEnding budget t (asked_ending_of t.offset e)
harden_ends Answers budget t probes.Finished h = elim h [ inl r ↦ r | inr f ↦ absurd f ]
harden_ends Answers budget t (probes.Spent query learnt) h = (learnt, h.many, h.lessons)
harden_ends Answers budget t (probes.Bound u) h = (u, refl, h)

pub asks_stepped : (asking : Asking) (Answers : Query → Verdict → Type 0) (budget : Option ℕ) (b : ℕ) (old new : Held) (probed : Probed) (ending : StageEnding) (changed : Bool)
    → ((u : ℕ) → asking.HasBound u (labelled_of new) → ⊥) → b ≡ learning_budget budget → IsRun asking.LeavesAlone old new → IsProbed asking Answers b old new probed
    → ending ≡ asked_ending_of (labelled_of new).offset probed.ending → changed ≡ probed.changed → HasStepped (asks asking) budget old new ending changed
asks_stepped asking Answers budget b old new probed ending changed none given run p e c =
    let ends : IsProbeEnd asking Answers (learning_budget budget) (labelled_of new) probed.ending = subst (λ (n : ℕ). IsProbeEnd asking Answers n (labelled_of new) probed.ending) given p.ending in (
      run,
      subst (λ (x : Bool). IsChange x old new) (sym c) p.change,
      subst (λ (x : StageEnding). IsAskEnding asking.HasEndState budget (labelled_of new) x) (sym e) (ask_ends asking Answers budget (labelled_of new) probed.ending none ends),
    )

pub hardens_stepped : (Answers : Query → Verdict → Type 0) (budget : Option ℕ) (b : ℕ) (old new : Held) (probed : Probed) (ending : StageEnding) (changed : Bool)
    → b ≡ learning_budget budget → IsRun hardening.LeavesAlone old new → IsProbed hardening Answers b old new probed
    → ending ≡ asked_ending_of (labelled_of new).offset probed.ending → changed ≡ probed.changed → HasStepped (hardens hardening.LeavesAlone) budget old new ending changed
hardens_stepped Answers budget b old new probed ending changed given run p e c =
    let ends : IsProbeEnd hardening Answers (learning_budget budget) (labelled_of new) probed.ending = subst (λ (n : ℕ). IsProbeEnd hardening Answers n (labelled_of new) probed.ending) given p.ending in (
      run,
      subst (λ (x : Bool). IsChange x old new) (sym c) p.change,
      subst (λ (x : StageEnding). IsHardenEnding budget (labelled_of new) x) (sym e) (harden_ends Answers budget (labelled_of new) probed.ending ends),
    )

-- a bound with the offset is in range
pub bound_below : (u : ℕ) (s : State) → IsHardened u s → s.offset + sum_by (λ p. p.weight) s.costs < weight_bound → s.offset + u < weight_bound
bound_below u s h below =
    let most = sum_by_le (charged h.1.0) (λ (p : Cost). p.weight) s.costs (λ p i. charged_at_most h.1.0 p) in
    let is : sum_by (charged h.1.0) s.costs ≡ u = h.1.2 in
    below_most s.offset (sum_by (λ (p : Cost). p.weight) s.costs) (sum_by (charged h.1.0) s.costs) u weight_bound most is below
  where
    below_most : (o w v u b : ℕ) → v ≤ w → v ≡ u → o + w < b → o + u < b
    below_most o w v u b most is below = omega arith
