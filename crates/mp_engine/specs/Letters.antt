-- What each letter of a script stands for.
use Rattle.std.specs.Prelude.{ℕ, List}
use Rattle.mp_logic.specs.Keeping.{State}
use Rattle.mp_logic.specs.declared.instances.Repair.{Repair}
use Rattle.mp_store.specs.Techniques.{Technique}
use Rattle.mp_script.specs.declared.scripts.Letter.{Letter}
use Rattle.mp_script.specs.declared.scripts.Letter.TheVariants.{U, F, P, B, S, R, V, E, L, Gr, M, C, Amo, T, K, H}
use Rattle.t_units.specs.Units.{unit_propagation}
use Rattle.t_subsume.specs.Subsumption.{subsumption}
use Rattle.t_subsume.specs.Strengthening.{self_subsumption}
use Rattle.t_blocked.specs.BlockedClauses.{blocked_clauses}
use Rattle.t_elim.specs.Eliminating.{variable_elimination}
use Rattle.t_equiv.specs.Equivalences.{equivalent_literals}
use Rattle.t_labels.specs.Covers.{subsumed_labels}
use Rattle.t_labels.specs.Groups.{group_subsumed_labels}
use Rattle.t_matching.specs.Cores.{binary_core_removal}
use Rattle.t_matching.specs.Matching.{label_matching}
use Rattle.t_failed.specs.Failed.{failed_literals}
use Rattle.t_failed.specs.Pairs.{implied_pairs}
use Rattle.t_amo.specs.AtMostOnes.{at_most_one_labels}
use Rattle.t_probe.specs.Asking.{Asking}
use Rattle.t_probe.specs.Trimming.{trimming}
use Rattle.t_probe.specs.PairCores.{pair_core_search}
use Rattle.t_probe.specs.Hardening.{LeavesOffset, IsHardened}

-- how a technique works: it rewrites by turns; it asks a solver until its end state; or it asks one for the cost of a model,
-- and then its own part is what it leaves alone
pub data Kind : Type 1 where
  turns : Technique → Kind
  asks : Asking → Kind
  hardens : (State → State → List Repair → Type 0) → Kind

abbrev pub kind_of : Letter → Kind
kind_of U = turns unit_propagation
kind_of F = turns failed_literals
kind_of P = turns implied_pairs
kind_of B = turns blocked_clauses
kind_of S = turns subsumption
kind_of R = turns self_subsumption
kind_of V = turns variable_elimination
kind_of E = turns equivalent_literals
kind_of L = turns subsumed_labels
kind_of Gr = turns group_subsumed_labels
kind_of M = turns label_matching
kind_of C = turns binary_core_removal
kind_of Amo = turns at_most_one_labels
kind_of T = asks trimming
kind_of K = asks pair_core_search
kind_of H = hardens LeavesOffset

abbrev pub end_state_of : Kind → ℕ → State → Type 0
end_state_of (turns technique) u s = technique.HasEndState s
end_state_of (asks asking) u s = asking.HasEndState s
end_state_of (hardens Leaves) u s = IsHardened u s

-- what a technique leaves alone, given the repairs that it adds
abbrev pub leaves_alone : Kind → State → State → List Repair → Type 0
leaves_alone (turns technique) s t added = technique.LeavesAlone s t added
leaves_alone (asks asking) s t added = asking.LeavesAlone s t added
leaves_alone (hardens Leaves) s t added = Leaves s t added

-- the letter has nothing left to do; the number is used by hardening alone
abbrev pub HasEndState : Letter → ℕ → State → Type 0
HasEndState letter u s = end_state_of (kind_of letter) u s
