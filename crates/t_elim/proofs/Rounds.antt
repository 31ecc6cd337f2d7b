-- Variable elimination by turns.
use Rattle.std.proofs.Common.{◌≡◌, ◌⊎◌, ℕ, ◌*◌, ◌-◌, ◌≤◌, false, List, ◌++◌, length, refl, sym, ◌∙◌, ap, subst, arith, inl, inr, Contains}
use Rattle.std.proofs.Math.Nat.{mul-le-mul_left}
use Rattle.std.proofs.lemmas.Bool.{cases_Bool, true≢false}
use Rattle.std.proofs.lemmas.List.Elements.{Contains-append_left}
use Rattle.mp_logic.specs.Keeping.{State}
use Rattle.mp_logic.specs.declared.instances.Repair.{Repair}
use Rattle.mp_clauses.specs.Places.{no_repeats}
use Rattle.mp_store.specs.Held.{Held, labelled_of}
use Rattle.mp_clauses.specs.Slots.{live_clauses}
use Rattle.mp_store.specs.Soundness.{IsStore}
use Rattle.mp_store.specs.Measures.{occurs}
use Rattle.mp_turns.specs.Leaving.{LeavesCosts}
use Rattle.mp_turns.specs.Turning.{IsTurning}
use Rattle.mp_turns.specs.Turned.{IsChangeOf}
use Rattle.mp_turns.proofs.OwnIdle.{own-idle}
use Rattle.mp_turns.proofs.Subsets.{rising-few}
use Rattle.t_elim.specs.Eliminating.{IsIdleVariable, occurring_variables, variable_elimination, eliminating}
use Rattle.t_elim.specs.Resolved.{IsEliminatedAt}
use Rattle.t_elim.proofs.Gone.{candidate-is}
use Rattle.t_elim.proofs.KeptElimination.{eliminated-state, eliminated-smaller, turned-idle, idle-stays, idle-all-ends, turned-occurs}
use Rattle.t_elim.proofs.Variables.{listed, listed-up, listed-once, listed-count, within-or}

costs-twice : (a b c : State) (x y : List Repair) → LeavesCosts a b x → LeavesCosts b c y → LeavesCosts a c (x ++ y)
costs-twice a b c x y f g = record { vars = g.vars ∙ f.vars; costs = g.costs ∙ f.costs; offset = g.offset ∙ f.offset }

-- what is no candidate is idle
listed-or-idle : (h : Held) (v : ℕ) → Contains (occurring_variables (labelled_of h)) v ⊎ (1 ≤ v → v ≤ h.vars → IsIdleVariable (labelled_of h) v)
listed-or-idle h v =
    elim (within-or v h.vars) [
      | inr out ↦ inr (λ a b. absurd (out a b))
      | inl up ↦ elim (cases_Bool (occurs v (live_clauses h.slots))) [
        | inl t ↦ inl (listed (labelled_of h) v up.0 up.1 t)
        | inr f ↦ inr (λ a b o. absurd (true≢false (sym o ∙ f)))
      ]
    ]

pub eliminating-sound : IsTurning eliminating
eliminating-sound = record {
  itself = λ s. record { vars = refl; costs = refl; offset = refl };
  twice = costs-twice;
  stays_itself = λ h u e. tt;
  stays_twice = λ m n a b c x y. tt;
  counted = λ h s. refl;
  distinct = λ h s. listed-once (labelled_of h);
  others = λ h v s. listed-or-idle h v;
  untouched = λ h u v e idle. let P : Held → Type 0 = λ x. 1 ≤ v → v ≤ x.vars → IsIdleVariable (labelled_of x) v in subst P (sym e) idle;
  ended = λ h s u idle. idle-all-ends h s idle;
  idle = λ h first rest s e own. own-idle variable_elimination (labelled_of h) first rest e (ap no_repeats (sym e) ∙ listed-once (labelled_of h)) (λ v m.
      let up = listed-up (labelled_of h) v (subst (λ xs. Contains xs v) (sym e) (Contains-append_left first rest v m)) in
      own v m up.0 up.1);
}

same-vars : (v : ℕ) (old new : Held) (near : List ℕ) → new.refuted ≡ false → IsEliminatedAt v old new near → new.vars ≡ old.vars
same-vars v old new near u d = ap (λ (s : State). s.vars) (eliminated-state v old new near u d)

-- the variables near it occurred before
near-few : (v : ℕ) (old new : Held) (near : List ℕ) → IsStore old → new.refuted ≡ false → IsEliminatedAt v old new near → length near ≤ length (occurring_variables (labelled_of old))
near-few v old new near s u d =
    rising-few near (occurring_variables (labelled_of old)) d.named.rising (λ i m.
    let c = candidate-is new i (d.named.only i m).1 in
    let vars = same-vars v old new near u d in
    listed (labelled_of old) i c.up.0 (omega (arith, c.up.1, vars)) (turned-occurs v i old new near s u d c.occurs))

pub eliminated-change : (v : ℕ) (old new : Held) (near : List ℕ) → IsStore old → IsStore new → new.refuted ≡ false → IsEliminatedAt v old new near → IsChangeOf eliminating v old new near
eliminated-change v old new near s w u d =
    let small = eliminated-smaller v old new near s u d in
    let lower = small.1 in
    let most = near-few v old new near s u d in
    let vars = same-vars v old new near u d in
    let was = listed-count (labelled_of old) in
    let now = listed-count (labelled_of new) in
    let all : ℕ = length (occurring_variables (labelled_of old)) in
    let fall : ℕ = variable_elimination.size (labelled_of old) - variable_elimination.size (labelled_of new) in
    let wide : all * 1 ≤ all * fall = mul-le-mul_left {m = 1} {n = fall} all (omega arith) in
    record {
      kept = λ i idle. elim (within-or i old.vars) [
        | inr out ↦ inr (λ a b. absurd (out a (omega (arith, b, vars))))
        | inl up ↦ elim (idle-stays v i old new near s w u d (idle up.0 up.1)) [ inl a ↦ inr (λ x y. a) | inr b ↦ inl b ]
      ];
      own = inr (λ a b. turned-idle v old new near s u d);
      falls = omega arith;
      few = omega (arith, wide, most);
      fewer = omega (arith, was, now, lower);
      smaller = small.0;
    }
