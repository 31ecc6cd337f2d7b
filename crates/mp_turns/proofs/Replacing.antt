-- What is left where clauses are put in the place of others.
use Rattle.std.proofs.Common.{◌≡◌, ℕ, false, List, [], refl, sym, ◌∙◌, ap, subst, inl, inr}
use Rattle.std.specs.Prelude.{Option, Some, None}
use Rattle.std.proofs.lemmas.Bool.{cases_Bool}
use Rattle.std.proofs.lemmas.List.{append-nil}
use Rattle.mp_logic.specs.Literal.{Literal}
use Rattle.mp_logic.specs.declared.instances.Repair.{Repair}
use Rattle.mp_logic.specs.Keeping.{State, Keeps}
use Rattle.mp_logic.specs.Sets.{with_hard}
use Rattle.mp_store.specs.declared.rewrite.Rewrite.{Rewrite}
use Rattle.mp_clauses.specs.Places.{is_in}
use Rattle.mp_store.specs.Held.{Held, labelled_of, IsUntouched}
use Rattle.mp_clauses.specs.Slots.{clause_of, live_clauses}
use Rattle.mp_clauses.specs.Slots.{cleared}
use Rattle.mp_store.specs.Rewriting.{changed_by, after}
use Rattle.mp_store.specs.Replacing.{replaced, KeepsCosts}
use Rattle.mp_store.specs.Techniques.{IsRun}
use Rattle.mp_store.proofs.KeptFixing.{cleared-out, cleared-other}
use Rattle.mp_store.proofs.Replaced.{replacing_leaves, after-unrefuted}
use Rattle.mp_store.proofs.Rewritten.{run-after}
use Rattle.mp_turns.specs.Clauses.{replacing}

pub replacing-keeps : (gone : List ℕ) (added : List (List Literal)) (repairs : List Repair) → KeepsCosts (replacing gone added repairs)
replacing-keeps gone added repairs = record { costs = refl; shift = refl; fresh = refl }

-- a store that is not refuted by a rewrite was changed by it
pub plain-after : (r : Rewrite) (h u : Held) → IsUntouched (after r h) u → u.refuted ≡ false → after r h ≡ changed_by r h
plain-after r h u e n = let same : u.refuted ≡ (after r h).refuted = ap (λ (x : Held). x.refuted) e in after-unrefuted r h (sym same ∙ n)

pub replacing-slots : (gone : List ℕ) (added : List (List Literal)) (repairs : List Repair) (h u : Held) → IsUntouched (after (replacing gone added repairs) h) u → u.refuted ≡ false → u.slots ≡ replaced gone added h.slots
replacing-slots gone added repairs h u e n =
    let r = replacing gone added repairs in
    let first : u.slots ≡ (after r h).slots = ap (λ (x : Held). x.slots) e in
    first ∙ ap (λ (x : Held). x.slots) (plain-after r h u e n)

pub replacing-state : (gone : List ℕ) (added : List (List Literal)) (repairs : List Repair) (h u : Held) → IsUntouched (after (replacing gone added repairs) h) u → u.refuted ≡ false → labelled_of u ≡ with_hard (labelled_of h) (live_clauses (replaced gone added h.slots))
replacing-state gone added repairs h u e n =
    let r = replacing gone added repairs in
    let first : labelled_of u ≡ labelled_of (after r h) = ap labelled_of e in
    first ∙ ap labelled_of (plain-after r h u e n) ∙ replacing_leaves r h (replacing-keeps gone added repairs)

-- a run of one such rewrite
pub replacing-run : (L : State → State → List Repair → Type 0) (gone : List ℕ) (added : List (List Literal)) (repairs : List Repair) (h u : Held) → IsUntouched (after (replacing gone added repairs) h) u →
    Keeps (labelled_of h) (with_hard (labelled_of h) (live_clauses (replaced gone added h.slots))) repairs → L (labelled_of h) (with_hard (labelled_of h) (live_clauses (replaced gone added h.slots))) repairs → IsRun L h u
replacing-run L gone added repairs h u e keeps alone =
    let r = replacing gone added repairs in
    let state = replacing_leaves r h (replacing-keeps gone added repairs) in
    let P : State → Type 0 = λ t. Keeps (labelled_of h) t repairs in
    let Q : State → Type 0 = λ t. L (labelled_of h) t repairs in
    run-after L r h u e (subst P (sym state) keeps) (subst Q (sym state) alone)

none_some : {X : Type 0} (o : Option X) (x : X) → o ≡ None → o ≡ Some x → ⊥
none_some o x e f = cc

-- where no clause comes, what is left was there, under its id
pub left-clause : (gone : List ℕ) (s : List (Option (List Literal))) (id : ℕ) (c : List Literal) → clause_of (replaced gone [] s) id ≡ Some c → (clause_of s id ≡ Some c) × (is_in id gone ≡ false)
left-clause gone s id c e =
    let plain : clause_of (cleared gone s) id ≡ Some c = sym (ap (λ x. clause_of x id) (append-nil (cleared gone s))) ∙ e in
    elim (cases_Bool (is_in id gone)) [
      | inl t ↦ absurd (none_some (clause_of (cleared gone s) id) c (cleared-out gone s id t) plain)
      | inr f ↦ (sym (cleared-other gone s id f) ∙ plain, f)
    ]
