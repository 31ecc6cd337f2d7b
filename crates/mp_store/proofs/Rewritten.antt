-- One rewrite as a run.
use Rattle.std.proofs.Common.{◌≡◌, ℕ, ◌<◌, ◌≤◌, Bool, true, false, cond, List, [], ◌∷◌, ◌++◌, length, get_or, refl, sym, ◌∙◌, ap, subst, arith, inl, inr, Contains}
use Rattle.std.specs.Prelude.{is_some, replicate, Option, Some, None, map}
use Rattle.std.proofs.lemmas.Bool.{cases_Bool, false≢true}
use Rattle.std.proofs.lemmas.List.{length-append, get_or_append_left, get_or-replicate, length-replicate}
use Rattle.mp_logic.specs.Literal.{Literal}
use Rattle.mp_logic.specs.Keeping.{State, Keeps}
use Rattle.mp_logic.specs.declared.instances.Repair.{Repair}
use Rattle.mp_logic.proofs.Members.{Contains-first}
use Rattle.mp_store.specs.declared.rewrite.Rewrite.{Rewrite}
use Rattle.mp_clauses.specs.Places.{is_in}
use Rattle.mp_store.specs.Held.{Held, labelled_of, IsUntouched}
use Rattle.mp_clauses.specs.Slots.{clause_of, live_clauses, has_empty}
use Rattle.mp_clauses.specs.Slots.{cleared}
use Rattle.mp_store.specs.Rewriting.{changed_by, refuted_by, after}
use Rattle.mp_store.specs.Techniques.{IsRun}
use Rattle.mp_store.proofs.Runs.{run-untouched}
use Rattle.mp_store.proofs.Sound.{refuted-live}
use Rattle.mp_store.proofs.KeptFixing.{cleared-out, cleared-other, refuting_keeps}
use Rattle.mp_store.proofs.Replaced.{length-cleared}

-- where no clause is empty afterwards the rewrite changed the store, and did not refute it
pub after-standing : (r : Rewrite) (h : Held) → (Contains (live_clauses (after r h).slots) [] → ⊥) → after r h ≡ changed_by r h
after-standing r h n =
    let step : (b : Bool) → (Contains (live_clauses (cond b (refuted_by r h) (changed_by r h)).slots) [] → ⊥) → cond b (refuted_by r h) (changed_by r h) ≡ changed_by r h =
    λ (t : Bool). elim t as (λ b. (Contains (live_clauses (cond b (refuted_by r h) (changed_by r h)).slots) [] → ⊥) → cond b (refuted_by r h) (changed_by r h) ≡ changed_by r h) [
      | true ↦ λ f. absurd (f (rw (refuted-live (length h.slots)) (Contains-first [] [])))
      | false ↦ λ f. refl
    ] in
    step (has_empty r.added) n

none-some : (c : List Literal) → None ≡ Some c → ⊥
none-some c e = false≢true (ap (λ (o : Option (List Literal)). is_some o) e)

-- an id below the next one has its clause or none
pub changed-ids : (gone : List ℕ) (added : List (List Literal)) (s : List (Option (List Literal))) (id : ℕ) (c : List Literal) → id < length s → clause_of (cleared gone s ++ map Some added) id ≡ Some c → clause_of s id ≡ Some c
changed-ids gone added s id c b e =
    let within : id < length (cleared gone s) = rw (length-cleared gone s) b in
    let left : clause_of (cleared gone s) id ≡ Some c = sym (get_or_append_left (cleared gone s) (map Some added) None id within) ∙ e in
    elim (cases_Bool (is_in id gone)) [
      | inl t ↦ absurd (none-some c (sym (cleared-out gone s id t) ∙ left))
      | inr f ↦ sym (cleared-other gone s id f) ∙ left
    ]

pub refuted-ids : (n id : ℕ) (c : List Literal) → id < n → clause_of (replicate n None ++ Some [] ∷ []) id ≡ Some c → ⊥
refuted-ids n id c b e =
    let none : Option (List Literal) = None in
    let gone : List (Option (List Literal)) = replicate n none in
    let rest : List (Option (List Literal)) = Some [] ∷ [] in
    let within : id < length gone = rw (length-replicate n none) b in
    let there : get_or (gone ++ rest) id none ≡ none = get_or_append_left gone rest none id within ∙ get_or-replicate n id none none b in
    none-some c (sym there ∙ e)

pub refuted-length : (n : ℕ) → n ≤ length {A = Option (List Literal)} (replicate n None ++ Some [] ∷ [])
refuted-length n =
    let none : Option (List Literal) = None in
    let gone : List (Option (List Literal)) = replicate n none in
    let rest : List (Option (List Literal)) = Some [] ∷ [] in
    let whole = length-append gone rest in
    let first = length-replicate n none in
    omega (arith, whole, first)

applied-run : (L : State → State → List Repair → Type 0) (r : Rewrite) (h : Held) → Keeps (labelled_of h) (labelled_of (changed_by r h)) r.repairs → L (labelled_of h) (labelled_of (changed_by r h)) r.repairs → IsRun L h (after r h)
applied-run L r h keeps alone =
    let P : Held → Type 0 = λ k. (k.repairs ≡ h.repairs ++ r.repairs) × (k.inner ≡ h.inner) × (length h.slots ≤ length k.slots) × ((id : ℕ) (c : List Literal) → id < length h.slots → clause_of k.slots id ≡ Some c → clause_of h.slots id ≡ Some c) in
    let parts : (b : Bool) → P (cond b (refuted_by r h) (changed_by r h)) =
    λ (t : Bool). elim t as (λ b. P (cond b (refuted_by r h) (changed_by r h))) [
      | true ↦ (refl, refl, refuted-length (length h.slots), λ id c b e. absurd (refuted-ids (length h.slots) id c b e))
      | false ↦ (refl, refl, let whole = length-append (cleared r.gone h.slots) (map Some r.added) in let first = length-cleared r.gone h.slots in omega (arith, whole, first), changed-ids r.gone r.added h.slots)
    ] in
    let p = parts (has_empty r.added) in
    record {
      added = r.repairs;
      repairs = p.0;
      step = record { keeps = refuting_keeps (labelled_of h) r h r.repairs keeps; alone = λ n. rw (after-standing r h n) alone };
      inner = p.1;
      next = p.2;
      ids = p.3;
    }

-- one rewrite is a run, where it keeps and leaves alone what it has to
pub run-after : (L : State → State → List Repair → Type 0) (r : Rewrite) (h u : Held) → IsUntouched (after r h) u → Keeps (labelled_of h) (labelled_of (changed_by r h)) r.repairs → L (labelled_of h) (labelled_of (changed_by r h)) r.repairs → IsRun L h u
run-after L r h u e keeps alone = run-untouched L h (after r h) u (applied-run L r h keeps alone) e

-- where clauses lie is nothing to what a rewrite leaves
pub after-untouched : (r : Rewrite) (h m u : Held) → IsUntouched h m → IsUntouched (after r m) u → IsUntouched (after r h) u
after-untouched r h m u e f =
    let same : after r m ≡ after r h = ap (after r) e in
    subst (λ (x : Held). IsUntouched x u) same f
