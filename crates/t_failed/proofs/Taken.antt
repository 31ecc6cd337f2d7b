-- The literals that wait, and those taken since the last one was fixed.
use Rattle.std.proofs.Common.{◌≡◌, ℕ, ◌+◌, ◌-◌, ◌*◌, ◌/◌, ◌<◌, ◌≤◌, Bool, true, false, List, [], ◌∷◌, ◌++◌, length, take, get_or, suc, sym, ◌∙◌, ap, subst, arith, inl, inr, Contains}
use Rattle.std.specs.Prelude.{Option}
use Rattle.std.proofs.lemmas.Bool.{cases_Bool, true≢false}
use Rattle.std.proofs.lemmas.List.{length-append, take_more}
use Rattle.std.proofs.lemmas.List.Elements.{Contains-append_left, Contains-push, Contains-push_cases}
use Rattle.std.proofs.Math.Nat.{mul-add, mul-le-mul_left}
use Rattle.mp_logic.specs.Literal.{Literal}
use Rattle.mp_logic.proofs.Members.{Contains-none, Contains-first, Contains-cases}
use Rattle.mp_clauses.specs.Slots.{live_clauses}
use Rattle.mp_store.specs.Held.{Held, labelled_of, IsUntouched}
use Rattle.mp_store.specs.Measures.{occurs, occurring}
use Rattle.mp_store.specs.Soundness.{IsStore}
use Rattle.mp_store.specs.Techniques.{IsRun}
use Rattle.mp_store.specs.Turns.{has_turn, one_less}
use Rattle.mp_store.specs.Queue.{queued}
use Rattle.mp_store.proofs.Runs.{between-more, left-spent}
use Rattle.mp_turns.specs.Waiting.{all_queued}
use Rattle.mp_turns.specs.Underway.{IsUnderway}
use Rattle.mp_turns.proofs.Queueing.{queued-all-waits, queued-all-own, queued-all-first, length-all-queued}
use Rattle.t_failed.specs.Failed.{LeavesVariables, literal_places, probing}
use Rattle.t_failed.specs.Taking.{IsFixed, AreTaken}
use Rattle.t_failed.proofs.Occurring.{listed, listed-count}
use Rattle.t_failed.proofs.FailedTurns.{probing-sound}

-- one item more in a queue
pub queued-stay : (q : List ℕ) (x i : ℕ) → Contains q i → Contains (queued q x) i
queued-stay q x i h = queued-all-waits q (x ∷ []) i h

pub queued-there : (q : List ℕ) (x : ℕ) → Contains (queued q x) x
queued-there q x = queued-all-own q (x ∷ []) x (Contains-first x [])

pub queued-longer : (q : List ℕ) (x : ℕ) → length (queued q x) ≤ length q + 1
queued-longer q x = length-all-queued q (x ∷ [])

-- before the first turn
pub taken-begin : (s : Held) (queue taken : List ℕ) → IsStore s → queue ≡ all_queued [] (probing.candidates s) → taken ≡ [] → AreTaken s s queue taken
taken-begin s queue taken sound e f =
    let whole : queue ≡ probing.candidates s = e ∙ queued-all-first (probing.candidates s) (probing-sound.distinct s sound) in
    let many : length queue ≡ length (literal_places (labelled_of s)) = ap (λ (q : List ℕ). length q) whole ∙ probing-sound.counted s sound in
    let none : length taken ≡ 0 = ap (λ (q : List ℕ). length q) f in
    record {
      each = λ i o. inl (subst (λ q. Contains q i) (sym whole) (listed s i sound o));
      few = omega (arith, many, none);
    }

-- an item goes from the queue to those taken
pub taken-one : (s h : Held) (item : ℕ) (rest taken now : List ℕ) → now ≡ taken ++ item ∷ [] → AreTaken s h (item ∷ rest) taken → AreTaken s h rest now
taken-one s h item rest taken now e a =
    let longer : length now ≡ length taken + 1 = ap (λ (q : List ℕ). length q) e ∙ length-append taken (item ∷ []) in
    let few = a.few in
    record {
      each = λ i o. elim (a.each i o) [
        | inl w ↦ elim (Contains-cases item rest i w) [
          | inl g ↦ inr (subst (λ q. Contains q i) (sym e) (subst (Contains (taken ++ item ∷ [])) (sym g) (Contains-push taken item)))
          | inr v ↦ inl v
        ]
        | inr t ↦ inr (subst (λ q. Contains q i) (sym e) (Contains-append_left taken (item ∷ []) i t))
      ];
      few = omega (arith, longer, few);
    }

-- a turn that changes nothing
pub taken-same : (s h u : Held) (queue taken : List ℕ) → IsUntouched h u → AreTaken s h queue taken → AreTaken s u queue taken
taken-same s h u queue taken e a = record {
  each = λ i o. a.each i (subst (λ (x : Held). occurs (i / 2) (live_clauses x.slots) ≡ true) e o);
  few = a.few;
}

-- after a fix all wait again
pub taken-again : (s h u : Held) (rest taken queue none : List ℕ) → IsFixed h u → AreTaken s h rest taken → ((i : ℕ) → Contains rest i → Contains queue i) → ((i : ℕ) → Contains taken i → occurs (i / 2) (live_clauses u.slots) ≡ true → Contains queue i)
    → length queue + length none ≤ length rest + length taken → AreTaken s u queue none
taken-again s h u rest taken queue none f a waits again few =
    let was = a.few in
    record {
      each = λ i o. elim (a.each i (f.occur (i / 2) o)) [ inl w ↦ inl (waits i w) | inr t ↦ inl (again i t o) ];
      few = omega (arith, few, was);
    }

candidates-fewer : (h u : Held) → occurring u.vars (live_clauses u.slots) < occurring h.vars (live_clauses h.slots) → length (literal_places (labelled_of u)) ≤ length (literal_places (labelled_of h))
candidates-fewer h u less =
    let now = listed-count (live_clauses u.slots) u.vars in
    let was = listed-count (live_clauses h.slots) h.vars in
    omega (arith, less, now, was)

falls-by : (n now new queue rest : ℕ) → new < now → queue ≤ n → n * new + queue < n * now + suc rest
falls-by n now new queue rest less few =
    let whole : now ≡ new + (now - new) = omega arith in
    let split : n * now ≡ n * new + n * (now - new) = ap (λ k. n * k) whole ∙ mul-add n new (now - new) in
    let one : 1 ≤ now - new = omega arith in
    let wide : n * 1 ≤ n * (now - new) = mul-le-mul_left {m = 1} {n = now - new} n one in
    omega (arith, wide, split)

-- the measure
pub fixed-falls : (s h u : Held) (item : ℕ) (rest queue none : List ℕ) → IsFixed h u → AreTaken s u queue none → length (literal_places (labelled_of s)) * occurring u.vars (live_clauses u.slots) + length queue < length (literal_places (labelled_of s)) * occurring h.vars (live_clauses h.slots) + length (item ∷ rest)
fixed-falls s h u item rest queue none f a =
    let few = a.few in
    falls-by (length (literal_places (labelled_of s))) (occurring h.vars (live_clauses h.slots)) (occurring u.vars (live_clauses u.slots)) (length queue) (length rest) f.falls (omega (arith, few))

pub same-falls : (n : ℕ) (h u : Held) (item : ℕ) (rest : List ℕ) → IsUntouched h u → n * occurring u.vars (live_clauses u.slots) + length rest < n * occurring h.vars (live_clauses h.slots) + length (item ∷ rest)
same-falls n h u item rest e =
    let same : occurring u.vars (live_clauses u.slots) ≡ occurring h.vars (live_clauses h.slots) = ap (λ (x : Held). occurring x.vars (live_clauses x.slots)) e in
    rw same (omega arith)

-- a turn that fixed a literal
pub underway-fixed : (budget left : Option ℕ) (s h u : Held) (item : ℕ) (rest queue none : List ℕ) (changed : Bool) → IsUnderway probing budget left s h (item ∷ rest) changed → IsStore h → has_turn left ≡ true → IsRun LeavesVariables h u → u.refuted ≡ false → IsFixed h u → none ≡ [] → AreTaken s u queue none → probing.stays 1 h u
    → IsUnderway probing budget (one_less left) s u queue true
underway-fixed budget left s h u item rest queue none changed b sh sp r n f e a turned =
    let fewer = candidates-fewer h u f.falls in
    let most = length (literal_places (labelled_of s)) in
    let d : ℕ = occurring h.vars (live_clauses h.slots) - occurring u.vars (live_clauses u.slots) in
    let falls = f.falls in
    let few = a.few in
    let one : 1 ≤ d = omega (arith, falls) in
    let wide : most * 1 ≤ most * d = mul-le-mul_left {m = 1} {n = d} most one in
    record {
      between = between-more probing.technique budget left s h u changed (length (item ∷ rest)) (length queue) d probing-sound.twice b.between sh sp r n f.smaller (omega (arith, falls)) (omega (arith, few, wide));
      turns = b.turns + 1;
      spent = left-spent budget left b.turns b.spent sp;
      stays = probing-sound.stays_twice b.turns 1 s h u b.stays turned;
      covers = λ i. elim (cases_Bool (occurs (i / 2) (live_clauses u.slots))) [
        | inl t ↦ elim (a.each i t) [ inl w ↦ inl w | inr v ↦ absurd (Contains-none i (subst (λ xs. Contains xs i) e v)) ]
        | inr g ↦ inr (λ t. absurd (true≢false (sym t ∙ g)))
      ];
      fewer = omega (arith, b.fewer, fewer);
      first = λ g. absurd (cc);
    }

-- a walk over items, of which those are put last whose variables occur
pub put-step : (cs : List (List Literal)) (old q now items : List ℕ) (i : ℕ) → i < length items → now ≡ queued q (get_or items i 0)
    → ((k : ℕ) → Contains old k → Contains q k) → ((k : ℕ) → Contains (take i items) k → occurs (k / 2) cs ≡ true → Contains q k) → length q ≤ length old + i
    → ((k : ℕ) → Contains old k → Contains now k) × ((k : ℕ) → Contains (take (i + 1) items) k → occurs (k / 2) cs ≡ true → Contains now k) × (length now ≤ length old + (i + 1))
put-step cs old q now items i inside e waits own few =
    let x : ℕ = get_or items i 0 in
    let next : take (i + 1) items ≡ take i items ++ x ∷ [] = take_more items i 0 inside in
    let longer : length now ≤ length q + 1 = rw e (queued-longer q x) in (
      λ k m. subst (λ xs. Contains xs k) (sym e) (queued-stay q x k (waits k m)),
      λ k m o. subst (λ xs. Contains xs k) (sym e) (elim (Contains-push_cases (take i items) x k (subst (λ xs. Contains xs k) next m)) [
        | inl b ↦ queued-stay q x k (own k b o)
        | inr s ↦ subst (Contains (queued q x)) s (queued-there q x)
      ]),
      omega (arith, longer, few),
    )
