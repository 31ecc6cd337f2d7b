-- Turns of binary core removal.
use Rattle.std.proofs.Common.{◌≡◌, ◌≢◌, ℕ, ◌+◌, ◌≤◌, Bool, false, not, List, ◌∷◌, length, refl, sym, ◌∙◌, ap, subst, arith, inl, inr, Contains, IsTrue, ◌↔◌}
use Rattle.std.specs.Prelude.{◌==◌, Option, Some, None, MatchOption}
use Rattle.std.proofs.lemmas.Bool.{ne_eqb, not-true, true≢false, eq-eqb}
use Rattle.std.proofs.lemmas.List.Kept.{IsStrictlyIncreasing-filter}
use Rattle.mp_logic.specs.Literal.{Literal}
use Rattle.mp_logic.specs.SubsumedLabels.{IsPlain}
use Rattle.mp_logic.specs.declared.instances.Cost.{Cost}
use Rattle.mp_logic.proofs.Members.{Contains-cases}
use Rattle.mp_clauses.specs.Places.{place_of, literal_at}
use Rattle.mp_clauses.specs.Slots.{live_clauses}
use Rattle.mp_clauses.specs.Weighing.{weight_in}
use Rattle.mp_clauses.proofs.Pricing.{place-literal, literal-place}
use Rattle.mp_store.specs.Held.{Held, labelled_of, IsUntouched}
use Rattle.mp_store.specs.Techniques.{IsRun}
use Rattle.mp_store.proofs.Fixes.{filter-from, filter-has}
use Rattle.mp_store.proofs.Runs.{run-same}
use Rattle.mp_turns.specs.Waiting.{all_queued}
use Rattle.mp_turns.proofs.Queueing.{queued-all-waits, queued-all-own, length-all-queued}
use Rattle.mp_turns.proofs.Subsets.{rising-few}
use Rattle.t_matching.specs.LabelPairs.{label_places}
use Rattle.t_matching.specs.Cores.{AreCore, HasNoCore, IsFarFrom, IsCoreStep, IsCoreOf, LeavesVariables, labels_left}
use Rattle.t_matching.proofs.Labels.{cost-weight, weight-cost}
use Rattle.t_matching.proofs.LabelPlaces.{cost-listed}
use Rattle.t_matching.proofs.PairIds.{core-turned}
use Rattle.t_matching.proofs.PairTurns.{ArePairs, IsLeaving, AreCovered, many-places}

pub core-leaving : IsLeaving LeavesVariables
core-leaving = record {
  itself = λ s. record { vars = refl; costs = λ c i. i };
  twice = λ a b c x y f g. record { vars = g.vars ∙ f.vars; costs = λ k i. f.costs k (g.costs k i) };
}

pub core-pairs : ArePairs AreCore
core-pairs = record { cost = λ a b s p. (p.weight.0, p.weight.1); turned = λ a b s p. core-turned s a b p }

pub turn-same : (s t : Held) → IsUntouched s t → IsRun LeavesVariables s t
turn-same s t e = run-same LeavesVariables s t core-leaving.itself e

-- a turn that finds no core
pub free-idle : (h : Held) (item : ℕ) (found : Option Literal) → ((l : Literal) → found ≡ Some l → ⊥) → MatchOption found (weight_in h.weights (literal_at item) ≡ 0) (λ l. (l ≡ literal_at item) × (weight_in h.weights l ≢ 0)) → HasNoCore (literal_at item) (labelled_of h)
free-idle h item None n z m core =
    let own = cost-weight h.weights (record { lit = literal_at item; weight = core.weight.0 }) core.weight.1 in
    own.1 (sym own.0 ∙ z)
free-idle h item (Some l) n z m core = absurd (n l refl)

pub plain-idle : (h : Held) (item : ℕ) (l : Literal) (b : Bool) → l ≡ literal_at item → IsTrue b ↔ IsPlain l (live_clauses h.slots) → b ≡ false → HasNoCore (literal_at item) (labelled_of h)
plain-idle h item l b e plain f m core = true≢false (sym (plain.1 (subst (λ (k : Literal). IsPlain k (live_clauses h.slots)) (sym e) core.plain_l)) ∙ f)

far-turned : (l m : Literal) (v : ℕ) (cs : List (List Literal)) → IsFarFrom l m v cs → IsFarFrom m l v cs
far-turned l m v cs far c i own k j = far c i (elim own [ inl a ↦ inr a | inr a ↦ inl a ]) k j

-- which labels wait again
left-has : (w near : List ℕ) (a : Literal) → Contains near (place_of a) → weight_in w a ≢ 0 → Contains (labels_left w near) (place_of a)
left-has w near a i n =
    let at : weight_in w (literal_at (place_of a)) ≡ weight_in w a = ap (weight_in w) (literal-place a) in
    filter-has (λ p. not (weight_in w (literal_at p) == 0)) near (place_of a) i (ap not (ap (λ (x : ℕ). x == 0) at ∙ ne_eqb (weight_in w a) 0 n))

left-listed : (h : Held) (near : List ℕ) (p : ℕ) → Contains (labels_left h.weights near) p → Contains (label_places (labelled_of h)) p
left-listed h near p i =
    let f = filter-from (λ p. not (weight_in h.weights (literal_at p) == 0)) near p i in
    let some : weight_in h.weights (literal_at p) ≢ 0 = λ z. true≢false (sym (eq-eqb (weight_in h.weights (literal_at p)) 0 z) ∙ not-true (weight_in h.weights (literal_at p) == 0) f.1) in
    subst (Contains (label_places (labelled_of h))) (place-literal p) (cost-listed (labelled_of h) (record { lit = literal_at p; weight = weight_in h.weights (literal_at p) }) (weight-cost h.weights (literal_at p) some))

pub left-few : (l : Literal) (near : List ℕ) (h u : Held) → IsCoreOf l near h u → length (labels_left u.weights near) ≤ length (labelled_of u).costs
left-few l near h u t =
    let up = IsStrictlyIncreasing-filter (λ p. not (weight_in u.weights (literal_at p) == 0)) near t.2.rising in
    let few = rising-few (labels_left u.weights near) (label_places (labelled_of u)) up (left-listed u near) in
    omega (arith, few, many-places (labelled_of u))

pub core-few : (l : Literal) (near rest queue : List ℕ) (h u : Held) → IsCoreOf l near h u → queue ≡ all_queued rest (labels_left u.weights near) → length queue ≤ length rest + length (labelled_of u).costs
core-few l near rest queue h u t e =
    let few = left-few l near h u t in
    let len = length-all-queued rest (labels_left u.weights near) in
    rw e (omega (arith, few, len))

label-was : (h u : Held) (a : Literal) (w : ℕ) → ((c : Cost) → Contains (labelled_of u).costs c → Contains (labelled_of h).costs c) → Contains (labelled_of u).costs (record { lit = a; weight = w }) → (weight_in h.weights a ≢ 0) × (weight_in u.weights a ≢ 0)
label-was h u a w costs i =
    let is = cost-weight u.weights (record { lit = a; weight = w }) i in
    let was = cost-weight h.weights (record { lit = a; weight = w }) (costs (record { lit = a; weight = w }) i) in
    (λ z. was.1 (sym was.0 ∙ z), λ z. is.1 (sym is.0 ∙ z))

-- what holds whichever of the two labels is the lower one
pub either-step : (l : Literal) (near : List ℕ) (h u : Held) → (t : IsCoreOf l near h u) → IsCoreStep l t.0 h u
either-step l near h u t = elim t.3 [
  | inl s ↦ s.1
  | inr s ↦ let c = s.1 in record { run = c.run; standing = c.standing; smaller = c.smaller; size = c.size; costs = c.costs; stays = λ a b fa fb. c.stays a b (far-turned l t.0 a.variable (live_clauses h.slots) fa) (far-turned l t.0 b.variable (live_clauses h.slots) fb) }
]

-- of each core that is left, one of both labels waits
pub core-covers : (item : ℕ) (near rest queue : List ℕ) (h u : Held) → IsCoreOf (literal_at item) near h u → queue ≡ all_queued rest (labels_left u.weights near) → AreCovered AreCore (item ∷ rest) (labelled_of h) → AreCovered AreCore queue (labelled_of u)
core-covers item near rest queue h u t e covers a b p =
    let l = literal_at item in
    let m = t.0 in
    let step = either-step l near h u t in
    let again = labels_left u.weights near in
    let q = p.weight in
    let at_a = label-was h u a q.0 step.costs q.1 in
    let at_b = label-was h u b q.0 step.costs q.2 in
    let own : (k : Literal) → Contains near (place_of k) → weight_in u.weights k ≢ 0 → Contains queue (place_of k) = λ k i n. rw e (queued-all-own rest again (place_of k) (left-has u.weights near k i n)) in
    let far : (k j : Literal) → IsFarFrom l m k.variable (live_clauses h.slots) → AreCore k j (labelled_of h) → place_of k ≡ item → ⊥ = λ k j f c z.
    (let pr = c.pair in
    let is : k ≡ l = sym (literal-place k) ∙ ap literal_at z in
    f pr.0 pr.1 (inl (subst (Contains pr.0) is pr.2)) k pr.2 refl) in
    let waits : (k j : Literal) → IsFarFrom l m k.variable (live_clauses h.slots) → AreCore k j (labelled_of h) → Contains (item ∷ rest) (place_of k) → Contains queue (place_of k) = λ k j f c i. elim (Contains-cases item rest (place_of k) i) [
      | inl z ↦ absurd (far k j f c z)
      | inr r ↦ rw e (queued-all-waits rest again (place_of k) r)
    ] in
    elim (t.2.each a at_a.0) [
      | inl i ↦ inl (own a i at_a.1)
      | inr fa ↦ elim (t.2.each b at_b.0) [
        | inl i ↦ inr (own b i at_b.1)
        | inr fb ↦
            let was = step.stays a b fa fb p in
            elim (covers a b was) [ inl i ↦ inl (waits a b fa was i) | inr i ↦ inr (waits b a fb (core-turned (labelled_of h) a b was) i) ]
      ]
    ]
