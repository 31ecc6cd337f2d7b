-- Labels that form a core after a rewrite did before, unless a clause that went had one of their variables.
use Rattle.std.proofs.Common.{◌≡◌, ◌≢◌, ℕ, Bool, false, List, refl, sym, ◌∙◌, ap, inl, inr, Contains}
use Rattle.std.specs.Prelude.{Some}
use Rattle.std.specs.List.{count_by}
use Rattle.std.proofs.lemmas.Bool.{cases_Bool}
use Rattle.mp_logic.specs.Literal.{Literal}
use Rattle.mp_logic.specs.SubsumedLabels.{IsPlain}
use Rattle.mp_logic.specs.declared.instances.Cost.{Cost}
use Rattle.mp_store.specs.declared.rewrite.Rewrite.{Rewrite}
use Rattle.mp_clauses.specs.Places.{place_of, has, is_in}
use Rattle.mp_store.specs.Held.{Held, labelled_of}
use Rattle.mp_clauses.specs.Slots.{clause_of, live_clauses}
use Rattle.mp_store.specs.Rewriting.{changed_by}
use Rattle.mp_clauses.proofs.Found.{has-contains, is_in-contains}
use Rattle.mp_store.proofs.KeptFixing.{live-at, live-id}
use Rattle.mp_store.proofs.Changes.{same_counts}
use Rattle.mp_store.proofs.Replaced.{replaced_clauses}
use Rattle.t_matching.specs.Cores.{has_both, AreCore}

-- no clause that goes has the literal's variable
abbrev pub IsFar : Literal → Rewrite → Held → Type 0
IsFar a r h = (id : ℕ) (c : List Literal) → Contains r.gone id → clause_of h.slots id ≡ Some c → (k : Literal) → Contains c k → k.variable ≢ a.variable

-- each variable of a clause that comes stood in a clause that goes
abbrev pub HasOldVariables : Rewrite → Held → Type 0
HasOldVariables r h = (c : List Literal) → Contains r.added c → (k : Literal) → Contains c k
    → (id : ℕ) × (d : List Literal) × Contains r.gone id × (clause_of h.slots id ≡ Some d) × (j : Literal) × Contains d j × (j.variable ≡ k.variable)

plain-stays : (r : Rewrite) (h : Held) (a : Literal) → IsFar a r h → IsPlain a (live_clauses (changed_by r h).slots) → IsPlain a (live_clauses h.slots)
plain-stays r h a far plain c i k j e =
    let w = live-id h.slots c i in
    elim (cases_Bool (is_in w.0 r.gone)) [
      | inl t ↦ far w.0 c (is_in-contains r.gone w.0 t) w.1 k j (ap (λ (x : Literal). x.variable) e)
      | inr f ↦ plain c ((replaced_clauses r.gone r.added h.slots).kept w.0 c w.1 f) k j e
    ]

lacks : (a : Literal) (c : List Literal) → ((k : Literal) → Contains c k → k.variable ≢ a.variable) → has (place_of a) c ≡ false
lacks a c far = elim (cases_Bool (has (place_of a) c)) [ inl t ↦ absurd (far a (has-contains c a t) refl) | inr f ↦ f ]

-- a clause that comes is far from what each clause that goes is far from
far-added : (r : Rewrite) (h : Held) (a : Literal) → HasOldVariables r h → IsFar a r h → (c : List Literal) → Contains r.added c → (k : Literal) → Contains c k → k.variable ≢ a.variable
far-added r h a old far c i k j e =
    let w = old c i k j in
    far w.0 w.1 w.2 w.3 w.4 w.5 (w.6 ∙ e)

count-stays : (r : Rewrite) (h : Held) (a : Literal) (p : List Literal → Bool) → ((c : List Literal) → has (place_of a) c ≡ false → p c ≡ false) → HasOldVariables r h → IsFar a r h → count_by p (live_clauses (changed_by r h).slots) ≡ count_by p (live_clauses h.slots)
count-stays r h a p q old far = same_counts r h p (λ id c i e. q c (lacks a c (far id c i e))) (λ c i. q c (lacks a c (far-added r h a old far c i)))

both-false : (l m : Literal) (c : List Literal) → has (place_of l) c ≡ false → has_both l m c ≡ false
both-false l m c e = rw e refl

pub core-stays : (r : Rewrite) (h : Held) (a b : Literal) → ((c : Cost) → Contains (labelled_of (changed_by r h)).costs c → Contains (labelled_of h).costs c) → HasOldVariables r h → IsFar a r h → IsFar b r h
    → AreCore a b (labelled_of (changed_by r h)) → AreCore a b (labelled_of h)
core-stays r h a b costs old far_a far_b core =
    let pr = core.pair in
    let one = count-stays r h a (has_both a b) (both-false a b) old far_a in
    let with_a = count-stays r h a (has (place_of a)) (λ c e. e) old far_a in
    let with_b = count-stays r h b (has (place_of b)) (λ c e. e) old far_b in
    let q = core.small in
    record {
      weight = (core.weight.0, costs (record { lit = a; weight = core.weight.0 }) core.weight.1, costs (record { lit = b; weight = core.weight.0 }) core.weight.2);
      names = core.names;
      plain_l = plain-stays r h a far_a core.plain_l;
      plain_m = plain-stays r h b far_b core.plain_m;
      pair = elim ((replaced_clauses r.gone r.added h.slots).only pr.0 pr.1) [
        | inl w ↦ (pr.0, live-at h.slots w.0 pr.0 w.1, pr.2, pr.3, pr.4)
        | inr i ↦ absurd (far-added r h a old far_a pr.0 i a pr.2 refl)
      ];
      one = sym one ∙ core.one;
      small = (q.0, q.1, sym with_a ∙ q.2, sym with_b ∙ q.3, q.4);
    }
