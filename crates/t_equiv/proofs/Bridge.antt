-- From nodes of a graph to literals.
use Rattle.std.proofs.Common.{◌≡◌, ℕ, ◌*◌, ◌<◌, ◌≤◌, List, [], ◌∷◌, refl, sym, ◌∙◌, ap, subst, inl, inr}
use Rattle.std.specs.Prelude.{Option}
use Rattle.mp_logic.specs.Literal.{Literal}
use Rattle.mp_clauses.specs.Slots.{live_clauses}
use Rattle.mp_store.proofs.KeptFixing.{live-at, live-id}
use Rattle.t_equiv_graph.specs.Graphs.{Step, IsWalk, Reaches, AreComponents}
use Rattle.t_equiv.specs.Implications.{IsStep, IsTrail, number_place, AreNumbers}
use Rattle.t_equiv.specs.Implications as implications
use Rattle.t_equiv.proofs.Classes.{number_place-below, number_place-same}
use Rattle.t_equiv.specs.StepsById.{IsStepById, IsMade, AreStepsOf}

abbrev pub Slots : Type 0
Slots = List (Option (List Literal))

-- a step by an id is one by a clause
by-clause : (s : Slots) (x y : Literal) → IsStepById s x y → IsStep (live_clauses s) x y
by-clause s x y w = record { a = w.a; b = w.b; clause = live-at s w.id (w.a ∷ w.b ∷ []) w.clause; either = w.either }

by-id : (s : Slots) (x y : Literal) → IsStep (live_clauses s) x y → IsStepById s x y
by-id s x y w = let k = live-id s (w.a ∷ w.b ∷ []) w.clause in record { id = k.0; a = w.a; b = w.b; clause = k.1; either = w.either }

abbrev HasSteps : Slots → List ℕ → List ℕ → Type 0
HasSteps s f t = (x y : Literal) → IsStep (live_clauses s) x y → Step f t (number_place x) (number_place y)

trail-walk : (s : Slots) (f t : List ℕ) (zs : List Literal) (x y : Literal) → HasSteps s f t → IsTrail (live_clauses s) zs x y → Reaches f t (number_place x) (number_place y)
trail-walk s f t [] x y h a = record { between = []; walk = h x y a }
trail-walk s f t (z ∷ zs) x y h a =
    let r : Reaches f t (number_place z) (number_place y) = trail-walk s f t zs z y h a.1 in
    record { between = number_place z ∷ r.between; walk = (h x z a.0, r.walk) }

made-step : (v : ℕ) (s : Slots) (p q : ℕ) (x y : Literal) → IsMade s v p q → 1 ≤ x.variable → 1 ≤ y.variable → p ≡ number_place x → q ≡ number_place y → IsStep (live_clauses s) x y
made-step v s p q x y m h k d e =
    let one : m.x ≡ x = number_place-same m.x x m.known.0 h (sym m.starts ∙ d) in
    let two : m.y ≡ y = number_place-same m.y y m.known_too.0 k (sym m.ends ∙ e) in
    subst (λ (l : Literal). IsStep (live_clauses s) x l) two (subst (λ (l : Literal). IsStep (live_clauses s) l m.y) one (by-clause s m.x m.y m.step))

walk-trail : (v : ℕ) (s : Slots) (f t zs : List ℕ) (p q : ℕ) (x y : Literal) → ((p q : ℕ) → Step f t p q → IsMade s v p q) → IsWalk f t zs p q → 1 ≤ x.variable → 1 ≤ y.variable → p ≡ number_place x → q ≡ number_place y → implications.Reaches (live_clauses s) x y
walk-trail v s f t [] p q x y g a h k d e = record { between = []; trail = made-step v s p q x y (g p q a) h k d e }
walk-trail v s f t (z ∷ zs) p q x y g a h k d e =
    let m : IsMade s v p z = g p z a.0 in
    let first : IsStep (live_clauses s) x m.y = made-step v s p z x m.y m h m.known_too.0 d m.ends in
    let rest : implications.Reaches (live_clauses s) m.y y = walk-trail v s f t zs z q m.y y g a.1 m.known_too.0 k m.ends e in
    record { between = m.y ∷ rest.between; trail = (first, rest.trail) }

pub numbered : (v : ℕ) (s : Slots) (i : ℕ) (f t ns : List ℕ) → AreStepsOf v s i f t → ((x y : Literal) (w : IsStepById s x y) → w.id < i) → AreComponents (2 * v) f t ns → AreNumbers v (live_clauses s) ns
numbered v s i f t ns m all c =
    let h : HasSteps s f t = λ x y w. let k = by-id s x y w in m.has x y k (all x y k) in
    record {
      many = c.many;
      falls = λ x y w. c.falls (number_place x) (number_place y) (h x y w);
      same = λ x y j k. (
        λ e. elim ((c.same (number_place x) (number_place y) (number_place-below v x j) (number_place-below v y k)).0 e) [
          | inl d ↦ inl (number_place-same x y j.0 k.0 d)
          | inr r ↦ inr (walk-trail v s f t r.0.between (number_place x) (number_place y) x y m.made r.0.walk j.0 k.0 refl refl, walk-trail v s f t r.1.between (number_place y) (number_place x) y x m.made r.1.walk k.0 j.0 refl refl)
        ],
        λ d. (c.same (number_place x) (number_place y) (number_place-below v x j) (number_place-below v y k)).1 (elim d [
          | inl e ↦ inl (ap number_place e)
          | inr r ↦ inr (trail-walk s f t r.0.between x y h r.0.trail, trail-walk s f t r.1.between y x h r.1.trail)
        ]),
      );
    }
