-- Variable elimination keeps.
use Rattle.std.proofs.Common.{◌≡◌, ◌≢◌, ◌⊎◌, ◌≤◌, Bool, true, false, List, [], ◌∷◌, map, Contains, ap, sym, ◌∙◌, inl, inr}
use Rattle.std.proofs.lemmas.Bool.{true≢false}
use Rattle.std.proofs.lemmas.List.Elements.{Contains-append_cases}
use Rattle.mp_logic.specs.Literal.{Literal, negation}
use Rattle.mp_logic.specs.Truth.{literal_value, clause_value, IsSatisfied}
use Rattle.mp_logic.specs.Repairs.{repaired}
use Rattle.mp_logic.specs.declared.instances.Cost.{Cost}
use Rattle.mp_logic.specs.Keeping.{State}
use Rattle.mp_logic.proofs.Kept.{repaired-append}
use Rattle.mp_logic.specs.Sets.{IsWithList, Entails, HasVariables}
use Rattle.mp_logic.specs.Laws.{SparesCosts}
use Rattle.mp_logic.specs.Rewrites.{set_repair, IsNoCost}
use Rattle.mp_logic.specs.Eliminating.{IsResolvent, Clashes, IsEliminated, elimination_repairs, EliminatingKeeps}
pub use Rattle.mp_logic.proofs.Members.{Contains-map}
use Rattle.mp_logic.proofs.Members.{Contains-one, satisfied, IsSatisfied-from, witness, true_by}
use Rattle.mp_logic.proofs.Literals.{parts_by, negation_true, never_both}
use Rattle.mp_logic.proofs.Chosen.{Agree, Proper, chosen, cleared}
use Rattle.mp_logic.proofs.General.{Spared-set, repairing_keeps}

-- a resolvent is true where both clauses are
resolvent_true : (a : List Bool) (x : Literal) (c d r : List Literal) → IsResolvent x c d r → clause_value a c ≡ true → clause_value a d ≡ true → clause_value a r ≡ true
resolvent_true a x c d r h t u =
    let w = witness a c t in
    let v = witness a d u in
    elim (h.left w.0 w.1) [
      | inl i ↦ true_by a r w.0 i w.2
      | inr own ↦ elim (h.right v.0 v.1) [
        | inl i ↦ true_by a r v.0 i v.2
        | inr n ↦ absurd (never_both a v.0 x (ap (literal_value a) (sym own) ∙ w.2) v.2 n)
      ]
    ]

-- a clause against x is true where x is false, or where a clause with x has no other true literal
against_true : (x : Literal) (c d : List Literal) (ds : List (List Literal)) (a b : List Bool) → ((k : Literal) → Contains c k → 1 ≤ k.variable) → ((k : Literal) → Contains d k → 1 ≤ k.variable) → Agree x a b → IsSatisfied a ds
    → ((k : Literal) → Contains c k → k.variable ≢ x.variable → literal_value b k ≡ false)
    → Clashes x c d ⊎ ((r : List Literal) × Contains ds r × IsResolvent x c d r)
    → clause_value b d ≡ true
against_true x c d ds a b vc vd same m dead made =
    elim made [
      | inl w ↦ true_by b d (negation w.0) w.3 (negation_true b w.0 (dead w.0 w.2 w.1))
      | inr w ↦
          let r = w.0 in
          let k = witness a r (satisfied a ds r m w.1) in
          let from = w.2.only k.0 k.1 in
          elim from.1 [
            | inl i ↦ absurd (true≢false (sym (same k.0 (vc k.0 i) from.0 ∙ k.2) ∙ dead k.0 i from.0))
            | inr i ↦ true_by b d k.0 i (same k.0 (vd k.0 i) from.0 ∙ k.2)
          ]
    ]

brought_back : (s : State) (x : Literal) (ws ds : List (List Literal)) → HasVariables s → 1 ≤ x.variable → IsWithList x s.hard ws → IsEliminated x s.hard ds
    → (a : List Bool) → IsSatisfied a ds → IsSatisfied (repaired (elimination_repairs x ws) a) s.hard
brought_back s x ws ds vs p w h a m =
    let last = set_repair (negation x) (negation x ∷ []) ∷ [] in
    let low = repaired last a in
    let clear = cleared x a p in
    let b = repaired (map (set_repair x) ws) low in
    let proper : Proper x ws = λ c i. let o = w.only c i in (o.1, vs.hard c o.0) in
    let ch = chosen x ws low p proper clear.own in
    let same : Agree x a b = λ k q o. ch.others k q o ∙ clear.others k q o in
    rw repaired-append (IsSatisfied-from b s.hard (λ d i. elim (parts_by x d) [
      | inl lacks ↦
          let k = witness a d (satisfied a ds d m (h.others d i lacks)) in
          true_by b d k.0 k.1 (same k.0 (vs.hard d i k.0 k.1) (lacks k.0 k.1) ∙ k.2)
      | inr has ↦ elim has [
        | inl own ↦ ch.trues d (w.has d i own)
        | inr against ↦ elim ch.cause [
          | inl low_x ↦ true_by b d (negation x) against (negation_true b x low_x)
          | inr f ↦
              let o = w.only f.0 f.1 in
              against_true x f.0 d ds a b (vs.hard f.0 o.0) (vs.hard d i) same m f.2 (h.made f.0 d o.0 i o.1 against)
        ]
      ]
    ]))

eliminating_spares : (ps : List Cost) (x : Literal) (ws : List (List Literal)) → 1 ≤ x.variable → IsNoCost x ps → IsNoCost (negation x) ps → SparesCosts (elimination_repairs x ws) ps
eliminating_spares ps x ws p free free_n r i =
    elim (Contains-append_cases (map (set_repair x) ws) (set_repair (negation x) (negation x ∷ []) ∷ []) r i) [
      | inl j ↦ let w = Contains-map (set_repair x) ws r j in Spared-set ps x w.0 p free r w.2
      | inr j ↦ Spared-set ps (negation x) (negation x ∷ []) p free_n r (Contains-one (set_repair (negation x) (negation x ∷ [])) r j)
    ]

pub eliminating_keeps : EliminatingKeeps
eliminating_keeps s x ws ds vs p free free_n w h =
    let on : Entails s.hard ds = λ a m. IsSatisfied-from a ds (λ r i. elim (h.only r i) [
      | inl j ↦ satisfied a s.hard r m j
      | inr q ↦ resolvent_true a x q.0 q.1 r q.4 (satisfied a s.hard q.0 m q.2) (satisfied a s.hard q.1 m q.3)
    ]) in
    repairing_keeps s ds (elimination_repairs x ws) vs (eliminating_spares s.costs x ws p free free_n) on (brought_back s x ws ds vs p w h)
