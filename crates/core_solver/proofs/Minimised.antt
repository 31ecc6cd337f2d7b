-- What a learnt clause may leave out.
use Rattle.std.proofs.Common.{◌≡◌, ◌≢◌, ◌⊎◌, ◌<◌, ◌≤◌, ◌+◌, ℕ, zero, suc, List, [], ◌∷◌, ◌++◌, length, get_or, Contains, sym, subst, arith, inl, inr}
use Rattle.std.proofs.lemmas.List.Elements.{Contains-push_cases, Contains-append_left, Contains-push, Contains-get_or}
use Rattle.mp_logic.specs.Literal.{Literal, negation}
use Rattle.mp_logic.specs.Learning.{IsPropagated, MakesFalse}
use Rattle.mp_logic.proofs.Members.{Contains-none}
use Rattle.core_solver.specs.Trails.{Assigned, IsPositionOf, IsDistinct}
use Rattle.core_solver.specs.History.{clause_of, IsForced, IsDecided}
use Rattle.core_solver.specs.Conflicts.{IsTaught, IsKnown, IsRedundant, IsMinimised}
use Rattle.core_solver.proofs.Analysed.{unit_in, front-position}

-- what stands before the first decision is in each propagated list
base-in : (cs : List (List Literal)) (t : Assigned) (p : List Literal) (base : ℕ) → IsPropagated p cs → ((i : ℕ) → i < length t.lits → IsForced cs t i ⊎ IsDecided t i) → ((m : ℕ) → Contains t.marks m → base ≤ m)
    → (n i : ℕ) (l : Literal) → i < n → i < base → IsPositionOf t.lits l i → Contains p l
base-in cs t p base h f w zero i l less low at = absurd (omega (arith, less))
base-in cs t p base h f w (suc n) i l less low at =
    let before = base-in cs t p base h f w n in
    let inside : i < length t.lits = at.0 in
    elim (f i inside) [
      | inl step ↦
          let why = step.forces l at in
          unit_in p cs (clause_of cs (get_or t.reasons i 0)) l h (Contains-get_or cs (get_or t.reasons i 0) [] step.known) (λ k j. elim (why.others k j) [
            | inl e ↦ inl e
            | inr front ↦ let q = front-position t.lits i (negation k) (omega (arith, inside)) front in let z = q.2 in inr (before q.0 (negation k) (omega (arith, z, less)) (omega (arith, z, low)) q.1)
          ])
      | inr d ↦ absurd (let z = w i d.level in omega (arith, z, low))
    ]

-- a propagated list that makes what is left false makes the whole clause false, from the earliest literal on
whole-in : (cs : List (List Literal)) (t : Assigned) (p whole kept : List Literal) (base : ℕ) → IsDistinct t.lits → IsPropagated p cs → ((i : ℕ) → i < length t.lits → IsForced cs t i ⊎ IsDecided t i) → ((m : ℕ) → Contains t.marks m → base ≤ m)
    → MakesFalse p kept → ((k : Literal) → Contains whole k → Contains kept k ⊎ IsRedundant cs t whole base k) → (n j : ℕ) (k : Literal) → j < n → Contains whole k → IsPositionOf t.lits (negation k) j → Contains p (negation k)
whole-in cs t p whole kept base d h f w m cover zero j k less own at = absurd (omega (arith, less))
whole-in cs t p whole kept base d h f w m cover (suc n) j k less own at =
    let before = whole-in cs t p whole kept base d h f w m cover n in
    elim (cover k own) [
      | inl left ↦ m k left
      | inr r ↦
          let same : r.at ≡ j = d (negation k) r.at j r.there at in
          let inside : r.at < length t.lits = r.there.0 in
          elim (f r.at inside) [
            | inl step ↦
                let why = step.forces (negation k) r.there in
                unit_in p cs (clause_of cs (get_or t.reasons r.at 0)) (negation k) h (Contains-get_or cs (get_or t.reasons r.at 0) [] step.known) (λ x o. elim (why.others x o) [
                  | inl e ↦ inl e
                  | inr front ↦
                      let q = front-position t.lits r.at (negation x) (omega (arith, inside)) front in
                      let z = q.2 in
                      elim (r.others x o) [
                        | inl e ↦ inl e
                        | inr known ↦ inr (elim known [
                          | inl own_too ↦ before q.0 x (omega (arith, z, same, less)) own_too q.1
                          | inr low ↦ base-in cs t p base h f w (low.0 + 1) low.0 (negation x) (omega arith) low.2 low.1
                        ])
                      ]
                ])
            | inr decided ↦ absurd (r.undecided decided.reason)
          ]
    ]

pub minimised-taught : (cs : List (List Literal)) (t : Assigned) (mark base : ℕ) (whole kept : List Literal) (u : Literal) (at : ℕ) → IsDistinct t.lits → ((i : ℕ) → i < length t.lits → IsForced cs t i ⊎ IsDecided t i) → ((m : ℕ) → Contains t.marks m → base ≤ m)
    → IsTaught cs t.lits mark whole u at → IsMinimised cs t whole base u whole kept → IsTaught cs t.lits mark kept u at
minimised-taught cs t mark base whole kept u at d f w h m =
    let own : Contains kept u = m.own h.own in
    record {
      rup = λ p q false_kept. h.rup p q (λ k i. elim (h.others k i) [
        | inl e ↦ false_kept k (subst (λ x. Contains kept x) (sym e) own)
        | inr low ↦ whole-in cs t p whole kept base d q f w false_kept m.cover (low.0 + 1) low.0 k (omega arith) i low.1
      ]);
      known = λ k i. h.known k (m.from k i);
      own = own;
      last = h.last;
      above = h.above;
      others = λ k i. h.others k (m.from k i);
    }

pub minimised-none : (cs : List (List Literal)) (t : Assigned) (c : List Literal) (base : ℕ) (u : Literal) → IsMinimised cs t c base u [] []
minimised-none cs t c base u = record {
  from = λ k i. i;
  own = λ i. i;
  cover = λ k i. absurd (Contains-none k i);
}

pub minimised-keep : (cs : List (List Literal)) (t : Assigned) (c : List Literal) (base : ℕ) (u : Literal) (front left : List Literal) (l : Literal) → IsMinimised cs t c base u front left → IsMinimised cs t c base u (front ++ l ∷ []) (left ++ l ∷ [])
minimised-keep cs t c base u front left l h =
    let last : (k : Literal) → l ≡ k → Contains (left ++ l ∷ []) k = λ k e. subst (λ x. Contains (left ++ l ∷ []) x) e (Contains-push left l) in
    record {
      from = λ k i. elim (Contains-push_cases left l k i) [
        | inl o ↦ Contains-append_left front (l ∷ []) k (h.from k o)
        | inr e ↦ subst (λ x. Contains (front ++ l ∷ []) x) e (Contains-push front l)
      ];
      own = λ i. elim (Contains-push_cases front l u i) [ inl o ↦ Contains-append_left left (l ∷ []) u (h.own o) | inr e ↦ last u e ];
      cover = λ k i. elim (Contains-push_cases front l k i) [
        | inl o ↦ elim (h.cover k o) [ inl a ↦ inl (Contains-append_left left (l ∷ []) k a) | inr r ↦ inr r ]
        | inr e ↦ inl (last k e)
      ];
    }

pub minimised-drop : (cs : List (List Literal)) (t : Assigned) (c : List Literal) (base : ℕ) (u : Literal) (front left : List Literal) (l : Literal) → l ≢ u → IsRedundant cs t c base l → IsMinimised cs t c base u front left → IsMinimised cs t c base u (front ++ l ∷ []) left
minimised-drop cs t c base u front left l other r h = record {
  from = λ k i. Contains-append_left front (l ∷ []) k (h.from k i);
  own = λ i. elim (Contains-push_cases front l u i) [ inl o ↦ h.own o | inr e ↦ absurd (other e) ];
  cover = λ k i. elim (Contains-push_cases front l k i) [ inl o ↦ h.cover k o | inr e ↦ inr (subst (λ x. IsRedundant cs t c base x) e r) ];
}

pub known-more : (lits c front : List Literal) (base : ℕ) (besides l : Literal) → (l ≡ besides) ⊎ IsKnown lits c base l → ((k : Literal) → Contains front k → (k ≡ besides) ⊎ IsKnown lits c base k)
    → (k : Literal) → Contains (front ++ l ∷ []) k → (k ≡ besides) ⊎ IsKnown lits c base k
known-more lits c front base besides l o h k i = elim (Contains-push_cases front l k i) [
  | inl old ↦ h k old
  | inr e ↦ subst (λ x. (x ≡ besides) ⊎ IsKnown lits c base x) e o
]
