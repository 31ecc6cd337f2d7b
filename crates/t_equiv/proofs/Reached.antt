-- Literals that reach each other: turned round, in a model, and by their numbers.
use Rattle.std.proofs.Common.{◌≡◌, ◌⊎◌, ℕ, ◌≤◌, Bool, true, false, not, List, [], ◌∷◌, ◌++◌, All, Contains, refl, ap, sym, ◌∙◌, subst, arith, inl, inr}
use Rattle.std.proofs.lemmas.Bool.{true≢false}
use Rattle.std.proofs.lemmas.List.Elements.{All-contains}
use Rattle.mp_logic.specs.Literal.{Literal, negation, IsUpTo}
use Rattle.mp_logic.specs.Truth.{literal_value, IsSatisfied}
use Rattle.mp_logic.proofs.Members.{Contains-first, Contains-later, Contains-one, Contains-cases, satisfied, witness}
use Rattle.mp_logic.proofs.Literals.{literal_value-negation, negation-negation}
use Rattle.t_equiv.specs.Implications.{IsStep, IsTrail, Reaches, AreEquivalent, number_in, AreNumbers}

-- each literal of a clause is one of the first vars variables
abbrev pub AreWithin : ℕ → List (List Literal) → Type 0
AreWithin vars cs = All (All (IsUpTo vars)) cs

trail-append : (cs : List (List Literal)) (zs ws : List Literal) (x y z : Literal) → IsTrail cs zs x y → IsTrail cs ws y z → IsTrail cs (zs ++ y ∷ ws) x z
trail-append cs [] ws x y z a b = (a, b)
trail-append cs (w ∷ zs) ws x y z a b = (a.0, trail-append cs zs ws w y z a.1 b)

pub reaches-on : (cs : List (List Literal)) (x y z : Literal) → Reaches cs x y → Reaches cs y z → Reaches cs x z
reaches-on cs x y z a b = record { between = a.between ++ y ∷ b.between; trail = trail-append cs a.between b.between x y z a.trail b.trail }

reaches-one : (cs : List (List Literal)) (x y : Literal) → IsStep cs x y → Reaches cs x y
reaches-one cs x y s = record { between = []; trail = s }

-- the other way between the negations
step-turned : (cs : List (List Literal)) (x y : Literal) → IsStep cs x y → IsStep cs (negation y) (negation x)
step-turned cs x y s = record {
  a = s.a;
  b = s.b;
  clause = s.clause;
  either = elim s.either [
    | inl e ↦ inr (ap negation e.1, ap negation e.0 ∙ negation-negation s.a)
    | inr e ↦ inl (ap negation e.1, ap negation e.0 ∙ negation-negation s.b)
  ];
}

trail-turned : (cs : List (List Literal)) (zs : List Literal) (x y : Literal) → IsTrail cs zs x y → Reaches cs (negation y) (negation x)
trail-turned cs [] x y a = reaches-one cs (negation y) (negation x) (step-turned cs x y a)
trail-turned cs (z ∷ zs) x y a = reaches-on cs (negation y) (negation z) (negation x) (trail-turned cs zs z y a.1) (reaches-one cs (negation z) (negation x) (step-turned cs x z a.0))

pub equivalent-turned : (cs : List (List Literal)) (x y : Literal) → AreEquivalent cs x y → AreEquivalent cs (negation x) (negation y)
equivalent-turned cs x y e = elim e [
  | inl i ↦ inl (ap negation i)
  | inr r ↦ inr (trail-turned cs r.1.between y x r.1.trail, trail-turned cs r.0.between x y r.0.trail)
]

-- in a model what a true literal reaches is true
step-true : (cs : List (List Literal)) (a : List Bool) (x y : Literal) → IsSatisfied a cs → IsStep cs x y → literal_value a x ≡ true → literal_value a y ≡ true
step-true cs a x y z s t =
    let w = witness a (s.a ∷ s.b ∷ []) (satisfied a cs (s.a ∷ s.b ∷ []) z s.clause) in
    let never : (k : Literal) → x ≡ negation k → literal_value a k ≡ true → ⊥ = λ k e u. true≢false (sym t ∙ ap (literal_value a) e ∙ literal_value-negation a k ∙ ap not u) in
    let is : (w.0 ≡ s.a) ⊎ (w.0 ≡ s.b) = elim (Contains-cases s.a (s.b ∷ []) w.0 w.1) [ inl e ↦ inl e | inr i ↦ inr (Contains-one s.b w.0 i) ] in
    elim s.either [
      | inl e ↦ elim is [ inl f ↦ absurd (never s.a e.0 (ap (literal_value a) (sym f) ∙ w.2)) | inr f ↦ ap (literal_value a) (e.1 ∙ sym f) ∙ w.2 ]
      | inr e ↦ elim is [ inl f ↦ ap (literal_value a) (e.1 ∙ sym f) ∙ w.2 | inr f ↦ absurd (never s.b e.0 (ap (literal_value a) (sym f) ∙ w.2)) ]
    ]

trail-true : (cs : List (List Literal)) (a : List Bool) (zs : List Literal) (x y : Literal) → IsSatisfied a cs → IsTrail cs zs x y → literal_value a x ≡ true → literal_value a y ≡ true
trail-true cs a [] x y z s t = step-true cs a x y z s t
trail-true cs a (w ∷ zs) x y z s t = trail-true cs a zs w y z s.1 (step-true cs a x w z s.0 t)

both-ways : (u v : Bool) → (u ≡ true → v ≡ true) → (v ≡ true → u ≡ true) → u ≡ v
both-ways true v f g = sym (f refl)
both-ways false true f g = g refl
both-ways false false f g = refl

pub equivalent-values : (cs : List (List Literal)) (a : List Bool) (x y : Literal) → IsSatisfied a cs → AreEquivalent cs x y → literal_value a x ≡ literal_value a y
equivalent-values cs a x y z e = elim e [
  | inl i ↦ ap (literal_value a) i
  | inr r ↦ both-ways (literal_value a x) (literal_value a y) (trail-true cs a r.0.between x y z r.0.trail) (trail-true cs a r.1.between y x z r.1.trail)
]

-- what a step speaks of is known
clause-known : (vars : ℕ) (cs : List (List Literal)) (c : List Literal) (k : Literal) → AreWithin vars cs → Contains cs c → Contains c k → IsUpTo vars k
clause-known vars cs c k w m i = All-contains (IsUpTo vars) c k (All-contains (All (IsUpTo vars)) cs c w m) i

pub step-known : (vars : ℕ) (cs : List (List Literal)) (x y : Literal) → AreWithin vars cs → IsStep cs x y → IsUpTo vars x × IsUpTo vars y
step-known vars cs x y w s =
    let a = clause-known vars cs (s.a ∷ s.b ∷ []) s.a w s.clause (Contains-first s.a (s.b ∷ [])) in
    let b = clause-known vars cs (s.a ∷ s.b ∷ []) s.b w s.clause (Contains-later s.a (s.b ∷ []) s.b (Contains-first s.b [])) in
    elim s.either [
      | inl e ↦ (subst (IsUpTo vars) (sym e.0) (a.0, a.1), subst (IsUpTo vars) (sym e.1) b)
      | inr e ↦ (subst (IsUpTo vars) (sym e.0) (b.0, b.1), subst (IsUpTo vars) (sym e.1) a)
    ]

-- the first step of a trail
pub record FirstStep (cs : List (List Literal)) (x y : Literal) : Type 0 where
  pub next : Literal
  pub step : IsStep cs x next
  pub rest : (next ≡ y) ⊎ Reaches cs next y

pub first-step : (cs : List (List Literal)) (zs : List Literal) (x y : Literal) → IsTrail cs zs x y → FirstStep cs x y
first-step cs [] x y s = record { next = y; step = s; rest = inl refl }
first-step cs (z ∷ zs) x y s = record { next = z; step = s.0; rest = inr (record { between = zs; trail = s.1 }) }

pub reaches-known : (vars : ℕ) (cs : List (List Literal)) (x y : Literal) → AreWithin vars cs → Reaches cs x y → IsUpTo vars x
reaches-known vars cs x y w r = let f = first-step cs r.between x y r.trail in (step-known vars cs x f.next w f.step).0

-- numbers don't rise on the way
trail-falls : (vars : ℕ) (cs : List (List Literal)) (ns : List ℕ) (zs : List Literal) (x y : Literal) → AreNumbers vars cs ns → IsTrail cs zs x y → number_in ns y ≤ number_in ns x
trail-falls vars cs ns [] x y h s = h.falls x y s
trail-falls vars cs ns (z ∷ zs) x y h s =
    let one : number_in ns z ≤ number_in ns x = h.falls x z s.0 in
    let two : number_in ns y ≤ number_in ns z = trail-falls vars cs ns zs z y h s.1 in
    omega arith

-- the first step between equivalent literals leads to one that is equivalent to both
pub step-alike : (vars : ℕ) (cs : List (List Literal)) (ns : List ℕ) (x y : Literal) → AreNumbers vars cs ns → number_in ns x ≡ number_in ns y → (f : FirstStep cs x y) → number_in ns f.next ≡ number_in ns x
step-alike vars cs ns x y h e f =
    let one : number_in ns f.next ≤ number_in ns x = h.falls x f.next f.step in
    elim f.rest [
      | inl i ↦ ap (number_in ns) i ∙ sym e
      | inr r ↦ let two : number_in ns y ≤ number_in ns f.next = trail-falls vars cs ns r.between f.next y h r.trail in omega arith
    ]
