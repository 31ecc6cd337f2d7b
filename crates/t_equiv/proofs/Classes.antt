-- Images: the first literal of each class.
use Rattle.std.proofs.Common.{◌≡◌, ◌≢◌, ◌⊎◌, ℕ, ◌+◌, ◌-◌, ◌*◌, ◌<◌, ◌≤◌, Bool, true, false, not, cond, List, [], ◌∷◌, Contains, refl, ap, sym, ◌∙◌, subst, arith, inl, inr}
use Rattle.std.proofs.lemmas.Bool.{cases_Bool, cases_eq, cases_lt, true≢false, false≢true}
use Rattle.std.proofs.lemmas.List.{get_or_past}
use Rattle.std.proofs.lemmas.List.Elements.{All-get_or}
use Rattle.mp_logic.specs.Literal.{Literal, negation, IsUpTo}
use Rattle.mp_logic.specs.Truth.{literal_value}
use Rattle.mp_logic.specs.Keeping.{State}
use Rattle.mp_logic.specs.Sets.{Implies}
use Rattle.mp_logic.proofs.Members.{Contains-none, Contains-first, Contains-later}
use Rattle.mp_logic.proofs.Literals.{literal_value-negation, negation-negation, same_or_negation}
use Rattle.t_equiv.specs.Implications.{Reaches, number_place, number_in, AreNumbers}
use Rattle.t_equiv.specs.Substituting.{positive, HasOpposites, IsSubstitution, HaveImageValues}
use Rattle.t_equiv.specs.Images.{image_in, AreImages, NoneOpposite, AreReplaced}
use Rattle.t_equiv.proofs.Reached.{AreWithin, equivalent-turned, equivalent-values, step-known, FirstStep, first-step, reaches-known, step-alike}

-- places of numbers
cond-most : (b : Bool) → cond b 1 0 ≤ 1
cond-most true = omega arith
cond-most false = omega arith

pub number_place-below : (n : ℕ) (x : Literal) → IsUpTo n x → number_place x < 2 * n
number_place-below n x h = let a : 1 ≤ x.variable = h.0 in let b : x.variable ≤ n = h.1 in let c : cond x.negative 1 0 ≤ 1 = cond-most x.negative in omega arith

below-known : (n : ℕ) (x : Literal) → 1 ≤ x.variable → number_place x < 2 * n → IsUpTo n x
below-known n x a b = (a, omega arith)

place-parts : (v w : ℕ) (s t : Bool) → 1 ≤ v → 1 ≤ w → 2 * (v - 1) + cond s 1 0 ≡ 2 * (w - 1) + cond t 1 0 → (v ≡ w) × (s ≡ t)
place-parts v w true true a b e = (omega arith, refl)
place-parts v w true false a b e = absurd (omega arith)
place-parts v w false true a b e = absurd (omega arith)
place-parts v w false false a b e = (omega arith, refl)

abbrev lit : ℕ → Bool → Literal
lit v s = record { variable = v; negative = s }

made-of : (v w : ℕ) (s t : Bool) → v ≡ w → s ≡ t → lit v s ≡ lit w t
made-of v w s t a b = rw (a, b) refl

pub number_place-same : (x y : Literal) → 1 ≤ x.variable → 1 ≤ y.variable → number_place x ≡ number_place y → x ≡ y
number_place-same x y a b e = let p = place-parts x.variable y.variable x.negative y.negative a b e in made-of x.variable y.variable x.negative y.negative p.0 p.1

-- what a turn knows of its numbers and images
pub record Classes (vars : ℕ) (cs : List (List Literal)) (ns : List ℕ) (im : List Literal) : Type 0 where
  pub within : AreWithin vars cs
  pub numbers : AreNumbers vars cs ns
  pub images : AreImages ns im
  pub none : NoneOpposite vars ns

pub known : (vars : ℕ) (cs : List (List Literal)) (ns : List ℕ) (im : List Literal) (l : Literal) → Classes vars cs ns im → IsUpTo vars l → IsUpTo vars (image_in im l)
known vars cs ns im l h u =
    let low = number_place-below vars l u in
    let many = h.numbers.many in
    let first = h.images.first (number_place l) l (omega arith) in
    let below = first.below in
    let size = h.images.many in
    below-known vars (image_in im l) (All-get_or (λ (k : Literal). 1 ≤ k.variable) im (number_place l) l (omega arith) h.images.known) (omega arith)

pub alike : (vars : ℕ) (cs : List (List Literal)) (ns : List ℕ) (im : List Literal) (l : Literal) → Classes vars cs ns im → IsUpTo vars l → number_in ns (image_in im l) ≡ number_in ns l
alike vars cs ns im l h u = let low = number_place-below vars l u in let many = h.numbers.many in (h.images.first (number_place l) l (omega arith)).alike

least : (vars : ℕ) (cs : List (List Literal)) (ns : List ℕ) (im : List Literal) (l k : Literal) → Classes vars cs ns im → IsUpTo vars l → number_in ns k ≡ number_in ns l → number_place (image_in im l) ≤ number_place k
least vars cs ns im l k h u e =
    let low = number_place-below vars l u in
    let many = h.numbers.many in
    let first = h.images.first (number_place l) l (omega arith) in
    elim (cases_lt (number_place k) (number_place (image_in im l))) [ inl i ↦ absurd (first.least (number_place k) i e) | inr g ↦ g ]

-- literals with one number have one image
pub one-image : (vars : ℕ) (cs : List (List Literal)) (ns : List ℕ) (im : List Literal) (l k : Literal) → Classes vars cs ns im → IsUpTo vars l → IsUpTo vars k → number_in ns l ≡ number_in ns k → image_in im l ≡ image_in im k
one-image vars cs ns im l k h u w e =
    let a = least vars cs ns im l (image_in im k) h u (alike vars cs ns im k h w ∙ sym e) in
    let b = least vars cs ns im k (image_in im l) h w (alike vars cs ns im l h u ∙ e) in
    number_place-same (image_in im l) (image_in im k) (known vars cs ns im l h u).0 (known vars cs ns im k h w).0 (omega arith)

pub image-again : (vars : ℕ) (cs : List (List Literal)) (ns : List ℕ) (im : List Literal) (l : Literal) → Classes vars cs ns im → IsUpTo vars l → image_in im (image_in im l) ≡ image_in im l
image-again vars cs ns im l h u = one-image vars cs ns im (image_in im l) l h (known vars cs ns im l h u) u (alike vars cs ns im l h u)

-- negations have negations as images
number-turned : (vars : ℕ) (cs : List (List Literal)) (ns : List ℕ) (x y : Literal) → AreNumbers vars cs ns → IsUpTo vars x → IsUpTo vars y → number_in ns x ≡ number_in ns y → number_in ns (negation x) ≡ number_in ns (negation y)
number-turned vars cs ns x y h u w e = (h.same (negation x) (negation y) (u.0, u.1) (w.0, w.1)).1 (equivalent-turned cs x y ((h.same x y u w).0 e))

variable-order : (x y : Literal) → 1 ≤ x.variable → 1 ≤ y.variable → number_place x ≤ number_place y → x.variable ≤ y.variable
variable-order x y a b e = let c : cond y.negative 1 0 ≤ 1 = cond-most y.negative in omega arith

pub opposite-known : (vars : ℕ) (cs : List (List Literal)) (ns : List ℕ) (im : List Literal) (l : Literal) → Classes vars cs ns im → IsUpTo vars l → image_in im (negation l) ≡ negation (image_in im l)
opposite-known vars cs ns im l h u =
    let n = negation l in
    let un : IsUpTo vars n = (u.0, u.1) in
    let r = image_in im l in
    let m = image_in im n in
    let ur = known vars cs ns im l h u in
    let um = known vars cs ns im n h un in
    let unr : IsUpTo vars (negation r) = (ur.0, ur.1) in
    let unm : IsUpTo vars (negation m) = (um.0, um.1) in
    let one : number_in ns (negation r) ≡ number_in ns n = number-turned vars cs ns r l h.numbers ur u (alike vars cs ns im l h u) in
    let two : number_in ns (negation m) ≡ number_in ns l = number-turned vars cs ns m n h.numbers um un (alike vars cs ns im n h un) ∙ ap (number_in ns) (negation-negation l) in
    let a = variable-order m (negation r) um.0 unr.0 (least vars cs ns im n (negation r) h un one) in
    let b = variable-order r (negation m) ur.0 unm.0 (least vars cs ns im l (negation m) h u two) in
    let same : m.variable ≡ r.variable = omega arith in
    elim (same_or_negation m r same) [
      | inl e ↦ absurd (h.none l u (sym (alike vars cs ns im l h u) ∙ ap (number_in ns) (sym e) ∙ alike vars cs ns im n h un))
      | inr e ↦ e
    ]

-- a literal past the table
past : (vars : ℕ) (cs : List (List Literal)) (ns : List ℕ) (im : List Literal) (l : Literal) → Classes vars cs ns im → vars < l.variable → image_in im l ≡ l
past vars cs ns im l h g = let many = h.numbers.many in let size = h.images.many in get_or_past im (number_place l) l (omega arith)

within-or : (vars : ℕ) (l : Literal) → 1 ≤ l.variable → IsUpTo vars l ⊎ (vars < l.variable)
within-or vars l p = elim (cases_lt vars l.variable) [ inl g ↦ inr g | inr g ↦ inl (p, g) ]

stays-or-moves : (vars : ℕ) (im : List Literal) (vs : List ℕ) (v : ℕ) → AreReplaced vars im vs → IsUpTo vars (positive v) → (Contains vs v → ⊥) → (image_in im (positive v)).variable ≡ v
stays-or-moves vars im vs v r u out = elim (cases_eq (image_in im (positive v)).variable v) [ inl e ↦ e | inr n ↦ absurd (out (r.each v (record { up = u; moved = n }))) ]

-- the positive literal stands first
own-image : (vars : ℕ) (cs : List (List Literal)) (ns : List ℕ) (im : List Literal) (v : ℕ) → Classes vars cs ns im → IsUpTo vars (positive v) → (image_in im (positive v)).variable ≡ v → image_in im (positive v) ≡ positive v
own-image vars cs ns im v h u e =
    elim (same_or_negation (image_in im (positive v)) (positive v) e) [
      | inl i ↦ i
      | inr n ↦
          let low = least vars cs ns im (positive v) (positive v) h u refl in
          let at : number_place (image_in im (positive v)) ≡ 2 * (v - 1) + 1 = ap number_place n in
          absurd (omega arith)
    ]

others-stay : (vars : ℕ) (cs : List (List Literal)) (ns : List ℕ) (im : List Literal) (vs : List ℕ) (k : Literal) → Classes vars cs ns im → AreReplaced vars im vs → IsUpTo vars k → (Contains vs k.variable → ⊥) → image_in im k ≡ k
others-stay vars cs ns im vs k h r u out =
    let own = own-image vars cs ns im k.variable h (u.0, u.1) (stays-or-moves vars im vs k.variable r (u.0, u.1) out) in
    elim (same_or_negation k (positive k.variable) refl) [
      | inl e ↦ ap (image_in im) e ∙ own ∙ sym e
      | inr e ↦ ap (image_in im) e ∙ opposite-known vars cs ns im (positive k.variable) h (u.0, u.1) ∙ ap negation own ∙ sym e
    ]

image-away : (vars : ℕ) (cs : List (List Literal)) (ns : List ℕ) (im : List Literal) (vs : List ℕ) (k : Literal) → Classes vars cs ns im → AreReplaced vars im vs → IsUpTo vars k → Contains vs (image_in im k).variable → ⊥
image-away vars cs ns im vs k h r u i =
    let m = image_in im k in
    let um = known vars cs ns im k h u in
    let up : IsUpTo vars (positive m.variable) = (um.0, um.1) in
    let again = image-again vars cs ns im k h u in
    let moved = (r.only m.variable i).moved in
    elim (same_or_negation m (positive m.variable) refl) [
      | inl e ↦ moved (ap (λ (l : Literal). l.variable) (ap (image_in im) (sym e) ∙ again))
      | inr e ↦
          let turned : image_in im m ≡ negation (image_in im (positive m.variable)) = ap (image_in im) e ∙ opposite-known vars cs ns im (positive m.variable) h up in
          moved (ap (λ (l : Literal). l.variable) (sym turned ∙ again))
    ]

pub substitution : (vars : ℕ) (cs : List (List Literal)) (ns : List ℕ) (im : List Literal) (vs : List ℕ) → Classes vars cs ns im → AreReplaced vars im vs → IsSubstitution (image_in im) vs
substitution vars cs ns im vs h r = record {
  from_one = λ v i. (r.only v i).up.0;
  opposite = λ k p. elim (within-or vars k p) [
    | inl u ↦ opposite-known vars cs ns im k h u
    | inr g ↦ past vars cs ns im (negation k) h g ∙ ap negation (sym (past vars cs ns im k h g))
  ];
  known = λ k p. elim (within-or vars k p) [
    | inl u ↦ (known vars cs ns im k h u).0
    | inr g ↦ subst (λ (l : Literal). 1 ≤ l.variable) (sym (past vars cs ns im k h g)) p
  ];
  others = λ k p out. elim (within-or vars k p) [
    | inl u ↦ others-stay vars cs ns im vs k h r u out
    | inr g ↦ past vars cs ns im k h g
  ];
  away = λ k p i. elim (within-or vars k p) [
    | inl u ↦ image-away vars cs ns im vs k h r u i
    | inr g ↦
        let j = subst (λ (l : Literal). Contains vs l.variable) (past vars cs ns im k h g) i in
        let up = (r.only k.variable j).up.1 in
        omega arith
  ];
}

-- in each model a literal has the value of its image
pub image-values : (s : State) (ns : List ℕ) (im : List Literal) → Classes s.vars s.hard ns im → HaveImageValues s (image_in im)
image-values s ns im h a z k p = elim (within-or s.vars k p) [
  | inl u ↦ sym (equivalent-values s.hard a (image_in im k) k z ((h.numbers.same (image_in im k) k (known s.vars s.hard ns im k h u) u).0 (alike s.vars s.hard ns im k h u)))
  | inr g ↦ ap (literal_value a) (sym (past s.vars s.hard ns im k h g))
]

-- where a literal has the number of its negation there is no model
pub opposite-refutes : (vars : ℕ) (cs : List (List Literal)) (ns : List ℕ) (l : Literal) → AreNumbers vars cs ns → IsUpTo vars l → number_in ns l ≡ number_in ns (negation l) → Implies cs []
opposite-refutes vars cs ns l h u e a z =
    let same : literal_value a l ≡ not (literal_value a l) = equivalent-values cs a l (negation l) z ((h.same l (negation l) u (u.0, u.1)).0 e) ∙ literal_value-negation a l in
    elim (cases_Bool (literal_value a l)) [ inl t ↦ absurd (true≢false (sym t ∙ same ∙ ap not t)) | inr f ↦ absurd (false≢true (sym f ∙ same ∙ ap not f)) ]

-- a clause of two equivalent literals: its image is a tautology, and it has a literal of each variable of the class
pub record Closes (im : List Literal) (cs : List (List Literal)) (l : Literal) : Type 0 where
  pub clause : List Literal
  pub live : Contains cs clause
  pub opposites : HasOpposites (image_in im) clause
  pub has : Contains clause (negation l)

closes-by : (vars : ℕ) (cs : List (List Literal)) (ns : List ℕ) (im : List Literal) (l y : Literal) → Classes vars cs ns im → IsUpTo vars l → number_in ns l ≡ number_in ns y → FirstStep cs l y → Closes im cs l
closes-by vars cs ns im l y h u e f =
    let z = f.next in
    let w = step-known vars cs l z h.within f.step in
    let same : image_in im z ≡ image_in im l = one-image vars cs ns im z l h w.1 u (step-alike vars cs ns l y h.numbers e f) in
    let turned : image_in im (negation l) ≡ negation (image_in im z) = opposite-known vars cs ns im l h u ∙ ap negation (sym same) in
    let s = f.step in
    let a_in = Contains-first s.a (s.b ∷ []) in
    let b_in = Contains-later s.a (s.b ∷ []) s.b (Contains-first s.b []) in
    elim s.either [
      | inl g ↦
          let first : negation l ≡ s.a = ap negation g.0 ∙ negation-negation s.a in
          record {
            clause = s.a ∷ s.b ∷ [];
            live = s.clause;
            opposites = (s.b, s.a, b_in, a_in, ap (image_in im) (sym first) ∙ turned ∙ ap (λ (k : Literal). negation (image_in im k)) g.1);
            has = subst (Contains (s.a ∷ s.b ∷ [])) (sym first) a_in;
          }
      | inr g ↦
          let first : negation l ≡ s.b = ap negation g.0 ∙ negation-negation s.b in
          record {
            clause = s.a ∷ s.b ∷ [];
            live = s.clause;
            opposites = (s.a, s.b, a_in, b_in, ap (image_in im) (sym first) ∙ turned ∙ ap (λ (k : Literal). negation (image_in im k)) g.1);
            has = subst (Contains (s.a ∷ s.b ∷ [])) (sym first) b_in;
          }
    ]

-- a literal with another image, and its image, stand in such clauses
pub closes : (vars : ℕ) (cs : List (List Literal)) (ns : List ℕ) (im : List Literal) (l : Literal) → Classes vars cs ns im → IsUpTo vars l → image_in im l ≢ l → Closes im cs l
closes vars cs ns im l h u n =
    let m = image_in im l in
    let um = known vars cs ns im l h u in
    let e = alike vars cs ns im l h u in
    elim ((h.numbers.same l m u um).0 (sym e)) [ inl i ↦ absurd (n (sym i)) | inr r ↦ closes-by vars cs ns im l m h u (sym e) (first-step cs r.0.between l m r.0.trail) ]

pub closes-image : (vars : ℕ) (cs : List (List Literal)) (ns : List ℕ) (im : List Literal) (l : Literal) → Classes vars cs ns im → IsUpTo vars l → image_in im l ≢ l → Closes im cs (image_in im l)
closes-image vars cs ns im l h u n =
    let m = image_in im l in
    let um = known vars cs ns im l h u in
    let e = alike vars cs ns im l h u in
    elim ((h.numbers.same l m u um).0 (sym e)) [ inl i ↦ absurd (n (sym i)) | inr r ↦ closes-by vars cs ns im m l h um e (first-step cs r.1.between m l r.1.trail) ]

-- where nothing is replaced, nothing is left to do
pub none-replaced : (vars : ℕ) (cs : List (List Literal)) (ns : List ℕ) (im : List Literal) → Classes vars cs ns im → AreReplaced vars im [] → (x y : Literal) → Reaches cs x y → Reaches cs y x → x ≡ y
none-replaced vars cs ns im h r x y a b =
    let u = reaches-known vars cs x y h.within a in
    let w = reaches-known vars cs y x h.within b in
    let none : (v : ℕ) → Contains [] v → ⊥ = λ v i. Contains-none v i in
    let e = (h.numbers.same x y u w).1 (inr (a, b)) in
    sym (others-stay vars cs ns im [] x h r u (none x.variable)) ∙ one-image vars cs ns im x y h u w e ∙ others-stay vars cs ns im [] y h r w (none y.variable)

-- the image is of a lower variable
pub image-lower : (vars : ℕ) (cs : List (List Literal)) (ns : List ℕ) (im : List Literal) (v : ℕ) → Classes vars cs ns im → IsUpTo vars (positive v) → (image_in im (positive v)).variable ≢ v → (image_in im (positive v)).variable < v
image-lower vars cs ns im v h u n =
    let low = least vars cs ns im (positive v) (positive v) h u refl in
    let m = image_in im (positive v) in
    let one = (known vars cs ns im (positive v) h u).0 in
    let up = u.0 in
    let order = variable-order m (positive v) one up low in
    omega arith
