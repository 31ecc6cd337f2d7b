-- The normal form of a clause: its literals, its truth, and that no other rising clause has the same literals.
use Rattle.std.proofs.Common.{◌≡◌, ◌⊎◌, ◌≤◌, Bool, true, false, cond, List, [], ◌∷◌, Contains, refl, ap, sym, ◌∙◌, subst, inl, inr}
use Rattle.std.specs.declared.cmp.Ordering.{Ordering}
use Rattle.std.specs.declared.cmp.Ordering.TheVariants.{Less, Equal, Greater}
use Rattle.std.specs.Ordering.{is_lt, is_eq, ordering_reverse}
use Rattle.std.proofs.lemmas.Bool.{cond_both, cases_Bool, and_from, and_parts, false_from_ne_true, true_from_ne_false, true≢false, false≢true}
use Rattle.std.proofs.lemmas.Cmp.{tied_itself}
use Rattle.mp_logic.specs.Literal.{Literal, negation}
use Rattle.mp_logic.specs.Normal.{lit_cmp, literals_rise, rises, SameLiterals}
use Rattle.mp_logic.specs.Truth.{clause_value}
use Rattle.mp_logic.proofs.LiteralOrder.{lit_cmp_total, lit_tied}
use Rattle.mp_logic.proofs.Literals.{lit_decides, negation_true}
use Rattle.mp_logic.proofs.Members.{Contains-none, Contains-first, Contains-later, Contains-cases, witness, true_by, false_in}
use Rattle.mp_logic.proofs.Rising.{rising_is_normal}
use Rattle.mp_labels.specs.LabelView.{inserted, normal_form}

-- the one literal stands before the other
abbrev pub before : Literal → Literal → Bool
before a b = is_lt (lit_cmp a b)

less : (o : Ordering) → is_lt o ≡ true → o ≡ Less
less Less h = refl
less Equal h = absurd (false≢true h)
less Greater h = absurd (false≢true h)

tied : (o : Ordering) → is_lt o ≡ false → is_lt (ordering_reverse o) ≡ false → is_eq o ≡ true
tied Less h k = absurd (true≢false h)
tied Equal h k = refl
tied Greater h k = absurd (true≢false k)

pub before_trans : (a b c : Literal) → before a b ≡ true → before b c ≡ true → before a c ≡ true
before_trans a b c h k = ap is_lt (lit_cmp_total.trans a b c (less (lit_cmp a b) h) (less (lit_cmp b c) k))

pub before_itself : (a : Literal) → before a a ≡ true → ⊥
before_itself a h = false≢true (sym (ap is_lt (tied_itself lit_cmp_total a)) ∙ h)

pub same_from_tie : (a b : Literal) → is_eq (lit_cmp a b) ≡ true → a ≡ b
same_from_tie a b h = (lit_decides a b).0 (lit_tied a b ∙ h)

pub same_from_order : (a b : Literal) → before a b ≡ false → before b a ≡ false → a ≡ b
same_from_order a b h k = same_from_tie a b (tied (lit_cmp a b) h (ap is_lt (sym (lit_cmp_total.antisymm b a)) ∙ k))

pub tie_itself : (a : Literal) → is_eq (lit_cmp a a) ≡ true
tie_itself a = ap is_eq (tied_itself lit_cmp_total a)

-- each literal stands before all that follow
abbrev pub Sorted : List Literal → Type 0
Sorted [] = Unit {0}
Sorted (a ∷ c) = ((b : Literal) → Contains c b → before a b ≡ true) × Sorted c

pub Sorted-from_rise : (c : List Literal) → literals_rise c ≡ true → Sorted c
Sorted-from_rise [] h = tt
Sorted-from_rise (a ∷ []) h = (λ b i. absurd (Contains-none b i), tt)
Sorted-from_rise (a ∷ (b ∷ c)) h =
    let parts = and_parts (before a b) (literals_rise (b ∷ c)) h in
    let rest = Sorted-from_rise (b ∷ c) parts.1 in (
      λ x i. elim (Contains-cases b c x i) [
        | inl e ↦ ap (before a) e ∙ parts.0
        | inr j ↦ before_trans a b x parts.0 (rest.0 x j)
      ],
      rest,
    )

rise_from_Sorted : (c : List Literal) → Sorted c → literals_rise c ≡ true
rise_from_Sorted [] h = refl
rise_from_Sorted (a ∷ []) h = refl
rise_from_Sorted (a ∷ (b ∷ c)) h = and_from (before a b) (literals_rise (b ∷ c)) (h.0 b (Contains-first b c)) (rise_from_Sorted (b ∷ c) h.1)

own_inserted : (l : Literal) (c : List Literal) → Contains (inserted l c) l
own_inserted l [] = Contains-first l []
own_inserted l (k ∷ ks) =
    cond_both (before l k) (l ∷ (k ∷ ks)) (cond (before k l) (k ∷ inserted l ks) (k ∷ ks)) (λ c. Contains c l)
    (λ t. Contains-first l (k ∷ ks))
    (λ f. cond_both (before k l) (k ∷ inserted l ks) (k ∷ ks) (λ c. Contains c l)
    (λ t. Contains-later k (inserted l ks) l (own_inserted l ks))
    (λ g. subst (λ j. Contains (k ∷ ks) j) (same_from_order k l g f) (Contains-first k ks)))

rest_inserted : (l : Literal) (c : List Literal) (x : Literal) → Contains c x → Contains (inserted l c) x
rest_inserted l [] x i = absurd (Contains-none x i)
rest_inserted l (k ∷ ks) x i =
    cond_both (before l k) (l ∷ (k ∷ ks)) (cond (before k l) (k ∷ inserted l ks) (k ∷ ks)) (λ c. Contains c x)
    (λ t. Contains-later l (k ∷ ks) x i)
    (λ f. cond_both (before k l) (k ∷ inserted l ks) (k ∷ ks) (λ c. Contains c x)
    (λ t. elim (Contains-cases k ks x i) [
      | inl e ↦ subst (λ j. Contains (k ∷ inserted l ks) j) (sym e) (Contains-first k (inserted l ks))
      | inr j ↦ Contains-later k (inserted l ks) x (rest_inserted l ks x j)
    ])
    (λ g. i))

from_inserted : (l : Literal) (c : List Literal) (x : Literal) → Contains (inserted l c) x → (x ≡ l) ⊎ Contains c x
from_inserted l [] x = λ i. Contains-cases l [] x i
from_inserted l (k ∷ ks) x =
    cond_both (before l k) (l ∷ (k ∷ ks)) (cond (before k l) (k ∷ inserted l ks) (k ∷ ks)) (λ c. Contains c x → (x ≡ l) ⊎ Contains (k ∷ ks) x)
    (λ t i. Contains-cases l (k ∷ ks) x i)
    (λ f. cond_both (before k l) (k ∷ inserted l ks) (k ∷ ks) (λ c. Contains c x → (x ≡ l) ⊎ Contains (k ∷ ks) x)
    (λ t i. elim (Contains-cases k (inserted l ks) x i) [
      | inl e ↦ inr (subst (λ j. Contains (k ∷ ks) j) (sym e) (Contains-first k ks))
      | inr j ↦ elim (from_inserted l ks x j) [ inl e ↦ inl e | inr m ↦ inr (Contains-later k ks x m) ]
    ])
    (λ g i. inr i))

Sorted-inserted : (l : Literal) (c : List Literal) → Sorted c → Sorted (inserted l c)
Sorted-inserted l [] h = (λ b i. absurd (Contains-none b i), tt)
Sorted-inserted l (k ∷ ks) h =
    cond_both (before l k) (l ∷ (k ∷ ks)) (cond (before k l) (k ∷ inserted l ks) (k ∷ ks)) Sorted
    (λ t. (
      λ b i. elim (Contains-cases k ks b i) [
        | inl e ↦ ap (before l) e ∙ t
        | inr j ↦ before_trans l k b t (h.0 b j)
      ],
      h,
    ))
    (λ f. cond_both (before k l) (k ∷ inserted l ks) (k ∷ ks) Sorted
    (λ t. (
      λ b i. elim (from_inserted l ks b i) [
        | inl e ↦ ap (before k) e ∙ t
        | inr j ↦ h.0 b j
      ],
      Sorted-inserted l ks h.1,
    ))
    (λ g. h))

pub Sorted-normal_form : (c : List Literal) → Sorted (normal_form c)
Sorted-normal_form [] = tt
Sorted-normal_form (l ∷ c) = Sorted-inserted l (normal_form c) (Sorted-normal_form c)

pub in_normal_form : (c : List Literal) (x : Literal) → Contains c x → Contains (normal_form c) x
in_normal_form [] x i = i
in_normal_form (l ∷ c) x i =
    elim (Contains-cases l c x i) [
      | inl e ↦ subst (λ j. Contains (inserted l (normal_form c)) j) (sym e) (own_inserted l (normal_form c))
      | inr j ↦ rest_inserted l (normal_form c) x (in_normal_form c x j)
    ]

pub from_normal_form : (c : List Literal) (x : Literal) → Contains (normal_form c) x → Contains c x
from_normal_form [] x i = i
from_normal_form (l ∷ c) x i =
    elim (from_inserted l (normal_form c) x i) [
      | inl e ↦ subst (λ j. Contains (l ∷ c) j) (sym e) (Contains-first l c)
      | inr j ↦ Contains-later l c x (from_normal_form c x j)
    ]

-- sorted clauses with the same literals are the same
unique : (c d : List Literal) → Sorted c → Sorted d → ((x : Literal) → Contains c x → Contains d x) → ((x : Literal) → Contains d x → Contains c x) → c ≡ d
unique [] [] h k on back = refl
unique [] (b ∷ d) h k on back = absurd (Contains-none b (back b (Contains-first b d)))
unique (a ∷ c) [] h k on back = absurd (Contains-none a (on a (Contains-first a c)))
unique (a ∷ c) (b ∷ d) h k on back =
    let same : a ≡ b =
    elim (Contains-cases b d a (on a (Contains-first a c))) [
      | inl e ↦ e
      | inr i ↦ elim (Contains-cases a c b (back b (Contains-first b d))) [
        | inl e ↦ sym e
        | inr j ↦ absurd (before_itself a (before_trans a b a (h.0 b j) (k.0 a i)))
      ]
    ] in
    let rest : c ≡ d =
    unique c d h.1 k.1
    (λ x i. elim (Contains-cases b d x (on x (Contains-later a c x i))) [
      | inl e ↦ absurd (before_itself x (ap (λ (z : Literal). before z x) (e ∙ sym same) ∙ h.0 x i))
      | inr j ↦ j
    ])
    (λ x i. elim (Contains-cases a c x (back x (Contains-later b d x i))) [
      | inl e ↦ absurd (before_itself x (ap (λ (z : Literal). before z x) (e ∙ same) ∙ k.0 x i))
      | inr j ↦ j
    ]) in
    ap (λ (z : Literal). z ∷ c) same ∙ ap (λ (zs : List Literal). b ∷ zs) rest

-- a rising clause with the literals of another is its normal form
pub normal_form_is : (c d : List Literal) → literals_rise d ≡ true → SameLiterals c d → d ≡ normal_form c
normal_form_is c d h s =
    unique d (normal_form c) (Sorted-from_rise d h) (Sorted-normal_form c) (λ x i. in_normal_form c x ((s x).1 i)) (λ x i. (s x).0 (from_normal_form c x i))

pub clause_value-same : (a : List Bool) (c d : List Literal) → ((x : Literal) → Contains c x → Contains d x) → ((x : Literal) → Contains d x → Contains c x) → clause_value a c ≡ clause_value a d
clause_value-same a c d on back =
    elim (cases_Bool (clause_value a c)) [
      | inl t ↦ let w = witness a c t in t ∙ sym (true_by a d w.0 (on w.0 w.1) w.2)
      | inr f ↦ f ∙ sym (false_from_ne_true (clause_value a d) (λ t. let w = witness a d t in true≢false (sym (true_by a c w.0 (back w.0 w.1) w.2) ∙ f)))
    ]

pub clause_value-normal_form : (a : List Bool) (c : List Literal) → clause_value a (normal_form c) ≡ clause_value a c
clause_value-normal_form a c = clause_value-same a (normal_form c) c (from_normal_form c) (in_normal_form c)

-- a clause whose normal form is not normal is true under each assignment
pub tautology_true : (a : List Bool) (c : List Literal) → ((l : Literal) → Contains c l → 1 ≤ l.variable) → rises 0 (normal_form c) ≡ false → clause_value a c ≡ true
tautology_true a c vs h =
    true_from_ne_false (clause_value a c) (λ f.
    let n = normal_form c in
    let all = clause_value-normal_form a c ∙ f in
    let normal : rises 0 n ≡ true =
    (rising_is_normal n (λ l i. vs l (from_normal_form c l i))).0 (rise_from_Sorted n (Sorted-normal_form c))
    (λ t. true≢false (sym (negation_true a t.0 (false_in a n t.0 all t.1)) ∙ false_in a n (negation t.0) all t.2)) in
    true≢false (sym normal ∙ h))
