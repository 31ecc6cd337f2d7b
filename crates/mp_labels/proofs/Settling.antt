-- The charges in order of variable give the net costs and what is cancelled.
use Rattle.std.proofs.Common.{◌≡◌, ◌≢◌, ◌<◌, ◌≤◌, ◌+◌, ◌-◌, ℕ, zero, suc, Bool, true, false, cond, List, [], ◌∷◌, ◌++◌, All, Contains, None, Some, min, sum_by, unwrap_or, refl, ap, ap₂, sym, ◌∙◌, arith, inl, inr}
use Rattle.std.specs.Prelude.{nat_eq, nat_lt}
use Rattle.std.specs.List.{flat_map, range_with_len, IsDistinct, AllByRecursion}
use Rattle.std.specs.List.Sorted.{IsNonDecreasingBy}
use Rattle.std.specs.Map.{lookup, keys_of}
use Rattle.std.proofs.lemmas.Bool.{cases_Bool, cases_lt, cases_eq, eq-eqb, ne_eqb, eqb-false, ltb-true, ltb-false, le-ltb, cond-true, cond-false, false_from_ne_true, false≢true}
use Rattle.std.proofs.lemmas.List.Sums.{sum_by-cons}
use Rattle.std.proofs.lemmas.List.Elements.{All-from_recursion, All-contains}
use Rattle.std.proofs.lemmas.List.Sorted.{IsPermutation-map, sum_by-IsPermutation}
use Rattle.std.proofs.lemmas.Map.Keys.{IsDistinct-IsPermutation}
use Rattle.std.proofs.lemmas.Cmp.{nat_eq_equiv}
use Rattle.mp_logic.specs.Literal.{Literal, negation}
use Rattle.mp_logic.specs.declared.instances.Cost.{Cost}
use Rattle.mp_logic.specs.declared.instances.Soft.{Soft}
use Rattle.mp_logic.proofs.Members.{Contains-none, Contains-first, Contains-later, Contains-cases, All-from_contained}
use Rattle.mp_labels.specs.declared.charges.Charge.{Charge}
use Rattle.mp_labels.specs.LabelView.{positive, is_unit_of, payable, charge_on, net_cost, net_costs, cancelled}
use Rattle.mp_labels.specs.Charges.{no_charge, side, charge_in, HasVariable, net_of, IsRisingOf}
use Rattle.mp_labels.proofs.Lists.{Contains-map, Contains-from_range, sum_by_agree, sum_by-flat_map}
use Rattle.mp_labels.proofs.NormalForms.{same_from_tie}
use Rattle.mp_labels.proofs.View.{SoftsIn, payable_in}

abbrev pub Entries : Type 0
Entries = List (ℕ × Charge)

-- no entry has the key
abbrev Lacks : ℕ → Entries → Type 0
Lacks k es = (e : ℕ × Charge) → Contains es e → k ≢ e.0

abbrev Apart : Entries → Type 0
Apart [] = Unit {0}
Apart (e ∷ es) = Lacks e.0 es × Apart es

lacks_from : (k : ℕ) (es : Entries) → AllByRecursion (λ y. nat_eq k y ≡ false) (keys_of es) → Lacks k es
lacks_from k es h e i f = eqb-false k e.0 (All-contains (λ y. nat_eq k y ≡ false) (keys_of es) e.0 (All-from_recursion (λ y. nat_eq k y ≡ false) (keys_of es) h) (Contains-map (λ (e : ℕ × Charge). e.0) es e i)) f

apart_from : (es : Entries) → IsDistinct nat_eq (keys_of es) → Apart es
unfolding IsDistinct
apart_from [] h = tt
apart_from (e ∷ es) h = (lacks_from e.0 es h.0, apart_from es h.1)

absent : (k : ℕ) (es : Entries) → Lacks k es → lookup (nat_eq k) es ≡ None
absent k [] h = refl
absent k (e ∷ es) h = cond-false (nat_eq k e.0) (Some e.1) (lookup (nat_eq k) es) (ne_eqb k e.0 (h e (Contains-first e es))) ∙ absent k es (λ f i. h f (Contains-later e es f i))

present : (es : Entries) (e : ℕ × Charge) → Apart es → Contains es e → lookup (nat_eq e.0) es ≡ Some e.1
present [] e h i = absurd (Contains-none e i)
present (f ∷ es) e h i =
    elim (Contains-cases f es e i) [
      | inl s ↦ cond-true (nat_eq e.0 f.0) (Some f.1) (lookup (nat_eq e.0) es) (eq-eqb e.0 f.0 (ap (λ (x : ℕ × Charge). x.0) s)) ∙ ap (λ (x : ℕ × Charge). Some x.1) (sym s)
      | inr j ↦ cond-false (nat_eq e.0 f.0) (Some f.1) (lookup (nat_eq e.0) es) (ne_eqb e.0 f.0 (λ s. h.0 e j (sym s))) ∙ present es e h.1 j
    ]

-- a look-up as a sum, which does not depend on the order
abbrev sum_in : Entries → Literal → ℕ
sum_in es l = sum_by (λ (e : ℕ × Charge). cond (nat_eq l.variable e.0) (side l.negative e.1) 0) es

sum_in_none : (es : Entries) (l : Literal) → Lacks l.variable es → sum_in es l ≡ 0
sum_in_none [] l h = refl
sum_in_none (e ∷ es) l h =
    let own : cond (nat_eq l.variable e.0) (side l.negative e.1) 0 ≡ 0 = cond-false (nat_eq l.variable e.0) (side l.negative e.1) 0 (ne_eqb l.variable e.0 (h e (Contains-first e es))) in
    omega (arith, own, sum_in_none es l (λ f i. h f (Contains-later e es f i)), sum_by-cons (λ (e : ℕ × Charge). cond (nat_eq l.variable e.0) (side l.negative e.1) 0) e es)

side_none : (b : Bool) → side b no_charge ≡ 0
side_none true = refl
side_none false = refl

charge_in-sum : (es : Entries) (l : Literal) → Apart es → charge_in es l ≡ sum_in es l
charge_in-sum [] l h = side_none l.negative
charge_in-sum (e ∷ es) l h =
    let all = sum_by-cons (λ (e : ℕ × Charge). cond (nat_eq l.variable e.0) (side l.negative e.1) 0) e es in
    elim (cases_eq l.variable e.0) [
      | inl s ↦
          let found : charge_in (e ∷ es) l ≡ side l.negative e.1 = ap (λ o. side l.negative (unwrap_or o no_charge)) (cond-true (nat_eq l.variable e.0) (Some e.1) (lookup (nat_eq l.variable) es) (eq-eqb l.variable e.0 s)) in
          let own : cond (nat_eq l.variable e.0) (side l.negative e.1) 0 ≡ side l.negative e.1 = cond-true (nat_eq l.variable e.0) (side l.negative e.1) 0 (eq-eqb l.variable e.0 s) in
          let rest : sum_in es l ≡ 0 = sum_in_none es l (λ f i t. h.0 f i (sym s ∙ t)) in
          omega (arith, all, found, own, rest)
      | inr n ↦
          let found : charge_in (e ∷ es) l ≡ charge_in es l = ap (λ o. side l.negative (unwrap_or o no_charge)) (cond-false (nat_eq l.variable e.0) (Some e.1) (lookup (nat_eq l.variable) es) (ne_eqb l.variable e.0 n)) in
          let own : cond (nat_eq l.variable e.0) (side l.negative e.1) 0 ≡ 0 = cond-false (nat_eq l.variable e.0) (side l.negative e.1) 0 (ne_eqb l.variable e.0 n) in
          omega (arith, all, found, own, charge_in-sum es l h.1)
    ]

-- keys that rise
abbrev Rising : Entries → Type 0
Rising [] = Unit {0}
Rising (e ∷ es) = ((f : ℕ × Charge) → Contains es f → e.0 < f.0) × Rising es

rising_from : (es : Entries) → IsNonDecreasingBy (λ (e : ℕ × Charge). e.0) es → Apart es → Rising es
rising_from [] h a = tt
rising_from (e ∷ es) h a = (
  λ f i.
      let up = h 0 (suc i.0) f (omega arith) (omega (arith, i.1)) in
      let at = ap (λ (x : ℕ × Charge). x.0) i.2 in
      elim (cases_lt e.0 f.0) [ inl l ↦ l | inr g ↦ absurd (a.0 f i (omega (arith, up, at))) ],
  rising_from es (λ i j d l m. h (suc i) (suc j) d (omega arith) (omega arith)) a.1,
)

abbrev is_charged : ℕ × Charge → Bool
is_charged e = nat_lt 0 (e.1.when_true + e.1.when_false)

flat_map_none : {X Y : Type 0} (F : X → List Y) (xs : List X) → ((x : X) → Contains xs x → F x ≡ []) → flat_map F xs ≡ []
flat_map_none F [] h = refl
flat_map_none F (x ∷ xs) h = ap (λ ys. ys ++ flat_map F xs) (h x (Contains-first x xs)) ∙ flat_map_none F xs (λ y i. h y (Contains-later x xs y i))

flat_map_agree : {X Y : Type 0} (F G : X → List Y) (xs : List X) → ((x : X) → Contains xs x → F x ≡ G x) → flat_map F xs ≡ flat_map G xs
flat_map_agree F G [] h = refl
flat_map_agree F G (x ∷ xs) h = ap₂ (λ ys zs. ys ++ zs) (h x (Contains-first x xs)) (flat_map_agree F G xs (λ y i. h y (Contains-later x xs y i)))

-- the charge of a variable
abbrev at : Entries → ℕ → Charge
at es v = unwrap_or (lookup (nat_eq v) es) no_charge

-- what is made of rising entries is made of all variables in turn
by_variable : {Y : Type 0} (F : ℕ × Charge → List Y) → ((e : ℕ × Charge) → is_charged e ≡ false → F e ≡ []) → (n a : ℕ) (es : Entries) → Rising es
    → ((e : ℕ × Charge) → Contains es e → a ≤ e.0) → ((e : ℕ × Charge) → Contains es e → is_charged e ≡ true → e.0 < a + n)
    → flat_map F es ≡ flat_map (λ v. F (v, at es v)) (range_with_len a n)
by_variable F none zero a es rise low high =
    flat_map_none F es (λ e i. none e (false_from_ne_true (is_charged e) (λ t. absurd (let b = low e i in let c = high e i t in omega arith))))
by_variable F none (suc n) a [] rise low high = sym (flat_map_none (λ v. F (v, no_charge)) (range_with_len a (suc n)) (λ v i. none (v, no_charge) refl))
by_variable {Y} F none (suc n) a (e ∷ es) rise low high =
    let rest : ℕ → List Y = λ v. F (v, at (e ∷ es) v) in
    elim (cases_eq a e.0) [
      | inl s ↦
          let found : at (e ∷ es) a ≡ e.1 = ap (λ o. unwrap_or o no_charge) (cond-true (nat_eq a e.0) (Some e.1) (lookup (nat_eq a) es) (eq-eqb a e.0 s)) in
          let own : F (a, at (e ∷ es) a) ≡ F e = ap (λ c. F (a, c)) found ∙ ap (λ k. F (k, e.1)) s in
          let later : flat_map (λ v. F (v, at es v)) (range_with_len (a + 1) n) ≡ flat_map rest (range_with_len (a + 1) n) =
          flat_map_agree (λ v. F (v, at es v)) rest (range_with_len (a + 1) n) (λ v i.
          let b = (Contains-from_range (a + 1) n v i).0 in
          ap (λ o. F (v, unwrap_or o no_charge)) (sym (cond-false (nat_eq v e.0) (Some e.1) (lookup (nat_eq v) es) (ne_eqb v e.0 (λ t. absurd (omega arith)))))) in
          let more : flat_map F es ≡ flat_map (λ v. F (v, at es v)) (range_with_len (a + 1) n) =
          by_variable F none n (a + 1) es rise.1 (λ f i. let b = rise.0 f i in omega arith) (λ f i t. let b = high f (Contains-later e es f i) t in omega arith) in
          ap₂ (λ xs ys. xs ++ ys) (sym own) (more ∙ later)
      | inr n' ↦
          let above : a < e.0 = let b = low e (Contains-first e es) in elim (cases_lt a e.0) [ inl l ↦ l | inr g ↦ absurd (n' (omega arith)) ] in
          let lacks : Lacks a (e ∷ es) = λ (f : ℕ × Charge) i t. elim (Contains-cases e es f i) [ inl s ↦ n' (t ∙ ap (λ (x : ℕ × Charge). x.0) s) | inr j ↦ absurd (let b = rise.0 f j in omega arith) ] in
          let own : F (a, at (e ∷ es) a) ≡ [] = ap (λ o. F (a, unwrap_or o no_charge)) (absent a (e ∷ es) lacks) ∙ none (a, no_charge) refl in
          let more : flat_map F (e ∷ es) ≡ flat_map rest (range_with_len (a + 1) n) =
          by_variable F none n (a + 1) (e ∷ es) rise
          (λ f i. elim (Contains-cases e es f i) [ inl s ↦ let b = ap (λ (x : ℕ × Charge). x.0) s in omega arith | inr j ↦ let b = rise.0 f j in omega arith ])
          (λ f i t. let b = high f i t in omega arith) in
          more ∙ ap (λ xs. xs ++ flat_map rest (range_with_len (a + 1) n)) (sym own)
    ]

-- some term of a sum is at least 1
term_of : {X : Type 0} (f : X → ℕ) (xs : List X) → 1 ≤ sum_by f xs → (x : X) × Contains xs x × (1 ≤ f x)
term_of f [] h = absurd (omega arith)
term_of f (x ∷ xs) h =
    elim (cases_lt 0 (f x)) [
      | inl l ↦ (x, Contains-first x xs, l)
      | inr g ↦ let w = term_of f xs (omega (arith, sum_by-cons f x xs)) in (w.0, Contains-later x xs w.0 w.1, w.2)
    ]

some_weight : (b : Bool) (w : ℕ) → 1 ≤ cond b w 0 → b ≡ true
some_weight true w h = refl
some_weight false w h = absurd (omega arith)

unit_in : (n : ℕ) (k : Literal) (c : List Literal) → ((l : Literal) → Contains c l → (1 ≤ l.variable) × (l.variable ≤ n)) → is_unit_of k c ≡ true → (1 ≤ k.variable) × (k.variable ≤ n)
unit_in n k [] h t = absurd (false≢true t)
unit_in n k (j ∷ []) h t = let e = ap (λ (l : Literal). l.variable) (same_from_tie j k t) in let b = h j (Contains-first j []) in (omega (arith, b.0), omega (arith, b.1))
unit_in n k (j ∷ (i ∷ c)) h t = absurd (false≢true t)

-- a charged variable is one of the first n
charged_in : (n : ℕ) (ss : List Soft) (l : Literal) → SoftsIn n ss → 1 ≤ charge_on ss l → (1 ≤ l.variable) × (l.variable ≤ n)
charged_in n ss l h some =
    let w = term_of (λ (s : Soft). cond (is_unit_of (negation l) s.clause) s.weight 0) (payable ss) some in
    unit_in n (negation l) w.0.clause (payable_in n ss h w.0 w.1) (some_weight (is_unit_of (negation l) w.0.clause) w.0.weight w.2)

-- what holds of charges es that are those of the soft clauses, and of fs, the same in order
pub record Premises (n : ℕ) (ss : List Soft) (es fs : Entries) : Type 0 where
  pub softs : SoftsIn n ss
  pub order : IsRisingOf es fs
  pub charges : (l : Literal) → charge_in es l ≡ charge_on ss l

entries_apart : (n : ℕ) (ss : List Soft) (es fs : Entries) → Premises n ss es fs → Apart fs
entries_apart n ss es fs p =
    apart_from fs (IsDistinct-IsPermutation nat_eq (λ x y. nat_eq_equiv.symm x y) (keys_of es) (keys_of fs) (IsPermutation-map (λ (e : ℕ × Charge). e.0) es fs p.order.moved) p.order.distinct)

charges_kept : (n : ℕ) (ss : List Soft) (es fs : Entries) → Premises n ss es fs → (l : Literal) → charge_in fs l ≡ charge_on ss l
charges_kept n ss es fs p l =
    charge_in-sum fs l (entries_apart n ss es fs p)
    ∙ (sum_by-IsPermutation (λ (e : ℕ × Charge). cond (nat_eq l.variable e.0) (side l.negative e.1) 0) es fs p.order.moved
    ∙ (sym (charge_in-sum es l (apart_from es p.order.distinct)) ∙ p.charges l))

-- an entry with a charge is on a variable from 1 to n
entry_in : (n : ℕ) (ss : List Soft) (es fs : Entries) → Premises n ss es fs → (e : ℕ × Charge) → Contains fs e → 0 < e.1.when_true + e.1.when_false → (1 ≤ e.0) × (e.0 ≤ n)
entry_in n ss es fs p e i some =
    let found = present fs e (entries_apart n ss es fs p) i in
    let yes : e.1.when_true ≡ charge_on ss (positive e.0) = sym (ap (λ o. side false (unwrap_or o no_charge)) found) ∙ charges_kept n ss es fs p (positive e.0) in
    let no : e.1.when_false ≡ charge_on ss (negation (positive e.0)) = sym (ap (λ o. side true (unwrap_or o no_charge)) found) ∙ charges_kept n ss es fs p (negation (positive e.0)) in
    elim (cases_lt 0 e.1.when_true) [
      | inl l ↦ charged_in n ss (positive e.0) p.softs (omega (arith, yes))
      | inr g ↦ charged_in n ss (negation (positive e.0)) p.softs (omega (arith, no))
    ]

-- nothing is charged on the number 0
none_at_zero : (n : ℕ) (ss : List Soft) (es fs : Entries) → Premises n ss es fs → is_charged (0, at fs 0) ≡ false
none_at_zero n ss es fs p =
    false_from_ne_true (is_charged (0, at fs 0)) (λ t.
    let some = ltb-true 0 ((at fs 0).when_true + (at fs 0).when_false) t in
    let yes = charges_kept n ss es fs p (positive 0) in
    let no = charges_kept n ss es fs p (negation (positive 0)) in
    elim (cases_lt 0 (at fs 0).when_true) [
      | inl l ↦ absurd (let b = charged_in n ss (positive 0) p.softs (omega arith) in omega (arith, b.0))
      | inr g ↦ absurd (let b = charged_in n ss (negation (positive 0)) p.softs (omega arith) in omega (arith, b.0))
    ])

each_by_variable : {Y : Type 0} (F : ℕ × Charge → List Y) → ((e : ℕ × Charge) → is_charged e ≡ false → F e ≡ []) → (n : ℕ) (ss : List Soft) (es fs : Entries) → Premises n ss es fs
    → flat_map F fs ≡ flat_map (λ v. F (v, at fs v)) (range_with_len 1 n)
each_by_variable F none n ss es fs p =
    let apart = entries_apart n ss es fs p in
    let rise = rising_from fs p.order.in_order apart in
    by_variable F none (suc n) 0 fs rise (λ e i. omega arith)
    (λ e i t. let b = entry_in n ss es fs p e i (ltb-true 0 (e.1.when_true + e.1.when_false) t) in omega (arith, b.1))
    ∙ ap (λ xs. xs ++ flat_map (λ v. F (v, at fs v)) (range_with_len 1 n)) (none (0, at fs 0) (none_at_zero n ss es fs p))

-- the net costs of two charges of a variable
abbrev pair : ℕ → ℕ → ℕ → List Cost
pair v p q = cond (nat_lt q p) (record { lit = positive v; weight = p - q } ∷ []) [] ++ cond (nat_lt p q) (record { lit = negation (positive v); weight = q - p } ∷ []) []

no_net : (e : ℕ × Charge) → is_charged e ≡ false → net_of e ≡ []
no_net e h =
    let none = ltb-false 0 (e.1.when_true + e.1.when_false) h in
    let p = e.1.when_true in
    let q = e.1.when_false in
    let yes : Cost = record { lit = positive e.0; weight = p - q } in
    let no : Cost = record { lit = negation (positive e.0); weight = q - p } in
    ap₂ (λ (x y : Bool). cond x (yes ∷ []) [] ++ cond y (no ∷ []) []) (le-ltb q p (omega arith)) (le-ltb p q (omega arith))

pub settled_costs : (n : ℕ) (ss : List Soft) (es fs : Entries) → Premises n ss es fs → flat_map net_of fs ≡ net_costs ss n
settled_costs n ss es fs p =
    each_by_variable net_of no_net n ss es fs p
    ∙ flat_map_agree (λ v. net_of (v, at fs v)) (λ v. net_cost ss (positive v) ++ net_cost ss (negation (positive v))) (range_with_len 1 n)
    (λ v i. ap₂ (pair v) (charges_kept n ss es fs p (positive v)) (charges_kept n ss es fs p (negation (positive v))))

abbrev least : ℕ × Charge → ℕ
least e = min e.1.when_true e.1.when_false

abbrev least_of : ℕ × Charge → List ℕ
least_of e = cond (is_charged e) (least e ∷ []) []

no_least : (e : ℕ × Charge) → is_charged e ≡ false → least_of e ≡ []
no_least e h = ap (λ b. cond b (least e ∷ []) []) h

sum_least : (e : ℕ × Charge) → sum_by (λ x. x) (least_of e) ≡ least e
sum_least e =
    elim (cases_Bool (is_charged e)) [
      | inl t ↦ ap (λ b. sum_by (λ x. x) (cond b (least e ∷ []) [])) t ∙ omega arith
      | inr f ↦ let none = ltb-false 0 (e.1.when_true + e.1.when_false) f in ap (λ b. sum_by (λ x. x) (cond b (least e ∷ []) [])) f ∙ omega arith
    ]

pub settled_cancelled : (n : ℕ) (ss : List Soft) (es fs : Entries) → Premises n ss es fs → sum_by (λ (e : ℕ × Charge). min e.1.when_true e.1.when_false) fs ≡ cancelled ss n
settled_cancelled n ss es fs p =
    let each = ap (sum_by (λ x. x)) (each_by_variable least_of no_least n ss es fs p) in
    let before = sum_by-flat_map (λ x. x) least_of fs ∙ sum_by_agree (λ e. sum_by (λ x. x) (least_of e)) least fs (λ e i. sum_least e) in
    let after = sum_by-flat_map (λ x. x) (λ v. least_of (v, at fs v)) (range_with_len 1 n) ∙ sum_by_agree (λ v. sum_by (λ x. x) (least_of (v, at fs v))) (λ v. least (v, at fs v)) (range_with_len 1 n) (λ v i. sum_least (v, at fs v)) in
    let same = sum_by_agree (λ v. least (v, at fs v)) (λ v. min (charge_on ss (positive v)) (charge_on ss (negation (positive v)))) (range_with_len 1 n)
    (λ v i. ap₂ min (charges_kept n ss es fs p (positive v)) (charges_kept n ss es fs p (negation (positive v)))) in
    sym before ∙ (each ∙ (after ∙ same))

pub have_variables : (n : ℕ) (ss : List Soft) (es fs : Entries) → Premises n ss es fs → All HasVariable fs
have_variables n ss es fs p = All-from_contained HasVariable fs (λ e i some. (entry_in n ss es fs p e i some).0)
