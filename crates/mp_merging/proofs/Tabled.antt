-- What the tables of uses, marks and homes have.
use Rattle.std.proofs.Common.{◌≡◌, ◌≢◌, ◌⊎◌, ◌≤◌, ◌<◌, ◌+◌, ◌-◌, ℕ, suc, Bool, true, false, cond, ◌&&◌, ◌||◌, List, [], ◌∷◌, All, Contains, get_or, set, length, take, min, refl, ap, sym, ◌∙◌, subst, arith, inl, inr}
use Rattle.std.specs.Prelude.{nat_eq}
use Rattle.std.specs.Ordering.{is_eq}
use Rattle.std.proofs.Math.Bool.{or-true, or-false}
use Rattle.std.proofs.lemmas.Bool.{cases_eq, eq-eqb, ne_eqb, cond-true, cond-false}
use Rattle.std.proofs.lemmas.List.{get_or-set_same, get_or-set_other, length-set}
use Rattle.std.proofs.lemmas.List.Folds.{list_any_more}
use Rattle.mp_logic.specs.Literal.{Literal, IsUpTo, negation}
use Rattle.mp_logic.specs.Keeping.{State}
use Rattle.mp_logic.specs.Normal.{lit_cmp}
use Rattle.mp_logic.specs.declared.instances.Cost.{Cost}
use Rattle.mp_logic.proofs.Literals.{cases_literal}
use Rattle.mp_logic.proofs.Members.{Contains-none, Contains-cases}
use Rattle.mp_clauses.specs.Places.{place_of, has}
use Rattle.mp_clauses.specs.Tables.{apart}
use Rattle.mp_clauses.proofs.Pricing.{same-place}
use Rattle.mp_clauses.proofs.Steps.{apart-fresh}
use Rattle.mp_merging.specs.MergedForm.{uses_of, is_cost, is_mergeable, merged_in}
use Rattle.mp_merging.specs.Tables.{one_more, AreUses, is_sole, is_marked, AreMarks, marked_in, housed, all_housed}
use Rattle.mp_merging.proofs.Tests.{tie_from, no_tie, count_places, first_cases, first_agree}

-- one literal more of a clause
pub counted_more : (c : List Literal) (i q x : ℕ) (d : Literal) (old now : List ℕ) → i < length c → apart c ≡ true → q ≡ place_of (get_or c i d) → q < length now → x ≡ one_more (get_or now q 0)
    → ((p : ℕ) → get_or now p 0 ≡ cond (has p (take i c)) (one_more (get_or old p 0)) (get_or old p 0))
    → (p : ℕ) → get_or (set now q x) p 0 ≡ cond (has p (take (i + 1) c)) (one_more (get_or old p 0)) (get_or old p 0)
counted_more c i q x d old now l a e b f h p =
    let more : has p (take (i + 1) c) ≡ (has p (take i c) || nat_eq (place_of (get_or c i d)) p) = list_any_more (λ k. nat_eq (place_of k) p) c i d l in
    elim (cases_eq q p) [
      | inl s ↦
          let fresh : has q (take i c) ≡ false = ap (λ r. has r (take i c)) e ∙ apart-fresh c i d a l in
          let own : has p (take (i + 1) c) ≡ true = more ∙ (ap (λ t. has p (take i c) || t) (eq-eqb (place_of (get_or c i d)) p (sym e ∙ s)) ∙ or-true (has p (take i c))) in
          let before : get_or now q 0 ≡ get_or old q 0 = h q ∙ cond-false (has q (take i c)) (one_more (get_or old q 0)) (get_or old q 0) fresh in
          ap (λ r. get_or (set now q x) r 0) (sym s)
          ∙ (get_or-set_same now q x 0 b ∙ (f ∙ (ap one_more before ∙ (ap (λ r. one_more (get_or old r 0)) s ∙ sym (cond-true (has p (take (i + 1) c)) (one_more (get_or old p 0)) (get_or old p 0) own)))))
      | inr n ↦
          let same : has p (take (i + 1) c) ≡ has p (take i c) = more ∙ (ap (λ t. has p (take i c) || t) (ne_eqb (place_of (get_or c i d)) p (λ g. n (e ∙ g))) ∙ or-false (has p (take i c))) in
          get_or-set_other now q p x 0 (λ g. n (sym g)) ∙ (h p ∙ ap (λ t. cond t (one_more (get_or old p 0)) (get_or old p 0)) (sym same))
    ]

-- one cost more
pub marked_more : (ps : List Cost) (i q : ℕ) (d : Cost) (uses : List ℕ) (marks : List Bool) (b : Bool) → i < length ps → q ≡ place_of (get_or ps i d).lit → q < length marks → b ≡ is_sole uses (get_or ps i d).lit
    → ((k : Literal) → get_or marks (place_of k) false ≡ (is_cost (take i ps) k && is_sole uses k))
    → (k : Literal) → get_or (set marks q b) (place_of k) false ≡ (is_cost (take (i + 1) ps) k && is_sole uses k)
marked_more ps i q d uses marks b l e w f h k =
    let p : Cost = get_or ps i d in
    let more : is_cost (take (i + 1) ps) k ≡ (is_cost (take i ps) k || is_eq (lit_cmp p.lit k)) = list_any_more (λ (c : Cost). is_eq (lit_cmp c.lit k)) ps i d l in
    elim (cases_literal p.lit k) [
      | inl s ↦
          let own : is_cost (take (i + 1) ps) k ≡ true = more ∙ (ap (λ t. is_cost (take i ps) k || t) (tie_from p.lit k s) ∙ or-true (is_cost (take i ps) k)) in
          let place : place_of k ≡ q = ap place_of (sym s) ∙ sym e in
          ap (λ r. get_or (set marks q b) r false) place ∙ (get_or-set_same marks q b false w ∙ (f ∙ (ap (is_sole uses) s ∙ ap (λ t. t && is_sole uses k) (sym own))))
      | inr n ↦
          let same : is_cost (take (i + 1) ps) k ≡ is_cost (take i ps) k = more ∙ (ap (λ t. is_cost (take i ps) k || t) (no_tie p.lit k n) ∙ or-false (is_cost (take i ps) k)) in
          get_or-set_other marks q (place_of k) b false (λ g. n (same-place p.lit k (sym e ∙ sym g))) ∙ (h k ∙ ap (λ t. t && is_sole uses k) (sym same))
    ]

up_to_two : (n k : ℕ) → k ≤ 1 → nat_eq (min 2 n) k ≡ nat_eq n k
up_to_two n k l =
    elim (cases_eq n k) [
      | inl e ↦ eq-eqb (min 2 n) k (omega arith) ∙ sym (eq-eqb n k e)
      | inr o ↦ ne_eqb (min 2 n) k (λ e. o (omega arith)) ∙ sym (ne_eqb n k o)
    ]

uses_are : (n k : ℕ) (cs : List (List Literal)) (uses : List ℕ) (l : Literal) → AreUses n cs uses → k ≤ 1 → nat_eq (get_or uses (place_of l) 0) k ≡ nat_eq (uses_of l cs) k
uses_are n k cs uses l u b = ap (λ m. nat_eq m k) (u.each (place_of l) ∙ ap (min 2) (count_places l cs)) ∙ up_to_two (uses_of l cs) k b

pub AreMarks-from : (s : State) (uses : List ℕ) (marks : List Bool) → AreUses s.vars s.hard uses → length marks ≡ length uses
    → ((k : Literal) → get_or marks (place_of k) false ≡ (is_cost s.costs k && is_sole uses k)) → AreMarks s marks
AreMarks-from s uses marks u e h = record {
  long = e ∙ u.long;
  each = λ l up.
      let one = uses_are s.vars 1 s.hard uses l u (omega arith) in
      let none = uses_are s.vars 0 s.hard uses (negation l) u (omega arith) in
      h l ∙ (ap (λ t. is_cost s.costs l && (t && nat_eq (get_or uses (place_of (negation l)) 0) 0)) one ∙ ap (λ t. is_cost s.costs l && (nat_eq (uses_of l s.hard) 1 && t)) none);
}

-- what is merged into a clause of the state is what is marked in it
pub marked_is : (s : State) (marks : List Bool) (c : List Literal) → AreMarks s marks → All (IsUpTo s.vars) c → marked_in marks c ≡ merged_in s c
marked_is s marks c m h = first_agree (is_marked marks) (is_mergeable s) c (λ l i. m.each l (subst (IsUpTo s.vars) i.2 (h i.0 l i.1)))

-- a clause of the list is the home of the variable
pub record IsHoused (marks : List Bool) (cs : List (List Literal)) (v i : ℕ) (l : Literal) : Type 0 where
  pub within : i < length cs
  pub is : marked_in marks (get_or cs i []) ≡ l ∷ []
  pub own : l.variable ≡ v

-- no clause of the list is
abbrev pub NotHoused : List Bool → List (List Literal) → ℕ → Type 0
NotHoused marks cs v = (c : List Literal) → Contains cs c → (l : Literal) → marked_in marks c ≡ l ∷ [] → l.variable ≢ v

abbrev Cases : List Bool → List (List Literal) → ℕ → ℕ → ℕ → ℕ → Type 0
Cases marks cs k v n m = ((i : ℕ) × (l : Literal) × IsHoused marks cs v i l × (n ≡ k + i + 1)) ⊎ (NotHoused marks cs v × (n ≡ m))

pub housed_cases : (marks : List Bool) (k v : ℕ) (cs : List (List Literal)) (homes : List ℕ) → 1 ≤ v → v ≤ length homes → All (All (λ l. 1 ≤ l.variable)) cs
    → Cases marks cs k v (get_or (all_housed marks k cs homes) (v - 1) 0) (get_or homes (v - 1) 0)
housed_cases marks k v [] homes a b h = inr (λ c i. absurd (Contains-none c i), refl)
housed_cases marks k v (c ∷ cs) homes a b h =
    let later : (hs : List ℕ) → length hs ≡ length homes → Cases marks cs (k + 1) v (get_or (all_housed marks (k + 1) cs hs) (v - 1) 0) (get_or hs (v - 1) 0) =
    λ (hs : List ℕ) (e : length hs ≡ length homes). housed_cases marks (k + 1) v cs hs a (omega arith) (λ i d l. h (suc i) d (omega arith)) in
    let goal : List ℕ → Type 0 = λ (hs : List ℕ). Cases marks (c ∷ cs) k v (get_or (all_housed marks (k + 1) cs hs) (v - 1) 0) (get_or homes (v - 1) 0) in
    elim (first_cases (is_marked marks) c) [
      | inl none ↦
          subst (λ ls. goal (housed (k + 1) ls homes)) (sym none)
          (elim (later homes refl) [
            | inl w ↦ inl (suc w.0, w.1, record { within = let f = w.2.within in omega arith; is = w.2.is; own = w.2.own }, omega (arith, w.3))
            | inr w ↦ inr (
              λ d i l e. elim (Contains-cases c cs d i) [
                | inl s ↦ absurd (cc (none, e))
                | inr j ↦ w.0 d j l e
              ],
              w.1,
            )
          ])
      | inr f ↦
          let l : Literal = f.0 in
          let own : 1 ≤ l.variable = let i = f.1.own in subst (λ (x : Literal). 1 ≤ x.variable) i.2 (h 0 c (omega arith) i.0 l i.1) in
          let hs : List ℕ = set homes (l.variable - 1) (k + 1) in
          subst (λ ls. goal (housed (k + 1) ls homes)) (sym f.1.is)
          (elim (later hs (length-set homes (l.variable - 1) (k + 1))) [
            | inl w ↦ inl (suc w.0, w.1, record { within = let g = w.2.within in omega arith; is = w.2.is; own = w.2.own }, omega (arith, w.3))
            | inr w ↦ elim (cases_eq l.variable v) [
              | inl s ↦
                  let at : get_or hs (v - 1) 0 ≡ k + 1 = ap (λ u. get_or hs (u - 1) 0) (sym s) ∙ get_or-set_same homes (l.variable - 1) (k + 1) 0 (omega arith) in
                  inl (0, l, record { within = omega arith; is = f.1.is; own = s }, omega (arith, w.1, at))
              | inr n ↦
                  let at : get_or hs (v - 1) 0 ≡ get_or homes (v - 1) 0 = get_or-set_other homes (l.variable - 1) (v - 1) (k + 1) 0 (λ e. n (omega arith)) in
                  inr (
                    λ d i j e. elim (Contains-cases c cs d i) [
                      | inl s ↦ let same : l ≡ j = cc (f.1.is, e) in λ g. n (ap (λ (x : Literal). x.variable) same ∙ g)
                      | inr m ↦ w.0 d m j e
                    ],
                    w.1 ∙ at,
                  )
            ]
          ])
    ]
