-- Repairs that make a literal true where one of its clauses needs it.
use Rattle.std.proofs.Common.{◌≡◌, ◌≢◌, ◌⊎◌, ◌≤◌, Bool, true, false, cond, List, [], ◌∷◌, map, Contains, refl, ap, sym, ◌∙◌, inl, inr}
use Rattle.std.proofs.lemmas.Bool.{false_from_ne_true}
use Rattle.mp_logic.specs.Literal.{Literal, negation}
use Rattle.mp_logic.specs.Truth.{literal_value, clause_value}
use Rattle.mp_logic.specs.Repairs.{made_true, repaired}
use Rattle.mp_logic.proofs.MadeTrue.{literal_value-made_true, literal_value-made_true_other}
use Rattle.mp_logic.specs.Rewrites.{set_repair}
pub use Rattle.mp_logic.proofs.Members.{Contains-map}
use Rattle.mp_logic.proofs.Members.{Contains-none, Contains-first, Contains-later, Contains-one, Contains-cases, witness, true_by, false_in}
use Rattle.mp_logic.proofs.Literals.{never_both}

-- both have one value at each literal of another variable
abbrev pub Agree : Literal → List Bool → List Bool → Type 0
Agree x a b = (k : Literal) → 1 ≤ k.variable → k.variable ≢ x.variable → literal_value b k ≡ literal_value a k

-- a clause of ws has no other true literal
abbrev pub Forces : Literal → List (List Literal) → List Bool → Type 0
Forces x ws b = (c : List Literal) × Contains ws c × ((k : Literal) → Contains c k → k.variable ≢ x.variable → literal_value b k ≡ false)

-- all clauses with x are true, and x is true only where one of them needs it
pub record Chosen (x : Literal) (ws : List (List Literal)) (a b : List Bool) : Type 0 where
  pub others : Agree x a b
  pub trues : (c : List Literal) → Contains ws c → clause_value b c ≡ true
  pub cause : (literal_value b x ≡ false) ⊎ Forces x ws b

abbrev pub Proper : Literal → List (List Literal) → Type 0
Proper x ws = (c : List Literal) → Contains ws c → Contains c x × ((k : Literal) → Contains c k → 1 ≤ k.variable)

cause_later : (x : Literal) (c : List Literal) (ws : List (List Literal)) (b : List Bool) → (literal_value b x ≡ false) ⊎ Forces x ws b → (literal_value b x ≡ false) ⊎ Forces x (c ∷ ws) b
cause_later x c ws b h = elim h [ inl f ↦ inl f | inr w ↦ inr (w.0, Contains-later c ws w.0 w.1, w.2) ]

pub chosen : (x : Literal) (ws : List (List Literal)) (a : List Bool) → 1 ≤ x.variable → Proper x ws → literal_value a x ≡ false → Chosen x ws a (repaired (map (set_repair x) ws) a)
chosen x [] a p ok f = record { others = λ k q o. refl; trues = λ c i. absurd (Contains-none c i); cause = inl f }
chosen x (c ∷ ws) a p ok f =
    let b = repaired (map (set_repair x) ws) a in
    let rest = chosen x ws a p (λ d i. ok d (Contains-later c ws d i)) f in
    let own = ok c (Contains-first c ws) in
    let up = made_true b x in
    let step : (t : Bool) → clause_value b c ≡ t → Chosen x (c ∷ ws) a (cond t b up) =
    λ (t : Bool). elim t as (λ t. clause_value b c ≡ t → Chosen x (c ∷ ws) a (cond t b up)) [
      | true ↦ λ e. record {
        others = rest.others;
        trues = λ d i. elim (Contains-cases c ws d i) [ inl o ↦ ap (clause_value b) o ∙ e | inr j ↦ rest.trues d j ];
        cause = cause_later x c ws b rest.cause;
      }
      | false ↦ λ e. record {
        others = λ k q o. literal_value-made_true_other b x k p q o ∙ rest.others k q o;
        trues = λ d i. true_by up d x (ok d i).0 (literal_value-made_true b x p);
        cause = inr (c, Contains-first c ws, λ k i o. literal_value-made_true_other b x k p (own.1 k i) o ∙ false_in b c k e i);
      }
    ] in
    step (clause_value b c) refl

-- x is false after the last repair, and nothing else is changed
pub record Cleared (x : Literal) (a b : List Bool) : Type 0 where
  pub others : Agree x a b
  pub own : literal_value b x ≡ false

pub cleared : (x : Literal) (a : List Bool) → 1 ≤ x.variable → Cleared x a (repaired (set_repair (negation x) (negation x ∷ []) ∷ []) a)
cleared x a p =
    let n = negation x in
    let from_true : (b : List Bool) → literal_value b n ≡ true → literal_value b x ≡ false = λ b t. false_from_ne_true (literal_value b x) (λ u. never_both b n x u t refl) in
    let step : (t : Bool) → clause_value a (n ∷ []) ≡ t → Cleared x a (cond t a (made_true a n)) =
    λ (t : Bool). elim t as (λ t. clause_value a (n ∷ []) ≡ t → Cleared x a (cond t a (made_true a n))) [
      | true ↦ λ e. record {
        others = λ k q o. refl;
        own = let w = witness a (n ∷ []) e in from_true a (ap (literal_value a) (sym (Contains-one n w.0 w.1)) ∙ w.2);
      }
      | false ↦ λ e. record {
        others = λ k q o. literal_value-made_true_other a n k p q o;
        own = from_true (made_true a n) (literal_value-made_true a n p);
      }
    ] in
    step (clause_value a (n ∷ [])) refl
