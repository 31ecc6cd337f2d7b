-- Two slots are enough: each task takes the one of them that its partner does not.
use Rattle.std.proofs.Common.{◌≡◌, ◌<◌, ◌≤◌, ◌+◌, ◌-◌, ◌*◌, ◌||◌, ◌&&◌, ℕ, zero, suc, Bool, true, false, not, IsTrue, List, [], ◌∷◌, ◌++◌, All, get_or, length, refl, ap, sym, ◌∙◌, arith, inl, inr}
use Rattle.std.proofs.lemmas.Bool.{cases_lt, or_left, or_right, true≢false}
use Rattle.std.proofs.lemmas.List.{get_or_append_left, get_or-append_right, length-append}
use Rattle.mp_logic.specs.Truth.{value_of, clause_value}
use Rattle.mp_workload.specs.Workload.{takes, partner_of, task_clauses, WorkloadsHaveModels}
use Rattle.mp_workload.proofs.Generated.{all_tasks, all_parts, partner_before}

-- the values of a task that takes the first slot, or else the second
abbrev block : Bool → List Bool
block b = b ∷ (not b ∷ (false ∷ (false ∷ [])))

-- the values of the first tasks
abbrev slots : ℕ → ℕ → List Bool
slots n zero = []
slots n (suc k) = slots n k ++ block (not (value_of (slots n k) (takes (partner_of n (suc k)) 1).variable))

-- whether a task takes the first slot
abbrev is_first : ℕ → ℕ → Bool
is_first n t = not (value_of (slots n (t - 1)) (takes (partner_of n t) 1).variable)

length-slots : (n k : ℕ) → length (slots n k) ≡ 4 * k
length-slots n zero = refl
length-slots n (suc k) =
    let b : List Bool = block (not (value_of (slots n k) (takes (partner_of n (suc k)) 1).variable)) in
    omega (arith, length-append (slots n k) b, length-slots n k)

-- later tasks leave the values of earlier ones
value_at : (n k t s : ℕ) → 1 ≤ t → t ≤ k → 1 ≤ s → s ≤ 4 → value_of (slots n k) (takes t s).variable ≡ get_or (block (is_first n t)) (s - 1) false
value_at n zero t s a b c d = absurd (omega arith)
value_at n (suc k) t s a b c d =
    let own : List Bool = block (not (value_of (slots n k) (takes (partner_of n (suc k)) 1).variable)) in
    let len = length-slots n k in
    elim (cases_lt k t) [
      | inl more ↦
          let e : t ≡ suc k = omega arith in
          let at : get_or (slots n k ++ own) (4 * (t - 1) + s - 1) false ≡ get_or own (4 * (t - 1) + s - 1 - 4 * k) false = get_or-append_right (slots n k) own (4 * k) (4 * (t - 1) + s - 1) false (length-slots n k) (omega arith) in
          let place : t - 1 ≡ k = omega arith in
          let same : block (is_first n t) ≡ own =
          ap (λ u. block (not (value_of (slots n (t - 1)) (takes (partner_of n u) 1).variable))) e ∙ ap (λ j. block (not (value_of (slots n j) (takes (partner_of n (suc k)) 1).variable))) place in
          at ∙ (ap (λ j. get_or own j false) (omega arith) ∙ ap (λ xs. get_or xs (s - 1) false) (sym same))
      | inr less ↦ get_or_append_left (slots n k) own false (4 * (t - 1) + s - 1) (omega (arith, len)) ∙ value_at n k t s a less c d
    ]

-- a task and its partner take different slots
differ : (n t : ℕ) → 2 ≤ t → is_first n t ≡ not (is_first n (partner_of n t))
differ n t l =
    let w = partner_before n t l in
    ap not (value_at n (t - 1) (partner_of n t) 1 w.0 (omega (arith, w.1)) (omega arith) (omega arith))

-- a clause that says not both holds where one is false
not_both_holds : (a : List Bool) (k l : ℕ) (x y : Bool) → value_of a k ≡ x → value_of a l ≡ y → (x && y) ≡ false → (not (value_of a k) || (not (value_of a l) || false)) ≡ true
not_both_holds a k l true true e f h = absurd (true≢false h)
not_both_holds a k l true false e f h = or_right (not (value_of a k)) (not (value_of a l) || false) (ap (λ b. not b || false) f)
not_both_holds a k l false y e f h = or_left (not (value_of a k)) (not (value_of a l) || false) (ap not e)

-- one of the first two values is true
some_holds : (x y rest b : Bool) → x ≡ b → y ≡ not b → (x || (y || rest)) ≡ true
some_holds x y rest true e f = or_left x (y || rest) e
some_holds x y rest false e f = or_right x (y || rest) (or_left y rest f)

opposite : (b : Bool) → (b && not b) ≡ false
opposite true = refl
opposite false = refl

both_false : (b : Bool) → (b && false) ≡ false
both_false true = refl
both_false false = refl

-- no two of the values of one task are true
pair_false : (b : Bool) (i j : ℕ) → 1 ≤ i → i < j → j ≤ 4 → (get_or (block b) (i - 1) false && get_or (block b) (j - 1) false) ≡ false
pair_false b zero j p q r = absurd (omega arith)
pair_false b (suc zero) zero p q r = absurd (omega arith)
pair_false b (suc zero) (suc zero) p q r = absurd (omega arith)
pair_false b (suc zero) (suc (suc zero)) p q r = opposite b
pair_false b (suc zero) (suc (suc (suc zero))) p q r = both_false b
pair_false b (suc zero) (suc (suc (suc (suc zero)))) p q r = both_false b
pair_false b (suc zero) (suc (suc (suc (suc (suc j))))) p q r = absurd (omega arith)
pair_false b (suc (suc zero)) zero p q r = absurd (omega arith)
pair_false b (suc (suc zero)) (suc zero) p q r = absurd (omega arith)
pair_false b (suc (suc zero)) (suc (suc zero)) p q r = absurd (omega arith)
pair_false b (suc (suc zero)) (suc (suc (suc zero))) p q r = both_false (not b)
pair_false b (suc (suc zero)) (suc (suc (suc (suc zero)))) p q r = both_false (not b)
pair_false b (suc (suc zero)) (suc (suc (suc (suc (suc j))))) p q r = absurd (omega arith)
pair_false b (suc (suc (suc zero))) j p q r = refl
pair_false b (suc (suc (suc (suc i)))) j p q r = absurd (omega arith)

-- those of a task and of its partner are never both true
apart_false : (b : Bool) (i : ℕ) → 1 ≤ i → i ≤ 4 → (get_or (block (not b)) (i - 1) false && get_or (block b) (i - 1) false) ≡ false
apart_false b zero p q = absurd (omega arith)
apart_false true (suc zero) p q = refl
apart_false false (suc zero) p q = refl
apart_false true (suc (suc zero)) p q = refl
apart_false false (suc (suc zero)) p q = refl
apart_false b (suc (suc (suc zero))) p q = refl
apart_false b (suc (suc (suc (suc zero)))) p q = refl
apart_false b (suc (suc (suc (suc (suc i))))) p q = absurd (omega arith)

task_holds : (n t : ℕ) → 1 ≤ t → t ≤ n → All (λ c. IsTrue (clause_value (slots n n) c)) (task_clauses n t)
task_holds n t a b =
    let v : (u s : ℕ) → 1 ≤ u → u ≤ n → 1 ≤ s → s ≤ 4 → value_of (slots n n) (takes u s).variable ≡ get_or (block (is_first n u)) (s - 1) false = value_at n n in
    all_parts (λ c. IsTrue (clause_value (slots n n) c)) n t
    (some_holds _ _ _ (is_first n t) (v t 1 a b (omega arith) (omega arith)) (v t 2 a b (omega arith) (omega arith)))
    (λ i j p q r. not_both_holds (slots n n) (takes t i).variable (takes t j).variable (get_or (block (is_first n t)) (i - 1) false) (get_or (block (is_first n t)) (j - 1) false) (v t i a b p (omega arith)) (v t j a b (omega arith) r) (pair_false (is_first n t) i j p q r))
    (λ l i p q.
    let w = partner_before n t l in
    let u : ℕ = partner_of n t in
    not_both_holds (slots n n) (takes t i).variable (takes u i).variable (get_or (block (is_first n t)) (i - 1) false) (get_or (block (is_first n u)) (i - 1) false) (v t i a b p q) (v u i w.0 (omega (arith, w.1)) p q)
    (ap (λ x. get_or (block x) (i - 1) false && get_or (block (is_first n u)) (i - 1) false) (differ n t l) ∙ apart_false (is_first n u) i p q))

pub workloads_have_models : WorkloadsHaveModels
workloads_have_models n = (slots n n, all_tasks (λ c. IsTrue (clause_value (slots n n) c)) n (task_holds n))
