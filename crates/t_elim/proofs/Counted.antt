-- Counts by id are counts over the clauses with a literal.
use Rattle.std.proofs.Common.{◌≡◌, ◌↔◌, IsTrue, ℕ, ◌+◌, ◌-◌, ◌*◌, ◌<◌, ◌≤◌, Bool, true, false, not, cond, List, [], ◌∷◌, ◌++◌, length, get_or, drop, drop-cons, suc, refl, sym, ◌∙◌, ap, subst, arith, sum_by, Contains}
use Rattle.std.specs.Prelude.{Option, Some, None}
use Rattle.std.specs.List.{filter, count_by}
use Rattle.std.proofs.Math.Nat.{suc-mul, mul_comm}
use Rattle.std.proofs.lemmas.List.{length-append}
use Rattle.std.proofs.lemmas.List.Elements.{All-contains}
use Rattle.std.proofs.lemmas.List.Sums.{sum_by-cons}
use Rattle.mp_logic.specs.Literal.{Literal, negation}
use Rattle.mp_logic.proofs.Literals.{negation-negation}
use Rattle.mp_clauses.specs.Places.{place_of, has}
use Rattle.mp_clauses.specs.Slots.{clause_of, live_clauses, is_live}
use Rattle.mp_store.specs.Clashing.{clash_beside}
use Rattle.mp_clauses.specs.Occurrences.{ids_where, slot_has, ids_with}
use Rattle.mp_store.specs.Replacing.{slot_worth, worth_of}
use Rattle.mp_store.proofs.Replaced.{sum-ones, worth-live}
use Rattle.mp_store.proofs.Clashes.{ids-live, clash-found, clash-by}
use Rattle.mp_clauses.proofs.Found.{both-ways}
use Rattle.t_elim.specs.Resolving.{resolvent, slot_resolvent, resolvents_with, slot_resolvents, resolvents_of}
use Rattle.t_elim.specs.Eliminating.{positive, negative_of, having, resolvents, PaysOff}

-- a sum over the ids of an occurrence list is one over the clauses
worth-from : (f : List Literal → ℕ) (p : ℕ) (at : ℕ → Option (List Literal)) (i : ℕ) (s : List (Option (List Literal))) → ((k : ℕ) → at (i + k) ≡ get_or s k None)
    → sum_by (λ id. slot_worth f (at id)) (ids_where (slot_has p) i s) ≡ sum_by f (filter (has p) (live_clauses s))
worth-from f p at i [] h = refl
worth-from f p at i (None ∷ s) h = worth-from f p at (i + 1) s (λ k. let n : i + 1 + k ≡ i + suc k = omega arith in ap at n ∙ h (suc k))
worth-from f p at i (Some c ∷ s) h =
    let rest = worth-from f p at (i + 1) s (λ k. let n : i + 1 + k ≡ i + suc k = omega arith in ap at n ∙ h (suc k)) in
    let own : at i ≡ Some c = let n : i ≡ i + 0 = omega arith in ap at n ∙ h 0 in
    let here : slot_worth f (at i) ≡ f c = ap (slot_worth f) own in
    elim (has p c) as (λ b. sum_by (λ id. slot_worth f (at id)) (cond b (i ∷ ids_where (slot_has p) (i + 1) s) (ids_where (slot_has p) (i + 1) s)) ≡ sum_by f (cond b (c ∷ filter (has p) (live_clauses s)) (filter (has p) (live_clauses s)))) [
      | true ↦ omega (arith, rest, here, sum_by-cons (λ id. slot_worth f (at id)) i (ids_where (slot_has p) (i + 1) s), sum_by-cons f c (filter (has p) (live_clauses s)))
      | false ↦ rest
    ]

pub worth-having : (f : List Literal → ℕ) (l : Literal) (slots : List (Option (List Literal))) → worth_of f slots (ids_with (place_of l) slots) ≡ sum_by f (having l (live_clauses slots))
worth-having f l slots = worth-from f (place_of l) (clause_of slots) 0 slots (λ k. let n : 0 + k ≡ k = omega arith in ap (clause_of slots) n)

pub length-having : (l : Literal) (slots : List (Option (List Literal))) → length (ids_with (place_of l) slots) ≡ length (having l (live_clauses slots))
length-having l slots =
    let live = worth-live slots (ids_with (place_of l) slots) (λ id i. All-contains (λ id. is_live slots id ≡ true) (ids_with (place_of l) slots) id (ids-live l slots) i) in
    omega (arith, live, worth-having (λ c. 1) l slots, sum-ones (having l (live_clauses slots)))

-- how many resolvents are made
abbrev fitting : ℕ → List Literal → List Literal → ℕ
fitting v c d = cond (not (clash_beside v c d)) 1 0

one-resolvent : (v : ℕ) (c : List Literal) (slot : Option (List Literal)) → length (slot_resolvent v c slot) ≡ slot_worth (fitting v c) slot
one-resolvent v c None = refl
one-resolvent v c (Some d) = elim (clash_beside v c d) as (λ b. length (cond b [] (resolvent v c d ∷ [])) ≡ cond (not b) 1 0) [ true ↦ refl | false ↦ refl ]

with-count : (v : ℕ) (c : List Literal) (slots : List (Option (List Literal))) (js : List ℕ) → length (resolvents_with v c slots js) ≡ worth_of (fitting v c) slots js
with-count v c slots [] = refl
with-count v c slots (j ∷ js) =
    omega (arith, length-append (slot_resolvent v c (clause_of slots j)) (resolvents_with v c slots js), one-resolvent v c (clause_of slots j), with-count v c slots js, sum_by-cons (λ id. slot_worth (fitting v c) (clause_of slots id)) j js)

slot-count : (v : ℕ) (slot : Option (List Literal)) (slots : List (Option (List Literal))) (js : List ℕ) → length (slot_resolvents v slot slots js) ≡ slot_worth (λ c. length (resolvents_with v c slots js)) slot
slot-count v None slots js = refl
slot-count v (Some c) slots js = refl

of-count : (v : ℕ) (slots : List (Option (List Literal))) (is js : List ℕ) → length (resolvents_of v slots is js) ≡ worth_of (λ c. length (resolvents_with v c slots js)) slots is
of-count v slots [] js = refl
of-count v slots (i ∷ is) js =
    omega (arith, length-append (slot_resolvents v (clause_of slots i) slots js) (resolvents_of v slots is js), slot-count v (clause_of slots i) slots js, of-count v slots is js, sum_by-cons (λ id. slot_worth (λ c. length (resolvents_with v c slots js)) (clause_of slots id)) i is)

sum-same : {X : Type 0} (f g : X → ℕ) (xs : List X) → ((x : X) → f x ≡ g x) → sum_by f xs ≡ sum_by g xs
sum-same f g [] h = refl
sum-same f g (x ∷ xs) h = omega (arith, sum-same f g xs h, h x, sum_by-cons f x xs, sum_by-cons g x xs)

pub resolvents-count : (v : ℕ) (slots : List (Option (List Literal))) (l m : Literal) → length (resolvents_of v slots (ids_with (place_of l) slots) (ids_with (place_of m) slots)) ≡ resolvents v (having l (live_clauses slots)) (having m (live_clauses slots))
resolvents-count v slots l m =
    let js = ids_with (place_of m) slots in
    of-count v slots (ids_with (place_of l) slots) js
    ∙ (worth-having (λ c. length (resolvents_with v c slots js)) l slots
    ∙ sum-same (λ c. length (resolvents_with v c slots js)) (λ c. count_by (λ d. not (clash_beside v c d)) (having m (live_clauses slots))) (having l (live_clauses slots)) (λ c. with-count v c slots js ∙ worth-having (fitting v c) m slots))

-- the test by ids is the one over clauses
pub pays-off-by-ids : (v : ℕ) (slots : List (Option (List Literal))) (p q : ℕ) → p ≡ length (ids_with (place_of (positive v)) slots) → q ≡ length (ids_with (place_of (negative_of v)) slots)
    → (PaysOff v (having (positive v) (live_clauses slots)) (having (negative_of v) (live_clauses slots)) → (p * q ≤ 256) × (length (resolvents_of v slots (ids_with (place_of (positive v)) slots) (ids_with (place_of (negative_of v)) slots)) ≤ p + q))
    × ((p * q ≤ 256) × (length (resolvents_of v slots (ids_with (place_of (positive v)) slots) (ids_with (place_of (negative_of v)) slots)) ≤ p + q) → PaysOff v (having (positive v) (live_clauses slots)) (having (negative_of v) (live_clauses slots)))
pays-off-by-ids v slots p q e f =
    let a = e ∙ length-having (positive v) slots in
    let b = f ∙ length-having (negative_of v) slots in
    let c = resolvents-count v slots (positive v) (negative_of v) in
    rw (a, b, c) (λ h. h, λ h. h)

-- there are no more of them than pairs
one-most : (v : ℕ) (c : List Literal) (slot : Option (List Literal)) → length (slot_resolvent v c slot) ≤ 1
one-most v c None = omega arith
one-most v c (Some d) = elim (clash_beside v c d) as (λ b. length (cond b [] (resolvent v c d ∷ [])) ≤ 1) [ true ↦ omega arith | false ↦ omega arith ]

with-most : (v : ℕ) (c : List Literal) (slots : List (Option (List Literal))) (js : List ℕ) → length (resolvents_with v c slots js) ≤ length js
with-most v c slots [] = omega arith
with-most v c slots (j ∷ js) = omega (arith, length-append (slot_resolvent v c (clause_of slots j)) (resolvents_with v c slots js), one-most v c (clause_of slots j), with-most v c slots js)

slot-most : (v : ℕ) (slot : Option (List Literal)) (slots : List (Option (List Literal))) (js : List ℕ) → length (slot_resolvents v slot slots js) ≤ length js
slot-most v None slots js = omega arith
slot-most v (Some c) slots js = with-most v c slots js

pub resolvents-most : (v : ℕ) (slots : List (Option (List Literal))) (is js : List ℕ) → length (resolvents_of v slots is js) ≤ length is * length js
resolvents-most v slots [] js = omega arith
resolvents-most v slots (i ∷ is) js =
    omega (arith, length-append (slot_resolvents v (clause_of slots i) slots js) (resolvents_of v slots is js), slot-most v (clause_of slots i) slots js, resolvents-most v slots is js, suc-mul (length is) (length js))

-- where no more pairs are ahead than resolvents are left, there are no more resolvents than clauses
pub worth-without-rest : (v : ℕ) (slots : List (Option (List Literal))) (is js rest : List ℕ) (pairs ahead left : ℕ) → pairs ≡ length is * length js → pairs ≤ 256 → ahead ≡ length rest * length js → ahead ≤ left
    → left + length (resolvents_of v slots is js) ≡ length is + length js + length (resolvents_of v slots rest js) → IsTrue true ↔ (length is * length js ≤ 256) × (length (resolvents_of v slots is js) ≤ length is + length js)
worth-without-rest v slots is js rest pairs ahead left e few a less counted =
    let most = resolvents-most v slots rest js in
    (λ t. (omega (arith, e, few), omega (arith, a, less, most, counted)), λ p. refl)

-- the pairs ahead after one clause
pub ahead-step : (xs ys : List ℕ) (i ahead : ℕ) → i < length xs → ahead ≡ length (drop i xs) * length ys → ahead - length ys ≡ length (drop (i + 1) xs) * length ys
ahead-step xs ys i ahead lt e =
    let next : suc i ≡ i + 1 = omega arith in
    let size : length (drop i xs) ≡ suc (length (drop (suc i) xs)) = ap (λ (zs : List ℕ). length zs) (drop-cons xs i 0 lt) in
    let all : ahead ≡ suc (length (drop (suc i) xs)) * length ys = e ∙ ap (λ n. n * length ys) size in
    let more = suc-mul (length (drop (suc i) xs)) (length ys) in
    let left : ahead - length ys ≡ length (drop (suc i) xs) * length ys = omega (arith, all, more) in
    left ∙ ap (λ n. length (drop n xs) * length ys) next

-- the resolvents left after one clause
pub left-step : (v : ℕ) (slots : List (Option (List Literal))) (is js : List ℕ) (hand c : List Literal) (i before after all clauses : ℕ) → i < length is → Some c ≡ clause_of slots (get_or is i 0) → hand ≡ c → after + length (resolvents_with v hand slots js) ≡ before
    → before + all ≡ clauses + length (resolvents_of v slots (drop i is) js) → after + all ≡ clauses + length (resolvents_of v slots (drop (i + 1) is) js)
left-step v slots is js hand c i before after all clauses lt at held took counted =
    let next : suc i ≡ i + 1 = omega arith in
    let here : length (slot_resolvents v (clause_of slots (get_or is i 0)) slots js) ≡ length (resolvents_with v hand slots js) = ap (λ o. length (slot_resolvents v o slots js)) (sym at) ∙ ap (λ x. length (resolvents_with v x slots js)) (sym held) in
    let split : length (resolvents_of v slots (drop i is) js) ≡ length (slot_resolvents v (clause_of slots (get_or is i 0)) slots js ++ resolvents_of v slots (drop (suc i) is) js) = ap (λ zs. length (resolvents_of v slots zs js)) (drop-cons is i 0 lt) in
    let parts = length-append (slot_resolvents v (clause_of slots (get_or is i 0)) slots js) (resolvents_of v slots (drop (suc i) is) js) in
    let left : after + all ≡ clauses + length (resolvents_of v slots (drop (suc i) is) js) = omega (arith, here, split, parts, took, counted) in
    left ∙ ap (λ n. clauses + length (resolvents_of v slots (drop n is) js)) next

-- there are as many the other way round
clash-turned : (v : ℕ) (c d : List Literal) → clash_beside v c d ≡ true → clash_beside v d c ≡ true
clash-turned v c d t =
    let w = clash-found v c d t in
    clash-by v d c (negation w.0) w.1 w.3 (subst (Contains c) (sym (negation-negation w.0)) w.2)

fitting-turned : (v : ℕ) (c d : List Literal) → fitting v c d ≡ fitting v d c
fitting-turned v c d = ap (λ b. cond (not b) 1 0) (both-ways (clash_beside v c d) (clash_beside v d c) (clash-turned v c d) (clash-turned v d c))

abbrev pair : ℕ → Option (List Literal) → Option (List Literal) → ℕ
pair v o p = slot_worth (λ c. slot_worth (fitting v c) p) o

pair-turned : (v : ℕ) (o p : Option (List Literal)) → pair v o p ≡ pair v p o
pair-turned v None None = refl
pair-turned v None (Some d) = refl
pair-turned v (Some c) None = refl
pair-turned v (Some c) (Some d) = fitting-turned v c d

sum-nothing : (xs : List ℕ) → sum_by (λ (x : ℕ). 0) xs ≡ 0
sum-nothing [] = refl
sum-nothing (x ∷ xs) = omega (arith, sum-nothing xs, sum_by-cons (λ (x : ℕ). 0) x xs)

sum-both : (f g : ℕ → ℕ) (xs : List ℕ) → sum_by (λ x. f x + g x) xs ≡ sum_by f xs + sum_by g xs
sum-both f g [] = refl
sum-both f g (x ∷ xs) = omega (arith, sum-both f g xs, sum_by-cons (λ x. f x + g x) x xs, sum_by-cons f x xs, sum_by-cons g x xs)

sum-turned : (f : ℕ → ℕ → ℕ) (is js : List ℕ) → sum_by (λ i. sum_by (λ j. f i j) js) is ≡ sum_by (λ j. sum_by (λ i. f i j) is) js
sum-turned f [] js = sym (sum-nothing js)
sum-turned f (i ∷ is) js =
    let rest = sum-turned f is js in
    let own = sum_by-cons (λ i. sum_by (λ j. f i j) js) i is in
    let both = sum-both (λ j. f i j) (λ j. sum_by (λ i. f i j) is) js in
    let each = sum-same (λ j. sum_by (λ i. f i j) (i ∷ is)) (λ j. f i j + sum_by (λ i. f i j) is) js (λ j. sum_by-cons (λ i. f i j) i is) in
    omega (arith, rest, own, both, each)

slot-pairs : (v : ℕ) (o : Option (List Literal)) (slots : List (Option (List Literal))) (js : List ℕ) → slot_worth (λ c. length (resolvents_with v c slots js)) o ≡ sum_by (λ j. pair v o (clause_of slots j)) js
slot-pairs v None slots js = sym (sum-nothing js)
slot-pairs v (Some c) slots js = with-count v c slots js

of-pairs : (v : ℕ) (slots : List (Option (List Literal))) (is js : List ℕ) → length (resolvents_of v slots is js) ≡ sum_by (λ i. sum_by (λ j. pair v (clause_of slots i) (clause_of slots j)) js) is
of-pairs v slots is js =
    of-count v slots is js ∙ sum-same (λ i. slot_worth (λ c. length (resolvents_with v c slots js)) (clause_of slots i)) (λ i. sum_by (λ j. pair v (clause_of slots i) (clause_of slots j)) js) is (λ i. slot-pairs v (clause_of slots i) slots js)

resolvents-turned : (v : ℕ) (slots : List (Option (List Literal))) (is js : List ℕ) → length (resolvents_of v slots is js) ≡ length (resolvents_of v slots js is)
resolvents-turned v slots is js =
    let f : ℕ → ℕ → ℕ = λ i j. pair v (clause_of slots i) (clause_of slots j) in
    let g : ℕ → ℕ → ℕ = λ j i. pair v (clause_of slots j) (clause_of slots i) in
    let turned : sum_by (λ j. sum_by (λ i. f i j) is) js ≡ sum_by (λ j. sum_by (λ i. g j i) is) js =
    sum-same (λ j. sum_by (λ i. f i j) is) (λ j. sum_by (λ i. g j i) is) js (λ j. sum-same (λ i. f i j) (λ i. g j i) is (λ i. pair-turned v (clause_of slots i) (clause_of slots j))) in
    of-pairs v slots is js ∙ (sum-turned f is js ∙ (turned ∙ sym (of-pairs v slots js is)))

pub worth-turned : (v : ℕ) (slots : List (Option (List Literal))) (is js : List ℕ) (b : Bool) → IsTrue b ↔ (length is * length js ≤ 256) × (length (resolvents_of v slots is js) ≤ length is + length js)
    → IsTrue b ↔ (length js * length is ≤ 256) × (length (resolvents_of v slots js is) ≤ length js + length is)
worth-turned v slots is js b w =
    let pairs = mul_comm (length is) (length js) in
    let made = resolvents-turned v slots is js in (
      λ t. let p = w.0 t in let few = p.0 in let less = p.1 in (omega (arith, few, pairs), omega (arith, less, made)),
      λ p. let few = p.0 in let less = p.1 in w.1 (omega (arith, few, pairs), omega (arith, less, made)),
    )
