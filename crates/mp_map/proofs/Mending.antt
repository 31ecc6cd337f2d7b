-- Entries mend what the repairs that they stand for mend.
use Rattle.std.proofs.Common.{◌≡◌, ◌≢◌, ◌≤◌, ◌-◌, inl, inr, ℕ, zero, suc, Bool, true, false, not, cond, ◌&&◌, List, [], ◌∷◌, ◌++◌, All, length, map, drop, fold, replicate, slice_set, refl, ap, subst, sym, ◌∙◌, arith, append_assoc, take}
use Rattle.std.specs.List.{list_all}
use Rattle.std.proofs.Math.Bool.{and-false, and-true}
use Rattle.std.proofs.lemmas.Bool.{cases_eq}
use Rattle.std.proofs.lemmas.List.{append-nil, drop_at, take_at}
use Rattle.std.proofs.lemmas.List.Elements.{All-nil, All-cons, All-drop, All-head, All-push, All-same, All-tail, All-take, All-weaker}
use Rattle.std.proofs.lemmas.List.Sums.{fold-append}
use Rattle.mp_logic.specs.Labelled.{IsProper}
use Rattle.mp_logic.specs.Literal.{Literal, IsUpTo}
use Rattle.mp_logic.specs.Repairs.{made_true, repaired_once, repaired}
use Rattle.mp_logic.specs.Truth.{clause_value}
use Rattle.mp_logic.specs.declared.instances.Repair.{Repair}
use Rattle.mp_logic.proofs.Kept.{repaired-append}
use Rattle.mp_map.specs.Entries.{entries_of, mended, mended_once, repairs_in, repairs_of}
use Rattle.mp_map.specs.Laws.{CountsFromOne, EntriesRepair, UpgradeCarries}
use Rattle.mp_map.specs.Maps.{IsMap, upgraded}
use Rattle.mp_map.specs.declared.maps.Entry.{Entry}
use Rattle.mp_map.specs.declared.maps.MapFile.{MapFile}
use Rattle.mp_map.proofs.Joins.{Fits, joined_fit, repairs_of-entries_of, repairs_of-joined, some_clause}

-- a value at a place, with false values before it where the list is shorter
abbrev placed : List Bool → ℕ → Bool → List Bool
placed [] zero b = b ∷ []
placed [] (suc n) b = false ∷ placed [] n b
placed (x ∷ a) zero b = b ∷ a
placed (x ∷ a) (suc n) b = x ∷ placed a n b

placed_same : (a : List Bool) (n : ℕ) (x y : Bool) → placed (placed a n x) n y ≡ placed a n y
placed_same [] zero x y = refl
placed_same [] (suc n) x y = ap (λ (v : List Bool). false ∷ v) (placed_same [] n x y)
placed_same (z ∷ a) zero x y = refl
placed_same (z ∷ a) (suc n) x y = ap (λ (v : List Bool). z ∷ v) (placed_same a n x y)

placed_other : (a : List Bool) (n m : ℕ) (x y : Bool) → n ≢ m → placed (placed a n x) m y ≡ placed (placed a m y) n x
placed_other a zero zero x y h = absurd (h refl)
placed_other [] zero (suc m) x y h = refl
placed_other [] (suc n) zero x y h = refl
placed_other [] (suc n) (suc m) x y h = ap (λ (v : List Bool). false ∷ v) (placed_other [] n m x y (λ e. h (ap suc e)))
placed_other (z ∷ a) zero (suc m) x y h = refl
placed_other (z ∷ a) (suc n) zero x y h = refl
placed_other (z ∷ a) (suc n) (suc m) x y h = ap (λ (v : List Bool). z ∷ v) (placed_other a n m x y (λ e. h (ap suc e)))

set_is_placed : (a : List Bool) (n k : ℕ) (b : Bool) → k ≡ suc n - length a → slice_set (a ++ replicate k false) n b ≡ placed a n b
set_is_placed [] zero k b e = let one : k ≡ 1 = omega (arith, e) in ap (λ (k : ℕ). slice_set (replicate k false) 0 b) one
set_is_placed [] (suc n) k b e =
    let more : k ≡ suc (suc n - 0) = omega (arith, e) in
    ap (λ (k : ℕ). slice_set (replicate k false) (suc n) b) more ∙ ap (λ (v : List Bool). false ∷ v) (set_is_placed [] n (suc n - 0) b refl)
set_is_placed (x ∷ a) zero k b e = let none : k ≡ 0 = omega (arith, e) in ap (λ (k : ℕ). b ∷ (a ++ replicate k false)) none ∙ ap (λ (v : List Bool). b ∷ v) (append-nil a)
set_is_placed (x ∷ a) (suc n) k b e = ap (λ (v : List Bool). x ∷ v) (set_is_placed a n k b (omega (arith, e)))

made_true-placed : (a : List Bool) (l : Literal) → 1 ≤ l.variable → made_true a l ≡ placed a (l.variable - 1) (not l.negative)
made_true-placed a l h = set_is_placed a (l.variable - 1) (l.variable - length a) (not l.negative) (let one : suc (l.variable - 1) ≡ l.variable = omega (arith, h) in ap (λ (n : ℕ). n - length a) (sym one))

-- a literal that is made true after another of its variable
made_true_over : (a : List Bool) (l k : Literal) → 1 ≤ l.variable → l.variable ≡ k.variable → made_true (made_true a l) k ≡ made_true a k
made_true_over a l k h e =
    let one : 1 ≤ k.variable = omega (arith, h, e) in
    let place : l.variable - 1 ≡ k.variable - 1 = ap (λ (v : ℕ). v - 1) e in
    made_true-placed (made_true a l) k one
    ∙ ap (λ (v : List Bool). placed v (k.variable - 1) (not k.negative)) (made_true-placed a l h ∙ ap (λ (n : ℕ). placed a n (not l.negative)) place)
    ∙ placed_same a (k.variable - 1) (not l.negative) (not k.negative)
    ∙ sym (made_true-placed a k one)

made_true_apart : (a : List Bool) (l k : Literal) → 1 ≤ l.variable → 1 ≤ k.variable → l.variable ≢ k.variable → made_true (made_true a l) k ≡ made_true (made_true a k) l
made_true_apart a l k h i ne =
    let other : l.variable - 1 ≢ k.variable - 1 = λ e. ne (omega (arith, e, h, i)) in
    made_true-placed (made_true a l) k i
    ∙ ap (λ (v : List Bool). placed v (k.variable - 1) (not k.negative)) (made_true-placed a l h)
    ∙ placed_other a (l.variable - 1) (k.variable - 1) (not l.negative) (not k.negative) other
    ∙ sym (made_true-placed (made_true a k) l h ∙ ap (λ (v : List Bool). placed v (l.variable - 1) (not l.negative)) (made_true-placed a k i))

abbrev FromOne : Literal → Type 0
FromOne l = 1 ≤ l.variable

-- what stood at a literal's variable is lost where it is made true at the end
made_true_last : (sets : List Literal) (a : List Bool) (l : Literal) → 1 ≤ l.variable → All FromOne sets → made_true (fold made_true (made_true a l) sets) l ≡ made_true (fold made_true a sets) l
made_true_last [] a l h ones = made_true_over a l l h refl
made_true_last (k ∷ sets) a l h ones =
    let one : 1 ≤ k.variable = All-head FromOne k sets ones in
    elim (cases_eq l.variable k.variable) [
      | inl e ↦ ap (λ (v : List Bool). made_true (fold made_true v sets) l) (made_true_over a l k h e)
      | inr ne ↦ ap (λ (v : List Bool). made_true (fold made_true v sets) l) (made_true_apart a l k h one ne) ∙ made_true_last sets (made_true a k) l h (All-tail FromOne k sets ones)
    ]

-- literals that are made true twice
abbrev Twice : List Literal → Type 0
Twice sets = (a : List Bool) → fold made_true (fold made_true a sets) sets ≡ fold made_true a sets

twice_more : (sets : List Literal) (l : Literal) → 1 ≤ l.variable → All FromOne sets → Twice sets → Twice (sets ++ l ∷ [])
twice_more sets l h ones t a =
    let once : (b : List Bool) → fold made_true b (sets ++ l ∷ []) ≡ made_true (fold made_true b sets) l = λ b. fold-append made_true b sets (l ∷ []) in
    once (fold made_true a (sets ++ l ∷ []))
    ∙ ap (λ (v : List Bool). made_true (fold made_true v sets) l) (once a)
    ∙ made_true_last sets (fold made_true a sets) l h ones
    ∙ ap (λ (v : List Bool). made_true v l) (t a)
    ∙ sym (once a)

twice_on : (done sets : List Literal) → All FromOne done → All FromOne sets → Twice done → Twice (done ++ sets)
twice_on done [] ones h t = subst Twice (sym (append-nil done)) t
twice_on done (l ∷ sets) ones h t =
    let one : 1 ≤ l.variable = All-head FromOne l sets h in
    subst Twice (append_assoc done (l ∷ []) sets)
    (twice_on (done ++ l ∷ []) sets (All-push FromOne done l ones one) (All-tail FromOne l sets h) (twice_more done l one ones t))

twice : (sets : List Literal) → All FromOne sets → Twice sets
twice sets h = twice_on [] sets (All-nil FromOne) h (λ a. refl)

-- the repairs of one set of literals

abbrev repair_for : List Literal → List Literal → Repair
repair_for sets c = record { sets = sets; clause = c }

repaired_by_all : (sets : List Literal) (cs : List (List Literal)) (a : List Bool) → All FromOne sets → repaired (map (repair_for sets) cs) a ≡ cond (list_all (clause_value a) cs) a (fold made_true a sets)
repaired_by_all sets [] a h = refl
repaired_by_all sets (c ∷ cs) a h =
    let mend : List Bool = fold made_true a sets in
    let again : (t : Bool) → cond t mend (fold made_true mend sets) ≡ mend = λ (t : Bool). elim t as (λ t. cond t mend (fold made_true mend sets) ≡ mend) [ true ↦ refl | false ↦ twice sets h a ] in
    let step : (t : Bool) → repaired_once (repair_for sets c) (cond t a mend) ≡ cond (clause_value a c && t) a mend =
    λ (t : Bool). elim t as (λ t. repaired_once (repair_for sets c) (cond t a mend) ≡ cond (clause_value a c && t) a mend) [
      | true ↦ ap (λ (b : Bool). cond b a mend) (sym (and-true (clause_value a c)))
      | false ↦ again (clause_value mend c) ∙ ap (λ (b : Bool). cond b a mend) (sym (and-false (clause_value a c)))
    ] in
    ap (repaired_once (repair_for sets c)) (repaired_by_all sets cs a h) ∙ step (list_all (clause_value a) cs)

pub All-front : {X : Type 0} (P : X → Type 0) (xs ys : List X) → All P (xs ++ ys) → All P xs
All-front P xs ys h = All-same P xs (take (length xs) (xs ++ ys)) (sym (take_at xs ys (length xs) refl)) (All-take P (length xs) (xs ++ ys) h)

pub All-back : {X : Type 0} (P : X → Type 0) (xs ys : List X) → All P (xs ++ ys) → All P ys
All-back P xs ys h = All-same P ys (drop (length xs) (xs ++ ys)) (sym (drop_at xs ys (length xs) refl)) (All-drop P (length xs) (xs ++ ys) h)

mended_once-repairs : (e : Entry) (a : List Bool) → All CountsFromOne (repairs_in e) → mended_once e a ≡ repaired (repairs_in e) a
mended_once-repairs e a h =
    let go : (cs : List (List Literal)) → All CountsFromOne (map (repair_for e.sets) cs) → cond (list_all (clause_value a) cs) a (fold made_true a e.sets) ≡ repaired (map (repair_for e.sets) cs) a =
    λ (cs : List (List Literal)). elim cs as (λ cs. All CountsFromOne (map (repair_for e.sets) cs) → cond (list_all (clause_value a) cs) a (fold made_true a e.sets) ≡ repaired (map (repair_for e.sets) cs) a) [
      | [] ↦ λ k. refl
      | ◌∷◌ c cs ↦ λ k. sym (repaired_by_all e.sets (c ∷ cs) a (All-head CountsFromOne (repair_for e.sets c) (map (repair_for e.sets) cs) k))
    ] in
    go e.clauses h

pub mended-repairs : (es : List Entry) (a : List Bool) → All CountsFromOne (repairs_of es) → mended es a ≡ repaired (repairs_of es) a
mended-repairs [] a h = refl
mended-repairs (e ∷ es) a h =
    ap (mended_once e) (mended-repairs es a (All-back CountsFromOne (repairs_in e) (repairs_of es) h))
    ∙ mended_once-repairs e (repaired (repairs_of es) a) (All-front CountsFromOne (repairs_in e) (repairs_of es) h)
    ∙ sym (repaired-append (repairs_in e) (repairs_of es) a)

-- the laws

pub entries_repair : EntriesRepair
entries_repair join rs a h =
    let stand : repairs_of (entries_of join rs) ≡ rs = repairs_of-entries_of join rs in
    mended-repairs (entries_of join rs) a (subst (All CountsFromOne) (sym stand) h) ∙ ap (λ (v : List Repair). repaired v a) stand

pub proper_count : (n : ℕ) (rs : List Repair) → All (IsProper n) rs → All CountsFromOne rs
proper_count n rs h = All-weaker (IsProper n) CountsFromOne (λ r p. All-weaker (IsUpTo n) FromOne (λ l u. u.0) r.sets p.sets_within) rs h

joined_mends : (es fs : List Entry) (a : List Bool) → repairs_of fs ≡ repairs_of es → All CountsFromOne (repairs_of es) → mended fs a ≡ mended es a
joined_mends es fs a same h =
    mended-repairs fs a (subst (All CountsFromOne) (sym same) h) ∙ ap (λ (v : List Repair). repaired v a) same ∙ sym (mended-repairs es a h)

pub upgrade_carries : UpgradeCarries
upgrade_carries m values v =
    ap (take m.original) (joined_mends m.repairs (upgraded m).repairs _ (repairs_of-joined m.repairs) (proper_count m.inner (repairs_of m.repairs) v.repairs_proper))

pub upgraded_valid : (m : MapFile) → IsMap m → IsMap (upgraded m)
upgraded_valid m v =
    let same : repairs_of (upgraded m).repairs ≡ repairs_of m.repairs = repairs_of-joined m.repairs in
    record {
      first_version = omega arith;
      last_version = omega arith;
      original = v.original;
      least_inner = v.least_inner;
      inner = v.inner;
      written = v.written;
      offset = v.offset;
      each_named = v.each_named;
      names_rising = v.names_rising;
      entries_fit = joined_fit m.version m.repairs v.entries_fit;
      repairs_few = omega (arith, v.repairs_few, ap length same);
      repairs_proper = subst (All (IsProper m.inner)) (sym same) v.repairs_proper;
    }

-- what an entry sets is within the inner variables
pub sets_within : (version n : ℕ) (es : List Entry) → All (Fits version) es → All (IsProper n) (repairs_of es) → All (λ e. All (IsUpTo n) e.sets) es
sets_within version n [] fit proper = All-nil (λ e. All (IsUpTo n) e.sets)
sets_within version n (e ∷ es) fit proper =
    let own : (cs : List (List Literal)) → 1 ≤ length cs → All (IsProper n) (map (repair_for e.sets) cs) → All (IsUpTo n) e.sets =
    λ (cs : List (List Literal)). elim cs as (λ cs. 1 ≤ length cs → All (IsProper n) (map (repair_for e.sets) cs) → All (IsUpTo n) e.sets) [
      | [] ↦ λ k p. absurd (omega (arith, k))
      | ◌∷◌ c cs ↦ λ k p. let first : IsProper n (repair_for e.sets c) = All-head (IsProper n) (repair_for e.sets c) (map (repair_for e.sets) cs) p in first.sets_within
    ] in
    All-cons (λ e. All (IsUpTo n) e.sets) e es
    (own e.clauses (omega (arith, some_clause version (length e.clauses) (All-head (Fits version) e es fit))) (All-front (IsProper n) (repairs_in e) (repairs_of es) proper))
    (sets_within version n es (All-tail (Fits version) e es fit) (All-back (IsProper n) (repairs_in e) (repairs_of es) proper))
