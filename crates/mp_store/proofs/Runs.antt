-- Runs of a technique, one after the other.
use Rattle.std.proofs.Common.{◌≡◌, ℕ, ◌+◌, ◌*◌, ◌-◌, ◌<◌, ◌≤◌, Bool, true, false, List, [], ◌∷◌, ◌++◌, length, zero, suc, refl, sym, subst, ◌∙◌, ap, append_assoc, arith, inl, inr, Contains}
use Rattle.std.specs.Prelude.{Option, Some, None, nat_lt, ◌==◌}
use Rattle.std.proofs.lemmas.List.{append-nil}
use Rattle.std.proofs.Math.Nat.{mul-le-mul_left, mul-suc}
use Rattle.std.proofs.lemmas.Bool.{true≢false, ltb-true, ltb-false}
use Rattle.mp_logic.specs.Literal.{Literal}
use Rattle.mp_logic.specs.Keeping.{State}
use Rattle.mp_logic.specs.declared.instances.Repair.{Repair}
use Rattle.mp_logic.proofs.Members.{Contains-none}
use Rattle.mp_logic.proofs.Kept.{keeping_joins, keeping_is_reflexive}
use Rattle.mp_store.specs.Held.{Held, labelled_of, IsUntouched}
use Rattle.mp_clauses.specs.Slots.{live_clauses}
use Rattle.mp_store.specs.Measures.{measures, IsLower, IsSmaller}
use Rattle.mp_store.specs.Soundness.{IsStore}
use Rattle.mp_store.specs.Techniques.{Technique, HasIdle, IsRun, IsChange, IsSpent}
use Rattle.mp_store.specs.Turns.{has_turn, one_less, IsLeft, IsBetween}
use Rattle.mp_clauses.proofs.Found.{any-by}

pub lower-lower : (xs ys zs : List ℕ) → IsLower xs ys → IsLower ys zs → IsLower xs zs
lower-lower [] ys zs h k = absurd h
lower-lower (x ∷ xs) [] zs h k = absurd h
lower-lower (x ∷ xs) (y ∷ ys) [] h k = absurd k
lower-lower (x ∷ xs) (y ∷ ys) (z ∷ zs) h k =
    elim h [
      | inl a ↦ elim k [ inl b ↦ inl (omega arith) | inr b ↦ let e = b.0 in inl (omega arith) ]
      | inr a ↦ let e = a.0 in elim k [ inl b ↦ inl (omega arith) | inr b ↦ inr (e ∙ b.0, lower-lower xs ys zs a.1 b.1) ]
    ]

pub smaller-smaller : (s t u : State) → IsSmaller u t → IsSmaller t s → IsSmaller u s
smaller-smaller s t u h k = lower-lower (measures u) (measures t) (measures s) h k

never-lower : (xs : List ℕ) → IsLower xs xs → ⊥
never-lower [] h = h
never-lower (x ∷ xs) h = elim h [ inl a ↦ absurd (omega arith) | inr a ↦ never-lower xs a.1 ]

-- a smaller state is another one
pub smaller-other : (s t : State) → IsSmaller t s → t ≡ s → ⊥
smaller-other s t h e = let g : IsSmaller s s = rw e at h in never-lower (measures s) g

-- a store that is not refuted has no empty clause
pub none-empty : (h : Held) → IsStore h → h.refuted ≡ false → Contains (live_clauses h.slots) [] → ⊥
none-empty h s n m = true≢false (sym (any-by (λ (c : List Literal). length c == 0) (live_clauses h.slots) [] m refl) ∙ (sym s.refuted ∙ n))

-- a store that is untouched
pub run-same : (L : State → State → List Repair → Type 0) (s t : Held) → ((x : State) → L x x []) → IsUntouched s t → IsRun L s t
run-same L s t r e = rw e (record { added = []; repairs = sym (append-nil s.repairs); step = record { keeps = keeping_is_reflexive (labelled_of s); alone = λ u. r (labelled_of s) }; inner = refl; next = omega arith; ids = λ id c b f. f })

pub run-untouched : (L : State → State → List Repair → Type 0) (s t u : Held) → IsRun L s t → IsUntouched t u → IsRun L s u
run-untouched L s t u r e = rw e (record { added = r.added; repairs = r.repairs; step = r.step; inner = r.inner; next = r.next; ids = r.ids })

pub run-more : (L : State → State → List Repair → Type 0) (s t u : Held) → ((a b c : State) (x y : List Repair) → L a b x → L b c y → L a c (x ++ y)) → (Contains (live_clauses t.slots) [] → ⊥) → IsRun L s t → IsRun L t u → IsRun L s u
run-more L s t u j n f g =
    let longer = f.next in
    let longest = g.next in
    record {
      added = f.added ++ g.added;
      repairs = g.repairs ∙ (ap (λ r. r ++ g.added) f.repairs ∙ append_assoc s.repairs f.added g.added);
      step = record {
        keeps = keeping_joins _ _ _ f.added g.added f.step.keeps g.step.keeps;
        alone = λ e. j _ _ _ f.added g.added (f.step.alone n) (g.step.alone e);
      };
      inner = g.inner ∙ f.inner;
      next = omega arith;
      ids = λ id c b e. f.ids id c b (g.ids id c (omega arith) e);
    }

pub left-whole : (budget : Option ℕ) → IsLeft budget 0 budget
left-whole None = refl
left-whole (Some b) = (let e : b - 0 ≡ b = omega arith in ap (λ n. Some n) (sym e), omega arith)

-- before the first turn
pub between-none : (technique : Technique) (budget : Option ℕ) (s : Held) → ((t : State) → technique.LeavesAlone t t []) → s.refuted ≡ false → (b : IsBetween technique budget budget s s false (length (technique.candidates (labelled_of s)))) × (b.used ≡ 0)
between-none technique budget s r n = (
  record {
    run = run-same technique.LeavesAlone s s r refl;
    unrefuted = n;
    change = record { same = λ e. refl; smaller = λ e. absurd (cc) };
    used = 0;
    paced = record { left = left-whole budget; falls = omega arith; bound = let m = technique.size (labelled_of s) in let c = length (technique.candidates (labelled_of s)) in let one : 1 + m - m ≡ 1 = omega arith in rw one (omega arith) };
  },
  refl,
)

pub smaller-then : (s t u : Held) (changed : Bool) → t.refuted ≡ false → IsChange changed s t → IsSmaller (labelled_of u) (labelled_of t) → IsSmaller (labelled_of u) (labelled_of s)
smaller-then s t u true n f h = elim (f.smaller refl) [ inl r ↦ absurd (true≢false (sym r ∙ n)) | inr k ↦ smaller-smaller (labelled_of s) (labelled_of t) (labelled_of u) h k ]
smaller-then s t u false n f h = rw (f.same refl) at h

-- a turn was taken
pub left-spent : (budget left : Option ℕ) (used : ℕ) → IsLeft budget used left → has_turn left ≡ true → IsLeft budget (used + 1) (one_less left)
left-spent None left used e t = rw e refl
left-spent (Some b) left used e t =
    let some : 0 < b - used = let g : nat_lt 0 (b - used) ≡ true = rw e.0 at t in ltb-true 0 (b - used) g in
    let same : b - used - 1 ≡ b - (used + 1) = omega arith in
    (ap one_less e.0 ∙ ap (λ (n : ℕ). Some n) same, omega arith)

pub untouched-twice : (s t u : Held) → IsUntouched s t → IsUntouched t u → IsUntouched s u
untouched-twice s t u e f = f ∙ ap (λ (h : Held). record h { prepared = u.prepared; arena = u.arena; places = u.places }) e

pub untouched-back : (s h : Held) → IsUntouched s h → IsUntouched h s
untouched-back s h f = ap (λ (x : Held). record x { prepared = s.prepared; arena = s.arena; places = s.places }) (sym f)

times-sum : (a b c : ℕ) → a * (b + c) ≡ a * b + a * c
times-sum a b zero = let e : b + 0 ≡ b = omega arith in let z : a * 0 ≡ 0 = omega arith in ap (λ (n : ℕ). a * n) e ∙ (let w : a * b ≡ a * b + a * 0 = omega (arith, z) in w)
times-sum a b (suc c) =
    let rest = times-sum a b c in
    let e : b + suc c ≡ suc (b + c) = omega arith in
    let first : a * (b + suc c) ≡ a * (b + c) + a = ap (λ (n : ℕ). a * n) e ∙ mul-suc a (b + c) in
    let last : a * suc c ≡ a * c + a = mul-suc a c in
    omega (arith, rest, first, last)

rising : (most first was is d a b : ℕ) → was ≤ first → is + d ≤ was → a ≤ most * (1 + first - was) → b ≤ a + most * d → b ≤ most * (1 + first - is)
rising most first was is d a b f l h k =
    let x : ℕ = 1 + first - was in
    let step : most * (x + d) ≤ most * (1 + first - is) = mul-le-mul_left {m = x + d} {n = 1 + first - is} most (omega arith) in
    let split = times-sum most x d in
    omega (arith, step, split, h, k)

-- a turn that lowered the size by d, after which no more than d times the candidates at first came to wait
pub between-more : (technique : Technique) (budget left : Option ℕ) (s t u : Held) (changed : Bool) (waiting now d : ℕ) → ((a b c : State) (x y : List Repair) → technique.LeavesAlone a b x → technique.LeavesAlone b c y → technique.LeavesAlone a c (x ++ y)) →
    IsBetween technique budget left s t changed waiting → IsStore t → has_turn left ≡ true → IsRun technique.LeavesAlone t u → u.refuted ≡ false → IsSmaller (labelled_of u) (labelled_of t) → technique.size (labelled_of u) + d ≤ technique.size (labelled_of t) →
    now + 1 ≤ waiting + length (technique.candidates (labelled_of s)) * d → IsBetween technique budget (one_less left) s u true now
between-more technique budget left s t u changed waiting now d j b st sp r n h less more =
    let most = length (technique.candidates (labelled_of s)) in
    let first = technique.size (labelled_of s) in
    let was = technique.size (labelled_of t) in
    let is = technique.size (labelled_of u) in
    let falls : was ≤ first = b.paced.falls in
    record {
      run = run-more technique.LeavesAlone s t u j (none-empty t st b.unrefuted) b.run r;
      unrefuted = n;
      change = record { same = λ e. absurd (cc); smaller = λ e. inr (smaller-then s t u changed b.unrefuted b.change h) };
      used = b.used + 1;
      paced = record { left = left-spent budget left b.used b.paced.left sp; falls = omega arith; bound = rising most first was is d (b.used + waiting) (b.used + 1 + now) falls less b.paced.bound (omega arith) };
    }

-- a turn that changed nothing; a rewrite may have been prepared
pub between-same : (technique : Technique) (budget left : Option ℕ) (s t u : Held) (changed : Bool) (waiting now : ℕ) → ((a b c : State) (x y : List Repair) → technique.LeavesAlone a b x → technique.LeavesAlone b c y → technique.LeavesAlone a c (x ++ y)) → ((x : State) → technique.LeavesAlone x x []) →
    (b : IsBetween technique budget left s t changed waiting) → IsStore t → has_turn left ≡ true → IsUntouched t u → now + 1 ≤ waiting → (c : IsBetween technique budget (one_less left) s u changed now) × (c.used ≡ b.used + 1)
between-same technique budget left s t u changed waiting now j l b st sp e less =
    let bound = b.paced.bound in
    let state : labelled_of u ≡ labelled_of t = ap (λ (h : Held). labelled_of h) e in
    let size : technique.size (labelled_of u) ≡ technique.size (labelled_of t) = ap technique.size state in (
      record {
        run = run-more technique.LeavesAlone s t u j (none-empty t st b.unrefuted) b.run (run-same technique.LeavesAlone t u l e);
        unrefuted = ap (λ (h : Held). h.refuted) e ∙ b.unrefuted;
        change = record {
          same = λ f. let before = b.change.same f in untouched-twice s t u before e;
          smaller = λ f. elim (b.change.smaller f) [ inl r ↦ absurd (true≢false (sym r ∙ b.unrefuted)) | inr k ↦ inr (let P : State → Type 0 = λ x. IsSmaller x (labelled_of s) in subst P (sym state) k) ];
        };
        used = b.used + 1;
        paced = record { left = left-spent budget left b.used b.paced.left sp; falls = rw size b.paced.falls; bound = rw size (omega arith) };
      },
      refl,
    )

used-up : (budget left : Option ℕ) (used : ℕ) → IsLeft budget used left → has_turn left ≡ false → budget ≡ Some used
used-up None left used e t = let g : has_turn None ≡ false = rw e at t in absurd (true≢false g)
used-up (Some b) left used e t =
    let g : nat_lt 0 (b - used) ≡ false = rw e.0 at t in
    let none = ltb-false 0 (b - used) g in
    let within = e.1 in
    let same : b ≡ used = omega arith in
    ap (λ (n : ℕ). Some n) same

pub unchanged : (s t : Held) (changed : Bool) → t.refuted ≡ false → IsChange changed s t → labelled_of t ≡ labelled_of s → changed ≡ false
unchanged s t false n f e = refl
unchanged s t true n f e = elim (f.smaller refl) [ inl r ↦ absurd (true≢false (sym r ∙ n)) | inr k ↦ absurd (smaller-other (labelled_of s) (labelled_of t) k e) ]

-- a budget that is used up while some candidate waits stays below the bound
pub between-spent : (technique : Technique) (budget left : Option ℕ) (s t : Held) (changed : Bool) (waiting : ℕ) (b : IsBetween technique budget left s t changed waiting) → IsStore t → has_turn left ≡ false → 1 ≤ waiting → (changed ≡ false → HasIdle technique (labelled_of t) b.used) → IsSpent technique budget (labelled_of s) (labelled_of t)
between-spent technique budget left s t changed waiting b st none some idle =
    let bound = b.paced.bound in
    record {
      turns = b.used;
      given = used-up budget left b.used b.paced.left none;
      below = omega arith;
      idle = λ e. idle (unchanged s t changed b.unrefuted b.change e);
      unrefuted = none-empty t st b.unrefuted;
    }

-- where nothing was tried, no idle candidate is asked for
pub none-idle : (technique : Technique) (s : State) (n : ℕ) → n ≡ 0 → HasIdle technique s n
none-idle technique s n e = record { idle = []; many = omega arith; once = refl; each = λ k m. absurd (Contains-none k m) }
