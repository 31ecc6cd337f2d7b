-- What dropping the clauses with all literals of one leaves.
use Rattle.std.proofs.Common.{◌≡◌, ℕ, ◌<◌, ◌≤◌, true, false, List, [], ◌∷◌, ◌++◌, length, get_or, take, zero, suc, refl, sym, ◌∙◌, ap, subst, arith, inl, inr, Contains, All, sum_by}
use Rattle.std.specs.Prelude.{Option, Some, None, is_some, ◌==◌, IsTrue}
use Rattle.std.specs.List.{slice_get}
use Rattle.std.proofs.lemmas.Bool.{cases_Bool, true≢false, false_from_ne_true}
use Rattle.std.proofs.lemmas.List.Elements.{All-contains, Contains-get_or}
use Rattle.std.proofs.lemmas.List.Sums.{sum_by-cons}
use Rattle.mp_logic.specs.Literal.{Literal, IsUpTo}
use Rattle.mp_logic.specs.Labelled.{IsProper}
use Rattle.mp_logic.specs.Keeping.{State}
use Rattle.mp_logic.specs.Normal.{rises}
use Rattle.mp_logic.specs.Sets.{Among, with_hard}
use Rattle.mp_logic.specs.declared.instances.Repair.{Repair}
use Rattle.mp_logic.proofs.General.{same_models_keep, Entails-among}
use Rattle.mp_logic.proofs.Members.{Contains-none, Contains-cases}
use Rattle.mp_clauses.specs.Places.{is_in}
use Rattle.mp_store.specs.Held.{Held, labelled_of, IsUntouched}
use Rattle.mp_clauses.specs.Slots.{clause_of, is_live, live_clauses}
use Rattle.mp_store.specs.Measures.{IsSmaller}
use Rattle.mp_store.specs.Replacing.{replaced, slot_worth, IsReplacement}
use Rattle.mp_store.specs.Rewriting.{after}
use Rattle.mp_store.specs.Soundness.{IsStore}
use Rattle.mp_store.specs.Techniques.{IsRun, KeepsIds}
use Rattle.mp_store.proofs.Clashes.{all-none}
use Rattle.mp_clauses.proofs.Found.{any-by, is_in-by, is_in-contains}
use Rattle.mp_store.proofs.KeptFixing.{live-at, live-id}
use Rattle.mp_store.proofs.Replaced.{replaced_clauses, replaced_sums, replaced_count}
use Rattle.mp_turns.specs.Turning.{IsTurning}
use Rattle.mp_turns.specs.Turned.{IsChangeOf}
use Rattle.mp_turns.specs.Leaving.{DropsUnrepaired}
use Rattle.mp_turns.specs.Clauses.{replacing, AreShrunk}
use Rattle.mp_turns.proofs.ClausePlaces.{live-placed, length-places, live-once, live-others, placed-at, places-differ, first-idle}
use Rattle.mp_turns.proofs.Replacing.{replacing-keeps, replacing-slots, replacing-state, replacing-run, left-clause}
use Rattle.mp_turns.proofs.Shrinking.{shrunk-entails, smaller-dropped}
use Rattle.mp_resting.specs.declared.seen.Seen.{Seen}
use Rattle.mp_resting.specs.Resting.{IsRested}
use Rattle.t_subsume.specs.Containment.{HasNoHolderBelow, NoneHeldBelow, AreHolders}
use Rattle.t_subsume.specs.Subsumption.{NoSubsumed, subsumption, IsNotSubsuming, subsuming}

none_some : {X : Type 0} (o : Option X) (x : X) → o ≡ None → o ≡ Some x → ⊥
none_some o x e f = cc

pub same_some : {X : Type 0} (o : Option X) (x y : X) → o ≡ Some x → o ≡ Some y → x ≡ y
same_some o x y e f = cc

-- the technique by turns
drops-twice : (a b c : State) (x y : List Repair) → DropsUnrepaired a b x → DropsUnrepaired b c y → DropsUnrepaired a c (x ++ y)
drops-twice a b c x y f g =
    let none : x ++ y ≡ [] = rw (f.repairs, g.repairs) refl in
    record {
      drops = record {
        costs = record { vars = g.drops.costs.vars ∙ f.drops.costs.vars; costs = g.drops.costs.costs ∙ f.drops.costs.costs; offset = g.drops.costs.offset ∙ f.drops.costs.offset };
        clauses = λ d m. f.drops.clauses d (g.drops.clauses d m);
      };
      repairs = none;
    }

pub untouched-ids : (h u : Held) → IsUntouched h u → KeepsIds h u
untouched-ids h u e id c f = let same : u.slots ≡ h.slots = ap (λ (x : Held). x.slots) e in sym (ap (λ s. clause_of s id) same) ∙ f

untouched-idle : (h u : Held) (id : ℕ) → IsUntouched h u → IsNotSubsuming h.slots id → IsNotSubsuming u.slots id
untouched-idle h u id e idle = subst (λ s. IsNotSubsuming s id) (sym (ap (λ (x : Held). x.slots) e)) idle

dead-idle : (slots : List (Option (List Literal))) (id : ℕ) → clause_of slots id ≡ None → IsNotSubsuming slots id
dead-idle slots id n c e j d f o i = none_some (clause_of slots id) c n e

pub dead-idle-at : (slots : List (Option (List Literal))) (id : ℕ) → is_live slots id ≡ false → IsNotSubsuming slots id
dead-idle-at slots id n c e j d f o i = true≢false (ap is_some (sym e) ∙ n)

pub subsuming-sound : IsTurning subsuming
subsuming-sound = record {
  itself = λ s. record { drops = record { costs = record { vars = refl; costs = refl; offset = refl }; clauses = λ c m. m }; repairs = refl };
  twice = drops-twice;
  stays_itself = untouched-ids;
  stays_twice = λ m n a b c f g id x e. f id x (g id x e);
  counted = λ h s. live-placed h;
  distinct = λ h s. live-once h.slots;
  others = λ h id s. elim (live-others h.slots id) [ inl m ↦ inl m | inr n ↦ inr (dead-idle h.slots id n) ];
  untouched = untouched-idle;
  ended = λ h s u idle i j c d e f n m.
      let p = placed-at h.slots i c e in
      let q = placed-at h.slots j d f in
      idle p.0 c p.1.clause q.0 d q.1.clause (λ g. places-differ h.slots p.0 q.0 i j c d p.1 q.1 n (sym g)) m;
  idle = λ h first rest s e own. first-idle subsumption h (IsNotSubsuming h.slots) first rest refl e own (λ id k c p idle. (
    c,
    p.place,
    λ j d f n m.
        let q = placed-at h.slots j d f in
        idle c p.clause q.0 d q.1.clause (λ g. places-differ h.slots id q.0 k j c d p q.1 n (sym g)) m,
  ));
}

-- no live clause is empty, and each is normal and within the variables
pub clause-some : (h : Held) (id : ℕ) (c : List Literal) → IsStore h → h.refuted ≡ false → clause_of h.slots id ≡ Some c → 0 < length c
clause-some h id [] s n e = absurd (true≢false (sym (s.refuted ∙ any-by (λ (d : List Literal). length d == 0) (live_clauses h.slots) [] (live-at h.slots id [] e) refl) ∙ n))
clause-some h id (x ∷ c) s n e = omega arith

pub clause-normal : (h : Held) (id : ℕ) (c : List Literal) → IsStore h → clause_of h.slots id ≡ Some c → rises 0 c ≡ true
clause-normal h id c s e = All-contains (λ x. rises 0 x ≡ true) (live_clauses h.slots) c s.labelled.hard_normal (live-at h.slots id c e)

pub clause-within : (h : Held) (id : ℕ) (c : List Literal) → IsStore h → clause_of h.slots id ≡ Some c → All (IsUpTo h.vars) c
clause-within h id c s e = All-contains (All (IsUpTo h.vars)) (live_clauses h.slots) c s.labelled.hard_within (live-at h.slots id c e)

-- where no other clause has all its literals, the clause is idle
pub none-holds : (slots : List (Option (List Literal))) (id : ℕ) (c : List Literal) (gone : List ℕ) → clause_of slots id ≡ Some c → AreHolders slots c id gone → length gone ≡ 0 → IsNotSubsuming slots id
none-holds slots id c gone e a n x f j d g o i =
    let same : x ≡ c = same_some (clause_of slots id) x c f e in
    let there = a.all j d g o (subst (λ y. Among y d) same i) in
    let below = there.1 in
    omega arith

-- the rewrite
pub gone-fits : (h : Held) (id : ℕ) (c : List Literal) (gone : List ℕ) → AreHolders h.slots c id gone → IsReplacement (replacing gone [] []) h
gone-fits h id c gone a = record {
  keeps_costs = replacing-keeps gone [] [];
  gone_live = λ k d l. let w = a.each (get_or gone k d) (Contains-get_or gone k d l) in ap is_some w.1;
  gone_distinct = a.once;
  added_normal = all-none (λ x. IsTrue (rises 0 x));
  added_within = all-none (All (IsUpTo h.vars));
  repairs_proper = all-none (IsProper h.vars);
}

-- the clauses that are left
abbrev left : List ℕ → Held → List (List Literal)
left gone h = live_clauses (replaced gone [] h.slots)

left-among : (h : Held) (gone : List ℕ) → Among (left gone h) (live_clauses h.slots)
left-among h gone x m = elim ((replaced_clauses gone [] h.slots).only x m) [ inl w ↦ live-at h.slots w.0 x w.1 | inr n ↦ absurd (Contains-none x n) ]

drop-shrinks : (h : Held) (id : ℕ) (c : List Literal) (gone : List ℕ) → clause_of h.slots id ≡ Some c → AreHolders h.slots c id gone → AreShrunk (live_clauses h.slots) (left gone h)
drop-shrinks h id c gone e a x m =
    let all = replaced_clauses gone [] h.slots in
    let w = live-id h.slots x m in
    elim (cases_Bool (is_in w.0 gone)) [
      | inl t ↦
          let g = a.each w.0 (is_in-contains gone w.0 t) in
          let same : g.0 ≡ x = same_some (clause_of h.slots w.0) g.0 x g.1 w.1 in
          (c, all.kept id c e (false_from_ne_true (is_in id gone) (λ t. (a.each id (is_in-contains gone id t)).2 refl)), subst (Among c) same g.3)
      | inr f ↦ (x, all.kept w.0 x w.1 f, λ l i. i)
    ]

pub drop-run : (h u : Held) (id : ℕ) (c : List Literal) (gone : List ℕ) → clause_of h.slots id ≡ Some c → AreHolders h.slots c id gone → IsUntouched (after (replacing gone [] []) h) u → IsRun subsumption.LeavesAlone h u
drop-run h u id c gone e a f =
    replacing-run subsumption.LeavesAlone gone [] [] h u f
    (same_models_keep (labelled_of h) (left gone h) (Entails-among (live_clauses h.slots) (left gone h) (left-among h gone)) (shrunk-entails (live_clauses h.slots) (left gone h) (drop-shrinks h id c gone e a)))
    (record { drops = record { costs = record { vars = refl; costs = refl; offset = refl }; clauses = left-among h gone }; repairs = refl })

sum-has : {X : Type 0} (f : X → ℕ) (xs : List X) (x : X) → Contains xs x → f x ≤ sum_by f xs
sum-has f [] x m = absurd (Contains-none x m)
sum-has f (y ∷ xs) x m =
    elim (Contains-cases y xs x m) [
      | inl e ↦ let same : f x ≡ f y = ap f e in omega (arith, sum_by-cons f y xs)
      | inr r ↦ omega (arith, sum-has f xs x r, sum_by-cons f y xs)
    ]

pub drop-unrefuted : (h u : Held) (gone : List ℕ) → h.refuted ≡ false → IsUntouched (after (replacing gone [] []) h) u → u.refuted ≡ false
drop-unrefuted h u gone n f = let same : u.refuted ≡ h.refuted = ap (λ (x : Held). x.refuted) f in same ∙ n

pub drop-changed : (h u : Held) (id : ℕ) (c : List Literal) (gone : List ℕ) → IsStore h → h.refuted ≡ false → clause_of h.slots id ≡ Some c → AreHolders h.slots c id gone → 0 < length gone → IsUntouched (after (replacing gone [] []) h) u → IsChangeOf subsuming id h u []
drop-changed h u id c gone s n e a some f =
    let slots : u.slots ≡ replaced gone [] h.slots = replacing-slots gone [] [] h u f (drop-unrefuted h u gone n f) in
    let state : labelled_of u ≡ with_hard (labelled_of h) (left gone h) = replacing-state gone [] [] h u f (drop-unrefuted h u gone n f) in
    let was : (j : ℕ) (d : List Literal) → clause_of u.slots j ≡ Some d → (clause_of h.slots j ≡ Some d) × (is_in j gone ≡ false) = λ j d g. left-clause gone h.slots j d (sym (ap (λ x. clause_of x j) slots) ∙ g) in
    let first = get_or gone 0 0 in
    let there = Contains-get_or gone 0 0 some in
    let g = a.each first there in
    let long : 0 < slot_worth length (clause_of h.slots first) = rw g.1 (clause-some h first g.0 s n g.1) in
    let literals = replaced_sums length gone [] h.slots a.once in
    let lower : sum_by length (left gone h) < sum_by length (live_clauses h.slots) = omega (arith, long, literals, sum-has (λ i. slot_worth length (clause_of h.slots i)) gone first there) in
    let count = replaced_count gone [] h.slots (gone-fits h id c gone a).gone_live a.once in
    let fewer : length (left gone h) < length (live_clauses h.slots) = omega (arith, count, some) in
    let size : sum_by length (live_clauses u.slots) ≡ sum_by length (left gone h) = ap (λ (t : State). sum_by length t.hard) state in
    let number : length (live_clauses u.slots) ≡ length (left gone h) = ap (λ (t : State). length t.hard) state in
    let P : State → Type 0 = λ t. IsSmaller t (labelled_of h) in
    record {
      kept = λ i idle. inr (λ x k j d l o m. idle x (was i x k).0 j d (was j d l).0 o m);
      own = inr (λ x k j d l o m.
          let same : x ≡ c = same_some (clause_of h.slots id) x c (was id x k).0 e in
          let t = a.all j d (was j d l).0 o (subst (λ y. Among y d) same m) in
          true≢false (sym (is_in-by gone j t) ∙ (was j d l).1));
      falls = omega (arith, lower, size);
      few = omega arith;
      fewer = let now = length-places (labelled_of u) in let past = length-places (labelled_of h) in omega (arith, fewer, number, now, past);
      smaller = subst P (sym state) (smaller-dropped (labelled_of h) (with_hard (labelled_of h) (left gone h)) refl (drop-shrinks h id c gone e a) fewer);
    }

pub drop-ids : (h u : Held) (gone : List ℕ) → h.refuted ≡ false → IsUntouched (after (replacing gone [] []) h) u → KeepsIds h u
drop-ids h u gone n f id c e =
    let slots : u.slots ≡ replaced gone [] h.slots = replacing-slots gone [] [] h u f (drop-unrefuted h u gone n f) in
    (left-clause gone h.slots id c (sym (ap (λ x. clause_of x id) slots) ∙ e)).0

-- an id's clause has a place, and two ids have two
clause-placed : (s : List (Option (List Literal))) (id : ℕ) (c : List Literal) → clause_of s id ≡ Some c → slice_get (live_clauses s) (length (live_clauses (take id s))) ≡ Some c
clause-placed [] id c e = absurd (cc)
clause-placed (None ∷ s) zero c e = absurd (cc)
clause-placed (None ∷ s) (suc id) c e = clause-placed s id c e
clause-placed (Some d ∷ s) zero c e = e
clause-placed (Some d ∷ s) (suc id) c e = clause-placed s id c e

ids-placed : (s : List (Option (List Literal))) (i j : ℕ) (c d : List Literal) → clause_of s i ≡ Some c → clause_of s j ≡ Some d → length (live_clauses (take i s)) ≡ length (live_clauses (take j s)) → i ≡ j
ids-placed [] i j c d e f n = absurd (cc)
ids-placed (None ∷ s) zero j c d e f n = absurd (cc)
ids-placed (None ∷ s) (suc i) zero c d e f n = absurd (cc)
ids-placed (None ∷ s) (suc i) (suc j) c d e f n = ap suc (ids-placed s i j c d e f n)
ids-placed (Some x ∷ s) zero zero c d e f n = refl
ids-placed (Some x ∷ s) zero (suc j) c d e f n = absurd (omega (arith, n))
ids-placed (Some x ∷ s) (suc i) zero c d e f n = absurd (omega (arith, n))
ids-placed (Some x ∷ s) (suc i) (suc j) c d e f n = ap suc (ids-placed s i j c d e f (omega (arith, n)))

-- where no clause has all literals of another, each id is idle
pub all-subsume-none : (h : Held) → NoSubsumed (live_clauses h.slots) → (id : ℕ) → IsNotSubsuming h.slots id
all-subsume-none h end id c e j d f n m =
    end (length (live_clauses (take id h.slots))) (length (live_clauses (take j h.slots))) c d (clause-placed h.slots id c e) (clause-placed h.slots j d f) (λ same. n (sym (ids-placed h.slots id j c d e f same))) m

-- what is remembered of the clauses that there were
pub none-held : (seen : Seen) (h : Held) → IsRested subsuming.IsIdle seen h → NoneHeldBelow seen.mark h.slots
none-held seen h r =
    elim r [
      | inl z ↦ record { within = omega (arith, z); none = λ id c lt e j d lower f n m. omega (arith, z, lt) }
      | inr w ↦
          let before = w.1.before_is in
          let mark = w.1.mark in
          let next = before.next in
          record {
            within = omega (arith, mark, next);
            none = λ id c lt e j d lower f n m. w.2 id c (before.ids id c (omega (arith, mark, lt)) e) j d (before.ids j d (omega (arith, mark, lower)) f) n m;
          }
    ]

pub none-held-run : (mark : ℕ) (h u : Held) → NoneHeldBelow mark h.slots → IsRun subsumption.LeavesAlone h u → NoneHeldBelow mark u.slots
none-held-run mark h u a r =
    let within = a.within in
    let next = r.next in
    record {
      within = omega (arith, within, next);
      none = λ id c lt e j d lower f n m. a.none id c lt (r.ids id c (omega (arith, within, lt)) e) j d lower (r.ids j d (omega (arith, within, lower)) f) n m;
    }

pub no-holder : (id mark least : ℕ) (slots : List (Option (List Literal))) (c : List Literal) → NoneHeldBelow mark slots → clause_of slots id ≡ Some c → least ≤ mark → (0 < least → id < mark) → HasNoHolderBelow least slots c id
no-holder id mark least slots c a e low old j d lt f n m = a.none id c (old (omega arith)) e j d (omega arith) f n m

pub live-low : (s : List (Option (List Literal))) (i : ℕ) (c : List Literal) → clause_of s i ≡ Some c → i < length s
live-low [] i c e = absurd (cc)
live-low (x ∷ s) zero c e = omega arith
live-low (x ∷ s) (suc i) c e = let rest = live-low s i c e in omega (arith, rest)

-- where no id of the store is left
pub passed-idle : (slots : List (Option (List Literal))) (id least : ℕ) → length slots ≤ least → ((c : List Literal) → clause_of slots id ≡ Some c → HasNoHolderBelow least slots c id) → IsNotSubsuming slots id
passed-idle slots id least past none c e j d f n m = none c e j d (let low = live-low slots j d f in omega (arith, low, past)) f n m
