-- What all clauses force, probed and after rewrites.
use Rattle.std.proofs.Common.{◌≡◌, ◌≢◌, ℕ, ◌<◌, ◌≤◌, Bool, true, false, not, cond, List, [], ◌∷◌, ◌++◌, length, add-zero, append_assoc, ◌+◌, sym, ◌∙◌, ap, subst, arith, inl, inr, Contains}
use Rattle.std.specs.Prelude.{Some, MatchBool}
use Rattle.std.proofs.lemmas.Bool.{true≢false, false_from_ne_true}
use Rattle.std.proofs.lemmas.List.{append-nil, length-append}
use Rattle.std.proofs.lemmas.List.Elements.{Contains-push, Contains-push_cases, Contains-append_left, Contains-append_cases}
use Rattle.mp_logic.specs.Literal.{Literal, negation, IsUpTo}
use Rattle.mp_logic.specs.Truth.{literal_value, IsSatisfied}
use Rattle.mp_logic.specs.Learning.{IsPropagated}
use Rattle.mp_logic.specs.Sets.{Implies, Entails}
use Rattle.mp_logic.specs.Keeping.{State}
use Rattle.mp_logic.specs.declared.instances.Repair.{Repair}
use Rattle.mp_logic.specs.Repairs.{repaired}
use Rattle.mp_logic.specs.Rewrites.{set_repair}
use Rattle.mp_logic.proofs.Literals.{never_both, negation-negation, negation_true}
use Rattle.mp_logic.proofs.Members.{Contains-none, true_by, Contains-first}
use Rattle.mp_logic.proofs.Fixed.{Bends-implied, fixing_keeps, forced}
use Rattle.mp_clauses.specs.Slots.{clause_of, live_clauses}
use Rattle.mp_store.specs.Held.{Held, labelled_of}
use Rattle.mp_store.specs.Soundness.{IsStore}
use Rattle.mp_store.specs.Measures.{occurs}
use Rattle.mp_store.specs.Fixing.{fixing_of}
use Rattle.mp_store.specs.Rewriting.{changed_by}
use Rattle.mp_store.specs.Techniques.{IsRun}
use Rattle.mp_store.proofs.KeptFixing.{live-at, new-slots, store-fixed, store-paid, store-variables}
use Rattle.mp_turns.proofs.FixedOne.{still-occurs, occurs-no-more}
use Rattle.t_failed.specs.Propagating.{AreUpTo, AreSettled, AreSettledBelow, Agrees, IsRefuted, IsExtended, IsRoot, IsRootBelow, IsMentioned, IsGrown, IsFailed, IsProbed}
use Rattle.t_failed.proofs.Settling.{settled-grown, rest-settled}

abbrev NoModel : List (List Literal) → Type 0
NoModel cs = (a : List Bool) → IsSatisfied a cs → ⊥

-- before anything was propagated
pub root-none : (h : Held) (p : List Literal) → p ≡ [] → IsRootBelow h 0 p false
root-none h p e = rw e (record { within = λ l i. absurd (Contains-none l i); implied = λ a m l i o. absurd (Contains-none l i); state = λ id c less f. absurd (omega arith) })

pub mentioned-none : (cs : List (List Literal)) (p : List Literal) → p ≡ [] → IsMentioned cs p
mentioned-none cs p e l i = absurd (Contains-none l (subst (λ xs. Contains xs l) e i))

-- the clauses before an id rest
pub below-settled : (h : Held) (least : ℕ) (p : List Literal) (b : Bool) → IsRootBelow h least p b → b ≡ false → AreSettledBelow h.slots least p (length p)
below-settled h least p b r f = subst (λ x. cond x (NoModel (live_clauses h.slots)) (AreSettledBelow h.slots least p (length p))) f r.state

pub below-refuted : (h : Held) (least : ℕ) (p : List Literal) (b : Bool) → IsRootBelow h least p b → b ≡ true → IsRoot h p b
below-refuted h least p b r t =
    let none : NoModel (live_clauses h.slots) = subst (λ x. cond x (NoModel (live_clauses h.slots)) (AreSettledBelow h.slots least p (length p))) t r.state in
    record { within = r.within; implied = r.implied; state = rw t none }

pub followed : (h : Held) (least : ℕ) (p q : List Literal) (b rests now : Bool) → IsRootBelow h least p b → IsExtended h.vars (live_clauses h.slots) p q → MatchBool rests (IsPropagated q (live_clauses h.slots)) (IsRefuted (live_clauses h.slots) p) → now ≡ not rests → IsRoot h q now
followed h least p q b rests now r f answer e =
    let cs = live_clauses h.slots in
    let cases : (t : Bool) → MatchBool t (IsPropagated q cs) (IsRefuted cs p) → cond (not t) (NoModel cs) (IsPropagated q cs) =
    λ (t : Bool). elim t as (λ x. MatchBool x (IsPropagated q cs) (IsRefuted cs p) → cond (not x) (NoModel cs) (IsPropagated q cs)) [ true ↦ λ s. s | false ↦ λ s a m. s a m (r.implied a m) ] in
    record {
      within = f.within r.within;
      implied = λ a m. f.forced a m (r.implied a m);
      state = rw e (cases rests answer);
    }

pub followed-mentioned : (vars : ℕ) (cs : List (List Literal)) (p q : List Literal) → IsExtended vars cs p q → IsMentioned cs p → IsMentioned cs q
followed-mentioned vars cs p q f m l i = elim (Contains-append_cases p f.more l (subst (λ xs. Contains xs l) f.is i)) [ inl a ↦ m l a | inr b ↦ f.occur l b ]

-- what holds where nothing is refuted
pub root-propagated : (h : Held) (p : List Literal) (b : Bool) → IsRoot h p b → b ≡ false → IsPropagated p (live_clauses h.slots)
root-propagated h p b r f = subst (λ x. cond x (NoModel (live_clauses h.slots)) (IsPropagated p (live_clauses h.slots))) f r.state

root-refuted : (h : Held) (p : List Literal) (b : Bool) → IsRoot h p b → b ≡ true → NoModel (live_clauses h.slots)
root-refuted h p b r t = subst (λ x. cond x (NoModel (live_clauses h.slots)) (IsPropagated p (live_clauses h.slots))) t r.state

-- a probe that ends at once
pub failed-refuted : (h : Held) (p : List Literal) (b : Bool) (l : Literal) → IsRoot h p b → b ≡ true → IsFailed (live_clauses h.slots) l
failed-refuted h p b l r t a m v = root-refuted h p b r t a m

pub failed-false : (h : Held) (p : List Literal) (b : Bool) (l : Literal) → IsRoot h p b → Contains p (negation l) → occurs l.variable (live_clauses h.slots) ≡ true → IsFailed (live_clauses h.slots) l
failed-false h p b l r i o a m t = never_both a l (negation l) (r.implied a m (negation l) i o) t (sym (negation-negation l))

pub probed-known : (h : Held) (p : List Literal) (b : Bool) (l : Literal) → IsRoot h p b → b ≡ false → Contains p l → IsProbed h p l p
probed-known h p b l r f i = record {
  propagated = root-propagated h p b r f;
  own = i;
  within = r.within;
  forced = λ a m t. r.implied a m;
  occur = λ m k j. inr (m k j);
}

-- a probe on top
pub probe-within : (h : Held) (p new : List Literal) (b : Bool) (l : Literal) → IsRoot h p b → IsUpTo h.vars l → new ≡ p ++ l ∷ [] → AreUpTo h.vars new
probe-within h p new b l r up e = subst (AreUpTo h.vars) (sym e) (λ k j. elim (Contains-push_cases p l k j) [ inl a ↦ r.within k a | inr s ↦ subst (IsUpTo h.vars) s up ])

pub probe-settled : (h : Held) (p new : List Literal) (b : Bool) (l : Literal) → IsRoot h p b → b ≡ false → new ≡ p ++ l ∷ [] → AreSettled (live_clauses h.slots) new (length p)
probe-settled h p new b l r f e = subst (λ x. AreSettled (live_clauses h.slots) x (length p)) (sym e) (λ c i. settled-grown p (l ∷ []) (length p) c (omega arith) (rest-settled p (length p) c ((root-propagated h p b r f).at_rest c i)))

agrees-push : (cs : List (List Literal)) (a : List Bool) (p new : List Literal) (l : Literal) → new ≡ p ++ l ∷ [] → Agrees cs a p → literal_value a l ≡ true → Agrees cs a new
agrees-push cs a p new l e g t = subst (Agrees cs a) (sym e) (λ k j o. elim (Contains-push_cases p l k j) [ inl b ↦ g k b o | inr s ↦ subst (λ x. literal_value a x ≡ true) s t ])

pub probed-more : (h : Held) (p new q : List Literal) (b rests : Bool) (l : Literal) → IsRoot h p b → IsUpTo h.vars l → new ≡ p ++ l ∷ [] → IsExtended h.vars (live_clauses h.slots) new q → MatchBool rests (IsPropagated q (live_clauses h.slots)) (IsRefuted (live_clauses h.slots) new)
    → MatchBool rests (IsProbed h p l q) (IsFailed (live_clauses h.slots) l)
probed-more h p new q b rests l r up e f answer =
    let cs = live_clauses h.slots in
    let own : Contains new l = subst (λ xs. Contains xs l) (sym e) (Contains-push p l) in
    let cases : (t : Bool) → MatchBool t (IsPropagated q cs) (IsRefuted cs new) → MatchBool t (IsProbed h p l q) (IsFailed cs l) =
    λ (t : Bool). elim t as (λ x. MatchBool x (IsPropagated q cs) (IsRefuted cs new) → MatchBool x (IsProbed h p l q) (IsFailed cs l)) [
      | true ↦ λ s. record {
        propagated = s;
        own = subst (λ xs. Contains xs l) (sym f.is) (Contains-append_left new f.more l own);
        within = f.within (probe-within h p new b l r up e);
        forced = λ a m v. f.forced a m (agrees-push cs a p new l e (r.implied a m) v);
        occur = λ m k j. elim (Contains-append_cases new f.more k (subst (λ xs. Contains xs k) f.is j)) [
          | inl x ↦ elim (Contains-push_cases p l k (subst (λ xs. Contains xs k) e x)) [ inl y ↦ inr (m k y) | inr s ↦ inl (sym s) ]
          | inr x ↦ inr (f.occur k x)
        ];
      }
      | false ↦ λ s a m v. s a m (agrees-push cs a p new l e (r.implied a m) v)
    ] in
    cases rests answer

pub grown-more : (vars : ℕ) (cs : List (List Literal)) (p new q : List Literal) (l : Literal) → new ≡ p ++ l ∷ [] → IsExtended vars cs new q → IsGrown p q
grown-more vars cs p new q l e f = (l ∷ f.more, f.is ∙ (ap (λ xs. xs ++ f.more) e ∙ append_assoc p (l ∷ []) f.more))

pub grown-none : (p : List Literal) → IsGrown p p
grown-none p = ([], sym (append-nil p))

-- a failed literal's negation is implied
pub failed-implied : (cs : List (List Literal)) (l : Literal) → IsFailed cs l → Implies cs (negation l ∷ [])
failed-implied cs l f a m =
    let v : literal_value a l ≡ false = false_from_ne_true (literal_value a l) (λ t. f a m t) in
    true_by a (negation l ∷ []) (negation l) (Contains-first (negation l) []) (negation_true a l v)

-- after a rewrite
pub root-moved : (h u : Held) (p : List Literal) (b : Bool) → IsRoot h p b → u.vars ≡ h.vars → ((id : ℕ) (c : List Literal) → id < length h.slots → clause_of u.slots id ≡ Some c → clause_of h.slots id ≡ Some c)
    → ((a : List Bool) → IsSatisfied a (live_clauses u.slots) → Agrees (live_clauses u.slots) a p) → (NoModel (live_clauses h.slots) → NoModel (live_clauses u.slots)) → IsRootBelow u (length h.slots) p b
root-moved h u p b r vars ids implied none =
    let cases : (t : Bool) → cond t (NoModel (live_clauses h.slots)) (IsPropagated p (live_clauses h.slots)) → cond t (NoModel (live_clauses u.slots)) (AreSettledBelow u.slots (length h.slots) p (length p)) =
    λ (t : Bool). elim t as (λ x. cond x (NoModel (live_clauses h.slots)) (IsPropagated p (live_clauses h.slots)) → cond x (NoModel (live_clauses u.slots)) (AreSettledBelow u.slots (length h.slots) p (length p))) [
      | true ↦ λ s. none s
      | false ↦ λ s id c less e. rest-settled p (length p) c (s.at_rest c (live-at h.slots id c (ids id c less e)))
    ] in
    record {
      within = subst (λ n. AreUpTo n p) (sym vars) r.within;
      implied = implied;
      state = cases b r.state;
    }

-- a model of the clauses after a literal was fixed is one of those before, but for that literal
fixed-back : (h : Held) (l : Literal) (a : List Bool) → IsStore h → IsUpTo h.vars l → Implies (live_clauses h.slots) (l ∷ []) → IsSatisfied a (live_clauses (new-slots l h)) → IsSatisfied (repaired (set_repair l (l ∷ []) ∷ []) a) (live_clauses h.slots)
fixed-back h l a s up imp m =
    let same : h.vars + 0 ≡ h.vars = add-zero h.vars in
    ((fixing_keeps (labelled_of h) (labelled_of (changed_by (fixing_of (l ∷ []) h) h)) l (store-variables h s) up.0 (Bends-implied (labelled_of h) l imp) (store-fixed l h) (store-paid l h s up) same).down a m).0

pub root-fixed : (h u : Held) (l : Literal) (p : List Literal) (b : Bool) (L : State → State → List Repair → Type 0) → IsStore h → IsUpTo h.vars l → Implies (live_clauses h.slots) (l ∷ []) → IsRoot h p b → u.vars ≡ h.vars → u.slots ≡ new-slots l h → IsRun L h u → IsRootBelow u (length h.slots) p b
root-fixed h u l p b L s up imp r vars slots run =
    root-moved h u p b r vars run.ids
    (λ a m k i o.
    let m2 : IsSatisfied a (live_clauses (new-slots l h)) = subst (λ x. IsSatisfied a (live_clauses x)) slots m in
    let o2 : occurs k.variable (live_clauses (new-slots l h)) ≡ true = subst (λ x. occurs k.variable (live_clauses x) ≡ true) slots o in
    let far : k.variable ≢ l.variable = λ e. true≢false (sym o2 ∙ (ap (λ (v : ℕ). occurs v (live_clauses (new-slots l h))) e ∙ occurs-no-more h l)) in
    let was = r.implied (repaired (set_repair l (l ∷ []) ∷ []) a) (fixed-back h l a s up imp m2) k i (still-occurs h l k.variable o2) in
    sym ((forced l a up.0).others k (r.within k i).0 far) ∙ was)
    (λ none a m. none (repaired (set_repair l (l ∷ []) ∷ []) a) (fixed-back h l a s up imp (subst (λ x. IsSatisfied a (live_clauses x)) slots m)))

-- more clauses came
pub root-more : (h u : Held) (p : List Literal) (b : Bool) (L : State → State → List Repair → Type 0) → IsRoot h p b → u.vars ≡ h.vars → IsMentioned (live_clauses h.slots) p → Entails (live_clauses u.slots) (live_clauses h.slots) → IsRun L h u → IsRootBelow u (length h.slots) p b
root-more h u p b L r vars named back run =
    root-moved h u p b r vars run.ids
    (λ a m k i o. r.implied a (back a m) k i (named k i))
    (λ none a m. none a (back a m))

pub push-longer : (p new : List Literal) (l : Literal) (n : ℕ) → new ≡ p ++ l ∷ [] → n ≡ length p → n ≤ length new
push-longer p new l n e f = let size : length new ≡ length p + 1 = ap (λ (xs : List Literal). length xs) e ∙ length-append p (l ∷ []) in omega (arith, size, f)
