-- Joined clauses, the repairs of two labels, and the cost that goes.
use Rattle.std.proofs.Common.{◌≡◌, ◌⊎◌, ℕ, true, false, List, [], ◌∷◌, ◌++◌, length, refl, sym, subst, arith, inl, inr, Contains, All, ltb}
use Rattle.std.specs.Prelude.{◌==◌, map}
use Rattle.std.proofs.lemmas.Bool.{cases_Bool, and_from, lt-ltb, eqb-true}
use Rattle.std.proofs.lemmas.List.Elements.{Contains-append_cases}
use Rattle.std.proofs.lemmas.List.Sorted.{Contains-permutation, IsPermutation-sym}
use Rattle.mp_logic.specs.Literal.{Literal, negation, IsUpTo}
use Rattle.mp_logic.specs.Normal.{rises, IsTautology}
use Rattle.mp_logic.specs.Labelled.{IsProper}
use Rattle.mp_logic.specs.Rewrites.{set_repair}
use Rattle.mp_logic.specs.LabelMatching.{matching_repairs}
use Rattle.mp_logic.specs.declared.instances.Repair.{Repair}
use Rattle.mp_logic.proofs.Members.{Contains-none, Contains-first, Contains-later, Contains-cases, Contains-one, All-from_contained}
use Rattle.mp_logic.proofs.Members.{Contains-map}
use Rattle.mp_logic.proofs.Rising.{rising_is_normal}
use Rattle.mp_store.specs.Held.{Held}
use Rattle.mp_clauses.specs.Slots.{live_clauses, has_empty}
use Rattle.mp_store.specs.Soundness.{IsStore}
use Rattle.mp_store.proofs.Fixes.{one-literal}
use Rattle.mp_clauses.proofs.Found.{any-found}
use Rattle.t_matching.specs.Joins.{IsJoinOf, AreJoinsOf, AreInOrder}
use Rattle.t_matching.proofs.Labels.{live-within, live-normal}

-- each join comes from a clause, and each clause has its join
pub joins-from : (c : List Literal) (m : Literal) (ds rs : List (List Literal)) (r : List Literal) → AreJoinsOf c m ds rs → Contains rs r → (d : List Literal) × Contains ds d × IsJoinOf c d m r × (IsTautology r → ⊥)
joins-from c m [] rs r h i = absurd (Contains-none r (subst (λ (x : List (List Literal)). Contains x r) h i))
joins-from c m (d ∷ ds) rs r h i =
    elim h.2 [
      | inl t ↦ let w = joins-from c m ds rs r t.1 i in (w.0, Contains-later d ds w.0 w.1, w.2, w.3)
      | inr t ↦ elim (Contains-cases h.0 t.1.0 r (subst (λ (x : List (List Literal)). Contains x r) t.1.1 i)) [
        | inl e ↦ (d, Contains-first d ds, subst (IsJoinOf c d m) (sym e) h.1, λ u. t.0 (subst IsTautology e u))
        | inr j ↦ let w = joins-from c m ds t.1.0 r t.1.2 j in (w.0, Contains-later d ds w.0 w.1, w.2, w.3)
      ]
    ]

pub joins-has : (c : List Literal) (m : Literal) (ds rs : List (List Literal)) (d : List Literal) → AreJoinsOf c m ds rs → Contains ds d → (r : List Literal) × IsJoinOf c d m r × (IsTautology r ⊎ Contains rs r)
joins-has c m [] rs d h i = absurd (Contains-none d i)
joins-has c m (x ∷ ds) rs d h i =
    elim (Contains-cases x ds d i) [
      | inl e ↦ (
        h.0,
        subst (λ (y : List Literal). IsJoinOf c y m h.0) (sym e) h.1,
        elim h.2 [
          | inl t ↦ inl t.0
          | inr t ↦ inr (subst (λ (y : List (List Literal)). Contains y h.0) (sym t.1.1) (Contains-first h.0 t.1.0))
        ],
      )
      | inr j ↦ elim h.2 [
        | inl t ↦ joins-has c m ds rs d t.1 j
        | inr t ↦
            let w = joins-has c m ds t.1.0 d t.1.2 j in
            (w.0, w.1, elim w.2 [ inl u ↦ inl u | inr v ↦ inr (subst (λ (y : List (List Literal)). Contains y w.0) (sym t.1.1) (Contains-later h.0 t.1.0 w.0 v)) ])
      ]
    ]

-- a join of clauses within the variables is within them, normal, and not empty
pub join-normal : (n : ℕ) (c d : List Literal) (m : Literal) (r : List Literal) → ((k : Literal) → Contains c k → IsUpTo n k) → ((k : Literal) → Contains d k → IsUpTo n k) → IsJoinOf c d m r → (IsTautology r → ⊥) → All (IsUpTo n) r × (rises 0 r ≡ true)
join-normal n c d m r pc pd h t =
    let up : (k : Literal) → Contains r k → IsUpTo n k = λ k i. elim ((h.each k).0 i) [ inl a ↦ pc k a | inr b ↦ pd k b.0 ] in
    (All-from_contained (IsUpTo n) r up, (rising_is_normal r (λ k i. (up k i).0)).0 h.rising t)

nonempty : (r : List Literal) (l : Literal) → Contains r l → (length r == 0) ≡ true → ⊥
nonempty [] l i e = Contains-none l i
nonempty (x ∷ r) l i e = let n = eqb-true (length (x ∷ r)) 0 e in absurd (omega (arith, n))

pub none-empty : (rs : List (List Literal)) (l : Literal) → ((r : List Literal) → Contains rs r → Contains r l) → has_empty rs ≡ false
none-empty rs l h =
    elim (cases_Bool (has_empty rs)) [
      | inr f ↦ f
      | inl t ↦ let w = any-found (λ (c : List Literal). length c == 0) rs t in absurd (nonempty w.0 l (h w.0 w.1) w.2)
    ]

-- the lists in clause order have the same clauses
pub order-has : (cs ds : List (List Literal)) (c : List Literal) → AreInOrder cs ds → Contains cs c → Contains ds c
order-has cs ds c h i = Contains-permutation cs ds c h.moved i

pub order-only : (cs ds : List (List Literal)) (c : List Literal) → AreInOrder cs ds → Contains ds c → Contains cs c
order-only cs ds c h i = Contains-permutation ds cs c (IsPermutation-sym cs ds h.moved) i

-- repairs
pub proper-repair : (n : ℕ) (u : Literal) (c : List Literal) → IsUpTo n u → All (IsUpTo n) c → rises 0 c ≡ true → IsProper n (set_repair u c)
proper-repair n u c h a r = record {
  sets_normal = and_from (ltb 0 u.variable) true (lt-ltb 0 u.variable (omega arith)) refl;
  clause_normal = r;
  sets_some = λ e. absurd (cc);
  sets_within = one-literal n u h;
  clause_within = a;
}

pub own-repair : (n : ℕ) (u : Literal) → IsUpTo n u → IsProper n (set_repair u (u ∷ []))
own-repair n u h = proper-repair n u (u ∷ []) h (one-literal n u h) (and_from (ltb 0 u.variable) true (lt-ltb 0 u.variable (omega arith)) refl)

pub split-proper : (h : Held) (l m : Literal) (cs ds : List (List Literal)) → IsStore h → IsUpTo h.vars l → IsUpTo h.vars m → ((c : List Literal) → Contains cs c → Contains (live_clauses h.slots) c) → ((d : List Literal) → Contains ds d → Contains (live_clauses h.slots) d) → (r : Repair) → Contains (matching_repairs l m cs ds) r → IsProper h.vars r
split-proper h l m cs ds s ul um lc ld r i =
    let tail = set_repair (negation m) (negation m ∷ []) ∷ (set_repair (negation l) (negation l ∷ []) ∷ []) in
    elim (Contains-append_cases (map (set_repair m) ds) (map (set_repair l) cs ++ tail) r i) [
      | inl a ↦ let w = Contains-map (set_repair m) ds r a in rw w.2 (proper-repair h.vars m w.0 um (live-within h w.0 s (ld w.0 w.1)) (live-normal h w.0 s (ld w.0 w.1)))
      | inr b ↦ elim (Contains-append_cases (map (set_repair l) cs) tail r b) [
        | inl a ↦ let w = Contains-map (set_repair l) cs r a in rw w.2 (proper-repair h.vars l w.0 ul (live-within h w.0 s (lc w.0 w.1)) (live-normal h w.0 s (lc w.0 w.1)))
        | inr t ↦ elim (Contains-cases (set_repair (negation m) (negation m ∷ [])) (set_repair (negation l) (negation l ∷ []) ∷ []) r t) [
          | inl e ↦ rw e (own-repair h.vars (negation m) um)
          | inr o ↦ rw (Contains-one (set_repair (negation l) (negation l ∷ [])) r o) (own-repair h.vars (negation l) ul)
        ]
      ]
    ]
