-- What the signatures of clauses say of clashes.
use Rattle.std.proofs.Common.{◌≡◌, ◌≢◌, ℕ, ◌+◌, ◌<◌, ◌≤◌, ◌%◌, true, false, cond, List, [], ◌∷◌, length, get_or, drop, drop-cons, add-one, suc, refl, sym, ◌∙◌, ap, arith, inl, inr, Contains, bit_and, bit_or}
use Rattle.std.specs.Prelude.{Option, Some, None, is_some, ◌==◌}
use Rattle.std.specs.Int.{bit_at}
use Rattle.std.proofs.lemmas.Bool.{cases_Bool, eq-eqb, ne_eqb, false≢true}
use Rattle.std.proofs.lemmas.List.{drop_all}
use Rattle.std.proofs.lemmas.Nat.{or_comm}
use Rattle.std.proofs.lemmas.Nat.Bits.{bit_at_and, bit_at-zero}
use Rattle.mp_logic.specs.Literal.{Literal, negation}
use Rattle.mp_logic.proofs.Members.{Contains-none, Contains-first, Contains-later, Contains-cases}
use Rattle.mp_clauses.specs.Places.{place_of}
use Rattle.mp_clauses.specs.Signatures.{bit_of, signature_of, signature_at}
use Rattle.mp_clauses.proofs.Signed.{signature_bits, or-assoc, or-zero}
use Rattle.mp_store.specs.Clashing.{clash_beside, slot_clashes, negations_beside}
use Rattle.mp_store.proofs.Clashes.{clash-found}

-- the negation of each literal beside the variable is there
beside-in : (v : ℕ) (c : List Literal) (k : Literal) → k.variable ≢ v → Contains c k → Contains (negations_beside v c) (negation k)
beside-in v [] k n i = absurd (Contains-none k i)
beside-in v (m ∷ c) k n i =
    elim (Contains-cases m c k i) [
      | inl e ↦ let other : (m.variable == v) ≡ false = ne_eqb m.variable v (λ s. n (ap (λ (x : Literal). x.variable) e ∙ s)) in rw (other, e) (Contains-first (negation m) (negations_beside v c))
      | inr r ↦
          let rest = beside-in v c k n r in
          elim (m.variable == v) as (λ b. Contains (cond b (negations_beside v c) (negation m ∷ negations_beside v c)) (negation k)) [ true ↦ rest | false ↦ Contains-later (negation m) (negations_beside v c) (negation k) rest ]
    ]

-- a walk over the literals in hand gathers their bits
pub gathered : (v : ℕ) (c : List Literal) (i : ℕ) (m : Literal) (bits all : ℕ) → i < length c → m ≡ get_or c i m → bit_or bits (signature_of (negations_beside v (drop i c))) ≡ all
    → (m.variable ≡ v → bit_or bits (signature_of (negations_beside v (drop (i + 1) c))) ≡ all) × (m.variable ≢ v → (b : ℕ) → b ≡ bit_of (negation m) → bit_or (bit_or bits b) (signature_of (negations_beside v (drop (i + 1) c))) ≡ all)
gathered v c i m bits all lt e h =
    let rest = negations_beside v (drop (suc i) c) in
    let old : bit_or bits (signature_of (cond (m.variable == v) rest (negation m ∷ rest))) ≡ all = rw (drop-cons c i m lt, ← e) at h in (
      λ s. let same : (m.variable == v) ≡ true = eq-eqb m.variable v s in rw add-one (rw same at old),
      λ n b is. let other : (m.variable == v) ≡ false = ne_eqb m.variable v n in rw (add-one, is) (or-assoc bits (bit_of (negation m)) (signature_of rest) ∙ (rw other at old)),
    )

pub gathered-all : (v : ℕ) (c : List Literal) (i bits all : ℕ) → length c ≤ i → bit_or bits (signature_of (negations_beside v (drop i c))) ≡ all → bits ≡ all
gathered-all v c i bits all le h = sym (or_comm bits 0 ∙ or-zero bits) ∙ (rw (drop_all i c le) at h)

-- a clause that clashes has one of these bits
clash-bit : (v : ℕ) (c d : List Literal) → bit_and (signature_of d) (signature_of (negations_beside v c)) ≡ 0 → clash_beside v c d ≡ false
clash-bit v c d z =
    elim (cases_Bool (clash_beside v c d)) [
      | inl t ↦
          let k = clash-found v c d t in
          let j : ℕ = place_of (negation k.0) % 64 in
          let own = (signature_bits d j).1 (negation k.0, k.3, refl) in
          let asked = (signature_bits (negations_beside v c) j).1 (negation k.0, beside-in v c k.0 k.1 k.2, refl) in
          let both = bit_at_and (signature_of d) (signature_of (negations_beside v c)) j in
          let none : bit_at (bit_and (signature_of d) (signature_of (negations_beside v c))) j ≡ 0 = ap (λ x. bit_at x j) z ∙ bit_at-zero j in
          absurd (omega (arith, both, none, own, asked))
      | inr f ↦ f
    ]

pub no-bits : (v : ℕ) (c : List Literal) (slot : Option (List Literal)) (own asked : ℕ) → is_some slot ≡ true → own ≡ signature_at slot → asked ≡ signature_of (negations_beside v c) → bit_and own asked ≡ 0 → slot_clashes v c slot ≡ false
no-bits v c None own asked live e f z = absurd (false≢true live)
no-bits v c (Some d) own asked live e f z = clash-bit v c d (rw (e, f) at z)
