-- Signatures: a bit for each literal.
use Rattle.std.proofs.Common.{◌≡◌, ℕ, ◌+◌, ◌-◌, ◌<◌, ◌≤◌, ◌%◌, ◌^◌, List, [], ◌∷◌, length, get_or, drop, drop-cons, add-one, zero, suc, refl, sym, ◌∙◌, ap, subst, arith, inl, inr, Contains, bit_or, max}
use Rattle.std.specs.Prelude.{◌↔◌}
use Rattle.std.specs.Int.Bits.{or_self}
use Rattle.std.proofs.lemmas.Nat.{or_comm}
use Rattle.std.specs.Int.{bit_at}
use Rattle.std.proofs.lemmas.Nat.Bits.{bit_at_or, bit_at-zero, bit_at-lt, bit_at-pow_same, bit_at-pow_other, same_from_bits}
use Rattle.std.proofs.lemmas.Bool.{cases_eq}
use Rattle.std.proofs.lemmas.List.{drop_all}
use Rattle.mp_logic.specs.Literal.{Literal}
use Rattle.mp_logic.specs.Sets.{Among}
use Rattle.mp_logic.proofs.Members.{Contains-none, Contains-first, Contains-later, Contains-cases}
use Rattle.mp_clauses.specs.Places.{place_of}
use Rattle.mp_clauses.specs.Signatures.{bit_of, signature_of, SignatureBits, SignatureOfPart}

pub or-assoc : (a b c : ℕ) → bit_or (bit_or a b) c ≡ bit_or a (bit_or b c)
or-assoc a b c = same_from_bits (bit_or (bit_or a b) c) (bit_or a (bit_or b c)) (λ i.
    let p = bit_at_or (bit_or a b) c i in
    let q = bit_at_or a b i in
    let r = bit_at_or a (bit_or b c) i in
    let s = bit_at_or b c i in
    omega (arith, p, q, r, s))

pub or-zero : (a : ℕ) → bit_or 0 a ≡ a
or-zero a = same_from_bits (bit_or 0 a) a (λ i. let p = bit_at_or 0 a i in let q = bit_at-zero i in omega (arith, p, q))

bit-in : (l : Literal) (d : List Literal) → Contains d l → bit_or (bit_of l) (signature_of d) ≡ signature_of d
bit-in l [] m = absurd (Contains-none l m)
bit-in l (y ∷ d) m =
    elim (Contains-cases y d l m) [
      | inl e ↦ ap (λ k. bit_or (bit_of k) (bit_or (bit_of y) (signature_of d))) e ∙ sym (or-assoc (bit_of y) (bit_of y) (signature_of d)) ∙ ap (λ x. bit_or x (signature_of d)) (or_self (bit_of y))
      | inr r ↦ sym (or-assoc (bit_of l) (bit_of y) (signature_of d)) ∙ ap (λ x. bit_or x (signature_of d)) (or_comm (bit_of l) (bit_of y)) ∙ or-assoc (bit_of y) (bit_of l) (signature_of d) ∙ ap (bit_or (bit_of y)) (bit-in l d r)
    ]

pub signature_of_part : SignatureOfPart
signature_of_part [] d h = or-zero (signature_of d)
signature_of_part (l ∷ c) d h = or-assoc (bit_of l) (signature_of c) (signature_of d) ∙ ap (bit_or (bit_of l)) (signature_of_part c d (λ k m. h k (Contains-later l c k m))) ∙ bit-in l d (h l (Contains-first l c))

pub signature_bits : SignatureBits
signature_bits [] j = (λ e. absurd (let z = bit_at-zero j in omega (arith, e, z)), λ w. absurd (Contains-none w.0 w.1))
signature_bits (l ∷ c) j =
    let whole = bit_at_or (bit_of l) (signature_of c) j in
    let rest = signature_bits c j in
    let high = bit_at-lt (bit_of l) j in
    let low = bit_at-lt (signature_of c) j in (
      λ e. elim (cases_eq (bit_at (signature_of c) j) 1) [
        | inl t ↦ let w = rest.0 t in (w.0, Contains-later l c w.0 w.1, w.2)
        | inr n ↦ elim (cases_eq (place_of l % 64) j) [
          | inl s ↦ (l, Contains-first l c, s)
          | inr o ↦ let z = bit_at-pow_other (place_of l % 64) j (λ f. o (sym f)) in absurd (omega (arith, whole, e, z, low))
        ]
      ],
      λ w. elim (Contains-cases l c w.0 w.1) [
        | inl s ↦
            let here : place_of l % 64 ≡ j = ap (λ k. place_of k % 64) (sym s) ∙ w.2 in
            let set : bit_at (bit_of l) j ≡ 1 = rw (← here) (bit_at-pow_same (place_of l % 64)) in
            omega (arith, whole, set, low)
        | inr m ↦ let set = rest.1 (w.0, m, w.2) in omega (arith, whole, set, high)
      ],
    )

-- a walk over a clause
pub bits-more : (c : List Literal) (i : ℕ) (d : Literal) (bits b all : ℕ) → i < length c → bit_or bits (signature_of (drop i c)) ≡ all → b ≡ bit_of (get_or c i d) → bit_or (bit_or bits b) (signature_of (drop (i + 1) c)) ≡ all
bits-more c i d bits b all lt h e =
    let old = rw (drop-cons c i d) at h in
    rw (add-one, e) (or-assoc bits (bit_of (get_or c i d)) (signature_of (drop (suc i) c)) ∙ old)

pub bits-end : (c : List Literal) (i bits all : ℕ) → length c ≤ i → bit_or bits (signature_of (drop i c)) ≡ all → bits ≡ all
bits-end c i bits all le h = sym (or_comm bits 0 ∙ or-zero bits) ∙ (rw (drop_all i c le) at h)
