-- Signatures of clauses: 64 bits that tell most clauses apart.
use Rattle.std.specs.Prelude.{◌≡◌, ◌↔◌, ℕ, ◌%◌, ◌^◌, ◌<◌, List, [], ◌∷◌, Option, Some, None, Contains, bit_or}
use Rattle.std.specs.Int.{bit_at}
use Rattle.mp_logic.specs.Literal.{Literal}
use Rattle.mp_logic.specs.Sets.{Among}
use Rattle.mp_clauses.specs.Places.{place_of}

-- the bit of a literal is that of its place modulo 64
abbrev pub bit_of : Literal → ℕ
bit_of l = 2 ^ (place_of l % 64)

-- a bit for each literal
abbrev pub signature_of : List Literal → ℕ
signature_of [] = 0
signature_of (l ∷ c) = bit_or (bit_of l) (signature_of c)

abbrev pub signature_at : Option (List Literal) → ℕ
signature_at None = 0
signature_at (Some c) = signature_of c

-- the law: a bit is set exactly where a literal has it
abbrev pub SignatureBits : Type 0
SignatureBits = (c : List Literal) (j : ℕ) → (bit_at (signature_of c) j ≡ 1) ↔ ((l : Literal) × Contains c l × (place_of l % 64 ≡ j))

-- the law: a clause with all literals of another has all bits of its signature
abbrev pub SignatureOfPart : Type 0
SignatureOfPart = (c d : List Literal) → Among c d → bit_or (signature_of c) (signature_of d) ≡ signature_of d
