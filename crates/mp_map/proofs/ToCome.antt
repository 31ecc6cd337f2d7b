-- The least entries that a map can still get: each sets the first variable, by one empty clause.
use Rattle.std.proofs.Common.{◌≡◌, ◌≢◌, ◌≤◌, ◌+◌, ℕ, zero, suc, cond, true, false, List, [], ◌∷◌, ◌++◌, All, length, replicate, refl, ap, subst, sym, ◌∙◌, arith, length-append}
use Rattle.std.specs.Prelude.{nat_eq, nat_lt}
use Rattle.std.proofs.lemmas.List.{length-replicate}
use Rattle.std.proofs.lemmas.List.Elements.{All-nil, All-replicate, All-from_recursion}
use Rattle.mp_logic.specs.Labelled.{IsProper}
use Rattle.mp_logic.specs.Literal.{IsUpTo}
use Rattle.mp_logic.specs.declared.instances.Repair.{Repair}
use Rattle.mp_map.specs.Entries.{fits_version, repairs_of}
use Rattle.mp_map.specs.declared.maps.Entry.{Entry}
use Rattle.mp_map.proofs.Joins.{Fits, repairs_of-append}

abbrev pub first_repair : Repair
first_repair = record { sets = record { variable = 1; negative = false } ∷ []; clause = [] }

abbrev pub first_entry : Entry
first_entry = record { sets = record { variable = 1; negative = false } ∷ []; clauses = [] ∷ [] }

some_first : first_repair.sets ≢ []
some_first e = cc

first_proper : (i : ℕ) → 1 ≤ i → IsProper i first_repair
first_proper i h = record {
  sets_normal = refl;
  clause_normal = refl;
  sets_some = some_first;
  sets_within = All-from_recursion (IsUpTo i) first_repair.sets ((omega arith, h), tt);
  clause_within = All-nil (IsUpTo i);
}

fits_one : (version : ℕ) → fits_version version 1 ≡ true
fits_one version = elim (nat_eq version 1) as (λ t. cond t (nat_eq 1 1) (nat_lt 0 1) ≡ true) [ true ↦ refl | false ↦ refl ]

repairs_of-first : (n : ℕ) → repairs_of (replicate n first_entry) ≡ replicate n first_repair
repairs_of-first zero = refl
repairs_of-first (suc n) = ap (λ (v : List Repair). first_repair ∷ v) (repairs_of-first n)

pub length-first : (n : ℕ) → length (repairs_of (replicate n first_entry)) ≡ n
length-first n = ap length (repairs_of-first n) ∙ length-replicate n first_repair

pub length-with_first : (es : List Entry) (n : ℕ) → length (repairs_of (es ++ replicate n first_entry)) ≡ length (repairs_of es) + n
length-with_first es n = ap length (repairs_of-append es (replicate n first_entry)) ∙ length-append (repairs_of es) (repairs_of (replicate n first_entry)) ∙ ap (λ (k : ℕ). length (repairs_of es) + k) (length-first n)

pub proper-first : (i n : ℕ) → 1 ≤ i → All (IsProper i) (repairs_of (replicate n first_entry))
proper-first i n h = subst (All (IsProper i)) (sym (repairs_of-first n)) (All-replicate (IsProper i) n first_repair (first_proper i h))

pub fits-first : (version n : ℕ) → All (Fits version) (replicate n first_entry)
fits-first version n = All-replicate (Fits version) n first_entry (fits_one version)
