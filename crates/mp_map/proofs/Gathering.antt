-- The clauses of a line, gathered word by word.
use Rattle.std.proofs.Common.{◌≡◌, ◌<◌, Bool, true, false, cond, codes, length, arith, List, [], ◌∷◌, ◌++◌, Option, Some, None, refl, ap, sym, ◌∙◌, append_assoc, ℕ}
use Rattle.std.specs.Option.{option_map}
use Rattle.std.specs.Str.{bytes_eq}
use Rattle.mp_logic.specs.Literal.{Literal}
use Rattle.mp_map.specs.Reading.{clauses_in, literal_in, put_first, put_into_first}

-- these literals in front of the first clause
abbrev pub begun_with : List Literal → Option (List (List Literal)) → Option (List (List Literal))
begun_with [] rest = rest
begun_with (l ∷ c) rest = put_into_first (Some l) (begun_with c rest)

-- whole clauses, and one that has begun, before the rest of a line
abbrev pub gathered : List (List Literal) → List Literal → Option (List (List Literal)) → Option (List (List Literal))
gathered made begun rest = option_map (λ cs. made ++ cs) (begun_with begun rest)

begun_with-push : (c : List Literal) (l : Literal) (rest : Option (List (List Literal))) → begun_with (c ++ l ∷ []) rest ≡ begun_with c (put_into_first (Some l) rest)
begun_with-push [] l rest = refl
begun_with-push (k ∷ c) l rest = ap (put_into_first (Some k)) (begun_with-push c l rest)

begun_with-closed : (c : List Literal) (rest : Option (List (List Literal))) → begun_with c (put_first (Some []) rest) ≡ put_first (Some c) rest
begun_with-closed [] rest = refl
begun_with-closed (l ∷ c) rest =
    ap (put_into_first (Some l)) (begun_with-closed c rest)
    ∙ elim rest as (λ o. put_into_first (Some l) (put_first (Some c) o) ≡ put_first (Some (l ∷ c)) o) [ None ↦ refl | Some cs ↦ refl ]

begun_with-none : (c : List Literal) → begun_with c None ≡ None
begun_with-none [] = refl
begun_with-none (l ∷ c) = ap (put_into_first (Some l)) (begun_with-none c)

begun_with-end : (l : Literal) (c : List Literal) → begun_with (l ∷ c) (Some []) ≡ None
begun_with-end l [] = refl
begun_with-end l (k ∷ c) = ap (put_into_first (Some l)) (begun_with-end k c)

gathered-literal : (made : List (List Literal)) (begun : List Literal) (l : Literal) (rest : Option (List (List Literal))) → gathered made (begun ++ l ∷ []) rest ≡ gathered made begun (put_into_first (Some l) rest)
gathered-literal made begun l rest = ap (option_map (λ cs. made ++ cs)) (begun_with-push begun l rest)

gathered-zero : (made : List (List Literal)) (begun : List Literal) (rest : Option (List (List Literal))) → gathered (made ++ begun ∷ []) [] rest ≡ gathered made begun (put_first (Some []) rest)
gathered-zero made begun rest =
    let step : (o : Option (List (List Literal))) → option_map (λ cs. (made ++ begun ∷ []) ++ cs) o ≡ option_map (λ cs. made ++ cs) (put_first (Some begun) o) =
    λ (o : Option (List (List Literal))). elim o as (λ o. option_map (λ cs. (made ++ begun ∷ []) ++ cs) o ≡ option_map (λ cs. made ++ cs) (put_first (Some begun) o)) [
      | None ↦ refl
      | Some cs ↦ ap (λ (v : List (List Literal)). Some v) (append_assoc made (begun ∷ []) cs)
    ] in
    step rest ∙ ap (option_map (λ cs. made ++ cs)) (sym (begun_with-closed begun rest))

gathered-none : (made : List (List Literal)) (begun : List Literal) → gathered made begun None ≡ None
gathered-none made begun = ap (option_map (λ cs. made ++ cs)) (begun_with-none begun)

gathered-end : (made : List (List Literal)) (l : Literal) (c : List Literal) → gathered made (l ∷ c) (Some []) ≡ None
gathered-end made l c = ap (option_map (λ cs. made ++ cs)) (begun_with-end l c)

-- the steps of gathering, at the words that are left

pub at_zero : (most : ℕ) (made : List (List Literal)) (begun : List Literal) (w : List ℕ) (ws : List (List ℕ)) → bytes_eq w (codes "0") ≡ true
    → gathered made begun (clauses_in most (w ∷ ws)) ≡ gathered (made ++ begun ∷ []) [] (clauses_in most ws)
at_zero most made begun w ws e =
    ap (λ (t : Bool). gathered made begun (cond t (put_first (Some []) (clauses_in most ws)) (put_into_first (literal_in most w) (clauses_in most ws)))) e
    ∙ sym (gathered-zero made begun (clauses_in most ws))

pub at_literal : (most : ℕ) (made : List (List Literal)) (begun : List Literal) (w : List ℕ) (ws : List (List ℕ)) (l : Literal) → bytes_eq w (codes "0") ≡ false → literal_in most w ≡ Some l
    → gathered made begun (clauses_in most (w ∷ ws)) ≡ gathered made (begun ++ l ∷ []) (clauses_in most ws)
at_literal most made begun w ws l e f =
    ap (λ (t : Bool). gathered made begun (cond t (put_first (Some []) (clauses_in most ws)) (put_into_first (literal_in most w) (clauses_in most ws)))) e
    ∙ ap (λ (o : Option Literal). gathered made begun (put_into_first o (clauses_in most ws))) f
    ∙ sym (gathered-literal made begun l (clauses_in most ws))

pub at_none : (most : ℕ) (made : List (List Literal)) (begun : List Literal) (w : List ℕ) (ws : List (List ℕ)) → bytes_eq w (codes "0") ≡ false → literal_in most w ≡ None
    → gathered made begun (clauses_in most (w ∷ ws)) ≡ None
at_none most made begun w ws e f =
    ap (λ (t : Bool). gathered made begun (cond t (put_first (Some []) (clauses_in most ws)) (put_into_first (literal_in most w) (clauses_in most ws)))) e
    ∙ ap (λ (o : Option Literal). gathered made begun (put_into_first o (clauses_in most ws))) f
    ∙ gathered-none made begun

pub at_end : (most : ℕ) (made : List (List Literal)) (begun : List Literal) → 0 < length begun → gathered made begun (clauses_in most []) ≡ None
at_end most made [] h = absurd (omega (arith, h))
at_end most made (l ∷ c) h = gathered-end made l c
