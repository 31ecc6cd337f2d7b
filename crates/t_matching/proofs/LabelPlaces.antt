-- The places of the cost literals of a store.
use Rattle.std.proofs.Common.{◌≡◌, ◌≢◌, ℕ, ◌+◌, ◌<◌, ◌≤◌, Bool, true, false, List, [], ◌∷◌, ◌++◌, length, get_or, drop, refl, sym, ◌∙◌, ap, subst, arith, inl, inr, Contains, add-one, drop-cons, append_assoc, map, leb}
use Rattle.std.specs.Prelude.{Option, Some, None, is_some, MatchOption}
use Rattle.std.proofs.lemmas.Bool.{cases_eq, ne_eqb, and_from, and_parts, leb-true, le-leb, true≢false}
use Rattle.mp_clauses.specs.Tables.{rising_from}
use Rattle.mp_clauses.proofs.Found.{rising-more}
use Rattle.std.proofs.lemmas.List.{append-nil, drop_all}
use Rattle.mp_logic.specs.Literal.{Literal}
use Rattle.mp_logic.specs.Keeping.{State}
use Rattle.mp_logic.specs.declared.instances.Cost.{Cost}
use Rattle.mp_logic.proofs.Members.{Contains-none, Contains-first, Contains-later, Contains-cases}
use Rattle.mp_clauses.specs.Places.{place_of, literal_at, is_in, no_repeats}
use Rattle.mp_clauses.specs.Weighing.{costs_from, costs_of, weight_in}
use Rattle.mp_clauses.proofs.Pricing.{place-literal}
use Rattle.mp_store.specs.Held.{Held, labelled_of}
use Rattle.mp_turns.specs.Waiting.{all_queued}
use Rattle.mp_turns.proofs.Queueing.{queued-all-first}
use Rattle.t_matching.specs.LabelPairs.{label_places}

abbrev places : List Cost → List ℕ
places cs = map (λ (c : Cost). place_of c.lit) cs

-- one weight more
cons-zero : (i w : ℕ) (ws : List ℕ) → w ≡ 0 → costs_from i (w ∷ ws) ≡ costs_from (i + 1) ws
cons-zero i w ws e = rw e refl

cons-some : (i w : ℕ) (ws : List ℕ) → w ≢ 0 → places (costs_from i (w ∷ ws)) ≡ i ∷ places (costs_from (i + 1) ws)
cons-some i w ws n = rw (ne_eqb w 0 n) (ap (λ (p : ℕ). p ∷ places (costs_from (i + 1) ws)) (place-literal i))

places-low : (i : ℕ) (w : List ℕ) (k : ℕ) → k < i → is_in k (places (costs_from i w)) ≡ false
places-low i [] k h = refl
places-low i (w ∷ ws) k h =
    let rest = places-low (i + 1) ws k (omega arith) in
    elim (cases_eq w 0) [
      | inl e ↦ ap (λ (cs : List Cost). is_in k (places cs)) (cons-zero i w ws e) ∙ rest
      | inr n ↦ ap (is_in k) (cons-some i w ws n) ∙ rw (ne_eqb i k (λ e. omega arith), rest) refl
    ]

places-once : (i : ℕ) (w : List ℕ) → no_repeats (places (costs_from i w)) ≡ true
places-once i [] = refl
places-once i (w ∷ ws) =
    let rest = places-once (i + 1) ws in
    let own = places-low (i + 1) ws i (omega arith) in
    elim (cases_eq w 0) [
      | inl e ↦ ap (λ (cs : List Cost). no_repeats (places cs)) (cons-zero i w ws e) ∙ rest
      | inr n ↦ ap no_repeats (cons-some i w ws n) ∙ rw (own, rest) refl
    ]

pub label-once : (w : List ℕ) → no_repeats (map (λ (c : Cost). place_of c.lit) (costs_of w)) ≡ true
label-once w = places-once 0 w

places-rising : (i : ℕ) (w : List ℕ) → rising_from i (places (costs_from i w)) ≡ true
places-rising i [] = refl
places-rising i (w ∷ ws) =
    let rest = places-rising (i + 1) ws in
    elim (cases_eq w 0) [
      | inl e ↦ ap (λ (cs : List Cost). rising_from i (places cs)) (cons-zero i w ws e) ∙ rising-more (i + 1) i (places (costs_from (i + 1) ws)) (omega arith) rest
      | inr n ↦ ap (rising_from i) (cons-some i w ws n) ∙ and_from (leb i i) (rising_from (i + 1) (places (costs_from (i + 1) ws))) (le-leb i i (omega arith)) rest
    ]

rising-least : (i : ℕ) (taken : List ℕ) (item : ℕ) (rest : List ℕ) → rising_from i (taken ++ item ∷ rest) ≡ true → i ≤ item
rising-least i [] item rest h = leb-true i item (and_parts (leb i item) (rising_from (item + 1) rest) h).0
rising-least i (x ∷ taken) item rest h =
    let parts = and_parts (leb i x) (rising_from (x + 1) (taken ++ item ∷ rest)) h in
    let low = leb-true i x parts.0 in
    let high = rising-least (x + 1) taken item rest parts.1 in
    omega (arith, low, high)

rising-before : (i : ℕ) (taken : List ℕ) (item : ℕ) (rest : List ℕ) (p : ℕ) → rising_from i (taken ++ item ∷ rest) ≡ true → Contains taken p → p < item
rising-before i [] item rest p h m = absurd (Contains-none p m)
rising-before i (x ∷ taken) item rest p h m =
    let parts = and_parts (leb i x) (rising_from (x + 1) (taken ++ item ∷ rest)) h in
    elim (Contains-cases x taken p m) [
      | inl e ↦ let high = rising-least (x + 1) taken item rest parts.1 in omega (arith, high, e)
      | inr r ↦ rising-before (x + 1) taken item rest p parts.1 r
    ]

-- the labels before one are lower
pub label-before : (s : Held) (taken : List ℕ) (item : ℕ) (rest : List ℕ) → label_places (labelled_of s) ≡ taken ++ item ∷ rest → (p : ℕ) → Contains taken p → p < item
label-before s taken item rest e p m = rising-before 0 taken item rest p (subst (λ (xs : List ℕ). rising_from 0 xs ≡ true) e (places-rising 0 s.weights)) m

listed : (cs : List Cost) (c : Cost) → Contains cs c → Contains (places cs) (place_of c.lit)
listed [] c i = absurd (Contains-none c i)
listed (d ∷ cs) c i = elim (Contains-cases d cs c i) [ inl e ↦ subst (λ (x : Cost). Contains (places (d ∷ cs)) (place_of x.lit)) (sym e) (Contains-first (place_of d.lit) (places cs)) | inr r ↦ Contains-later (place_of d.lit) (places cs) (place_of c.lit) (listed cs c r) ]

pub cost-listed : (s : State) (c : Cost) → Contains s.costs c → Contains (label_places s) (place_of c.lit)
cost-listed s c i = listed s.costs c i

pub queue-whole : (h : Held) (queue : List ℕ) → queue ≡ all_queued [] (label_places (labelled_of h)) → queue ≡ label_places (labelled_of h)
queue-whole h queue e = e ∙ queued-all-first (label_places (labelled_of h)) (label-once h.weights)

-- the list so far, and what is made of the rest
abbrev pub AreListed : List ℕ → ℕ → List ℕ → Type 0
AreListed w i made = made ++ map (λ (c : Cost). place_of c.lit) (costs_from i (drop i w)) ≡ map (λ (c : Cost). place_of c.lit) (costs_of w)

rest-weights : (w : List ℕ) (i : ℕ) → i < length w → drop i w ≡ weight_in w (literal_at i) ∷ drop (i + 1) w
rest-weights w i h =
    let at : get_or w i 0 ≡ weight_in w (literal_at i) = ap (λ k. get_or w k 0) (sym (place-literal i)) in
    let front : drop i w ≡ get_or w i 0 ∷ drop (i + 1) w = rw (add-one, drop-cons w i 0) in
    front ∙ ap (λ (x : ℕ). x ∷ drop (i + 1) w) at

pub listed-first : (w made : List ℕ) → made ≡ [] → AreListed w 0 made
listed-first w made e = rw e refl

pub listed-none : (w : List ℕ) (i : ℕ) (made : List ℕ) → i < length w → weight_in w (literal_at i) ≡ 0 → AreListed w i made → AreListed w (i + 1) made
listed-none w i made h z inv =
    let own : costs_from i (drop i w) ≡ costs_from (i + 1) (drop (i + 1) w) = ap (costs_from i) (rest-weights w i h) ∙ cons-zero i (weight_in w (literal_at i)) (drop (i + 1) w) z in
    ap (λ (cs : List Cost). made ++ places cs) (sym own) ∙ inv

pub listed-some : (w : List ℕ) (i : ℕ) (made new : List ℕ) → i < length w → weight_in w (literal_at i) ≢ 0 → new ≡ made ++ i ∷ [] → AreListed w i made → AreListed w (i + 1) new
listed-some w i made new h n is inv =
    let own : places (costs_from i (drop i w)) ≡ i ∷ places (costs_from (i + 1) (drop (i + 1) w)) = ap (λ (x : List ℕ). places (costs_from i x)) (rest-weights w i h) ∙ cons-some i (weight_in w (literal_at i)) (drop (i + 1) w) n in
    ap (λ (x : List ℕ). x ++ places (costs_from (i + 1) (drop (i + 1) w))) is ∙ (append_assoc made (i ∷ []) (places (costs_from (i + 1) (drop (i + 1) w))) ∙ (ap (λ (x : List ℕ). made ++ x) (sym own) ∙ inv))

pub listed-done : (w : List ℕ) (i : ℕ) (made : List ℕ) → length w ≤ i → AreListed w i made → made ≡ map (λ (c : Cost). place_of c.lit) (costs_of w)
listed-done w i made h inv =
    let none : drop i w ≡ [] = drop_all i w h in
    sym (append-nil made) ∙ (ap (λ (x : List ℕ). made ++ places (costs_from i x)) (sym none) ∙ inv)

-- what a test of a place says
pub found-none : (w : List ℕ) (p : ℕ) (found : Option Literal) (b : Bool) → b ≡ is_some found → b ≡ false → MatchOption found (weight_in w (literal_at p) ≡ 0) (λ l. (l ≡ literal_at p) × (weight_in w l ≢ 0)) → weight_in w (literal_at p) ≡ 0
found-none w p None b e f m = m
found-none w p (Some l) b e f m = absurd (true≢false (sym e ∙ f))

pub found-some : (w : List ℕ) (p : ℕ) (found : Option Literal) (b : Bool) → b ≡ is_some found → b ≡ true → MatchOption found (weight_in w (literal_at p) ≡ 0) (λ l. (l ≡ literal_at p) × (weight_in w l ≢ 0)) → weight_in w (literal_at p) ≢ 0
found-some w p None b e f m = absurd (true≢false (sym f ∙ e))
found-some w p (Some l) b e f m = subst (λ (k : Literal). weight_in w k ≢ 0) m.0 m.1
