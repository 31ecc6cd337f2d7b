-- A turn of pair probing.
use Rattle.std.proofs.Common.{◌≡◌, ◌≢◌, ◌⊎◌, ℕ, ◌-◌, ◌*◌, ◌≤◌, Bool, true, false, List, [], ◌∷◌, ◌++◌, map, length, refl, sym, ◌∙◌, ap, subst, arith, inl, inr, Contains}
use Rattle.std.specs.Prelude.{MatchBool, ◌==◌}
use Rattle.std.proofs.lemmas.Bool.{cases_Bool, cases_eq, ne_eqb, true≢false, false_from_ne_true}
use Rattle.std.proofs.lemmas.List.{length-map}
use Rattle.std.proofs.Math.Nat.{mul-le-mul_left}
use Rattle.mp_logic.specs.Literal.{Literal, negation, IsUpTo}
use Rattle.mp_logic.specs.Keeping.{State}
use Rattle.mp_logic.specs.declared.instances.Cost.{Cost}
use Rattle.mp_logic.specs.declared.instances.Repair.{Repair}
use Rattle.mp_logic.proofs.General.{Entails-among}
use Rattle.mp_logic.proofs.Members.{Contains-none, Contains-first}
use Rattle.mp_clauses.specs.Places.{place_of, literal_at, is_in, no_repeats}
use Rattle.mp_clauses.specs.Slots.{live_clauses}
use Rattle.mp_clauses.specs.Weighing.{costs_of, weight_in}
use Rattle.mp_clauses.proofs.Found.{is_in-by, is_in-contains}
use Rattle.mp_clauses.proofs.Pricing.{literal-place}
use Rattle.mp_store.specs.Held.{Held, labelled_of, IsUntouched}
use Rattle.mp_store.specs.Rewriting.{after}
use Rattle.mp_store.specs.Soundness.{IsStore}
use Rattle.mp_store.specs.Measures.{is_covered, uncovered}
use Rattle.mp_store.specs.Techniques.{IsRun}
use Rattle.mp_store.proofs.Runs.{run-same}
use Rattle.mp_store.proofs.Measured.{occurs-by, occurs-found}
use Rattle.mp_turns.specs.Clauses.{replacing}
use Rattle.mp_turns.specs.Turning.{IsTurning}
use Rattle.mp_turns.specs.Turned.{IsTurn}
use Rattle.mp_turns.specs.declared.turn.Turned.TheVariants.{Changed}
use Rattle.mp_turns.proofs.OwnIdle.{own-idle}
use Rattle.t_failed.specs.Pairs.{label_places, AddsPairs, implied_pairs, pair_probing}
use Rattle.t_failed.specs.Partners.{IsPartner, AreLabels, AreUnits, AreFound, pair_clause, places_beside}
use Rattle.t_failed.specs.Propagating.{IsRoot, IsRootBelow, IsMentioned}
use Rattle.t_failed.proofs.LabelLists.{labels-once, cost-listed, cost-some, label-within, others-few, others-has}
use Rattle.t_failed.proofs.PairClauses.{pairs_of, pair-second, pair-length, pairs-added, AreAdded, ArePaired, pairs-run, label-apart, covered-stay, pair-covered, pairs-lower, pairs-smaller}
use Rattle.t_failed.proofs.Roots.{root-more}

adds-itself : (s : State) → AddsPairs s s []
adds-itself s = record { costs = record { vars = refl; costs = refl; offset = refl }; repairs = refl; stay = λ c i. i; pairs = λ c i. inl i }

adds-twice : (s t u : State) (x y : List Repair) → AddsPairs s t x → AddsPairs t u y → AddsPairs s u (x ++ y)
adds-twice s t u x y f g = record {
  costs = record { vars = g.costs.vars ∙ f.costs.vars; costs = g.costs.costs ∙ f.costs.costs; offset = g.costs.offset ∙ f.costs.offset };
  repairs = ap (λ xs. xs ++ y) f.repairs ∙ g.repairs;
  stay = λ c i. g.stay c (f.stay c i);
  pairs = λ c i. elim (g.pairs c i) [
    | inl j ↦ f.pairs c j
    | inr w ↦ inr (w.0, w.1, subst (λ ps. Contains ps w.0) f.costs.costs w.2, subst (λ ps. Contains ps w.1) f.costs.costs w.3, w.4)
  ];
}

waits-or-idle : (h : Held) (i : ℕ) → Contains (label_places (labelled_of h)) i ⊎ pair_probing.IsIdle h i
waits-or-idle h i =
    elim (cases_Bool (is_in i (label_places (labelled_of h)))) [
      | inl t ↦ inl (is_in-contains (label_places (labelled_of h)) i t)
      | inr f ↦ inr (λ p m e. absurd (true≢false (sym (is_in-by (label_places (labelled_of h)) i (subst (Contains (label_places (labelled_of h))) e (cost-listed (labelled_of h).costs p m))) ∙ f)))
    ]

pub pair_probing-sound : IsTurning pair_probing
pair_probing-sound = record {
  itself = adds-itself;
  twice = adds-twice;
  stays_itself = λ h u e. tt;
  stays_twice = λ m n a b c x y. tt;
  counted = λ h s. refl;
  distinct = λ h s. labels-once h;
  others = λ h i s. waits-or-idle h i;
  untouched = λ h u i e idle. let P : Held → Type 0 = λ x. implied_pairs.IsIdle (labelled_of x) i in subst P (sym e) idle;
  ended = λ h s n idle p i. idle (place_of p.lit) p i refl;
  idle = λ h first rest s e own. own-idle implied_pairs (labelled_of h) first rest e (ap no_repeats (sym e) ∙ labels-once h) own;
}

pub untouched-run : (h u : Held) → IsUntouched h u → IsRun AddsPairs h u
untouched-run h u e = run-same AddsPairs h u adds-itself e

-- where no partner was found
pub idle-found : (h : Held) (item : ℕ) (b : Literal) (ls : List Literal) → b ≡ literal_at item → AreFound h b ls → ls ≡ [] → pair_probing.IsIdle h item
idle-found h item b ls at f none p i e q j n open_pair =
    let same : p.lit ≡ b = sym (literal-place p.lit) ∙ (ap literal_at e ∙ sym at) in
    let partner : IsPartner h b q.lit = record { weighs = cost-some h.weights q j; other = subst (λ x. q.lit ≢ x) same n; open_pair = subst (λ x. is_covered (live_clauses h.slots) x q.lit ≡ false) same open_pair } in
    let lacks : Contains ls q.lit → ⊥ = λ m. Contains-none q.lit (subst (λ xs. Contains xs q.lit) none m) in
    elim f.all [
      | inl w ↦ (w.0, w.1.propagated, subst (λ x. Contains w.0 (negation x)) (sym same) w.1.own, λ m. lacks (w.1.all q.lit partner m))
      | inr a ↦ absurd (lacks (a q.lit partner))
    ]

pub idle-none : (h : Held) (item : ℕ) → weight_in h.weights (literal_at item) ≡ 0 → pair_probing.IsIdle h item
idle-none h item z p i e = absurd (cost-some h.weights p i (ap (weight_in h.weights) (sym (literal-place p.lit) ∙ ap literal_at e) ∙ z))

-- what was found may be added
pub found-paired : (h : Held) (b : Literal) (ls : List Literal) → weight_in h.weights b ≢ 0 → AreFound h b ls → ArePaired h b ls
found-paired h b ls n f = record { weighs = n; each = f.each; implied = f.implied }

pub found-within : (h : Held) (b : Literal) (ls : List Literal) → IsStore h → weight_in h.weights b ≢ 0 → AreFound h b ls → (l : Literal) → Contains ls l → IsUpTo h.vars l × (l.variable ≢ b.variable)
found-within h b ls s n f l i = let p = f.each l i in (label-within h l s p.weighs, label-apart h b l s n p.weighs p.other)

-- afterwards the label has no partner
own-after : (h u : Held) (item : ℕ) (b : Literal) (ls : List Literal) → b ≡ literal_at item → AreFound h b ls → AreAdded h u b ls → pair_probing.IsIdle u item
own-after h u item b ls at f a p i e q j n open_pair =
    let same : p.lit ≡ b = sym (literal-place p.lit) ∙ (ap literal_at e ∙ sym at) in
    let was : Contains (costs_of h.weights) q = subst (λ ps. Contains ps q) a.costs j in
    let free : is_covered (live_clauses u.slots) b q.lit ≡ false = subst (λ x. is_covered (live_clauses u.slots) x q.lit ≡ false) same open_pair in
    let before : is_covered (live_clauses h.slots) b q.lit ≡ false = false_from_ne_true (is_covered (live_clauses h.slots) b q.lit) (λ t. true≢false (sym (covered-stay (live_clauses h.slots) (live_clauses u.slots) b q.lit a.stay t) ∙ free)) in
    let partner : IsPartner h b q.lit = record { weighs = cost-some h.weights q was; other = subst (λ x. q.lit ≢ x) same n; open_pair = before } in
    let lacks : Contains ls q.lit → ⊥ = λ m. true≢false (sym (pair-covered h u b ls q.lit a m) ∙ free) in
    elim f.all [
      | inl w ↦
          let d = w.1 in (
            w.0,
            record {
              consistent = d.propagated.consistent;
              at_rest = λ c k. elim (a.only c k) [
                | inl old ↦ d.propagated.at_rest c old
                | inr new ↦ inl (new.0, subst (λ xs. Contains xs new.0) (sym new.2) (pair-second b new.0), d.derived new.0 new.1)
              ];
            },
            subst (λ x. Contains w.0 (negation x)) (sym same) d.own,
            λ m. lacks (d.all q.lit partner m),
          )
      | inr all ↦ absurd (lacks (all q.lit partner))
    ]

pub pairs-turned : (h u : Held) (item : ℕ) (b l : Literal) (ls labels : List Literal) (again : List ℕ) → b ≡ literal_at item → AreFound h b ls → ArePaired h b ls → AreAdded h u b ls → Contains ls l → AreLabels h labels → again ≡ places_beside item labels → IsTurn pair_probing item h u again Changed
pairs-turned h u item b l ls labels again at f p a i listed e =
    let size = pairs-lower h u b ls l a p i in
    let all : ℕ = length (label_places (labelled_of h)) in
    let fall : ℕ = uncovered (live_clauses h.slots) (labelled_of h).costs - uncovered (live_clauses u.slots) (labelled_of u).costs in
    let one : 1 ≤ fall = omega (arith, size) in
    let wide : all * 1 ≤ all * fall = mul-le-mul_left {m = 1} {n = fall} all one in
    let many : length (map place_of labels) ≡ all = ap (λ (xs : List ℕ). length xs) listed in
    let same : length (map place_of labels) ≡ length labels = length-map labels place_of in
    let few = others-few item labels in
    let put : length again ≡ length (places_beside item labels) = ap (λ (xs : List ℕ). length xs) e in
    let own = own-after h u item b ls at f a in
    let now : label_places (labelled_of u) ≡ label_places (labelled_of h) = ap (λ (ps : List Cost). map (λ (c : Cost). place_of c.lit) ps) a.costs in
    let counted : length (label_places (labelled_of u)) ≡ all = ap (λ (xs : List ℕ). length xs) now in
    inr (record {
      kept = λ k q. elim (cases_eq k item) [
        | inl s ↦ inr (subst (pair_probing.IsIdle u) (sym s) own)
        | inr n ↦ elim (waits-or-idle u k) [
          | inr idle ↦ inr idle
          | inl m ↦ inl (subst (λ xs. Contains xs k) (sym e) (others-has item k labels (subst (λ xs. Contains xs k) (now ∙ sym listed) m) n))
        ]
      ];
      own = inr own;
      falls = omega (arith, size);
      few = omega (arith, wide, many, same, few, put);
      fewer = omega (arith, counted);
      smaller = pairs-smaller h u b ls l a p i;
    })

-- what stays with the turn
pub pairs-root : (h u : Held) (b : Literal) (ls p : List Literal) (r : Bool) → ArePaired h b ls → IsUntouched (after (replacing [] (pairs_of b ls) []) h) u → AreAdded h u b ls → IsRoot h p r → IsMentioned (live_clauses h.slots) p → IsRootBelow u (length h.slots) p r
pairs-root h u b ls p r w e a root named = root-more h u p r AddsPairs root a.vars named (Entails-among (live_clauses u.slots) (live_clauses h.slots) a.stay) (pairs-run h u b ls w e)

pub pairs-mentioned : (h u : Held) (b : Literal) (ls p : List Literal) → AreAdded h u b ls → IsMentioned (live_clauses h.slots) p → IsMentioned (live_clauses u.slots) p
pairs-mentioned h u b ls p a m l i =
    let o = occurs-found l.variable (live_clauses h.slots) (m l i) in
    occurs-by l.variable (live_clauses u.slots) o.clause o.literal (a.stay o.clause o.live) o.has o.variable

pub pairs-labels : (h u : Held) (b : Literal) (ls labels : List Literal) → AreAdded h u b ls → AreLabels h labels → AreLabels u labels
pairs-labels h u b ls labels a e = e ∙ sym (ap (λ (ps : List Cost). map (λ (c : Cost). place_of c.lit) ps) a.costs)

pub pairs-units : (h u : Held) (b : Literal) (ls units : List Literal) → AreAdded h u b ls → AreUnits h units → AreUnits u units
pairs-units h u b ls units a s = record {
  some = λ l i. a.stay (l ∷ []) (s.some l i);
  all = λ l i. elim (a.only (l ∷ []) i) [
    | inl old ↦ s.all l old
    | inr new ↦ absurd (let two : 1 ≡ 2 = ap (λ (xs : List Literal). length xs) new.2 ∙ pair-length b new.0 in omega (arith, two))
  ];
}

-- whether a list has a literal
pub none-or-some : (ls : List Literal) (b : Bool) → b ≡ (length ls == 0) → MatchBool b (ls ≡ []) ((l : Literal) × Contains ls l)
none-or-some [] b e = rw e refl
none-or-some (l ∷ ls) b e =
    let other : b ≡ false = e ∙ ne_eqb (length (l ∷ ls)) 0 (λ z. omega (arith, z)) in
    rw other (l, Contains-first l ls)

pub is-none : (ls xs : List Literal) (b : Bool) → b ≡ true → xs ≡ ls → MatchBool b (xs ≡ []) ((l : Literal) × Contains xs l) → ls ≡ []
is-none ls xs b t e m = sym e ∙ subst (λ x. MatchBool x (xs ≡ []) ((l : Literal) × Contains xs l)) t m

pub has-some : (ls xs : List Literal) (b : Bool) → b ≡ false → xs ≡ ls → MatchBool b (xs ≡ []) ((l : Literal) × Contains xs l) → (l : Literal) × Contains ls l
has-some ls xs b f e m =
    let w : (l : Literal) × Contains xs l = subst (λ x. MatchBool x (xs ≡ []) ((l : Literal) × Contains xs l)) f m in
    (w.0, subst (λ ys. Contains ys w.0) e w.1)

pub label-up : (h : Held) (l : Literal) → IsStore h → weight_in h.weights l ≢ 0 → IsUpTo h.vars l
label-up h l s n = label-within h l s n

pub kept-root : (h : Held) (old new : List Literal) (b now : Bool) → IsRoot h old b → new ≡ old → now ≡ b → IsRoot h new now
kept-root h old new b now r e f = subst (λ x. IsRoot h x now) (sym e) (subst (IsRoot h old) (sym f) r)

pub kept-mentioned : (cs : List (List Literal)) (old new : List Literal) → IsMentioned cs old → new ≡ old → IsMentioned cs new
kept-mentioned cs old new m e = subst (IsMentioned cs) (sym e) m

-- all of a change, from what its steps say
pub record IsPairing (h u : Held) (item : ℕ) (b : Literal) (ls : List Literal) : Type 0 where
  pub paired : ArePaired h b ls
  pub untouched : IsUntouched (after (replacing [] (pairs_of b ls) []) h) u
  pub added : AreAdded h u b ls

pub pairing : (h u : Held) (item : ℕ) (b : Literal) (ls put : List Literal) → h.refuted ≡ false → weight_in h.weights b ≢ 0 → AreFound h b ls → put ≡ ls → IsUntouched (after (replacing [] (map (pair_clause b) put) []) h) u → IsPairing h u item b ls
pairing h u item b ls put n weighs f same e =
    let own : IsUntouched (after (replacing [] (pairs_of b ls) []) h) u = subst (λ xs. IsUntouched (after (replacing [] (map (pair_clause b) xs) []) h) u) same e in
    record { paired = found-paired h b ls weighs f; untouched = own; added = pairs-added h u b ls n own }

pub put-first : (old more new : List ℕ) (whole : List ℕ) → old ≡ [] → new ≡ old ++ whole → new ≡ whole
put-first old more new whole e f = f ∙ ap (λ xs. xs ++ whole) e
