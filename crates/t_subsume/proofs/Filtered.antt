-- What the tables of a filter go on to tell, and what they rule out.
use Rattle.std.proofs.Common.{◌≡◌, ◌≢◌, ◌⊎◌, ℕ, ◌+◌, ◌<◌, ◌≤◌, Bool, true, false, cond, List, [], ◌∷◌, length, get_or, set, refl, sym, ◌∙◌, ap, subst, arith, inl, inr, Contains, bit_or}
use Rattle.std.specs.Prelude.{Option, Some, is_some, nat_lt}
use Rattle.std.specs.Int.Bits.{or_self}
use Rattle.std.proofs.lemmas.Bool.{cases_Bool, cases_eq, cases_lt, false≢true, true≢false}
use Rattle.std.proofs.lemmas.Nat.{or_comm}
use Rattle.std.proofs.lemmas.List.{get_or_default, length-set, get_or-set_same, get_or-set_other}
use Rattle.std.proofs.lemmas.List.Elements.{All-contains}
use Rattle.mp_logic.specs.Literal.{Literal}
use Rattle.mp_logic.specs.Keeping.{State}
use Rattle.mp_logic.specs.Normal.{rises}
use Rattle.mp_logic.specs.Sets.{Among}
use Rattle.mp_logic.specs.declared.instances.Repair.{Repair}
use Rattle.mp_clauses.specs.Places.{place_of}
use Rattle.mp_clauses.specs.Slots.{clause_of, is_live, live_clauses}
use Rattle.mp_clauses.specs.Signatures.{signature_of}
use Rattle.mp_clauses.proofs.Signed.{signature_of_part, or-assoc}
use Rattle.mp_store.specs.Held.{Held}
use Rattle.mp_store.specs.Soundness.{IsStore}
use Rattle.mp_store.specs.Techniques.{IsRun}
use Rattle.mp_store.proofs.KeptFixing.{live-at}
use Rattle.t_subsume.specs.Containment.{same_literal, embeds, HasNoHolderBelow}
use Rattle.t_subsume.specs.Filtering.{CoversAt, slot_of, IsTold, Tell, Tells, IsCleared}
use Rattle.t_subsume.specs.Shortening.{lit_at}
use Rattle.t_subsume.specs.declared.filter.Filter.{Filter}
use Rattle.t_subsume.proofs.Embedding.{same-literals, among-embeds}
use Rattle.t_subsume.proofs.Subsuming.{same_some}

-- a part is no longer than the whole, and as long only where it is the whole
embeds-length : (c d : List Literal) → embeds c d ≡ true → length c ≤ length d
embeds-length [] d h = omega arith
embeds-length (x ∷ c) [] h = absurd (false≢true h)
embeds-length (x ∷ c) (y ∷ d) h =
    let last : (b : Bool) → cond b (embeds c d) (embeds (x ∷ c) d) ≡ true → length c ≤ length d =
    λ (t : Bool). elim t as (λ b. cond b (embeds c d) (embeds (x ∷ c) d) ≡ true → length c ≤ length d) [ true ↦ λ g. embeds-length c d g | false ↦ λ g. let more = embeds-length (x ∷ c) d g in omega (arith, more) ] in
    let first : (b : Bool) → cond b false (cond (same_literal x y) (embeds c d) (embeds (x ∷ c) d)) ≡ true → length c ≤ length d =
    λ (t : Bool). elim t as (λ b. cond b false (cond (same_literal x y) (embeds c d) (embeds (x ∷ c) d)) ≡ true → length c ≤ length d) [ true ↦ λ g. absurd (false≢true g) | false ↦ λ g. last (same_literal x y) g ] in
    let rest = first (nat_lt x.variable y.variable) h in
    omega (arith, rest)

embeds-whole : (c d : List Literal) → embeds c d ≡ true → length c ≡ length d → c ≡ d
embeds-whole [] [] h e = refl
embeds-whole [] (y ∷ d) h e = absurd (omega (arith, e))
embeds-whole (x ∷ c) [] h e = absurd (false≢true h)
embeds-whole (x ∷ c) (y ∷ d) h e =
    let last : (b : Bool) → same_literal x y ≡ b → cond b (embeds c d) (embeds (x ∷ c) d) ≡ true → x ∷ c ≡ y ∷ d =
    λ (t : Bool). elim t as (λ b. same_literal x y ≡ b → cond b (embeds c d) (embeds (x ∷ c) d) ≡ true → x ∷ c ≡ y ∷ d) [
      | true ↦ λ s g. ap (λ k. k ∷ c) (same-literals x y s) ∙ ap (λ k. y ∷ k) (embeds-whole c d g (omega (arith, e)))
      | false ↦ λ s g. absurd (let more = embeds-length (x ∷ c) d g in omega (arith, more, e))
    ] in
    let first : (b : Bool) → cond b false (cond (same_literal x y) (embeds c d) (embeds (x ∷ c) d)) ≡ true → x ∷ c ≡ y ∷ d =
    λ (t : Bool). elim t as (λ b. cond b false (cond (same_literal x y) (embeds c d) (embeds (x ∷ c) d)) ≡ true → x ∷ c ≡ y ∷ d) [ true ↦ λ g. absurd (false≢true g) | false ↦ λ g. last (same_literal x y) refl g ] in
    first (nat_lt x.variable y.variable) h

-- the tables go on to tell of what a run leaves
told-before : (L : State → State → List Repair → Type 0) (from upto : ℕ) (h u : Held) → upto ≤ length h.slots → IsRun L h u → (id : ℕ) (c : List Literal) → IsTold from upto u.slots id c → IsTold from upto h.slots id c
told-before L from upto h u within r id c t =
    let high = t.high in
    record { low = t.low; high = high; clause = r.ids id c (omega (arith, within, high)) t.clause }

pub tells-run : (L : State → State → List Repair → Type 0) (f : Filter) (h u : Held) → Tells f h.slots → IsRun L h u → Tells f u.slots
tells-run L f h u t r =
    let within = t.within in
    let next = r.next in
    let was = told-before L f.from f.upto h u within r in
    record {
      within = omega (arith, within, next);
      room = t.room;
      wide = λ id c told long l m. t.wide id c (was id c told) long l m;
      pairs = λ id c told two. t.pairs id c (was id c told) two;
      twins = λ i j c a b n two. t.twins i j c (was i c a) (was j c b) n two;
    }

-- where they clear literals, none of the clauses has them all but the own one
cleared-none : (h : Held) (f : Filter) (c : List Literal) (own : ℕ) (counted : Bool) → IsStore h → rises 0 c ≡ true → Tells f h.slots → IsCleared f.wide.items f.pairs.items c counted → (counted ≡ true → IsTold f.from f.upto h.slots own c) → (j : ℕ) (d : List Literal) → f.from ≤ j → j < f.upto → clause_of h.slots j ≡ Some d → j ≢ own → Among c d → ⊥
cleared-none h f c own counted s rc t clear known j d low high e n m =
    let normal : rises 0 d ≡ true = All-contains (λ x. rises 0 x ≡ true) (live_clauses h.slots) d s.labelled.hard_normal (live-at h.slots j d e) in
    let part = among-embeds c d 0 0 rc normal m in
    let short = embeds-length c d part in
    let many = clear.many in
    let told : IsTold f.from f.upto h.slots j d = record { low = low; high = high; clause = e } in
    elim (cases_lt 2 (length d)) [
      | inl long ↦
          let l = clear.hidden.0 in
          clear.hidden.2 (λ lt.
          let whole = t.wide j d told (omega (arith, long)) l (m l clear.hidden.1) lt in
          let mask = get_or f.wide.items (place_of l) 0 in
          ap (bit_or (signature_of c)) (sym whole) ∙ sym (or-assoc (signature_of c) (signature_of d) mask) ∙ ap (λ x. bit_or x mask) (signature_of_part c d m) ∙ whole)
      | inr le ↦
          let two : length c ≡ 2 = omega (arith, short, many, le) in
          let same : c ≡ d = embeds-whole c d part (omega (arith, short, many, le)) in
          let own-told : IsTold f.from f.upto h.slots j c = subst (IsTold f.from f.upto h.slots j) (sym same) told in
          let few = clear.pair two in
          elim (cases_Bool counted) [
            | inl y ↦
                let twin = t.twins j own c own-told (known y) n two in
                let most : get_or f.pairs.items (slot_of (length f.pairs.items) c) 0 ≤ 1 = subst (λ b. get_or f.pairs.items (slot_of (length f.pairs.items) c) 0 ≤ cond b 1 0) y few in
                omega (arith, twin, most)
            | inr z ↦
                let one = t.pairs j c own-told two in
                let most : get_or f.pairs.items (slot_of (length f.pairs.items) c) 0 ≤ 0 = subst (λ b. get_or f.pairs.items (slot_of (length f.pairs.items) c) 0 ≤ cond b 1 0) z few in
                omega (arith, one, most)
          ]
    ]

pub raised : (h : Held) (f : Filter) (c : List Literal) (own least : ℕ) (counted : Bool) → IsStore h → rises 0 c ≡ true → Tells f h.slots → IsCleared f.wide.items f.pairs.items c counted → (counted ≡ true → IsTold f.from f.upto h.slots own c) → f.from ≤ least → HasNoHolderBelow least h.slots c own → HasNoHolderBelow f.upto h.slots c own
raised h f c own least counted s rc t clear known low none j d lt e n m =
    elim (cases_lt j least) [
      | inl below ↦ none j d below e n m
      | inr above ↦ cleared-none h f c own counted s rc t clear known j d (omega (arith, above, low)) lt e n m
    ]

-- bits put to those of a place
pub covers-before : (masks : List ℕ) (at bits p s : ℕ) → CoversAt masks p s → CoversAt (set masks at (bit_or (get_or masks at 0) bits)) p s
covers-before masks at bits p s h lt =
    let long = length-set masks at (bit_or (get_or masks at 0) bits) in
    let within : p < length masks = omega (arith, lt, long) in
    elim (cases_eq p at) [
      | inl e ↦
          let own = get_or-set_same masks at (bit_or (get_or masks at 0) bits) 0 (omega (arith, within, e)) in
          let was : bit_or s (get_or masks at 0) ≡ get_or masks at 0 = subst (λ i. bit_or s (get_or masks i 0) ≡ get_or masks i 0) e (h within) in
          rw (e, own) (sym (or-assoc s (get_or masks at 0) bits) ∙ ap (λ x. bit_or x bits) was)
      | inr n ↦ rw (get_or-set_other masks at p (bit_or (get_or masks at 0) bits) 0 n) (h within)
    ]

pub covers-own : (masks : List ℕ) (at bits : ℕ) → CoversAt (set masks at (bit_or (get_or masks at 0) bits)) at bits
covers-own masks at bits lt =
    let long = length-set masks at (bit_or (get_or masks at 0) bits) in
    let w = get_or masks at 0 in
    rw (get_or-set_same masks at (bit_or w bits) 0 (omega (arith, lt, long)))
    (ap (bit_or bits) (or_comm w bits) ∙ sym (or-assoc bits bits w) ∙ ap (λ x. bit_or x w) (or_self bits) ∙ or_comm bits w)

-- one clause more
told-less : (from id : ℕ) (slots : List (Option (List Literal))) (i : ℕ) (c : List Literal) → i ≢ id → IsTold from (id + 1) slots i c → IsTold from id slots i c
told-less from id slots i c n t = let high = t.high in record { low = t.low; high = omega (arith, high, n); clause = t.clause }

pub tell-dead : (from id : ℕ) (masks counts : List ℕ) (slots : List (Option (List Literal))) → id < length slots → is_live slots id ≡ false → Tell from id masks counts slots → Tell from (id + 1) masks counts slots
tell-dead from id masks counts slots lt dead t =
    let less : (i : ℕ) (c : List Literal) → IsTold from (id + 1) slots i c → IsTold from id slots i c = λ i c told. told-less from id slots i c (λ e. true≢false (sym (ap is_some (ap (clause_of slots) (sym e) ∙ told.clause)) ∙ dead)) told in
    record {
      within = omega (arith, lt);
      room = t.room;
      wide = λ i c told. t.wide i c (less i c told);
      pairs = λ i c told. t.pairs i c (less i c told);
      twins = λ i j c a b. t.twins i j c (less i c a) (less j c b);
    }

pub tell-live : (from id bits : ℕ) (d : List Literal) (masks counts wider more : List ℕ) (slots : List (Option (List Literal))) → id < length slots → clause_of slots id ≡ Some d → bits ≡ signature_of d → length more ≡ length counts → ((p s : ℕ) → CoversAt masks p s → CoversAt wider p s) → ((i : ℕ) → get_or counts i 0 ≤ get_or more i 0) → (3 ≤ length d → (l : Literal) → Contains d l → CoversAt wider (place_of l) bits) → (length d ≡ 2 → 2 ≤ get_or more (slot_of (length counts) d) 0 ⊎ get_or counts (slot_of (length counts) d) 0 < get_or more (slot_of (length counts) d) 0) → Tell from id masks counts slots → Tell from (id + 1) wider more slots
tell-live from id bits d masks counts wider more slots lt live sig len widens grows covered counted t =
    let room = t.room in
    let own : (c : List Literal) → IsTold from (id + 1) slots id c → c ≡ d = λ c told. same_some (clause_of slots id) c d told.clause live in
    let fresh : (c : List Literal) → c ≡ d → length c ≡ 2 → 1 ≤ get_or more (slot_of (length counts) c) 0 =
    λ c e two. subst (λ x. 1 ≤ get_or more (slot_of (length counts) x) 0) (sym e) (elim (counted (ap (λ (x : List Literal). length x) (sym e) ∙ two)) [ inl f ↦ omega (arith, f) | inr f ↦ omega (arith, f) ]) in
    let again : (i : ℕ) (c : List Literal) → IsTold from id slots i c → c ≡ d → length c ≡ 2 → 2 ≤ get_or more (slot_of (length counts) c) 0 =
    λ i c told e two.
    let one : 1 ≤ get_or counts (slot_of (length counts) d) 0 = subst (λ x. 1 ≤ get_or counts (slot_of (length counts) x) 0) e (t.pairs i c told two) in
    subst (λ x. 2 ≤ get_or more (slot_of (length counts) x) 0) (sym e) (elim (counted (ap (λ (x : List Literal). length x) (sym e) ∙ two)) [ inl f ↦ omega (arith, f) | inr f ↦ omega (arith, f, one) ]) in
    record {
      within = omega (arith, lt);
      room = omega (arith, room, len);
      wide = λ i c told long l m.
          elim (cases_eq i id) [
            | inl e ↦
                let same = own c (subst (λ k. IsTold from (id + 1) slots k c) e told) in
                subst (λ x. CoversAt wider (place_of l) (signature_of x)) (sym same) (subst (CoversAt wider (place_of l)) sig (covered (subst (λ (x : List Literal). 3 ≤ length x) same long) l (subst (λ x. Contains x l) same m)))
            | inr n ↦ widens (place_of l) (signature_of c) (t.wide i c (told-less from id slots i c n told) long l m)
          ];
      pairs = λ i c told two.
          rw len (elim (cases_eq i id) [
            | inl e ↦ fresh c (own c (subst (λ k. IsTold from (id + 1) slots k c) e told)) two
            | inr n ↦ let was = t.pairs i c (told-less from id slots i c n told) two in omega (arith, was, grows (slot_of (length counts) c))
          ]);
      twins = λ i j c a b n two.
          rw len (elim (cases_eq i id) [
            | inl e ↦
                let other : j ≢ id = λ f. n (e ∙ sym f) in
                again j c (told-less from id slots j c other b) (own c (subst (λ k. IsTold from (id + 1) slots k c) e a)) two
            | inr o ↦
                elim (cases_eq j id) [
                  | inl e ↦ again i c (told-less from id slots i c o a) (own c (subst (λ k. IsTold from (id + 1) slots k c) e b)) two
                  | inr q ↦ let was = t.twins i j c (told-less from id slots i c o a) (told-less from id slots j c q b) n two in omega (arith, was, grows (slot_of (length counts) c))
                ]
          ]);
    }

-- the first table tells of nothing yet
pub tell-none : (from : ℕ) (masks counts : List ℕ) (slots : List (Option (List Literal))) → from ≤ length slots → 0 < length counts → Tell from from masks counts slots
tell-none from masks counts slots le some =
    let none : (i : ℕ) (c : List Literal) → IsTold from from slots i c → ⊥ = λ i c told. let low = told.low in let high = told.high in omega (arith, low, high) in
    record {
      within = le;
      room = some;
      wide = λ i c told. absurd (none i c told);
      pairs = λ i c told. absurd (none i c told);
      twins = λ i j c a. absurd (none i c a);
    }

-- bits put to those of one literal more
pub covers-more : (c : List Literal) (n bits : ℕ) (masks wider : List ℕ) → ((p s : ℕ) → CoversAt masks p s → CoversAt wider p s) → ((k : ℕ) → k < n → CoversAt masks (place_of (lit_at c k)) bits) → CoversAt wider (place_of (lit_at c n)) bits → (k : ℕ) → k < n + 1 → CoversAt wider (place_of (lit_at c k)) bits
covers-more c n bits masks wider widens before own k lt =
    elim (cases_eq k n) [
      | inl e ↦ subst (λ i. CoversAt wider (place_of (lit_at c i)) bits) (sym e) own
      | inr other ↦ widens (place_of (lit_at c k)) bits (before k (omega (arith, lt, other)))
    ]

pub covers-each : (c : List Literal) (n bits : ℕ) (masks : List ℕ) → length c ≤ n → ((k : ℕ) → k < n → CoversAt masks (place_of (lit_at c k)) bits) → (l : Literal) → Contains c l → CoversAt masks (place_of l) bits
covers-each c n bits masks le each l m =
    let at : lit_at c m.0 ≡ l = get_or_default c m.0 (record { variable = 0; negative = false }) l m.1 ∙ m.2 in
    let lt = m.1 in
    subst (λ k. CoversAt masks (place_of k) bits) at (each m.0 (omega (arith, le, lt)))
