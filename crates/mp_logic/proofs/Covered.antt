-- A label that others cover may be made false.
use Rattle.std.proofs.Common.{◌≡◌, ◌≢◌, ◌≤◌, ◌+◌, Bool, true, List, [], ◌∷◌, Contains, sum_by, refl, ap, sym, ◌∙◌, subst, arith, inl, inr}
use Rattle.std.proofs.lemmas.Bool.{cases_Bool}
use Rattle.std.proofs.lemmas.List.Sums.{sum_by-cons}
use Rattle.mp_logic.specs.Literal.{Literal, negation}
use Rattle.mp_logic.specs.Truth.{literal_value, IsSatisfied}
use Rattle.mp_logic.specs.Repairs.{made_true}
use Rattle.mp_logic.specs.declared.instances.Cost.{Cost}
use Rattle.mp_logic.specs.Keeping.{State, charged}
use Rattle.mp_logic.specs.Labelled.{AreApart}
use Rattle.mp_logic.specs.Sets.{HasVariables}
use Rattle.mp_logic.specs.SubsumedLabels.{IsPlain, IsGroupCover, GroupCoverBends, SubsumedLabelBends, UnusedLabelBends}
use Rattle.mp_logic.proofs.MadeTrue.{literal_value-made_true, literal_value-made_true_other}
use Rattle.mp_logic.proofs.Members.{Contains-none, Contains-first, Contains-later, Contains-cases, Contains-one, satisfied, IsSatisfied-from, witness, true_by}
use Rattle.mp_logic.proofs.Literals.{negation-negation, negation_true, negation_false, kept_or_spoilt, had_or_gained, charged_le}
use Rattle.mp_logic.proofs.Charges.{AreApart-same, sum_by_falls, sum_by_rises, charged_true, charged_false, charged_at_most, no_own_negation}

-- the literals of the group are true
abbrev raised : List Cost → List Bool → List Bool
raised [] a = a
raised (q ∷ qs) a = made_true (raised qs a) q.lit

record Raised (p : Cost) (qs : List Cost) (s : State) (a b : List Bool) : Type 0 where
  model : IsSatisfied b s.hard
  trues : (q : Cost) → Contains qs q → literal_value b q.lit ≡ true
  own : literal_value b p.lit ≡ literal_value a p.lit
  cost : sum_by (charged b) s.costs ≤ sum_by (charged a) s.costs + sum_by (λ (q : Cost). q.weight) qs

plain_model : (cs : List (List Literal)) (b : Literal) (a : List Bool) → 1 ≤ b.variable → ((c : List Literal) → Contains cs c → (k : Literal) → Contains c k → 1 ≤ k.variable) → IsPlain b cs → IsSatisfied a cs → IsSatisfied (made_true a b) cs
plain_model cs b a pb vs plain m = IsSatisfied-from (made_true a b) cs (λ c i.
    let w = witness a c (satisfied a cs c m i) in
    elim (kept_or_spoilt a b w.0 pb (vs c i w.0 w.1) w.2) [
      | inl t ↦ true_by (made_true a b) c w.0 w.1 t
      | inr n ↦ absurd (plain c i w.0 w.1 n)
    ])

raised_cost : (s : State) (q : Cost) (a : List Bool) → HasVariables s → AreApart s.costs → Contains s.costs q → sum_by (charged (made_true a q.lit)) s.costs ≤ sum_by (charged a) s.costs + q.weight
raised_cost s q a vs apart i =
    let b = made_true a q.lit in
    sum_by_rises (charged b) (charged a) s.costs q.lit.variable q.weight apart
    (λ c j o. charged_le a b c (λ u. elim (had_or_gained a q.lit c.lit (vs.costs q i) (vs.costs c j) u) [ inl h ↦ h | inr e ↦ absurd (o (ap (λ (k : Literal). k.variable) e)) ]))
    (λ c j e. let w = ap (λ (d : Cost). d.weight) (AreApart-same s.costs c q apart j i e) in omega (arith, w, charged_at_most b c))

raise : (s : State) (p : Cost) (qs : List Cost) (a : List Bool) → HasVariables s → AreApart s.costs → 1 ≤ p.lit.variable
    → ((q : Cost) → Contains qs q → Contains s.costs q) → ((q : Cost) → Contains qs q → q.lit.variable ≢ p.lit.variable) → ((q : Cost) → Contains qs q → IsPlain q.lit s.hard)
    → IsSatisfied a s.hard → Raised p qs s a (raised qs a)
raise s p [] a vs apart pp has others plain m = record { model = m; trues = λ q i. absurd (Contains-none q i); own = refl; cost = omega arith }
raise s p (q ∷ qs) a vs apart pp has others plain m =
    let first = Contains-first q qs in
    let later = λ (x : Cost) (i : Contains qs x). Contains-later q qs x i in
    let rest = raise s p qs a vs apart pp (λ x i. has x (later x i)) (λ x i. others x (later x i)) (λ x i. plain x (later x i)) m in
    let b = raised qs a in
    let pq = vs.costs q (has q first) in
    let more = raised_cost s q b vs apart (has q first) in
    record {
      model = plain_model s.hard q.lit b pq vs.hard (plain q first) rest.model;
      trues = λ x i. elim (Contains-cases q qs x i) [
        | inl e ↦ ap (λ (d : Cost). literal_value (made_true b q.lit) d.lit) e ∙ literal_value-made_true b q.lit pq
        | inr j ↦ elim (kept_or_spoilt b q.lit x.lit pq (vs.costs x (has x i)) (rest.trues x j)) [
          | inl t ↦ t
          | inr n ↦
              let one = AreApart-same s.costs x q apart (has x i) (has q first) (ap (λ (k : Literal). k.variable) n) in
              absurd (no_own_negation b x.lit q.lit (ap (λ (d : Cost). d.lit) one) n)
        ]
      ];
      own = literal_value-made_true_other b q.lit p.lit pq pp (λ e. others q first (sym e)) ∙ rest.own;
      cost = omega (arith, more, rest.cost, sum_by-cons (λ (x : Cost). x.weight) q qs);
    }

-- the label is made false behind
lowered_model : (s : State) (p : Cost) (qs : List Cost) (b : List Bool) → HasVariables s → 1 ≤ p.lit.variable → IsGroupCover p qs s → IsSatisfied b s.hard → ((q : Cost) → Contains qs q → literal_value b q.lit ≡ true) → IsSatisfied (made_true b (negation p.lit)) s.hard
lowered_model s p qs b vs pp cover m trues = IsSatisfied-from (made_true b (negation p.lit)) s.hard (λ c i.
    let d = made_true b (negation p.lit) in
    let w = witness b c (satisfied b s.hard c m i) in
    elim (kept_or_spoilt b (negation p.lit) w.0 pp (vs.hard c i w.0 w.1) w.2) [
      | inl t ↦ true_by d c w.0 w.1 t
      | inr n ↦
          let has_p = subst (λ (k : Literal). Contains c k) (n ∙ negation-negation p.lit) w.1 in
          let q = cover.meets c i has_p in
          true_by d c q.0.lit q.2 (literal_value-made_true_other b (negation p.lit) q.0.lit pp (vs.hard c i q.0.lit q.2) (cover.others q.0 q.1) ∙ trues q.0 q.1)
    ])

lowered_cost : (s : State) (p : Cost) (b : List Bool) → HasVariables s → AreApart s.costs → Contains s.costs p → literal_value b p.lit ≡ true → sum_by (charged (made_true b (negation p.lit))) s.costs + p.weight ≤ sum_by (charged b) s.costs
lowered_cost s p b vs apart i t =
    let d = made_true b (negation p.lit) in
    let pp = vs.costs p i in
    let gone = negation_false d (negation p.lit) (literal_value-made_true b (negation p.lit) pp) in
    let gone_p = ap (literal_value d) (sym (negation-negation p.lit)) ∙ gone in
    sum_by_falls (charged d) (charged b) s.costs p p.weight
    (λ c j. charged_le b d c (λ u. elim (had_or_gained b (negation p.lit) c.lit pp (vs.costs c j) u) [
      | inl h ↦ h
      | inr e ↦
          let one = AreApart-same s.costs c p apart j i (ap (λ (k : Literal). k.variable) e) in
          absurd (no_own_negation b c.lit p.lit (ap (λ (c : Cost). c.lit) one) e)
    ]))
    i (omega (arith, charged_true b p t, charged_false d p gone_p))

pub group_cover_bends : GroupCoverBends
group_cover_bends s p qs vs apart i cover a m =
    let pp = vs.costs p i in
    elim (cases_Bool (literal_value a p.lit)) [
      | inr f ↦ (a, m, negation_true a p.lit f, omega arith)
      | inl t ↦
          let b = raised qs a in
          let up = raise s p qs a vs apart pp cover.costs cover.others cover.plain m in
          let down = lowered_cost s p b vs apart i (up.own ∙ t) in (
            made_true b (negation p.lit),
            lowered_model s p qs b vs pp cover up.model up.trues,
            literal_value-made_true b (negation p.lit) pp,
            omega (arith, up.cost, down, cover.weight),
          )
    ]

pub subsumed_label_bends : SubsumedLabelBends
subsumed_label_bends s p q vs apart ip iq other le plain covers =
    group_cover_bends s p (q ∷ []) vs apart ip (record {
      costs = λ x i. subst (Contains s.costs) (sym (Contains-one q x i)) iq;
      others = λ x i e. other (ap (λ (d : Cost). d.lit.variable) (sym (Contains-one q x i)) ∙ e);
      plain = λ x i c j k l n. plain c j k l (n ∙ ap (λ (d : Cost). negation d.lit) (Contains-one q x i));
      meets = λ c i h. (q, Contains-first q [], covers c i h);
      weight = omega (arith, le, sum_by-cons (λ (x : Cost). x.weight) q []);
    })

pub unused_label_bends : UnusedLabelBends
unused_label_bends s p vs apart ip lacks =
    group_cover_bends s p [] vs apart ip (record {
      costs = λ x i. absurd (Contains-none x i);
      others = λ x i. absurd (Contains-none x i);
      plain = λ x i. absurd (Contains-none x i);
      meets = λ c i h. absurd (lacks c i h);
      weight = omega arith;
    })
