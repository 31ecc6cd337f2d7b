-- Rounds that changed nothing.
use Rattle.std.proofs.Common.{◌≡◌, ◌≢◌, ℕ, zero, suc, ◌-◌, List, [], ◌∷◌, ◌++◌, map, Bool, true, false, cond, Some, None, refl, sym, ◌∙◌, ap, subst, inl, inr, ◌⊎◌, arith}
use Rattle.std.specs.Prelude.{Option}
use Rattle.std.proofs.lemmas.List.{append_assoc, append-nil, map-append}
use Rattle.mp_logic.specs.Keeping.{State}
use Rattle.mp_logic.specs.declared.instances.Repair.{Repair}
use Rattle.mp_store.specs.Held.{labelled_of}
use Rattle.mp_clauses.specs.Slots.{has_empty}
use Rattle.mp_store.specs.Rewriting.{started}
use Rattle.mp_script.specs.declared.scripts.Letter.{Letter}
use Rattle.mp_script.specs.declared.scripts.Stage.{Stage}
use Rattle.mp_script.specs.declared.scripts.Rounds.TheVariants.{Settle, At}
use Rattle.mp_engine.specs.declared.done.StageLine.{StageLine}
use Rattle.mp_engine.specs.declared.done.Close.{Close}
use Rattle.mp_engine.specs.declared.done.Close.TheVariants.{Settled, Unsettled, Single, Refuted}
use Rattle.mp_engine.specs.Stages.{IsRefuted, IsStage, IsNothing, IsStageThen, IsSequence, counts_of}
use Rattle.mp_engine.specs.Runs.{all_done, one_less, IsRound, IsLoop, IsGroup}
use Rattle.mp_engine.specs.Runs.{refuted as loop_refuted_at, settles as loop_settles_by, stops as loop_stops_by, goes_on as loop_goes_on}
use Rattle.mp_engine.specs.Laws.{IsStanding, EndsStanding, SettledIsStanding, UnsettledIsStanding, UnsettledAfterRounds}
use Rattle.mp_script.specs.Courses.{letters_of, rounds_of}
use Rattle.mp_engine.proofs.Orders.{not_both}
use Rattle.mp_engine.proofs.Settled.{settled_not, sequence_at, first_same, refuted_or, group_settled, settled_last, last_group}

pub standing : (inner : ℕ) (stages : List Stage) (s t : State) (lines : List StageLine) (rs : List Repair) → has_empty s.hard ≡ false → t ≡ s → IsSequence inner stages s lines t rs → IsStanding inner stages s lines
standing inner [] s t lines rs e same h = h.lines_are
standing inner (stage ∷ stages) s t lines rs e same h =
    let k = sequence_at inner stage stages s t lines rs e h in
    let here : k.between ≡ s = first_same inner stages s k.between t k.later k.second e same k.stage_is.moves k.then_is in
    let unrefuted : has_empty k.between.hard ≡ false = subst (λ (x : State). has_empty x.hard ≡ false) (sym here) e in
    let rest : IsStanding inner stages s k.later = subst (λ (x : State). IsStanding inner stages x k.later) here (standing inner stages k.between t k.later k.second unrefuted (same ∙ sym here) k.then_is) in (
      k.ending,
      k.later,
      k.first,
      subst (λ (x : State). IsStage inner stage s x k.first k.ending) here k.stage_is,
      k.lines_are ∙ ap (λ (x : State). record { letter = stage.letter; ending = k.ending; counts = counts_of x } ∷ k.later) here,
      rest,
    )

ends_standing : (inner : ℕ) (stages : List Stage) (start t : State) (before own : List StageLine) (rs : List Repair) (done : Bool) → IsRound inner stages start own t rs → t ≡ start → all_done own ≡ done → EndsStanding inner stages t (before ++ own) done
ends_standing inner stages start t before own rs done r same d = record {
  before = before;
  round = own;
  lines_are = refl;
  standing = subst (λ (x : State). IsStanding inner stages x own) (sym same) (standing inner stages start t own rs r.unrefuted same r.sequence);
  done_is = d;
}

behind_standing : (inner : ℕ) (stages : List Stage) (first second : List StageLine) (t : State) (done : Bool) → EndsStanding inner stages t second done → EndsStanding inner stages t (first ++ second) done
behind_standing inner stages first second t done k = record {
  before = first ++ k.before;
  round = k.round;
  lines_are = ap (λ (x : List StageLine). first ++ x) k.lines_are ∙ sym (append_assoc first k.before k.round);
  standing = k.standing;
  done_is = k.done_is;
}

pub settled_standing : SettledIsStanding
settled_standing inner script group s done d e =
    let q : d.last ≡ Settled = settled_last (has_empty done.labelled.hard) done.close d.last d.close e in
    let l = last_group inner script group Single d.last (labelled_of (started s inner)) done.labelled done.stages done.repairs d.run in
    let g : IsGroup inner group.stages group.rounds l.start l.own done.labelled l.rs Settled = subst (λ (x : Close). IsGroup inner group.stages group.rounds l.start l.own done.labelled l.rs x) q l.group_is in
    let r = group_settled inner group.stages group.rounds l.start done.labelled l.own l.rs g in
    let h : EndsStanding inner group.stages done.labelled (r.prefix ++ r.own) true = ends_standing inner group.stages r.start done.labelled r.prefix r.own r.rs true r.round r.same r.done in
    subst (λ (x : List StageLine). EndsStanding inner group.stages done.labelled x true) (sym (l.lines_are ∙ ap (λ (x : List StageLine). l.prefix ++ x) r.lines_are))
    (behind_standing inner group.stages l.prefix (r.prefix ++ r.own) done.labelled true h)

-- the letters of a sequence that refuted nothing
pub sequence_letters : (inner : ℕ) (stages : List Stage) (s t : State) (lines : List StageLine) (rs : List Repair) → (IsRefuted t → ⊥) → IsSequence inner stages s lines t rs → map (λ line. line.letter) lines ≡ letters_of stages
sequence_letters inner [] s t lines rs f h = ap (map (λ (line : StageLine). line.letter)) h.lines_are
sequence_letters inner (stage ∷ stages) s t lines rs f h =
    elim (refuted_or s) [
      | inl r ↦
          let n : IsNothing s lines t rs = subst (λ (b : Bool). cond b (IsNothing s lines t rs) (IsStageThen inner stage (IsSequence inner stages) s lines t rs)) r h in
          absurd (f (subst (λ (x : State). IsRefuted x) (sym n.same) r))
      | inr e ↦
          let k = sequence_at inner stage stages s t lines rs e h in
          ap (map (λ (line : StageLine). line.letter)) k.lines_are ∙ ap (λ (x : List Letter). stage.letter ∷ x) (sequence_letters inner stages k.between t k.later k.second f k.then_is)
    ]

-- how a loop that has so many rounds left and did not settle ended
abbrev Stopped : ℕ → List Stage → Option ℕ → State → List StageLine → Type 0
Stopped inner stages None t lines = EndsStanding inner stages t lines false
Stopped inner stages (Some n) t lines = EndsStanding inner stages t lines false ⊎ (map (λ line. line.letter) lines ≡ rounds_of n (letters_of stages))

stopped_standing : (inner : ℕ) (stages : List Stage) (left : Option ℕ) (t : State) (lines : List StageLine) → EndsStanding inner stages t lines false → Stopped inner stages left t lines
stopped_standing inner stages None t lines h = h
stopped_standing inner stages (Some n) t lines h = inl h

one_round : (inner : ℕ) (stages : List Stage) (left : Option ℕ) (t : State) (lines : List StageLine) → left ≡ Some 1 → map (λ line. line.letter) lines ≡ letters_of stages → Stopped inner stages left t lines
one_round inner stages None t lines e h = cc
one_round inner stages (Some n) t lines e h =
    let q : 1 ≡ n = cc in
    inr (subst (λ (x : ℕ). map (λ line. line.letter) lines ≡ rounds_of x (letters_of stages)) q (h ∙ sym (append-nil (letters_of stages))))

more_rounds : (inner : ℕ) (stages : List Stage) (left : Option ℕ) (t : State) (first second : List StageLine) → left ≢ Some 0 → map (λ line. line.letter) first ≡ letters_of stages → Stopped inner stages (one_less left) t second → Stopped inner stages left t (first ++ second)
more_rounds inner stages None t first second some e h = behind_standing inner stages first second t false h
more_rounds inner stages (Some zero) t first second some e h = absurd (some refl)
more_rounds inner stages (Some (suc n)) t first second some e h =
    let less : suc n - 1 ≡ n = omega arith in
    elim h [
      | inl k ↦ inl (behind_standing inner stages first second t false k)
      | inr k ↦ inr (map-append (λ (line : StageLine). line.letter) first second ∙ ap (λ (x : List Letter). x ++ map (λ (line : StageLine). line.letter) second) e
          ∙ ap (λ (x : List Letter). letters_of stages ++ x) (k ∙ ap (λ (x : ℕ). rounds_of x (letters_of stages)) less))
    ]

less_some : (left : Option ℕ) → left ≢ Some 0 → left ≢ Some 1 → one_less left ≢ Some 0
less_some None h k = λ e. cc
less_some (Some n) h k =
    let a : n ≢ 0 = λ e. h (ap (λ (x : ℕ). Some x) e) in
    let b : n ≢ 1 = λ e. k (ap (λ (x : ℕ). Some x) e) in
    λ e. let q : n - 1 ≡ 0 = cc in absurd (omega arith)

loop_stopped : {inner : ℕ} {stages : List Stage} {left : Option ℕ} {s t : State} {lines : List StageLine} {rs : List Repair} {close : Close} → IsLoop inner stages left s lines t rs close
    → close ≡ Unsettled → left ≢ Some 0 → (IsRefuted t → ⊥) → Stopped inner stages left t lines
loop_stopped (loop_refuted_at r) e some f = absurd (f r)
loop_stopped (loop_settles_by r same done) e some f = absurd (settled_not (sym e))
loop_stopped {inner} {stages} {left} {s} {t} {lines} {rs} (loop_stops_by r last done) e some f =
    elim last [
      | inl same ↦ stopped_standing inner stages left t lines (ends_standing inner stages s t [] lines rs false r same (done same))
      | inr q ↦ elim q [ inl z ↦ absurd (f z) | inr one ↦ one_round inner stages left t lines one (sequence_letters inner stages s t lines rs f r.sequence) ]
    ]
loop_stopped {inner} {stages} {left} {s} {t} (loop_goes_on {u = u} {first = first} {second = second} {before = before} r further k) e some f =
    let standing_on : IsRefuted u → ⊥ = λ z. further (inr (inl z)) in
    more_rounds inner stages left t first second some (sequence_letters inner stages s u first before standing_on r.sequence)
    (loop_stopped k e (less_some left some (λ one. further (inr (inr one)))) f)

unsettled_last : (b : Bool) (close last : Close) → close ≡ cond b Refuted last → close ≡ Unsettled → (last ≡ Unsettled) × (b ≡ false)
unsettled_last true close last e h = cc
unsettled_last false close last e h = (sym e ∙ h, refl)

pub unsettled_standing : UnsettledIsStanding
unsettled_standing inner script stages s done d e =
    let q = unsettled_last (has_empty done.labelled.hard) done.close d.last d.close e in
    let l = last_group inner script (record { stages = stages; rounds = Settle }) Single d.last (labelled_of (started s inner)) done.labelled done.stages done.repairs d.run in
    let h : EndsStanding inner stages done.labelled l.own false = loop_stopped l.group_is q.0 (λ z. cc) (not_both done.labelled q.1) in
    subst (λ (x : List StageLine). EndsStanding inner stages done.labelled x false) (sym l.lines_are) (behind_standing inner stages l.prefix l.own done.labelled false h)

pub unsettled_rounds : UnsettledAfterRounds
unsettled_rounds inner script stages n s done some d e =
    let q = unsettled_last (has_empty done.labelled.hard) done.close d.last d.close e in
    let l = last_group inner script (record { stages = stages; rounds = At n }) Single d.last (labelled_of (started s inner)) done.labelled done.stages done.repairs d.run in
    let h : Stopped inner stages (Some n) done.labelled l.own = loop_stopped l.group_is q.0 (λ z. let w : n ≡ 0 = cc in some w) (not_both done.labelled q.1) in
    elim h [
      | inl k ↦ inl (subst (λ (x : List StageLine). EndsStanding inner stages done.labelled x false) (sym l.lines_are) (behind_standing inner stages l.prefix l.own done.labelled false k))
      | inr k ↦ inr (l.prefix, l.own, l.lines_are, k)
    ]
