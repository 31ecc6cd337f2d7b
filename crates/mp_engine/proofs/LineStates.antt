-- The state that each line speaks of.
use Rattle.std.proofs.Common.{◌≡◌, ℕ, zero, suc, ◌-◌, ◌+◌, ◌≤◌, List, [], ◌∷◌, ◌++◌, Bool, false, cond, Some, None, refl, sym, ◌∙◌, ap, subst, inl, inr, arith}
use Rattle.std.specs.Prelude.{Option, MatchOption, Contains}
use Rattle.std.proofs.lemmas.List.Elements.{Contains-append_cases}
use Rattle.std.proofs.lemmas.Bool.{false_from_ne_true}
use Rattle.mp_logic.specs.Keeping.{State, full_cost, Keeps}
use Rattle.mp_logic.specs.Repairs.{repaired}
use Rattle.mp_logic.specs.declared.instances.Repair.{Repair}
use Rattle.mp_logic.proofs.Kept.{keeping_joins}
use Rattle.mp_store.proofs.Started.{started_keeps}
use Rattle.mp_store.specs.Held.{labelled_of}
use Rattle.mp_clauses.specs.Slots.{has_empty}
use Rattle.mp_store.specs.Rewriting.{started}
use Rattle.mp_script.specs.declared.scripts.Letter.{Letter}
use Rattle.mp_script.specs.declared.scripts.Stage.{Stage}
use Rattle.mp_script.specs.declared.scripts.Rounds.{Rounds}
use Rattle.mp_script.specs.declared.scripts.Rounds.TheVariants.{Once, Settle, At}
use Rattle.mp_script.specs.declared.scripts.Group.{Group}
use Rattle.mp_engine.specs.declared.done.StageLine.{StageLine}
use Rattle.mp_engine.specs.declared.done.Close.{Close}
use Rattle.mp_engine.specs.declared.done.Close.TheVariants.{Single}
use Rattle.mp_engine.specs.declared.done.Done.{Done}
use Rattle.t_probe.specs.Hardening.{IsHardened}
use Rattle.mp_engine.specs.Letters.{Kind, kind_of, end_state_of, HasEndState}
use Rattle.mp_engine.specs.Stages.{IsStage, IsNothing, IsStageThen, IsSequence, counts_of}
use Rattle.mp_engine.specs.Runs.{IsLoop, IsGroup, IsRun, IsDone}
use Rattle.mp_engine.specs.Runs.{refuted as loop_refuted_at, settles as loop_settles_by, stops as loop_stops_by, goes_on as loop_goes_on}
use Rattle.mp_engine.specs.Laws.{IsLineAt, last_line, else_line, bound_of, bound_in, LinesHaveStages, LastLineIsLast, LastLetterHasEndState, BoundsAreReached}
use Rattle.mp_engine.proofs.Keepings.{sequence_keeps, group_keeps}
use Rattle.mp_engine.proofs.Settled.{sequence_at, refuted_or, Fits, IsBound, ending_fits, ending_bound}

abbrev Last : (StageLine → State → Type 0) → Option StageLine → State → State → Type 0
Last Holds None s t = t ≡ s
Last Holds (Some line) s t = Holds line t

-- each line led to a state that keeps the first, and the last line to the last state
record Says (Holds : StageLine → State → Type 0) (lines : List StageLine) (s t : State) : Type 0 where
  each : (line : StageLine) → Contains lines line → (u : State) × (rs : List Repair) × Keeps s u rs × Holds line u
  last : Last Holds (last_line lines) s t

says_nothing : (Holds : StageLine → State → Type 0) (s t : State) → t ≡ s → Says Holds [] s t
says_nothing Holds s t e = record { each = λ line c. absurd (omega (arith, c.1)); last = e }

says_is_nothing : (Holds : StageLine → State → Type 0) (s t : State) (lines : List StageLine) (rs : List Repair) → IsNothing s lines t rs → Says Holds lines s t
says_is_nothing Holds s t lines rs n = subst (λ (x : List StageLine). Says Holds x s t) (sym n.lines_are) (says_nothing Holds s t n.same)

says_cons : (Holds : StageLine → State → Type 0) (line : StageLine) (later : List StageLine) (s u t : State) (rs : List Repair) → Keeps s u rs → Holds line u → Says Holds later u t → Says Holds (line ∷ later) s t
says_cons Holds line later s u t rs k h r = record { each = each; last = last (last_line later) r.last }
  where
    each : (x : StageLine) → Contains (line ∷ later) x → (v : State) × (qs : List Repair) × Keeps s v qs × Holds x v
    each x (zero, b, e) = (u, rs, k, subst (λ (y : StageLine). Holds y u) e h)
    each x (suc i, b, e) = let p = r.each x (i, omega arith, e) in (p.0, rs ++ p.1, keeping_joins s u p.0 rs p.1 k p.2, p.3)

    last : (o : Option StageLine) → Last Holds o u t → Last Holds (else_line o line) s t
    last None e = subst (λ (x : State). Holds line x) (sym e) h
    last (Some l) e = e

abbrev or_line : Option StageLine → Option StageLine → Option StageLine
or_line None first = first
or_line (Some line) first = Some line

or_else : (o p : Option StageLine) (line : StageLine) → else_line (or_line o p) line ≡ or_line o (else_line p line)
or_else None p line = refl
or_else (Some l) p line = refl

or_none : (o : Option StageLine) → o ≡ or_line o None
or_none None = refl
or_none (Some l) = refl

last_append : (first second : List StageLine) → last_line (first ++ second) ≡ or_line (last_line second) (last_line first)
last_append [] second = or_none (last_line second)
last_append (line ∷ first) second = ap (λ (o : Option StageLine). else_line o line) (last_append first second) ∙ or_else (last_line second) (last_line first) line

last_both : (Holds : StageLine → State → Type 0) (o p : Option StageLine) (s u t : State) → Last Holds p s u → Last Holds o u t → Last Holds (or_line o p) s t
last_both Holds None p s u t h e = subst (λ (x : State). Last Holds p s x) (sym e) h
last_both Holds (Some l) p s u t h e = e

says_append : (Holds : StageLine → State → Type 0) (first second : List StageLine) (s u t : State) (rs : List Repair) → Keeps s u rs → Says Holds first s u → Says Holds second u t → Says Holds (first ++ second) s t
says_append Holds first second s u t rs k a b = record { each = each; last = subst (λ (o : Option StageLine). Last Holds o s t) (sym (last_append first second)) (last_both Holds (last_line second) (last_line first) s u t a.last b.last) }
  where
    each : (x : StageLine) → Contains (first ++ second) x → (v : State) × (qs : List Repair) × Keeps s v qs × Holds x v
    each x c = elim (Contains-append_cases first second x c) [
      | inl l ↦ a.each x l
      | inr l ↦ let p = b.each x l in (p.0, rs ++ p.1, keeping_joins s u p.0 rs p.1 k p.2, p.3)
    ]

says_map : (P Q : StageLine → State → Type 0) (lines : List StageLine) (s t : State) → ((line : StageLine) (u : State) → P line u → Q line u) → Says P lines s t → Says Q lines s t
says_map P Q lines s t f h = record { each = λ line c. let p = h.each line c in (p.0, p.1, p.2, f line p.0 p.3); last = last (last_line lines) h.last }
  where
    last : (o : Option StageLine) → Last P o s t → Last Q o s t
    last None e = e
    last (Some l) e = f l t e

-- a stage of the list gave the line, and led to this state
record IsStageAt (inner : ℕ) (stages : List Stage) (line : StageLine) (t : State) : Type 0 where
  stage : Stage
  within : Contains stages stage
  start : State
  repairs : List Repair
  stage_is : IsStage inner stage start t repairs line.ending
  line_is : line ≡ record { letter = stage.letter; ending = line.ending; counts = counts_of t }

first_in : {X : Type 0} (x : X) (xs : List X) → Contains (x ∷ xs) x
first_in x xs = (0, omega arith, refl)

further_in : {X : Type 0} (x y : X) (xs : List X) → Contains xs y → Contains (x ∷ xs) y
further_in x y xs (i, b, e) = (suc i, omega arith, e)

sequence_says : (inner : ℕ) (stages : List Stage) (s t : State) (lines : List StageLine) (rs : List Repair) → IsSequence inner stages s lines t rs → Says (IsStageAt inner stages) lines s t
sequence_says inner [] s t lines rs h = says_is_nothing (IsStageAt inner []) s t lines rs h
sequence_says inner (stage ∷ stages) s t lines rs h =
    elim (refuted_or s) [
      | inl r ↦ says_is_nothing (IsStageAt inner (stage ∷ stages)) s t lines rs (subst (λ (b : Bool). cond b (IsNothing s lines t rs) (IsStageThen inner stage (IsSequence inner stages) s lines t rs)) r h)
      | inr e ↦
          let k = sequence_at inner stage stages s t lines rs e h in
          let line : StageLine = record { letter = stage.letter; ending = k.ending; counts = counts_of k.between } in
          let own : IsStageAt inner (stage ∷ stages) line k.between = record { stage = stage; within = first_in stage stages; start = s; repairs = k.first; stage_is = k.stage_is; line_is = refl } in
          let rest : Says (IsStageAt inner (stage ∷ stages)) k.later k.between t = says_map (IsStageAt inner stages) (IsStageAt inner (stage ∷ stages)) k.later k.between t
          (λ l u p. record { stage = p.stage; within = further_in stage p.stage stages p.within; start = p.start; repairs = p.repairs; stage_is = p.stage_is; line_is = p.line_is })
          (sequence_says inner stages k.between t k.later k.second k.then_is) in
          subst (λ (x : List StageLine). Says (IsStageAt inner (stage ∷ stages)) x s t) (sym k.lines_are) (says_cons (IsStageAt inner (stage ∷ stages)) line k.later s k.between t k.first k.stage_is.step.keeps own rest)
    ]

loop_says : {inner : ℕ} {stages : List Stage} {left : Option ℕ} {s t : State} {lines : List StageLine} {rs : List Repair} {close : Close} → IsLoop inner stages left s lines t rs close → Says (IsStageAt inner stages) lines s t
loop_says {inner} {stages} {left} {s} (loop_refuted_at r) = says_nothing (IsStageAt inner stages) s s refl
loop_says (loop_settles_by r same done) = sequence_says _ _ _ _ _ _ r.sequence
loop_says (loop_stops_by r last done) = sequence_says _ _ _ _ _ _ r.sequence
loop_says {inner} {stages} {left} {s} {t} (loop_goes_on {u = u} {first = first} {second = second} {before = before} r further k) =
    says_append (IsStageAt inner stages) first second s u t before (sequence_keeps inner stages s first u before r.sequence) (sequence_says inner stages s u first before r.sequence) (loop_says k)

group_says : (inner : ℕ) (stages : List Stage) (rounds : Rounds) (s t : State) (lines : List StageLine) (rs : List Repair) (close : Close) → IsGroup inner stages rounds s lines t rs close → Says (IsStageAt inner stages) lines s t
group_says inner stages Once s t lines rs close h = sequence_says inner stages s t lines rs h.0
group_says inner stages Settle s t lines rs close h = loop_says h
group_says inner stages (At n) s t lines rs close h = loop_says h

run_says : (inner : ℕ) (script : List Group) (close last : Close) (s t : State) (lines : List StageLine) (rs : List Repair) → IsRun inner script close last s lines t rs → Says (IsLineAt inner script) lines s t
run_says inner [] close last s t lines rs h = says_is_nothing (IsLineAt inner []) s t lines rs h.0
run_says inner (group ∷ script) close last s t lines rs k =
    let own : Says (IsLineAt inner (group ∷ script)) k.first s k.between = says_map (IsStageAt inner group.stages) (IsLineAt inner (group ∷ script)) k.first s k.between
    (λ l u p. record { group = group; stage = p.stage; own = first_in group script; within = p.within; start = p.start; repairs = p.repairs; stage_is = p.stage_is; line_is = p.line_is })
    (group_says inner group.stages group.rounds s k.between k.first k.before k.closed k.group_is) in
    let rest : Says (IsLineAt inner (group ∷ script)) k.second k.between t = says_map (IsLineAt inner script) (IsLineAt inner (group ∷ script)) k.second k.between t
    (λ l u p. record { group = p.group; stage = p.stage; own = further_in group p.group script p.own; within = p.within; start = p.start; repairs = p.repairs; stage_is = p.stage_is; line_is = p.line_is })
    (run_says inner script k.closed last k.between t k.second k.behind k.then_is) in
    subst (λ (x : List StageLine). Says (IsLineAt inner (group ∷ script)) x s t) (sym k.lines_are)
    (says_append (IsLineAt inner (group ∷ script)) k.first k.second s k.between t k.before (group_keeps inner group.stages group.rounds s k.first k.between k.before k.closed k.group_is) own rest)

done_says : (inner : ℕ) (script : List Group) (s : State) (done : Done) → IsDone inner script s done → Says (IsLineAt inner script) done.stages (labelled_of (started s inner)) done.labelled
done_says inner script s done d = run_says inner script Single d.last (labelled_of (started s inner)) done.labelled done.stages done.repairs d.run

pub lines_have_stages : LinesHaveStages
lines_have_stages inner script s done d line c = let p = (done_says inner script s done d).each line c in (p.0, p.3)

last_is : (Holds : StageLine → State → Type 0) (o : Option StageLine) (s t : State) → Last Holds o s t → MatchOption o (t ≡ s) (λ line. Holds line t)
last_is Holds None s t h = h
last_is Holds (Some line) s t h = h

pub last_line_is : LastLineIsLast
last_line_is inner script s done d = last_is (IsLineAt inner script) (last_line done.stages) (labelled_of (started s inner)) done.labelled (done_says inner script s done d).last

fits_says : (kind : Kind) (s : State) (o : Option ℕ) → Fits kind s o → IsBound s o → end_state_of kind (bound_in s o) s
fits_says kind s None h b = elim h [ inl f ↦ f 0 | inr p ↦ absurd (p.1 refl) ]
fits_says kind s (Some n) h b =
    let k = b n refl in
    let q : n ≡ s.offset + k.0 = k.1 in
    let z : n - s.offset ≡ k.0 = omega arith in
    elim h [ inl f ↦ f (n - s.offset) | inr p ↦ p.0 (n - s.offset) (subst (λ (v : ℕ). IsHardened v s) (sym z) k.2) ]

pub last_letter : LastLetterHasEndState
last_letter inner script s done d f line e is =
    let h : IsLineAt inner script line done.labelled = subst (λ (o : Option StageLine). Last (IsLineAt inner script) o (labelled_of (started s inner)) done.labelled) e (done_says inner script s done d).last in
    let letter : line.letter ≡ h.stage.letter = ap (λ (l : StageLine). l.letter) h.line_is in
    let unrefuted : has_empty done.labelled.hard ≡ false = false_from_ne_true (has_empty done.labelled.hard) f in
    subst (λ (l : Letter). HasEndState l (bound_in done.labelled (bound_of line.ending)) done.labelled) (sym letter)
    (fits_says (kind_of h.stage.letter) done.labelled (bound_of line.ending)
    (ending_fits (kind_of h.stage.letter) h.stage.budget inner h.start done.labelled line.ending unrefuted is h.stage_is.ends)
    (ending_bound (kind_of h.stage.letter) h.stage.budget inner h.start done.labelled line.ending h.stage_is.ends))

pub bounds_reached : BoundsAreReached
bounds_reached inner script s done sound d line c n e =
    let p = (done_says inner script s done d).each line c in
    let h : IsLineAt inner script line p.0 = p.3 in
    let b = ending_bound (kind_of h.stage.letter) h.stage.budget inner h.start p.0 line.ending h.stage_is.ends n (ap bound_of e) in
    let a = b.2.1 in
    let k : Keeps s p.0 p.1 = keeping_joins s (labelled_of (started s inner)) p.0 [] p.1 (started_keeps s inner sound) p.2 in
    let down = k.down a.0 a.1 in
    let cost : full_cost p.0 a.0 ≡ n = ap (λ (x : ℕ). (p.0).offset + x) a.2 ∙ sym b.1 in
    (repaired p.1 a.0, down.0, subst (λ (x : ℕ). full_cost s (repaired p.1 a.0) ≤ x) cost down.1)
