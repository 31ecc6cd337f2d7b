-- Where nothing changed in a round, each letter's ending speaks of one state.
use Rattle.std.proofs.Common.{◌≡◌, ◌≢◌, ℕ, zero, suc, ◌-◌, ◌+◌, List, [], ◌∷◌, ◌++◌, Bool, true, false, cond, Some, None, refl, sym, ◌∙◌, ap, subst, inl, inr, ◌⊎◌, arith}
use Rattle.std.specs.Prelude.{Option, Contains}
use Rattle.std.proofs.lemmas.Bool.{and_parts, true≢false}
use Rattle.std.proofs.lemmas.List.{append_assoc, append-nil}
use Rattle.mp_logic.specs.Keeping.{State}
use Rattle.mp_logic.specs.declared.instances.Repair.{Repair}
use Rattle.mp_store.specs.Held.{labelled_of}
use Rattle.mp_clauses.specs.Slots.{has_empty}
use Rattle.mp_store.specs.Measures.{IsSmaller}
use Rattle.mp_store.specs.Rewriting.{started}
use Rattle.mp_script.specs.declared.scripts.Stage.{Stage}
use Rattle.mp_script.specs.declared.scripts.Rounds.{Rounds}
use Rattle.mp_script.specs.declared.scripts.Rounds.TheVariants.{Once, Settle, At}
use Rattle.mp_script.specs.declared.scripts.Group.{Group}
use Rattle.mp_engine.specs.declared.done.StageEnding.{StageEnding}
use Rattle.mp_engine.specs.declared.done.StageEnding.TheVariants as endings
use Rattle.mp_engine.specs.declared.done.StageLine.{StageLine}
use Rattle.mp_engine.specs.declared.done.Close.{Close}
use Rattle.mp_engine.specs.declared.done.Close.TheVariants.{Settled, Unsettled, Single, Refuted}
use Rattle.t_probe.specs.Hardening.{IsHardened}
use Rattle.mp_engine.specs.Letters.{Kind, turns, asks, hardens, kind_of, end_state_of, HasEndState}
use Rattle.mp_engine.specs.Stages.{IsRefuted, IsNoLarger, IsEnding, IsNothing, IsStageThen, IsSequence, counts_of}
use Rattle.mp_engine.specs.Runs.{is_done, all_done, IsRound, IsLoop, IsGroup, IsRun}
use Rattle.mp_engine.specs.Runs.{refuted as loop_refuted_at, settles as loop_settles_by, stops as loop_stops_by, goes_on as loop_goes_on}
use Rattle.mp_engine.specs.Laws.{bound_of, else_bound, last_bound, bound_in, SettledLoopsHaveEndStates, RefutedIsExact, NoGroupIsSingle, SingleIsExact}
use Rattle.mp_engine.proofs.Orders.{smaller_irreflexive, smaller_transitive, not_both, not_empty}

pub settled_not : Unsettled ≡ Settled → ⊥
settled_not e = cc

settled_not_single : Settled ≡ Single → ⊥
settled_not_single e = cc

pub refuted_or : (s : State) → (IsRefuted s) ⊎ (has_empty s.hard ≡ false)
refuted_or s =
    let step : (b : Bool) → has_empty s.hard ≡ b → (IsRefuted s) ⊎ (has_empty s.hard ≡ false) =
    λ (b : Bool). elim b as (λ b. has_empty s.hard ≡ b → (IsRefuted s) ⊎ (has_empty s.hard ≡ false)) [ true ↦ λ e. inl e | false ↦ λ e. inr e ] in
    step (has_empty s.hard) refl

pub sequence_at : (inner : ℕ) (stage : Stage) (stages : List Stage) (s t : State) (lines : List StageLine) (rs : List Repair) → has_empty s.hard ≡ false
    → IsSequence inner (stage ∷ stages) s lines t rs → IsStageThen inner stage (IsSequence inner stages) s lines t rs
sequence_at inner stage stages s t lines rs e h =
    subst (λ (b : Bool). cond b (IsNothing s lines t rs) (IsStageThen inner stage (IsSequence inner stages) s lines t rs)) e h

pub sequence_refuted : (inner : ℕ) (stages : List Stage) (s t : State) (lines : List StageLine) (rs : List Repair) → IsRefuted s → IsSequence inner stages s lines t rs → t ≡ s
sequence_refuted inner [] s t lines rs e h = h.same
sequence_refuted inner (stage ∷ stages) s t lines rs e h =
    let n : IsNothing s lines t rs = subst (λ (b : Bool). cond b (IsNothing s lines t rs) (IsStageThen inner stage (IsSequence inner stages) s lines t rs)) e h in n.same

-- what a sequence leaves is no larger
sequence_moves : (inner : ℕ) (stages : List Stage) (s t : State) (lines : List StageLine) (rs : List Repair) → has_empty s.hard ≡ false → IsSequence inner stages s lines t rs → IsNoLarger t s
sequence_moves inner [] s t lines rs e h = inl h.same
sequence_moves inner (stage ∷ stages) s t lines rs e h =
    let k = sequence_at inner stage stages s t lines rs e h in
    elim (refuted_or k.between) [
      | inl r ↦ let same : t ≡ k.between = sequence_refuted inner stages k.between t k.later k.second r k.then_is in inr (inl (subst (λ (x : State). IsRefuted x) (sym same) r))
      | inr u ↦ joined s k.between t u k.stage_is.moves (sequence_moves inner stages k.between t k.later k.second u k.then_is)
    ]
  where
    joined : (s u t : State) → has_empty u.hard ≡ false → IsNoLarger u s → IsNoLarger t u → IsNoLarger t s
    joined s u t e h k =
        elim h [
          | inl same ↦ subst (λ (x : State). IsNoLarger t x) same k
          | inr q ↦ elim q [
            | inl r ↦ absurd (not_both u e r)
            | inr m ↦ elim k [
              | inl same ↦ inr (inr (subst (λ (x : State). IsSmaller x s) (sym same) m))
              | inr p ↦ elim p [ inl r ↦ inr (inl r) | inr n ↦ inr (inr (smaller_transitive s u t m n)) ]
            ]
          ]
        ]

-- where a sequence changed nothing, its first stage changed nothing
pub first_same : (inner : ℕ) (stages : List Stage) (s u t : State) (later : List StageLine) (rs : List Repair) → has_empty s.hard ≡ false → t ≡ s → IsNoLarger u s → IsSequence inner stages u later t rs → u ≡ s
first_same inner stages s u t later rs e same h k =
    elim h [
      | inl q ↦ q
      | inr q ↦ elim q [
        | inl r ↦ absurd (not_both s e (subst (λ (x : State). IsRefuted x) same (subst (λ (x : State). IsRefuted x) (sym (sequence_refuted inner stages u t later rs r k)) r)))
        | inr m ↦ elim (refuted_or u) [
          | inl r ↦ absurd (not_both s e (subst (λ (x : State). IsRefuted x) same (subst (λ (x : State). IsRefuted x) (sym (sequence_refuted inner stages u t later rs r k)) r)))
          | inr f ↦ absurd (back s u t e same m (sequence_moves inner stages u t later rs f k))
        ]
      ]
    ]
  where
    back : (s u t : State) → has_empty s.hard ≡ false → t ≡ s → IsSmaller u s → IsNoLarger t u → ⊥
    back s u t e same m h =
        elim h [
          | inl q ↦ smaller_irreflexive s u (sym q ∙ same) m
          | inr q ↦ elim q [
            | inl r ↦ not_both s e (subst (λ (x : State). IsRefuted x) same r)
            | inr n ↦ smaller_irreflexive s t same (smaller_transitive s u t m n)
          ]
        ]

-- the letter has its end state whatever the number, or it is hardening, for which some line has a bound
abbrev pub Fits : Kind → State → Option ℕ → Type 0
Fits kind s bound = ((v : ℕ) → end_state_of kind v s) ⊎ (((v : ℕ) → IsHardened v s → end_state_of kind v s) × (bound ≢ None))

abbrev pub IsBound : State → Option ℕ → Type 0
IsBound s bound = (n : ℕ) → bound ≡ Some n → (u : ℕ) × (n ≡ s.offset + u) × IsHardened u s

-- what an ending that leaves nothing to do says of a state that is not refuted
pub ending_fits : (kind : Kind) (budget : Option ℕ) (inner : ℕ) (s t : State) (ending : StageEnding) → has_empty t.hard ≡ false → is_done ending ≡ true → IsEnding kind budget inner s t ending
    → Fits kind t (bound_of ending)
ending_fits (turns technique) budget inner s t endings.Finished e d h = elim h [ inl r ↦ absurd (not_empty t e r) | inr k ↦ inl (λ _. k) ]
ending_fits (turns technique) budget inner s t endings.Spent e d h = absurd (true≢false (sym d))
ending_fits (turns technique) budget inner s t endings.NoRoom e d h = absurd (true≢false (sym d))
ending_fits (turns technique) budget inner s t (endings.Bound n) e d h = absurd h
ending_fits (asks E) budget inner s t endings.Finished e d h = elim h [ inl r ↦ absurd (not_empty t e r) | inr k ↦ inl (λ _. k) ]
ending_fits (asks E) budget inner s t endings.Spent e d h = absurd (true≢false (sym d))
ending_fits (asks E) budget inner s t endings.NoRoom e d h = absurd (true≢false (sym d))
ending_fits (asks E) budget inner s t (endings.Bound n) e d h = absurd h
ending_fits (hardens Leaves) budget inner s t endings.Finished e d h = absurd (not_empty t e h)
ending_fits (hardens Leaves) budget inner s t endings.Spent e d h = absurd (true≢false (sym d))
ending_fits (hardens Leaves) budget inner s t endings.NoRoom e d h = absurd (true≢false (sym d))
ending_fits (hardens Leaves) budget inner s t (endings.Bound n) e d h = inr (λ v k. k, λ q. cc)

pub ending_bound : (kind : Kind) (budget : Option ℕ) (inner : ℕ) (s t : State) (ending : StageEnding) → IsEnding kind budget inner s t ending → IsBound t (bound_of ending)
ending_bound kind budget inner s t endings.Finished h n q = cc
ending_bound kind budget inner s t endings.Spent h n q = cc
ending_bound kind budget inner s t endings.NoRoom h n q = cc
ending_bound (turns technique) budget inner s t (endings.Bound m) h n q = absurd h
ending_bound (asks E) budget inner s t (endings.Bound m) h n q = absurd h
ending_bound (hardens Leaves) budget inner s t (endings.Bound m) (u, e, k) n q = let z : n ≡ m = cc in (u, z ∙ e, k)

-- what holds of a state at which stages ran without a change
record IsRest (stages : List Stage) (s : State) (lines : List StageLine) : Type 0 where
  fits : (stage : Stage) → Contains stages stage → Fits (kind_of stage.letter) s (last_bound lines)
  bounds : IsBound s (last_bound lines)

later_fits : (kind : Kind) (s : State) (later first : Option ℕ) → Fits kind s later → Fits kind s (else_bound later first)
later_fits kind s None first h = elim h [ inl f ↦ inl f | inr p ↦ absurd (p.1 refl) ]
later_fits kind s (Some n) first h = h

first_fits : (kind : Kind) (s : State) (later first : Option ℕ) → Fits kind s first → Fits kind s (else_bound later first)
first_fits kind s None first h = h
first_fits kind s (Some n) first h = elim h [ inl f ↦ inl f | inr p ↦ inr (p.0, λ q. cc) ]

both_bound : (s : State) (later first : Option ℕ) → IsBound s later → IsBound s first → IsBound s (else_bound later first)
both_bound s None first h k = k
both_bound s (Some n) first h k = h

cons_fits : (stage : Stage) (stages : List Stage) (s : State) (lines : List StageLine) → Fits (kind_of stage.letter) s (last_bound lines) → ((x : Stage) → Contains stages x → Fits (kind_of x.letter) s (last_bound lines))
    → (x : Stage) → Contains (stage ∷ stages) x → Fits (kind_of x.letter) s (last_bound lines)
cons_fits stage stages s lines h k x (zero, b, e) = subst (λ (y : Stage). Fits (kind_of y.letter) s (last_bound lines)) e h
cons_fits stage stages s lines h k x (suc i, b, e) = k x (i, omega arith, e)

at_rest : (inner : ℕ) (stages : List Stage) (s t : State) (lines : List StageLine) (rs : List Repair) → has_empty s.hard ≡ false → t ≡ s → all_done lines ≡ true
    → IsSequence inner stages s lines t rs → IsRest stages s lines
at_rest inner [] s t lines rs e same d h = record {
  fits = λ stage c. absurd (omega (arith, c.1));
  bounds = λ n q. let z : last_bound lines ≡ None = ap last_bound h.lines_are in cc;
}
at_rest inner (stage ∷ stages) s t lines rs e same d h =
    let k = sequence_at inner stage stages s t lines rs e h in
    let here : k.between ≡ s = first_same inner stages s k.between t k.later k.second e same k.stage_is.moves k.then_is in
    let line : StageLine = record { letter = stage.letter; ending = k.ending; counts = counts_of k.between } in
    let p = and_parts (is_done k.ending) (all_done k.later) (subst (λ (x : List StageLine). all_done x ≡ true) k.lines_are d) in
    let standing : has_empty k.between.hard ≡ false = subst (λ (x : State). has_empty x.hard ≡ false) (sym here) e in
    let rest : IsRest stages s k.later = subst (λ (x : State). IsRest stages x k.later) here (at_rest inner stages k.between t k.later k.second standing (same ∙ sym here) p.1 k.then_is) in
    let fits : Fits (kind_of stage.letter) s (bound_of k.ending) =
    subst (λ (x : State). Fits (kind_of stage.letter) x (bound_of k.ending)) here (ending_fits (kind_of stage.letter) stage.budget inner s k.between k.ending standing p.0 k.stage_is.ends) in
    let bound : IsBound s (bound_of k.ending) = subst (λ (x : State). IsBound x (bound_of k.ending)) here (ending_bound (kind_of stage.letter) stage.budget inner s k.between k.ending k.stage_is.ends) in
    let whole : IsRest (stage ∷ stages) s (line ∷ k.later) = record {
      fits = cons_fits stage stages s (line ∷ k.later) (first_fits (kind_of stage.letter) s (last_bound k.later) (bound_of k.ending) fits)
          (λ x c. later_fits (kind_of x.letter) s (last_bound k.later) (bound_of k.ending) (rest.fits x c));
      bounds = both_bound s (last_bound k.later) (bound_of k.ending) rest.bounds bound;
    } in
    subst (λ (x : List StageLine). IsRest (stage ∷ stages) s x) (sym k.lines_are) whole

last_prefix : (prefix lines : List StageLine) (n : ℕ) → last_bound lines ≡ Some n → last_bound (prefix ++ lines) ≡ Some n
last_prefix [] lines n e = e
last_prefix (line ∷ prefix) lines n e = ap (λ (x : Option ℕ). else_bound x (bound_of line.ending)) (last_prefix prefix lines n e)

rest_says : (stages : List Stage) (s : State) (prefix lines : List StageLine) → IsRest stages s lines → (stage : Stage) → Contains stages stage
    → HasEndState stage.letter (bound_in s (last_bound (prefix ++ lines))) s
rest_says stages s prefix lines r stage c =
    elim (r.fits stage c) [ inl f ↦ f (bound_in s (last_bound (prefix ++ lines))) | inr p ↦ hardened (last_bound lines) refl p.0 p.1 ]
  where
    hardened : (o : Option ℕ) → last_bound lines ≡ o → ((v : ℕ) → IsHardened v s → end_state_of (kind_of stage.letter) v s) → last_bound lines ≢ None → HasEndState stage.letter (bound_in s (last_bound (prefix ++ lines))) s
    hardened None e f some = absurd (some e)
    hardened (Some n) e f some =
        let b = r.bounds n e in
        let z : bound_in s (last_bound (prefix ++ lines)) ≡ b.0 = ap (bound_in s) (last_prefix prefix lines n e) ∙ less n s.offset b.0 b.1 in
        f (bound_in s (last_bound (prefix ++ lines))) (subst (λ (v : ℕ). IsHardened v s) (sym z) b.2)
      where
        less : (n o u : ℕ) → n ≡ o + u → n - o ≡ u
        less n o u e = omega arith

-- the round in which a loop settled
pub record IsSettledRound (inner : ℕ) (stages : List Stage) (lines : List StageLine) (t : State) : Type 0 where
  pub start : State
  pub prefix : List StageLine
  pub own : List StageLine
  pub rs : List Repair
  pub round : IsRound inner stages start own t rs
  pub same : t ≡ start
  pub done : all_done own ≡ true
  pub lines_are : lines ≡ prefix ++ own

behind_lines : (inner : ℕ) (stages : List Stage) (first second : List StageLine) (t : State) → IsSettledRound inner stages second t → IsSettledRound inner stages (first ++ second) t
behind_lines inner stages first second t k = record {
  start = k.start;
  prefix = first ++ k.prefix;
  own = k.own;
  rs = k.rs;
  round = k.round;
  same = k.same;
  done = k.done;
  lines_are = ap (λ (x : List StageLine). first ++ x) k.lines_are ∙ sym (append_assoc first k.prefix k.own);
}

loop_settled : {inner : ℕ} {stages : List Stage} {left : Option ℕ} {s t : State} {lines : List StageLine} {rs : List Repair} {close : Close} → IsLoop inner stages left s lines t rs close → close ≡ Settled
    → IsSettledRound inner stages lines t
loop_settled (loop_refuted_at r) e = absurd (settled_not e)
loop_settled (loop_settles_by r same done) e = record { start = _; prefix = []; own = _; rs = _; round = r; same = same; done = done; lines_are = refl }
loop_settled (loop_stops_by r last done) e = absurd (settled_not e)
loop_settled (loop_goes_on r further k) e = behind_lines _ _ _ _ _ (loop_settled k e)

-- the last group of a run
pub record IsLastGroup (inner : ℕ) (group : Group) (last : Close) (lines : List StageLine) (t : State) : Type 0 where
  pub start : State
  pub prefix : List StageLine
  pub own : List StageLine
  pub rs : List Repair
  pub group_is : IsGroup inner group.stages group.rounds start own t rs last
  pub lines_are : lines ≡ prefix ++ own

pub last_group : (inner : ℕ) (script : List Group) (group : Group) (close last : Close) (s t : State) (lines : List StageLine) (rs : List Repair)
    → IsRun inner (script ++ group ∷ []) close last s lines t rs → IsLastGroup inner group last lines t
last_group inner [] group close last s t lines rs k =
    let n = k.then_is in
    let whole : IsGroup inner group.stages group.rounds s k.first t k.before last =
    subst (λ (x : State). IsGroup inner group.stages group.rounds s k.first x k.before last) (sym n.0.same)
    (subst (λ (x : Close). IsGroup inner group.stages group.rounds s k.first k.between k.before x) (sym n.1) k.group_is) in
    record { start = s; prefix = []; own = k.first; rs = k.before; group_is = whole; lines_are = k.lines_are ∙ ap (λ (x : List StageLine). k.first ++ x) n.0.lines_are ∙ append-nil k.first }
last_group inner (g ∷ script) group close last s t lines rs k =
    let l = last_group inner script group k.closed last k.between t k.second k.behind k.then_is in
    record {
      start = l.start;
      prefix = k.first ++ l.prefix;
      own = l.own;
      rs = l.rs;
      group_is = l.group_is;
      lines_are = k.lines_are ∙ ap (λ (x : List StageLine). k.first ++ x) l.lines_are ∙ sym (append_assoc k.first l.prefix l.own);
    }

-- a group that settled is a loop
pub group_settled : (inner : ℕ) (stages : List Stage) (rounds : Rounds) (s t : State) (lines : List StageLine) (rs : List Repair) → IsGroup inner stages rounds s lines t rs Settled → IsSettledRound inner stages lines t
group_settled inner stages Once s t lines rs h = absurd (settled_not_single h.1)
group_settled inner stages Settle s t lines rs h = loop_settled h refl
group_settled inner stages (At n) s t lines rs h = loop_settled h refl

pub settled_last : (b : Bool) (close last : Close) → close ≡ cond b Refuted last → close ≡ Settled → last ≡ Settled
settled_last true close last e h = cc
settled_last false close last e h = cc

pub settled_loops : SettledLoopsHaveEndStates
settled_loops inner script group s done d e stage c =
    let q : d.last ≡ Settled = settled_last (has_empty done.labelled.hard) done.close d.last d.close e in
    let l = last_group inner script group Single d.last (labelled_of (started s inner)) done.labelled done.stages done.repairs d.run in
    let g : IsGroup inner group.stages group.rounds l.start l.own done.labelled l.rs Settled = subst (λ (x : Close). IsGroup inner group.stages group.rounds l.start l.own done.labelled l.rs x) q l.group_is in
    let r = group_settled inner group.stages group.rounds l.start done.labelled l.own l.rs g in
    let rest : IsRest group.stages done.labelled r.own =
    subst (λ (x : State). IsRest group.stages x r.own) (sym r.same) (at_rest inner group.stages r.start done.labelled r.own r.rs r.round.unrefuted r.same r.done r.round.sequence) in
    let lines : done.stages ≡ (l.prefix ++ r.prefix) ++ r.own = l.lines_are ∙ ap (λ (x : List StageLine). l.prefix ++ x) r.lines_are ∙ sym (append_assoc l.prefix r.prefix r.own) in
    subst (λ (x : List StageLine). HasEndState stage.letter (bound_in done.labelled (last_bound x)) done.labelled) (sym lines)
    (rest_says group.stages done.labelled (l.prefix ++ r.prefix) r.own rest stage c)

-- how loops and groups close
loop_close : {inner : ℕ} {stages : List Stage} {left : Option ℕ} {s t : State} {lines : List StageLine} {rs : List Repair} {close : Close} → IsLoop inner stages left s lines t rs close → (close ≢ Refuted) × (close ≢ Single)
loop_close (loop_refuted_at r) = (λ e. cc, λ e. cc)
loop_close (loop_settles_by r same done) = (λ e. cc, λ e. cc)
loop_close (loop_stops_by r last done) = (λ e. cc, λ e. cc)
loop_close (loop_goes_on r further k) = loop_close k

group_close : (inner : ℕ) (stages : List Stage) (rounds : Rounds) (s t : State) (lines : List StageLine) (rs : List Repair) (close : Close) → IsGroup inner stages rounds s lines t rs close → close ≢ Refuted
group_close inner stages Once s t lines rs close h = λ e. let q = h.1 in cc
group_close inner stages Settle s t lines rs close h = (loop_close h).0
group_close inner stages (At n) s t lines rs close h = (loop_close h).0

run_close : (inner : ℕ) (script : List Group) (close last : Close) (s t : State) (lines : List StageLine) (rs : List Repair) → close ≢ Refuted → IsRun inner script close last s lines t rs → last ≢ Refuted
run_close inner [] close last s t lines rs h k = λ e. h (sym k.1 ∙ e)
run_close inner (group ∷ script) close last s t lines rs h k =
    run_close inner script k.closed last k.between t k.second k.behind (group_close inner group.stages group.rounds s k.between k.first k.before k.closed k.group_is) k.then_is

refuted_close : (b : Bool) (close last : Close) → close ≡ cond b Refuted last → last ≢ Refuted → close ≡ Refuted → b ≡ true
refuted_close true close last e h q = refl
refuted_close false close last e h q = absurd (h (sym e ∙ q))

pub refuted_exact : RefutedIsExact
refuted_exact inner script s done d = (
  refuted_close (has_empty done.labelled.hard) done.close d.last d.close (run_close inner script Single d.last (labelled_of (started s inner)) done.labelled done.stages done.repairs (λ e. cc) d.run),
  λ r. d.close ∙ ap (λ (b : Bool). cond b Refuted d.last) r,
)

unrefuted_close : (b : Bool) (close last : Close) → (b ≡ true → ⊥) → close ≡ cond b Refuted last → close ≡ last
unrefuted_close true close last h e = absurd (h refl)
unrefuted_close false close last h e = e

pub no_group_single : NoGroupIsSingle
no_group_single inner s done d h = unrefuted_close (has_empty done.labelled.hard) done.close d.last h d.close ∙ d.run.1

group_single : (inner : ℕ) (stages : List Stage) (rounds : Rounds) (s t : State) (lines : List StageLine) (rs : List Repair) (close : Close) → IsGroup inner stages rounds s lines t rs close
    → (close ≡ Single → rounds ≡ Once) × (rounds ≡ Once → close ≡ Single)
group_single inner stages Once s t lines rs close h = (λ _. refl, λ _. h.1)
group_single inner stages Settle s t lines rs close h = (λ e. absurd ((loop_close h).1 e), λ e. cc)
group_single inner stages (At n) s t lines rs close h = (λ e. absurd ((loop_close h).1 e), λ e. cc)

pub single_exact : SingleIsExact
single_exact inner script group s done d h =
    let q : done.close ≡ d.last = unrefuted_close (has_empty done.labelled.hard) done.close d.last h d.close in
    let l = last_group inner script group Single d.last (labelled_of (started s inner)) done.labelled done.stages done.repairs d.run in
    let g = group_single inner group.stages group.rounds l.start done.labelled l.own l.rs d.last l.group_is in
    (λ e. g.0 (sym q ∙ e), λ e. q ∙ g.1 e)
