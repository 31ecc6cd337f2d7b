-- What the log of a run tells of an instance that counts as a state like its last one.
use Rattle.std.proofs.Common.{◌≡◌, ◌⊎◌, ℕ, ◌-◌, Bool, List, [], ◌∷◌, ◌++◌, Contains, length, map, sum_by, Some, None, true, false, refl, ap, sym, ◌∙◌, subst, inl, inr}
use Rattle.std.specs.Prelude.{Option, MatchOption}
use Rattle.std.proofs.lemmas.List.{length-map}
use Rattle.std.proofs.lemmas.List.Sorted.{IsPermutation-map}
use Rattle.mp_logic.specs.Formula.{Formula}
use Rattle.mp_logic.specs.Keeping.{State}
use Rattle.mp_logic.specs.Carrying.{WrittenForm}
use Rattle.mp_logic.specs.Labelled.{IsLabelled}
use Rattle.mp_logic.specs.declared.instances.Cost.{Cost}
use Rattle.mp_logic.proofs.Members.{Contains-none, Contains-cases}
use Rattle.mp_store.specs.Held.{labelled_of}
use Rattle.mp_store.specs.Rewriting.{started}
use Rattle.mp_store.specs.declared.ran.Counts.{Counts}
use Rattle.mp_labels.specs.UnitForm.{IsUnitForm, names_of, number_of}
use Rattle.mp_labels.proofs.Numbers.{number_bounds}
use Rattle.mp_labels.proofs.Presented.{all_named, names_rising}
use Rattle.mp_script.specs.Courses.{letters_of}
use Rattle.mp_script.specs.declared.scripts.Group.{Group}
use Rattle.mp_script.specs.declared.scripts.Rounds.{Rounds}
use Rattle.mp_script.specs.declared.scripts.Rounds.TheVariants.{Settle}
use Rattle.mp_script.specs.declared.scripts.Stage.{Stage}
use Rattle.mp_engine.specs.Alike.{Uses, IsAlike, numbered_cost, EndStatesMove, CountsMove}
use Rattle.mp_engine.specs.Laws.{IsStanding, EndsStanding, IsLineAt, bound_of, bound_in, last_bound, last_line, LastLetterHasEndState, LastLineIsLast, SettledIsStanding, SettledLoopsHaveEndStates, UnsettledIsStanding}
use Rattle.mp_engine.specs.Letters.{HasEndState}
use Rattle.mp_engine.specs.LogText.{log_of, LogTellsClose}
use Rattle.mp_engine.specs.Runs.{IsDone}
use Rattle.mp_engine.specs.Stages.{IsRefuted, counts_of}
use Rattle.mp_engine.specs.declared.done.Done.{Done}
use Rattle.mp_engine.specs.declared.done.StageLine.{StageLine}
use Rattle.mp_engine.specs.declared.done.Close.TheVariants.{Settled, Unsettled}
use Rattle.mp_modes.specs.EndStates.{CountsAs, IsStateWith, sizes_of, without_offset, EndsAtRest, Tells}
use Rattle.mp_modes.specs.Presenting.{RunsTell}
use Rattle.mp_modes.proofs.Counted.{numbers_rise, state_of}

-- a written form counts as a state like the one that is written
pub form_alike : (s : State) (w : WrittenForm) → IsLabelled s.vars s.hard s.costs s.offset → (u : IsUnitForm s w) → IsAlike s (state_of s w u)
form_alike s w h u =
    let names = names_of s in
    let are = all_named s h in
    let named : (v : ℕ) → Uses s v → Contains names v =
    λ v x. elim x [
      | inl k ↦ let own = are.hard k.0 k.1 in subst (Contains names) k.2.2 (own k.2.0 k.2.1)
      | inr k ↦ subst (Contains names) k.2 (are.costs k.0 k.1)
    ] in
    record {
      number = number_of names;
      from_one = λ v a. (number_bounds names v (named v a)).0;
      rises = λ v x a b less. numbers_rise names 0 s.vars v x (names_rising s) (named v a) (named x b) less;
      hard = u.hard;
      costs = IsPermutation-map (numbered_cost (number_of names)) s.costs u.costs u.costs_moved;
    }

-- the laws of runs that this rests on
pub record RunLaws : Type 0 where
  pub settled : SettledLoopsHaveEndStates
  pub last_letter : LastLetterHasEndState
  pub last_is : LastLineIsLast
  pub standing : SettledIsStanding
  pub unsettled : UnsettledIsStanding
  pub told : LogTellsClose
  pub move : EndStatesMove
  pub counts : CountsMove

sizes : (g : Formula) (t : State) → CountsAs g t → sizes_of g ≡ counts_of t
sizes g t c =
    let costs : length g.soft ≡ length t.costs = ap (λ (ss : List _). length ss) c.soft ∙ length-map t.costs _ in
    ap (λ (cs : List _). record { clauses = length cs; literals = sum_by length cs; costs = length g.soft }) (sym c.hard)
    ∙ ap (λ (k : ℕ). record { clauses = length t.hard; literals = sum_by length t.hard; costs = k }) costs

same_bound : (s : State) (o : Option ℕ) → without_offset s.offset o ≡ bound_in s o
same_bound s None = refl
same_bound s (Some n) = refl

-- the lines of a round that left the state as it was
standing_lines : (inner : ℕ) (stages : List Stage) (s : State) (lines : List StageLine) → IsStanding inner stages s lines
    → (map (λ (line : StageLine). line.letter) lines ≡ letters_of stages) × ((line : StageLine) → Contains lines line → line.counts ≡ counts_of s)
standing_lines inner [] s lines h = (ap (λ (ls : List StageLine). map (λ (line : StageLine). line.letter) ls) h, λ line i. absurd (Contains-none line (subst (λ (ls : List StageLine). Contains ls line) h i)))
standing_lines inner (stage ∷ stages) s lines h =
    let later = standing_lines inner stages s h.1 h.5 in (
      ap (λ (ls : List StageLine). map (λ (line : StageLine). line.letter) ls) h.4 ∙ ap (λ (xs : List _). stage.letter ∷ xs) later.0,
      λ line i. elim (Contains-cases _ h.1 line (subst (λ (ls : List StageLine). Contains ls line) h.4 i)) [ inl e ↦ ap (λ (k : StageLine). k.counts) e | inr more ↦ later.1 line more ],
    )

pub runs_tell : RunLaws → RunsTell
runs_tell laws inner script start done g t d standing c alike =
    let s = done.labelled in
    let same : counts_of s ≡ sizes_of g = sym (laws.counts s t alike) ∙ sym (sizes g t c) in
    let Done_of : List Group → Type 0 = λ groups. IsDone inner groups start done in
    record {
      settled = λ before group front is e.
          let close = laws.told done.stages done.close Settled front e in (
            t,
            c,
            λ stage own.
                subst (λ (k : ℕ). HasEndState stage.letter k t) (sym (same_bound s (last_bound done.stages)))
                (laws.move stage.letter (bound_in s (last_bound done.stages)) s t alike (laws.settled inner before group start done (subst Done_of is d) close stage own)),
          );
      finished = λ line is over. (
        t,
        c,
        subst (λ (k : ℕ). HasEndState line.letter k t) (sym (same_bound s (bound_of line.ending)))
            (laws.move line.letter (bound_in s (bound_of line.ending)) s t alike (laws.last_letter inner script start done d standing line is over)),
      );
      counts = λ line is.
          let At : Option StageLine → Type 0 = λ o. MatchOption o (s ≡ labelled_of (started start inner)) (λ (l : StageLine). IsLineAt inner script l s) in
          let at : IsLineAt inner script line s = subst At is (laws.last_is inner script start done d) in
          ap (λ (k : StageLine). k.counts) at.line_is ∙ same;
      round = λ before group is rest.
          let own : (done_all : Bool) → EndsStanding inner group.stages s done.stages done_all
          → (earlier : List StageLine) × (own : List StageLine) × (done.stages ≡ earlier ++ own) × (map (λ (line : StageLine). line.letter) own ≡ letters_of group.stages) × ((line : StageLine) → Contains own line → line.counts ≡ sizes_of g) =
          λ done_all k. let lines = standing_lines inner group.stages s k.round k.standing in (k.before, k.round, k.lines_are, lines.0, λ line i. lines.1 line i ∙ same) in
          elim rest [
            | inl close ↦ own true (laws.standing inner before group start done (subst Done_of is d) close)
            | inr free ↦
                let Group_of : Rounds → Type 0 = λ rounds. IsDone inner (before ++ record { stages = group.stages; rounds = rounds } ∷ []) start done in
                own false (laws.unsettled inner before group.stages start done (subst Group_of free.1 (subst Done_of is d)) free.0)
          ];
    }
