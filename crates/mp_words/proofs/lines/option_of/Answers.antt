use Rattle.std.proofs.Common.{◌≤◌, ℕ, List, length, sym, ◌∙◌, ap, subst}
use Rattle.std.specs.Prelude.{slice_get}
use Rattle.std.proofs.lemmas.Bool.{true≢false}
use Rattle.std.proofs.lemmas.List.{length-map}
use Rattle.mp_words.specs.Reading.{texts, IsOption}
use Rattle.mp_words.proofs.Readings.{option_found, option_none, option_next}
use Rattle.mp_words.proofs.lines.option_of.Goals as goal

pub returns-then-has_value-clause-some : goal.returns-then-has_value-clause-some
returns-then-has_value-clause-some c =
    option_found _ c.args.word.now c.text_at-name.result.now c.loop-place.place (ap (λ (x : List (List ℕ)). slice_get x c.loop-place.place) (sym c.options-names.ensures) ∙ c.text_at-name.ensures) (c.has_value.ensures.0 c.if-has_value.true)

pub loop-place-preserved : goal.loop-place-preserved
loop-place-preserved c =
    option_next (texts c.options-names.result.now) c.args.word.now c.text_at-name.result.now c.loop-place.place c.text_at-name.ensures
    (λ v. true≢false (sym (c.has_value.ensures.1 v) ∙ c.if-has_value.false)) c.loop-place.invariant

pub returns-clause-none : goal.returns-clause-none
returns-clause-none c =
    let h : length (texts c.options-names.result.now) ≤ c.loop-place.place = subst (λ (n : ℕ). n ≤ c.loop-place.place) (sym (length-map c.options-names.result.now _)) c.loop-place-test.false in
    subst (λ (x : List (List ℕ)). (name : List ℕ) → IsOption x c.args.word.now name → ⊥) c.options-names.ensures
    (option_none (texts c.options-names.result.now) c.args.word.now c.loop-place.place h c.loop-place.invariant)
