use Rattle.std.proofs.Common.{ℕ, List, sym, ◌∙◌}
use Rattle.std.specs.Str.{bytes_eq}
use Rattle.mp_words.specs.Reading.{texts}
use Rattle.mp_words.proofs.Readings.{any_here, any_on}
use Rattle.mp_words.proofs.lines.stands_from.Goals as goal

pub returns-then-same : goal.returns-then-same
returns-then-same c =
    sym (c.loop-place.invariant ∙ any_here (λ (other : List ℕ). bytes_eq c.args.text.now other) (texts c.args.names.now) c.loop-place.place c.text_at.result.now c.text_at.ensures (sym c.same.ensures ∙ c.if-same.true))

pub loop-place-preserved : goal.loop-place-preserved
loop-place-preserved c =
    c.loop-place.invariant ∙ any_on (λ (other : List ℕ). bytes_eq c.args.text.now other) (texts c.args.names.now) c.loop-place.place c.text_at.result.now c.text_at.ensures (sym c.same.ensures ∙ c.if-same.false)
