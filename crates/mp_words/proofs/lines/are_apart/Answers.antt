use Rattle.std.proofs.Common.{sym, ◌∙◌}
use Rattle.mp_words.specs.Reading.{texts}
use Rattle.mp_words.proofs.Readings.{twins_here, twins_on}
use Rattle.mp_words.proofs.lines.are_apart.Goals as goal

pub returns-then-stands_from : goal.returns-then-stands_from
returns-then-stands_from c =
    sym (c.loop-place.invariant ∙ twins_here (texts c.args.names.now) c.loop-place.place c.text_at.result.now c.text_at.ensures (sym c.stands_from.ensures ∙ c.if-stands_from.true))

pub loop-place-preserved : goal.loop-place-preserved
loop-place-preserved c =
    c.loop-place.invariant ∙ twins_on (texts c.args.names.now) c.loop-place.place c.text_at.result.now c.text_at.ensures (sym c.stands_from.ensures ∙ c.if-stands_from.false)
