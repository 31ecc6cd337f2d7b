use Rattle.std.proofs.Common.{◌≡◌, ◌∙◌, length, arith}
use Rattle.std.proofs.lemmas.List.{length-map}
use Rattle.mp_words.specs.Reading.{texts}
use Rattle.mp_words.proofs.Readings.{two_words, same_as}
use Rattle.mp_words.proofs.lines.are_mode_and_operand.Goals as goal

pub returns : goal.returns
returns c =
    let two : length c.args.plain.now ≡ 2 = omega (arith, c.if-plain-ne2.false) in
    two_words c.args.mode (texts c.args.plain.now) c.text_at.result.now c.same.result (length-map c.args.plain.now _ ∙ two) c.text_at.ensures (same_as c.same.result c.text_at.result.now c.word.result.now _ c.same.ensures c.word.ensures)
