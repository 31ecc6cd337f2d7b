use Rattle.mp_words.proofs.Readings.{none_then, no_sign}
use Rattle.mp_words.proofs.lines.value_in.Goals as goal

pub returns-clause-none : goal.returns-clause-none
returns-clause-none c =
    none_then c.behind-3.result _ _ (no_sign c.args.word.now c.in_ok-rest.rest.now c.in_ok-rest-2.rest.now c.args.name.now c.in_ok-rest.ensures.some c.in_ok-rest-2.ensures.some) c.behind-3.ensures.none
