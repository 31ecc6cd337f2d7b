use Rattle.mp_words.proofs.OneCommand.{no_request}
use Rattle.mp_words.proofs.Readings.{none_at}
use Rattle.mp_words.proofs.command.read_command.Goals as goal

pub returns : goal.returns
returns c =
    no_request c.args.words.now (none_at c.in_ok-command.field-0 _ c.in_default.is c.in_ok-command.ensures.none)
    (none_at c.in_ok-command-2.field-0 _ c.in_default-2.is c.in_ok-command-2.ensures.none)
    (none_at c.in_ok-command-3.field-0 _ c.in_default-3.is c.in_ok-command-3.ensures.none)
    (none_at c.in_ok-command-4.field-0 _ c.in_default-4.is c.in_ok-command-4.ensures.none)
    (none_at c.in_ok-command-5.field-0 _ c.in_default-5.is c.in_ok-command-5.ensures.none)
