-- The command as `clap` knows it.
use Rattle.std.specs.Prelude.{ℕ, List, Some, true, fold, codes}
use Rattle.clap.specs.Simple.{App, new_app, new_rule, on_top, with_rule}
use Rattle.clap.specs.Walk.{Rule}
use Rattle.mp_words.specs.Modes.{all_options}

abbrev pub mode_rule : Rule
mode_rule = record (new_rule (codes "mode")) { required = true }

abbrev pub operand_rule : Rule
operand_rule = record (new_rule (codes "operand")) { required = true }

abbrev pub option_rule : List ℕ → Rule
option_rule name = record (new_rule name) { long = Some name }

abbrev pub bare_app : App
bare_app = on_top (λ s. record s { no_binary_name = true; disable_help_flag = true }) (new_app (codes "maxpre"))

-- the mode and its operand
abbrev pub first_app : App
first_app = with_rule (with_rule bare_app mode_rule) operand_rule

abbrev pub with_option : App → List ℕ → App
with_option a name = with_rule a (option_rule name)

-- with all options
abbrev pub app : App
app = fold with_option first_app all_options
