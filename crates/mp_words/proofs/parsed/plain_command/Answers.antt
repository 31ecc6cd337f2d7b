use Rattle.std.proofs.Common.{rules, ◌≡◌, ◌∙◌, ap, ap₂, true}
use Rattle.clap.specs.Simple.{Shape, app_of, app_of_fields, on_top, with_rule}
use Rattle.clap.specs.Walk.{rule_of}
use Rattle.mp_words.specs.Parsed.{mode_rule, operand_rule, bare_app}
use Rattle.mp_words.proofs.parsed.plain_command.Goals as goal

pub returns-clause-ok : goal.returns-clause-ok
returns-clause-ok c =
    let mode_is : rule_of c.required-mode.result ≡ mode_rule = search rules in
    let operand_is : rule_of c.required-operand.result ≡ operand_rule = search rules in
    let bare_is : app_of c.disable_help_flag.result ≡ bare_app =
    ap app_of_fields c.disable_help_flag.ensures
    ∙ ap (on_top (λ (s : Shape). record s { disable_help_flag = true }))
    (ap app_of_fields c.no_binary_name.ensures ∙ ap (on_top (λ (s : Shape). record s { no_binary_name = true })) c.new-3.ensures.app) in
    c.in_ok-command.ensures.shape (search rules)
    ∙ ap₂ with_rule (c.in_ok-arg.ensures.shape (search rules) ∙ ap₂ with_rule bare_is mode_is) operand_is
