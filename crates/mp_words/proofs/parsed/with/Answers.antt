use Rattle.std.proofs.Common.{rules, ◌≡◌, ◌∙◌, ap}
use Rattle.clap.specs.Simple.{app_of, with_rule}
use Rattle.clap.specs.Walk.{Rule, rule_of}
use Rattle.mp_words.specs.Parsed.{option_rule}
use Rattle.mp_words.proofs.parsed.with.Goals as goal

pub returns-clause-ok : goal.returns-clause-ok
returns-clause-ok c =
    let option_is : rule_of c.long.result ≡ option_rule c.args.name.now = search rules in
    c.in_ok-command.ensures.shape (search rules) ∙ ap (λ (r : Rule). with_rule (app_of c.args.command) r) option_is
