use Rattle.std.proofs.Common.{◌∙◌, ap, codes}
use Rattle.clap.specs.Simple.{App}
use Rattle.mp_words.specs.Parsed.{with_option}
use Rattle.mp_words.proofs.parsed.command.Goals as goal

pub returns-clause-ok : goal.returns-clause-ok
returns-clause-ok c =
    c.in_ok-command-9.ensures.ok
    ∙ ap (λ (a : App). with_option a (codes "solution"))
    (c.in_ok-command-8.ensures.ok
    ∙ ap (λ (a : App). with_option a (codes "values"))
    (c.in_ok-command-7.ensures.ok
    ∙ ap (λ (a : App). with_option a (codes "original"))
    (c.in_ok-command-6.ensures.ok
    ∙ ap (λ (a : App). with_option a (codes "mapversion"))
    (c.in_ok-command-5.ensures.ok
    ∙ ap (λ (a : App). with_option a (codes "merge"))
    (c.in_ok-command-4.ensures.ok
    ∙ ap (λ (a : App). with_option a (codes "form"))
    (c.in_ok-command-3.ensures.ok
    ∙ ap (λ (a : App). with_option a (codes "mapfile"))
    (c.in_ok-command-2.ensures.ok
    ∙ ap (λ (a : App). with_option a (codes "techniques"))
    (c.in_ok-command.ensures.ok))))))))
