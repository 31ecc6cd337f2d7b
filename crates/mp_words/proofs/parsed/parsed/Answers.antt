use Rattle.std.proofs.Common.{◌≡◌, ◌∙◌, ap₂, map, refl}
use Rattle.std.specs.Prelude.{string_bytes}
use Rattle.std.proofs.lemmas.Result.{IfErr-weaker, IfOk-weaker}
use Rattle.clap.specs.Simple.{HasMatchesOf, app_of, matches_of}
use Rattle.clap.specs.Takes.{takes}
use Rattle.clap.specs.Walk.{rows_of}
use Rattle.clap.specs.Words.{found_of}
use Rattle.mp_words.specs.Parsed.{app}
use Rattle.mp_words.proofs.Taken.{matches_moved}
use Rattle.mp_words.proofs.parsed.parsed.Goals as goal

pub returns-clause-ok : goal.returns-clause-ok
returns-clause-ok c =
    IfOk-weaker c.try_get_matches_from.result (HasMatchesOf (app_of c.in_ok-command.field-0) (map string_bytes c.args.words.now)) (λ m. rows_of (found_of m) ≡ matches_of app (map string_bytes c.args.words.now))
    (λ m h. matches_moved (app_of c.in_ok-command.field-0) (map string_bytes c.args.words.now) m c.in_ok-command.ensures.ok h) c.try_get_matches_from.ensures.matches

pub returns-clause-err : goal.returns-clause-err
returns-clause-err c = λ taken. IfErr-weaker c.try_get_matches_from.result _ _ (λ e h. h (ap₂ takes c.in_ok-command.ensures.ok refl ∙ taken)) c.try_get_matches_from.ensures.passes
