use Rattle.std.proofs.Common.{◌∙◌, subst}
use Rattle.std.specs.Prelude.{Option, IfSome}
use Rattle.clap.specs.Words.{found_of}
use Rattle.clap.specs.declared.parser.matches.ArgMatches.{ArgMatches}
use Rattle.mp_words.specs.declared.modes.Mode.TheVariants as modes
use Rattle.mp_words.specs.Reading.{IsMatched}
use Rattle.mp_words.proofs.Chosen.{preprocess_some, preprocess_form, preprocess_merge, preprocess_version}
use Rattle.mp_words.proofs.asked.read_preprocess.Goals as goal

pub returns-in_default-form_of-clause-none : goal.returns-in_default-form_of-clause-none
returns-in_default-form_of-clause-none c =
    let m : IsMatched modes.Preprocess c.args.words.now (found_of c.in-Some.matches) =
    subst (λ (o : Option ArgMatches). IfSome o (λ m. IsMatched modes.Preprocess c.args.words.now (found_of m))) c.in-Some.is c.in_ok-matches.ensures.some in
    preprocess_form c.args.words.now (found_of c.in-Some.matches) m c.value_or.result.now c.value_or.ensures c.in_default-form_of.ensures.none

pub returns-in_default-merge_of-clause-none : goal.returns-in_default-merge_of-clause-none
returns-in_default-merge_of-clause-none c =
    let m : IsMatched modes.Preprocess c.args.words.now (found_of c.in-Some.matches) =
    subst (λ (o : Option ArgMatches). IfSome o (λ m. IsMatched modes.Preprocess c.args.words.now (found_of m))) c.in-Some.is c.in_ok-matches.ensures.some in
    preprocess_merge c.args.words.now (found_of c.in-Some.matches) m c.value_or-2.result.now c.value_or-2.ensures c.in_default-merge_of.ensures.none

pub returns-in_default-version_of-clause-none : goal.returns-in_default-version_of-clause-none
returns-in_default-version_of-clause-none c =
    let m : IsMatched modes.Preprocess c.args.words.now (found_of c.in-Some.matches) =
    subst (λ (o : Option ArgMatches). IfSome o (λ m. IsMatched modes.Preprocess c.args.words.now (found_of m))) c.in-Some.is c.in_ok-matches.ensures.some in
    preprocess_version c.args.words.now (found_of c.in-Some.matches) m c.value_or-3.result.now c.value_or-3.ensures c.in_default-version_of.ensures.none

pub returns-clause-some : goal.returns-clause-some
returns-clause-some c =
    let m : IsMatched modes.Preprocess c.args.words.now (found_of c.in-Some.matches) =
    subst (λ (o : Option ArgMatches). IfSome o (λ m. IsMatched modes.Preprocess c.args.words.now (found_of m))) c.in-Some.is c.in_ok-matches.ensures.some in
    preprocess_some c.args.words.now (found_of c.in-Some.matches) m _ _ _ c.in-Some-form_of.form c.in-Some-merge_of.merge c.in-Some-version_of.version
    (c.in_ok-file.ensures ∙ c.value_or-4.ensures) (c.in_ok-techniques.ensures ∙ c.value_or-5.ensures) c.in_ok-map.ensures
    (c.in-Some-form_of.ensures.some ∙ c.value_or.ensures) (c.in-Some-merge_of.ensures.some ∙ c.value_or-2.ensures) (c.in-Some-version_of.ensures.some ∙ c.value_or-3.ensures)
