use Rattle.std.proofs.Common.{◌≡◌, ◌∙◌, List, ℕ, Some, ap, subst}
use Rattle.std.specs.Prelude.{Option, IfSome}
use Rattle.clap.specs.Words.{found_of}
use Rattle.clap.specs.declared.parser.matches.ArgMatches.{ArgMatches}
use Rattle.mp_words.specs.declared.modes.Mode.TheVariants as modes
use Rattle.mp_words.specs.Reading.{IsMatched}
use Rattle.mp_words.proofs.Chosen.{reconstruct_some, reconstruct_form, reconstruct_map}
use Rattle.mp_words.proofs.asked.read_reconstruct.Goals as goal

pub returns-in_default-values_of-clause-none : goal.returns-in_default-values_of-clause-none
returns-in_default-values_of-clause-none c =
    let m : IsMatched modes.Reconstruct c.args.words.now (found_of c.in-Some.matches) =
    subst (λ (o : Option ArgMatches). IfSome o (λ m. IsMatched modes.Reconstruct c.args.words.now (found_of m))) c.in-Some.is c.in_ok-matches.ensures.some in
    reconstruct_form c.args.words.now (found_of c.in-Some.matches) m c.value_or.result.now c.value_or.ensures c.in_default-values_of.ensures.none

pub returns-in_default-get_str-clause-none : goal.returns-in_default-get_str-clause-none
returns-in_default-get_str-clause-none c =
    let m : IsMatched modes.Reconstruct c.args.words.now (found_of c.in-Some.matches) =
    subst (λ (o : Option ArgMatches). IfSome o (λ m. IsMatched modes.Reconstruct c.args.words.now (found_of m))) c.in-Some.is c.in_ok-matches.ensures.some in
    reconstruct_map c.args.words.now (found_of c.in-Some.matches) m c.in_default-get_str.ensures

pub returns-clause-some : goal.returns-clause-some
returns-clause-some c =
    let m : IsMatched modes.Reconstruct c.args.words.now (found_of c.in-Some.matches) =
    subst (λ (o : Option ArgMatches). IfSome o (λ m. IsMatched modes.Reconstruct c.args.words.now (found_of m))) c.in-Some.is c.in_ok-matches.ensures.some in
    reconstruct_some c.args.words.now (found_of c.in-Some.matches) m _ _ _ c.in-Some-values_of.form (c.in_ok-file.ensures ∙ c.value_or-2.ensures)
    (some_same _ _ c.in_ok-map.ensures ∙ c.in-Some-get_str.ensures) c.in_ok-original.ensures (c.in-Some-values_of.ensures.some ∙ c.value_or.ensures)
  where
    some_same : (x y : List ℕ) → x ≡ y → Some x ≡ Some y
    some_same x y e = ap (λ (t : List ℕ). Some t) e
