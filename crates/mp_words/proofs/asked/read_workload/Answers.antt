use Rattle.std.proofs.Common.{◌∙◌, subst}
use Rattle.std.specs.Prelude.{Option, IfSome}
use Rattle.clap.specs.Words.{found_of}
use Rattle.clap.specs.declared.parser.matches.ArgMatches.{ArgMatches}
use Rattle.mp_words.specs.declared.modes.Mode.TheVariants as modes
use Rattle.mp_words.specs.Reading.{IsMatched}
use Rattle.mp_words.proofs.Chosen.{workload_some, workload_tasks}
use Rattle.mp_words.proofs.asked.read_workload.Goals as goal

pub returns-in_default-tasks_of-clause-none : goal.returns-in_default-tasks_of-clause-none
returns-in_default-tasks_of-clause-none c =
    let m : IsMatched modes.Workload c.args.words.now (found_of c.in-Some.matches) =
    subst (λ (o : Option ArgMatches). IfSome o (λ m. IsMatched modes.Workload c.args.words.now (found_of m))) c.in-Some.is c.in_ok-matches.ensures.some in
    workload_tasks c.args.words.now (found_of c.in-Some.matches) m c.value_or.result.now c.value_or.ensures c.in_default-tasks_of.ensures

pub returns-clause-some : goal.returns-clause-some
returns-clause-some c =
    let m : IsMatched modes.Workload c.args.words.now (found_of c.in-Some.matches) =
    subst (λ (o : Option ArgMatches). IfSome o (λ m. IsMatched modes.Workload c.args.words.now (found_of m))) c.in-Some.is c.in_ok-matches.ensures.some in
    workload_some c.args.words.now (found_of c.in-Some.matches) m c.value_or.result.now c.in-Some-tasks_of.tasks _ c.value_or.ensures c.in-Some-tasks_of.ensures (c.in_ok-techniques.ensures ∙ c.value_or-2.ensures)
