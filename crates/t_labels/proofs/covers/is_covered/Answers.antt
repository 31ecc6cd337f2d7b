use Rattle.std.proofs.Common.{◌∙◌, ap, sym, refl, inl}
use Rattle.std.specs.Prelude.{◌==◌}
use Rattle.mp_store.proofs.KeptFixing.{live-at}
use Rattle.t_labels.proofs.Labels.{live-within}
use Rattle.t_labels.proofs.Payers.{unused-by, first-live, rest-live, covered-exact}
use Rattle.t_labels.proofs.covers.is_covered.Goals as goal

pub returns-in_default : goal.returns-in_default
returns-in_default c = (λ t. inl (unused-by c.args.lit c.args.store.now.slots c.occurrences-ids.result.now c.occurrences-ids.ensures.rising c.in_default.ensures.cases), λ t. refl)

pub clause-requires : goal.clause-requires
clause-requires c = first-live c.args.lit c.args.store.now.slots c.occurrences-ids.result.now c.in-Some.rest.now c.in-Some.first.now c.occurrences-ids.ensures.rising c.in-Some.ensures.cases.0

pub note_payers-requires : goal.note_payers-requires
note_payers-requires c = live-within c.args.store.now c.clause.result.now c.vars.ensures.sound (live-at c.args.store.now.slots c.in-Some.first.now c.clause.result.now (sym c.clause.ensures))

pub keep_common-requires : goal.keep_common-requires
keep_common-requires c = rest-live c.args.lit c.args.store.now.slots c.occurrences-ids.result.now c.in-Some.rest.now c.in-Some.first.now c.occurrences-ids.ensures.rising c.in-Some.ensures.cases.0

pub returns : goal.returns
returns c =
    covered-exact c.args.store.now c.args.lit c.occurrences-ids.result.now c.in-Some.rest.now c.in-Some.first.now c.clause.result.now c.note_payers.new.kept.items c.keep_common.new.kept.items c.is_empty.result c.requires.label
    c.occurrences-ids.ensures.rising c.in-Some.ensures.cases.0 c.clause.ensures c.in_ok-note_payers.ensures c.in_ok-keep_common.ensures (c.is_empty.ensures ∙ ap (λ n. n == 0) c.keep_common.new.kept.ok.0)
