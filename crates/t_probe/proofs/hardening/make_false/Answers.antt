use Rattle.std.proofs.Common.{refl, ◌≡◌, [], sym, ◌∙◌}
use Rattle.std.proofs.lemmas.Bool.{true≢false}
use Rattle.t_probe.specs.Hardening.{hardening}
use Rattle.t_probe.proofs.Calls.{untouched-run, empty-core, some-core}
use Rattle.t_probe.proofs.Hardened.{harden-itself, hardened-all, hardened-nothing, dear-fit}
use Rattle.t_probe.proofs.hardening.make_false.Goals as goal

pub returns-in_err-lits-clause-run : goal.returns-in_err-lits-clause-run
returns-in_err-lits-clause-run c = untouched-run hardening c.args.store.now c.args.store.now harden-itself refl

pub returns-then-is_empty-clause-run : goal.returns-then-is_empty-clause-run
returns-then-is_empty-clause-run c = untouched-run hardening c.args.store.now c.args.store.now harden-itself refl

pub returns-then-is_empty-clause-hardened : goal.returns-then-is_empty-clause-hardened
returns-then-is_empty-clause-hardened c = (hardened-nothing c.args.store.now c.args.model.now c.args.bound c.args.costs.now c.in_ok-lits.lits c.requires.costs c.requires.model c.requires.bound c.in_ok-lits.ensures (empty-core c.items.result.now c.in_ok-lits.lits c.is_empty.result c.items.ensures c.is_empty.ensures c.if-is_empty.true)).0

pub returns-then-is_empty-clause-fixed : goal.returns-then-is_empty-clause-fixed
returns-then-is_empty-clause-fixed c = (hardened-nothing c.args.store.now c.args.model.now c.args.bound c.args.costs.now c.in_ok-lits.lits c.requires.costs c.requires.model c.requires.bound c.in_ok-lits.ensures (empty-core c.items.result.now c.in_ok-lits.lits c.is_empty.result c.items.ensures c.is_empty.ensures c.if-is_empty.true)).1

pub fixing-requires-clause-distinct : goal.fixing-requires-clause-distinct
fixing-requires-clause-distinct c = (dear-fit c.args.store.now c.args.model.now c.args.bound c.args.costs.now c.in_ok-lits.lits c.vars.ensures.sound c.requires.costs c.in_ok-lits.ensures).0

pub fixing-requires-clause-within : goal.fixing-requires-clause-within
fixing-requires-clause-within c = (dear-fit c.args.store.now c.args.model.now c.args.bound c.args.costs.now c.in_ok-lits.lits c.vars.ensures.sound c.requires.costs c.in_ok-lits.ensures).1

pub returns-in_err-fixing-clause-run : goal.returns-in_err-fixing-clause-run
returns-in_err-fixing-clause-run c = untouched-run hardening c.args.store.now c.args.store.now harden-itself refl

pub returns-in_err-rewrite-clause-run : goal.returns-in_err-rewrite-clause-run
returns-in_err-rewrite-clause-run c = untouched-run hardening c.args.store.now c.rewrite.new.self harden-itself c.in_err-rewrite.ensures.err

pub returns-clause-run : goal.returns-clause-run
returns-clause-run c = (hardened-all c.args.store.now c.rewrite.new.self c.args.model.now c.args.bound c.args.costs.now c.in_ok-lits.lits c.in_ok-fixing.fixing c.vars.ensures.sound c.requires.costs c.requires.model c.requires.bound c.in_ok-lits.ensures (some-core c.items.result.now c.in_ok-lits.lits c.is_empty.result c.items.ensures c.is_empty.ensures c.if-is_empty.false) c.in_ok-fixing.ensures.exact c.in_ok-rewrite.ensures.ok).0.run

pub returns-clause-change : goal.returns-clause-change
returns-clause-change c = (hardened-all c.args.store.now c.rewrite.new.self c.args.model.now c.args.bound c.args.costs.now c.in_ok-lits.lits c.in_ok-fixing.fixing c.vars.ensures.sound c.requires.costs c.requires.model c.requires.bound c.in_ok-lits.ensures (some-core c.items.result.now c.in_ok-lits.lits c.is_empty.result c.items.ensures c.is_empty.ensures c.if-is_empty.false) c.in_ok-fixing.ensures.exact c.in_ok-rewrite.ensures.ok).0.change

pub returns-clause-hardened : goal.returns-clause-hardened
returns-clause-hardened c = (hardened-all c.args.store.now c.rewrite.new.self c.args.model.now c.args.bound c.args.costs.now c.in_ok-lits.lits c.in_ok-fixing.fixing c.vars.ensures.sound c.requires.costs c.requires.model c.requires.bound c.in_ok-lits.ensures (some-core c.items.result.now c.in_ok-lits.lits c.is_empty.result c.items.ensures c.is_empty.ensures c.if-is_empty.false) c.in_ok-fixing.ensures.exact c.in_ok-rewrite.ensures.ok).0.hardened

pub returns-clause-fixed : goal.returns-clause-fixed
returns-clause-fixed c = (hardened-all c.args.store.now c.rewrite.new.self c.args.model.now c.args.bound c.args.costs.now c.in_ok-lits.lits c.in_ok-fixing.fixing c.vars.ensures.sound c.requires.costs c.requires.model c.requires.bound c.in_ok-lits.ensures (some-core c.items.result.now c.in_ok-lits.lits c.is_empty.result c.items.ensures c.is_empty.ensures c.if-is_empty.false) c.in_ok-fixing.ensures.exact c.in_ok-rewrite.ensures.ok).1
