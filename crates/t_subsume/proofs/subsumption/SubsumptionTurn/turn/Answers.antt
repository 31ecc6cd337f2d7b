use Rattle.std.proofs.Common.{◌<◌, length, sym, inr, arith}
use Rattle.mp_store.proofs.Runs.{run-same}
use Rattle.mp_turns.proofs.Pacing.{run-itself}
use Rattle.t_subsume.specs.Subsumption.{subsumption, subsuming}
use Rattle.t_subsume.proofs.Subsuming.{subsuming-sound, clause-some, clause-normal, clause-within, gone-fits, drop-run, drop-changed, untouched-ids, drop-ids, none-held-run}
use Rattle.t_subsume.proofs.Filtered.{tells-run}
use Rattle.t_subsume.proofs.Nearby.{near-run}
use Rattle.t_subsume.proofs.subsumption.SubsumptionTurn.turn.Goals as goal

pub returns-then-not-live-clause-run : goal.returns-then-not-live-clause-run
returns-then-not-live-clause-run c = run-itself subsuming c.args.store.now subsuming-sound

pub holders-requires-clause-some : goal.holders-requires-clause-some
holders-requires-clause-some c = clause-some c.args.store.now c.args.item c.clause.result.now c.vars.ensures.sound c.requires.unrefuted (sym c.clause.ensures)

pub holders-requires-clause-normal : goal.holders-requires-clause-normal
holders-requires-clause-normal c = clause-normal c.args.store.now c.args.item c.clause.result.now c.vars.ensures.sound (sym c.clause.ensures)

pub holders-requires-clause-within : goal.holders-requires-clause-within
holders-requires-clause-within c = clause-within c.args.store.now c.args.item c.clause.result.now c.vars.ensures.sound (sym c.clause.ensures)

pub returns-in_err-gone-clause-run : goal.returns-in_err-gone-clause-run
returns-in_err-gone-clause-run c = run-itself subsuming c.args.store.now subsuming-sound

pub returns-then-len-eq0-clause-run : goal.returns-then-len-eq0-clause-run
returns-then-len-eq0-clause-run c = run-itself subsuming c.args.store.now subsuming-sound

pub replace-requires-clause-valid : goal.replace-requires-clause-valid
replace-requires-clause-valid c = rw (c.new.ensures, c.new-2.ensures) (gone-fits c.args.store.now c.args.item c.clause.result.now c.in_ok-gone.gone c.in_ok-gone.ensures)

pub returns-in_err-replace-clause-run : goal.returns-in_err-replace-clause-run
returns-in_err-replace-clause-run c = run-same subsumption.LeavesAlone c.args.store.now c.replace.new.store subsuming-sound.itself c.in_err-replace.ensures.err

pub returns-clause-run : goal.returns-clause-run
returns-clause-run c =
    drop-run c.args.store.now c.replace.new.store c.args.item c.clause.result.now c.in_ok-gone.gone (sym c.clause.ensures) c.in_ok-gone.ensures (rw (c.new.ensures, c.new-2.ensures) at c.in_ok-replace.ensures.ok)

pub returns-clause-turned : goal.returns-clause-turned
returns-clause-turned c =
    let some : 0 < length c.in_ok-gone.gone = omega (arith, c.len.ensures, c.if-len-eq0.false) in
    rw c.requires.empty
    (inr (drop-changed c.args.store.now c.replace.new.store c.args.item c.clause.result.now c.in_ok-gone.gone c.vars.ensures.sound c.requires.unrefuted (sym c.clause.ensures) c.in_ok-gone.ensures some (rw (c.new.ensures, c.new-2.ensures) at c.in_ok-replace.ensures.ok)))

pub returns-then-not-live-clause-stays : goal.returns-then-not-live-clause-stays
returns-then-not-live-clause-stays c = λ id x e. e

pub returns-in_err-gone-clause-stays : goal.returns-in_err-gone-clause-stays
returns-in_err-gone-clause-stays c = λ id x e. e

pub returns-then-len-eq0-clause-stays : goal.returns-then-len-eq0-clause-stays
returns-then-len-eq0-clause-stays c = λ id x e. e

pub returns-in_err-replace-clause-stays : goal.returns-in_err-replace-clause-stays
returns-in_err-replace-clause-stays c = untouched-ids c.args.store.now c.replace.new.store c.in_err-replace.ensures.err

pub returns-clause-stays : goal.returns-clause-stays
returns-clause-stays c = drop-ids c.args.store.now c.replace.new.store c.in_ok-gone.gone c.requires.unrefuted (rw (c.new.ensures, c.new-2.ensures) at c.in_ok-replace.ensures.ok)

pub holders-requires-clause-rested : goal.holders-requires-clause-rested
holders-requires-clause-rested c = c.least-least.ensures c.clause.result.now (sym c.clause.ensures)

pub returns-clause-fits : goal.returns-clause-fits
returns-clause-fits c n =
    let run = drop-run c.args.store.now c.replace.new.store c.args.item c.clause.result.now c.in_ok-gone.gone (sym c.clause.ensures) c.in_ok-gone.ensures (rw (c.new.ensures, c.new-2.ensures) at c.in_ok-replace.ensures.ok) in (
      none-held-run c.args.self.now.mark c.args.store.now c.replace.new.store c.requires.fits.0 run,
      tells-run subsumption.LeavesAlone c.args.self.now.filter c.args.store.now c.replace.new.store c.requires.fits.1 run,
      near-run subsumption.LeavesAlone c.args.self.now.mark c.args.self.now.near c.args.store.now c.replace.new.store c.requires.fits.2 run,
    )
