use Rattle.std.proofs.Common.{[], refl}
use Rattle.mp_clauses.specs.Slots.{live_clauses}
use Rattle.t_failed.proofs.PairClauses.{pairs-run}
use Rattle.t_failed.proofs.PairTurns.{untouched-run, idle-none, idle-found, found-within, pairs-turned, pairs-root, pairs-mentioned, pairs-labels, pairs-units, is-none, has-some, label-up, kept-root, kept-mentioned, pairing, put-first}
use Rattle.t_failed.proofs.pairing.PairingTurn.turn.Goals as goal

pub returns-in_default-clause-run : goal.returns-in_default-clause-run
returns-in_default-clause-run c = untouched-run c.args.store.now c.args.store.now refl

pub returns-in_default-clause-turned : goal.returns-in_default-clause-turned
returns-in_default-clause-turned c = (refl, c.requires.empty, idle-none c.args.store.now c.args.item c.in_default.ensures)

pub find_partners-requires-clause-root : goal.find_partners-requires-clause-root
find_partners-requires-clause-root c = c.requires.fits.0

pub find_partners-requires-clause-mentioned : goal.find_partners-requires-clause-mentioned
find_partners-requires-clause-mentioned c = c.requires.fits.1

pub find_partners-requires-clause-labels : goal.find_partners-requires-clause-labels
find_partners-requires-clause-labels c = rw c.deref.ensures.value c.requires.fits.2

pub find_partners-requires-clause-units : goal.find_partners-requires-clause-units
find_partners-requires-clause-units c = c.requires.fits.3

pub find_partners-requires-clause-lit : goal.find_partners-requires-clause-lit
find_partners-requires-clause-lit c = label-up c.args.store.now c.in-Some.lit c.vars.ensures.sound c.in-Some.ensures.1

pub returns-in_err-find_partners-clause-run : goal.returns-in_err-find_partners-clause-run
returns-in_err-find_partners-clause-run c = untouched-run c.args.store.now c.args.store.now refl

pub returns-then-have_none-clause-run : goal.returns-then-have_none-clause-run
returns-then-have_none-clause-run c = untouched-run c.args.store.now c.args.store.now refl

pub returns-then-have_none-clause-turned : goal.returns-then-have_none-clause-turned
returns-then-have_none-clause-turned c =
    (refl, c.requires.empty, idle-found c.args.store.now c.args.item c.in-Some.lit _ c.in-Some.ensures.0 c.in_ok-find_partners.ensures.found (is-none _ c.deref-2.result.now c.have_none.result c.if-have_none.true c.deref-2.ensures.value c.have_none.ensures))

pub add_pairs-requires-clause-lit : goal.add_pairs-requires-clause-lit
add_pairs-requires-clause-lit c = label-up c.args.store.now c.in-Some.lit c.vars.ensures.sound c.in-Some.ensures.1

pub add_pairs-requires-clause-partners : goal.add_pairs-requires-clause-partners
add_pairs-requires-clause-partners c = rw c.deref-3.ensures.value (found-within c.args.store.now c.in-Some.lit _ c.vars.ensures.sound c.in-Some.ensures.1 c.in_ok-find_partners.ensures.found)

pub returns-in_err-add_pairs-clause-run : goal.returns-in_err-add_pairs-clause-run
returns-in_err-add_pairs-clause-run c = untouched-run c.args.store.now c.add_pairs.new.store c.in_err-add_pairs.ensures.err

pub follow-requires : goal.follow-requires
follow-requires c =
    let p = pairing c.args.store.now c.add_pairs.new.store c.args.item c.in-Some.lit _ _ c.requires.unrefuted c.in-Some.ensures.1 c.in_ok-find_partners.ensures.found c.deref-3.ensures.value c.in_ok-add_pairs.ensures.ok in
    rw c.next_id-first.ensures (pairs-root c.args.store.now c.add_pairs.new.store c.in-Some.lit _ _ _ p.paired p.untouched p.added (kept-root c.args.store.now _ _ _ _ c.requires.fits.0 c.in_ok-find_partners.ensures.trail c.in_ok-find_partners.ensures.refuted) (kept-mentioned (live_clauses c.args.store.now.slots) _ _ c.requires.fits.1 c.in_ok-find_partners.ensures.trail))

pub returns-in_err-follow-clause-run : goal.returns-in_err-follow-clause-run
returns-in_err-follow-clause-run c =
    let p = pairing c.args.store.now c.add_pairs.new.store c.args.item c.in-Some.lit _ _ c.requires.unrefuted c.in-Some.ensures.1 c.in_ok-find_partners.ensures.found c.deref-3.ensures.value c.in_ok-add_pairs.ensures.ok in
    pairs-run c.args.store.now c.add_pairs.new.store c.in-Some.lit _ p.paired p.untouched

pub returns-in_err-put_others-clause-run : goal.returns-in_err-put_others-clause-run
returns-in_err-put_others-clause-run c =
    let p = pairing c.args.store.now c.add_pairs.new.store c.args.item c.in-Some.lit _ _ c.requires.unrefuted c.in-Some.ensures.1 c.in_ok-find_partners.ensures.found c.deref-3.ensures.value c.in_ok-add_pairs.ensures.ok in
    pairs-run c.args.store.now c.add_pairs.new.store c.in-Some.lit _ p.paired p.untouched

pub returns-clause-run : goal.returns-clause-run
returns-clause-run c =
    let p = pairing c.args.store.now c.add_pairs.new.store c.args.item c.in-Some.lit _ _ c.requires.unrefuted c.in-Some.ensures.1 c.in_ok-find_partners.ensures.found c.deref-3.ensures.value c.in_ok-add_pairs.ensures.ok in
    pairs-run c.args.store.now c.add_pairs.new.store c.in-Some.lit _ p.paired p.untouched

pub returns-clause-fits : goal.returns-clause-fits
returns-clause-fits c = λ n.
    let p = pairing c.args.store.now c.add_pairs.new.store c.args.item c.in-Some.lit _ _ c.requires.unrefuted c.in-Some.ensures.1 c.in_ok-find_partners.ensures.found c.deref-3.ensures.value c.in_ok-add_pairs.ensures.ok in (
      c.in_ok-follow.ensures.root,
      c.in_ok-follow.ensures.mentioned (pairs-mentioned c.args.store.now c.add_pairs.new.store c.in-Some.lit _ _ p.added (kept-mentioned (live_clauses c.args.store.now.slots) _ _ c.requires.fits.1 c.in_ok-find_partners.ensures.trail)),
      pairs-labels c.args.store.now c.add_pairs.new.store c.in-Some.lit _ _ p.added c.requires.fits.2,
      pairs-units c.args.store.now c.add_pairs.new.store c.in-Some.lit _ _ p.added c.requires.fits.3,
    )

pub returns-clause-turned : goal.returns-clause-turned
returns-clause-turned c =
    let p = pairing c.args.store.now c.add_pairs.new.store c.args.item c.in-Some.lit _ _ c.requires.unrefuted c.in-Some.ensures.1 c.in_ok-find_partners.ensures.found c.deref-3.ensures.value c.in_ok-add_pairs.ensures.ok in
    let some = has-some _ c.deref-2.result.now c.have_none.result c.if-have_none.false c.deref-2.ensures.value c.have_none.ensures in
    pairs-turned c.args.store.now c.add_pairs.new.store c.args.item c.in-Some.lit some.0 _ _ c.put_others.new.again c.in-Some.ensures.0 c.in_ok-find_partners.ensures.found p.paired p.added some.1 c.requires.fits.2 (put-first c.args.again.now [] c.put_others.new.again _ c.requires.empty (rw c.deref-4.ensures.value at c.in_ok-put_others.ensures))
