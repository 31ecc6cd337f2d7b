use Rattle.std.proofs.Common.{◌≡◌, refl, inl, inr}
use Rattle.mp_turns.specs.Clauses.{replacing}
use Rattle.t_subsume.specs.Shortening.{shortened_by}
use Rattle.t_subsume.proofs.Parts.{after-longer}
use Rattle.t_subsume.proofs.strengthening.shorten.Goals as goal

pub shortened-requires : goal.shortened-requires
shortened-requires c = rw c.items.ensures c.requires.valid.gone_live

pub returns-in_err-added-clause-left : goal.returns-in_err-added-clause-left
returns-in_err-added-clause-left c = inl refl

pub replace-requires-clause-valid : goal.replace-requires-clause-valid
replace-requires-clause-valid c =
    let added : c.in_ok-added.added ≡ shortened_by c.args.lit c.args.store.now.slots c.args.gone = rw c.items.ensures at c.in_ok-added.ensures in
    rw (added, c.new.ensures) c.requires.valid

pub returns-in_err-replace-clause-left : goal.returns-in_err-replace-clause-left
returns-in_err-replace-clause-left c = inl c.in_err-replace.ensures.err

pub queue_again-requires : goal.queue_again-requires
queue_again-requires c = rw c.next_id-first.ensures (after-longer (replacing c.args.gone c.in_ok-added.added c.new.result) c.args.store.now c.replace.new.store c.in_ok-replace.ensures.ok)

pub returns-in_err-queue_again-clause-left : goal.returns-in_err-queue_again-clause-left
returns-in_err-queue_again-clause-left c =
    let added : c.in_ok-added.added ≡ shortened_by c.args.lit c.args.store.now.slots c.args.gone = rw c.items.ensures at c.in_ok-added.ensures in
    inr (rw (added, c.new.ensures) at c.in_ok-replace.ensures.ok)

pub returns-clause-ok : goal.returns-clause-ok
returns-clause-ok c =
    let added : c.in_ok-added.added ≡ shortened_by c.args.lit c.args.store.now.slots c.args.gone = rw c.items.ensures at c.in_ok-added.ensures in
    rw (added, c.new.ensures) at c.in_ok-replace.ensures.ok

pub returns-clause-left : goal.returns-clause-left
returns-clause-left c =
    let added : c.in_ok-added.added ≡ shortened_by c.args.lit c.args.store.now.slots c.args.gone = rw c.items.ensures at c.in_ok-added.ensures in
    inr (rw (added, c.new.ensures) at c.in_ok-replace.ensures.ok)

pub returns-clause-again : goal.returns-clause-again
returns-clause-again c = rw c.next_id-first.ensures at c.in_ok-queue_again.ensures
