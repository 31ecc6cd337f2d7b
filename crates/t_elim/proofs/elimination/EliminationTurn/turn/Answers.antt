use Rattle.std.proofs.Common.{◌≡◌, ◌∙◌, refl, sym, subst, inl, inr}
use Rattle.std.specs.List.{filter}
use Rattle.std.proofs.lemmas.Bool.{cases_Bool}
use Rattle.mp_store.proofs.Runs.{run-same}
use Rattle.mp_turns.specs.Turned.{IsChangeOf}
use Rattle.mp_resting.proofs.Rested.{rested-run}
use Rattle.mp_turns.proofs.Pacing.{run-itself}
use Rattle.t_elim.specs.Eliminating.{variable_elimination, eliminating}
use Rattle.t_elim.specs.Resolved.{is_candidate, IsEliminatedAt}
use Rattle.t_elim.proofs.Gone.{candidate-is, other-idle}
use Rattle.t_elim.proofs.KeptElimination.{eliminated-run}
use Rattle.t_elim.proofs.Steps.{eliminated-by}
use Rattle.t_elim.proofs.Rounds.{eliminating-sound, eliminated-change}
use Rattle.t_elim.proofs.Again.{rested-idle}
use Rattle.t_elim.proofs.elimination.EliminationTurn.turn.Goals as goal

pub returns-then-vars-item-clause-run : goal.returns-then-vars-item-clause-run
returns-then-vars-item-clause-run c = run-itself eliminating c.args.store.now eliminating-sound

pub returns-then-not-is_candidate-clause-run : goal.returns-then-not-is_candidate-clause-run
returns-then-not-is_candidate-clause-run c = run-itself eliminating c.args.store.now eliminating-sound

pub returns-then-not-is_candidate-clause-turned : goal.returns-then-not-is_candidate-clause-turned
returns-then-not-is_candidate-clause-turned c = (refl, c.requires.empty, λ a b. other-idle c.args.store.now c.args.item c.vars.ensures.sound (sym c.is_candidate.ensures ∙ c.if-not-is_candidate.true))

pub is_untouched-requires : goal.is_untouched-requires
is_untouched-requires c = (candidate-is c.args.store.now c.args.item (sym c.is_candidate.ensures ∙ c.if-not-is_candidate.false)).up

pub returns-then-is_untouched-clause-run : goal.returns-then-is_untouched-clause-run
returns-then-is_untouched-clause-run c = run-itself eliminating c.args.store.now eliminating-sound

pub returns-then-is_untouched-clause-turned : goal.returns-then-is_untouched-clause-turned
returns-then-is_untouched-clause-turned c = (refl, c.requires.empty, λ a b. rested-idle c.args.self.now.seen.now c.args.store.now c.args.item c.requires.fits (c.is_untouched.ensures.remembered c.if-is_untouched.true) (c.is_untouched.ensures.stayed c.if-is_untouched.true))

pub pays_off-requires : goal.pays_off-requires
pays_off-requires c = (candidate-is c.args.store.now c.args.item (sym c.is_candidate.ensures ∙ c.if-not-is_candidate.false)).up

pub returns-in_err-worth-clause-run : goal.returns-in_err-worth-clause-run
returns-in_err-worth-clause-run c = run-itself eliminating c.args.store.now eliminating-sound

pub returns-then-not-worth-clause-run : goal.returns-then-not-worth-clause-run
returns-then-not-worth-clause-run c = run-itself eliminating c.args.store.now eliminating-sound

pub find_neighbours-requires : goal.find_neighbours-requires
find_neighbours-requires c = (candidate-is c.args.store.now c.args.item (sym c.is_candidate.ensures ∙ c.if-not-is_candidate.false)).up

pub returns-in_err-find_neighbours-clause-run : goal.returns-in_err-find_neighbours-clause-run
returns-in_err-find_neighbours-clause-run c = run-itself eliminating c.args.store.now eliminating-sound

pub returns-in_err-resolve_away-clause-run : goal.returns-in_err-resolve_away-clause-run
returns-in_err-resolve_away-clause-run c = run-same variable_elimination.LeavesAlone c.args.store.now c.resolve_away.new.store eliminating-sound.itself c.in_err-resolve_away.ensures.err

pub returns-in_err-queue_again-clause-run : goal.returns-in_err-queue_again-clause-run
returns-in_err-queue_again-clause-run c =
    let did : IsEliminatedAt c.args.item c.args.store.now c.resolve_away.new.store (filter (is_candidate c.resolve_away.new.store) c.find_neighbours.new.near.items) =
    eliminated-by c.args.item c.args.store.now c.resolve_away.new.store c.find_neighbours.new.near.items (filter (is_candidate c.resolve_away.new.store) c.find_neighbours.new.near.items) (sym c.is_candidate.ensures ∙ c.if-not-is_candidate.false) (c.in_ok-worth.ensures.0 c.if-not-worth.false) c.in_ok-resolve_away.ensures.ok c.in_ok-find_neighbours.ensures refl in
    eliminated-run c.args.item c.args.store.now c.resolve_away.new.store _ c.vars.ensures.sound did

pub returns-clause-run : goal.returns-clause-run
returns-clause-run c =
    let did : IsEliminatedAt c.args.item c.args.store.now c.resolve_away.new.store (filter (is_candidate c.resolve_away.new.store) c.find_neighbours.new.near.items) =
    eliminated-by c.args.item c.args.store.now c.resolve_away.new.store c.find_neighbours.new.near.items (filter (is_candidate c.resolve_away.new.store) c.find_neighbours.new.near.items) (sym c.is_candidate.ensures ∙ c.if-not-is_candidate.false) (c.in_ok-worth.ensures.0 c.if-not-worth.false) c.in_ok-resolve_away.ensures.ok c.in_ok-find_neighbours.ensures refl in
    eliminated-run c.args.item c.args.store.now c.resolve_away.new.store _ c.vars.ensures.sound did

pub returns-clause-turned : goal.returns-clause-turned
returns-clause-turned c =
    let did : IsEliminatedAt c.args.item c.args.store.now c.resolve_away.new.store (filter (is_candidate c.resolve_away.new.store) c.find_neighbours.new.near.items) =
    eliminated-by c.args.item c.args.store.now c.resolve_away.new.store c.find_neighbours.new.near.items (filter (is_candidate c.resolve_away.new.store) c.find_neighbours.new.near.items) (sym c.is_candidate.ensures ∙ c.if-not-is_candidate.false) (c.in_ok-worth.ensures.0 c.if-not-worth.false) c.in_ok-resolve_away.ensures.ok c.in_ok-find_neighbours.ensures refl in
    let put : c.queue_again.new.again ≡ (filter (is_candidate c.resolve_away.new.store) c.find_neighbours.new.near.items) = rw (c.requires.empty, c.deref.ensures.value) at c.in_ok-queue_again.ensures in
    elim (cases_Bool c.resolve_away.new.store.refuted) [
      | inl t ↦ inl t
      | inr f ↦ inr (subst (IsChangeOf eliminating c.args.item c.args.store.now c.resolve_away.new.store) (sym put) (eliminated-change c.args.item c.args.store.now c.resolve_away.new.store _ c.vars.ensures.sound c.vars-2.ensures.sound f did))
    ]

pub returns-clause-fits : goal.returns-clause-fits
returns-clause-fits c u =
    let did : IsEliminatedAt c.args.item c.args.store.now c.resolve_away.new.store (filter (is_candidate c.resolve_away.new.store) c.find_neighbours.new.near.items) =
    eliminated-by c.args.item c.args.store.now c.resolve_away.new.store c.find_neighbours.new.near.items (filter (is_candidate c.resolve_away.new.store) c.find_neighbours.new.near.items) (sym c.is_candidate.ensures ∙ c.if-not-is_candidate.false) (c.in_ok-worth.ensures.0 c.if-not-worth.false) c.in_ok-resolve_away.ensures.ok c.in_ok-find_neighbours.ensures refl in
    rested-run eliminating.IsIdle variable_elimination.LeavesAlone c.args.self.now.seen.now c.args.store.now c.resolve_away.new.store c.requires.fits (eliminated-run c.args.item c.args.store.now c.resolve_away.new.store _ c.vars.ensures.sound did)
