use Rattle.std.proofs.Common.{◌∷◌, ◌++◌, ◌∙◌, ◌+◌, [], List, ℕ, sym, refl, subst, ap, arith, drop, get_or}
use Rattle.std.proofs.lemmas.List.{drop_all}
use Rattle.mp_clauses.specs.Places.{literal_at}
use Rattle.t_matching.specs.Matching.{AreMatching, IsMatchOf, LeavesOffset}
use Rattle.t_matching.proofs.PairIds.{rest-ids}
use Rattle.t_matching.proofs.PairTurns.{ArePairsUnderway, pairs-begin, pairs-idle, pairs-change, pairs-spent, pairs-done, pairs-run}
use Rattle.t_matching.proofs.MatchTurns.{match-leaving, match-pairs, match-step, match-covers, turn-same, order-more, costs-same}
use Rattle.t_matching.proofs.matching.matched.Goals as goal

pub returns-in_err-items-clause-run : goal.returns-in_err-items-clause-run
returns-in_err-items-clause-run c = turn-same c.args.store.now c.args.store.now refl

pub returns-in_err-free-clause-run : goal.returns-in_err-free-clause-run
returns-in_err-free-clause-run c = turn-same c.args.store.now c.args.store.now refl

pub loop-item-init : goal.loop-item-init
loop-item-init c =
    let whole = c.items-item-items.ensures ∙ c.in_ok-items.ensures in
    record {
      underway = pairs-begin AreMatching LeavesOffset c.args.budget c.args.store.now c.items-item-items.result.now match-pairs match-leaving c.requires whole;
      sound = c.vars.ensures.sound;
      costs = λ k i. i;
      order = ([], sym whole);
      fits = c.in_ok-free.ensures;
    }

pub returns-then-not-spend-clause-answer : goal.returns-then-not-spend-clause-answer
returns-then-not-spend-clause-answer c =
    let xs : List ℕ = c.items-item-items.result.now in
    let i : ℕ = c.loop-item.item-index in
    let own = rest-ids xs i (get_or xs i 0) c.loop-item-test.true refl in
    pairs-spent AreMatching LeavesOffset c.args.budget c.loop-item.left c.args.store.now c.loop-item.store (get_or xs i 0) (drop (i + 1) xs) c.loop-item.changed
    (subst (λ (q : List ℕ). ArePairsUnderway AreMatching LeavesOffset c.args.budget c.loop-item.left c.args.store.now c.loop-item.store q c.loop-item.changed) own c.loop-item.invariant.underway) c.loop-item.invariant.sound (sym c.spend.ensures.taken ∙ c.if-not-spend.true)

pub returns-in_err-did-clause-run : goal.returns-in_err-did-clause-run
returns-in_err-did-clause-run c = pairs-run AreMatching LeavesOffset c.args.budget c.loop-item.left c.args.store.now c.loop-item.store c.match_turn.new.store (drop c.loop-item.item-index c.items-item-items.result.now) c.loop-item.changed match-leaving c.loop-item.invariant.sound c.loop-item.invariant.underway c.match_turn.ensures.run

pub loop-item-preserved-then-not-did : goal.loop-item-preserved-then-not-did
loop-item-preserved-then-not-did c =
    let xs : List ℕ = c.items-item-items.result.now in
    let i : ℕ = c.loop-item.item-index in
    let own = rest-ids xs i (get_or xs i 0) c.loop-item-test.true refl in
    let did = rw c.if-not-did.true at c.in_ok-did.ensures.turned in
    let before : ArePairsUnderway AreMatching LeavesOffset c.args.budget c.loop-item.left c.args.store.now c.loop-item.store (get_or xs i 0 ∷ drop (i + 1) xs) c.loop-item.changed =
    subst (λ (q : List ℕ). ArePairsUnderway AreMatching LeavesOffset c.args.budget c.loop-item.left c.args.store.now c.loop-item.store q c.loop-item.changed) own c.loop-item.invariant.underway in
    record {
      underway = rw c.spend.ensures.left (pairs-idle AreMatching LeavesOffset c.args.budget c.loop-item.left c.args.store.now c.loop-item.store c.match_turn.new.store (get_or xs i 0) (drop (i + 1) xs) c.loop-item.changed match-pairs match-leaving before c.loop-item.invariant.sound (sym c.spend.ensures.taken ∙ c.if-not-spend.false) did.0 did.1);
      sound = c.vars-in-loop-item.ensures.sound;
      costs = costs-same c.args.store.now c.loop-item.store c.match_turn.new.store did.0 c.loop-item.invariant.costs;
      order = order-more c.args.store.now xs i c.loop-item-test.true c.loop-item.invariant.order;
      fits = c.in_ok-did.ensures.fits;
    }

pub loop-item-preserved : goal.loop-item-preserved
loop-item-preserved c =
    let xs : List ℕ = c.items-item-items.result.now in
    let i : ℕ = c.loop-item.item-index in
    let item : ℕ = get_or xs i 0 in
    let own = rest-ids xs i item c.loop-item-test.true refl in
    let did : IsMatchOf (literal_at item) c.loop-item.store c.match_turn.new.store = rw c.if-not-did.false at c.in_ok-did.ensures.turned in
    let step = (match-step (literal_at item) c.loop-item.store c.match_turn.new.store did).2 in
    let before : ArePairsUnderway AreMatching LeavesOffset c.args.budget c.loop-item.left c.args.store.now c.loop-item.store (item ∷ drop (i + 1) xs) c.loop-item.changed =
    subst (λ (q : List ℕ). ArePairsUnderway AreMatching LeavesOffset c.args.budget c.loop-item.left c.args.store.now c.loop-item.store q c.loop-item.changed) own c.loop-item.invariant.underway in
    let order = c.loop-item.invariant.order in
    record {
      underway = rw c.spend.ensures.left (pairs-change AreMatching LeavesOffset c.args.budget c.loop-item.left c.args.store.now c.loop-item.store c.match_turn.new.store item (drop (i + 1) xs) (drop (i + 1) xs) c.loop-item.changed match-leaving before c.loop-item.invariant.sound (sym c.spend.ensures.taken ∙ c.if-not-spend.false) step.run step.standing step.smaller step.size (omega arith)
          (match-covers c.args.store.now c.loop-item.store c.match_turn.new.store item order.0 (drop (i + 1) xs) (order.1 ∙ ap (λ (q : List ℕ). order.0 ++ q) own) c.loop-item.invariant.costs did before.covers));
      sound = c.vars-in-loop-item.ensures.sound;
      costs = λ k m. c.loop-item.invariant.costs k (step.costs k m);
      order = order-more c.args.store.now xs i c.loop-item-test.true order;
      fits = c.in_ok-did.ensures.fits;
    }

pub returns-clause-answer : goal.returns-clause-answer
returns-clause-answer c =
    let none = drop_all c.loop-item.item-index c.items-item-items.result.now c.loop-item-test.false in
    pairs-done AreMatching LeavesOffset c.args.budget c.loop-item.left c.args.store.now c.loop-item.store c.loop-item.changed
    (subst (λ (q : List ℕ). ArePairsUnderway AreMatching LeavesOffset c.args.budget c.loop-item.left c.args.store.now c.loop-item.store q c.loop-item.changed) none c.loop-item.invariant.underway)
