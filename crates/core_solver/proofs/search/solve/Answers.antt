use Rattle.std.proofs.Common.{◌≡◌, ◌+◌, ◌-◌, ◌*◌, ◌∷◌, [], length, arith, refl, ap, ◌∙◌}
use Rattle.std.proofs.lemmas.List.{length_push}
use Rattle.core_solver.specs.declared.search.Search.{Search}
use Rattle.core_solver.specs.Trails.{Assigned}
use Rattle.core_solver.specs.Conflicts.{noted, is_seen}
use Rattle.core_solver.proofs.Sounded.{trail-short, grown-length}
use Rattle.core_solver.proofs.Searched.{cursor-none, cursor-longer, cursor-grown, cursor-back, searching-grown, core-none, room-for, last-inside, forced-after, propagated-before, spent, taken-searching, decided, decided-sound, decided-searching, smaller-after, core-found, model-found}
use Rattle.core_solver.proofs.search.solve.Goals as goal

pub solve-init : goal.solve-init
solve-init c =
    let h = rw c.in-Some.is at c.in_ok-search.ensures in
    record { searching = h.searching; from = omega arith; watching = h.watching; cursor = cursor-none c.args.query.now c.in-Some.search.trail.lits; budget = omega arith }

pub returns-in_default-last_mark : goal.returns-in_default-last_mark
returns-in_default-last_mark c =
    let q = c.args.query.now in
    let s : Search = c.solve.search in
    let v : Search = record s { watches = c.propagate.new.watches; trail = c.propagate.new.trail } in
    let i = c.solve.invariant in
    let e = c.in_ok-found.ensures in
    let h = searching-grown q s v c.solve.learnt i.searching refl refl e.state e.grown in
    let k = c.len-len.ensures.sound in
    core-none q v c.solve.learnt c.in-Some-found.conflict c.new-in_default-last_mark.result h c.in_default-last_mark.ensures (rw c.in-Some-found.is at e.answer) c.new-in_default-last_mark.ensures

pub learn-requires-clause-room : goal.learn-requires-clause-room
learn-requires-clause-room c =
    let q = c.args.query.now in
    let s : Search = c.solve.search in
    let v : Search = record s { watches = c.propagate.new.watches; trail = c.propagate.new.trail } in
    let i = c.solve.invariant in
    let e = c.in_ok-found.ensures in
    let h = searching-grown q s v c.solve.learnt i.searching refl refl e.state e.grown in
    let k = c.len-len.ensures.sound in
    room-for q v c.solve.learnt h k

pub learn-requires-clause-mark : goal.learn-requires-clause-mark
learn-requires-clause-mark c =
    let q = c.args.query.now in
    let s : Search = c.solve.search in
    let v : Search = record s { watches = c.propagate.new.watches; trail = c.propagate.new.trail } in
    let i = c.solve.invariant in
    let e = c.in_ok-found.ensures in
    let h = searching-grown q s v c.solve.learnt i.searching refl refl e.state e.grown in
    let k = c.len-len.ensures.sound in
    (last-inside q v c.solve.learnt c.in-Some-last_mark.mark h c.in-Some-last_mark.ensures.0 c.in-Some-last_mark.ensures.1).1

pub learn-requires-clause-from_one : goal.learn-requires-clause-from_one
learn-requires-clause-from_one c =
    let q = c.args.query.now in
    let s : Search = c.solve.search in
    let v : Search = record s { watches = c.propagate.new.watches; trail = c.propagate.new.trail } in
    let i = c.solve.invariant in
    let e = c.in_ok-found.ensures in
    let h = searching-grown q s v c.solve.learnt i.searching refl refl e.state e.grown in
    let k = c.len-len.ensures.sound in
    λ d x l y. (h.state.within d x l y).0

pub learn-requires-clause-forced : goal.learn-requires-clause-forced
learn-requires-clause-forced c =
    let q = c.args.query.now in
    let s : Search = c.solve.search in
    let v : Search = record s { watches = c.propagate.new.watches; trail = c.propagate.new.trail } in
    let i = c.solve.invariant in
    let e = c.in_ok-found.ensures in
    let h = searching-grown q s v c.solve.learnt i.searching refl refl e.state e.grown in
    let k = c.len-len.ensures.sound in
    forced-after q v c.solve.learnt c.in-Some-last_mark.mark h c.in-Some-last_mark.ensures.0 c.in-Some-last_mark.ensures.1

pub learn-requires-clause-steps : goal.learn-requires-clause-steps
learn-requires-clause-steps c =
    let q = c.args.query.now in
    let s : Search = c.solve.search in
    let v : Search = record s { watches = c.propagate.new.watches; trail = c.propagate.new.trail } in
    let i = c.solve.invariant in
    let e = c.in_ok-found.ensures in
    let h = searching-grown q s v c.solve.learnt i.searching refl refl e.state e.grown in
    let k = c.len-len.ensures.sound in
    h.state.steps

pub learn-requires-clause-rising : goal.learn-requires-clause-rising
learn-requires-clause-rising c =
    let q = c.args.query.now in
    let s : Search = c.solve.search in
    let v : Search = record s { watches = c.propagate.new.watches; trail = c.propagate.new.trail } in
    let i = c.solve.invariant in
    let e = c.in_ok-found.ensures in
    let h = searching-grown q s v c.solve.learnt i.searching refl refl e.state e.grown in
    let k = c.len-len.ensures.sound in
    h.rising

pub learn-requires-clause-propagated : goal.learn-requires-clause-propagated
learn-requires-clause-propagated c =
    let q = c.args.query.now in
    let s : Search = c.solve.search in
    let v : Search = record s { watches = c.propagate.new.watches; trail = c.propagate.new.trail } in
    let i = c.solve.invariant in
    let e = c.in_ok-found.ensures in
    let h = searching-grown q s v c.solve.learnt i.searching refl refl e.state e.grown in
    let k = c.len-len.ensures.sound in
    propagated-before q v c.solve.learnt c.in-Some-last_mark.mark h k c.in-Some-last_mark.ensures.0 c.in-Some-last_mark.ensures.1

pub returns-then-learnt-query : goal.returns-then-learnt-query
returns-then-learnt-query c =
    let q = c.args.query.now in
    let s : Search = c.solve.search in
    let v : Search = record s { watches = c.propagate.new.watches; trail = c.propagate.new.trail } in
    let i = c.solve.invariant in
    let e = c.in_ok-found.ensures in
    let h = searching-grown q s v c.solve.learnt i.searching refl refl e.state e.grown in
    let k = c.len-len.ensures.sound in
    spent q v c.solve.learnt c.in_ok-lesson-in-Some-found.lesson.clause c.in_ok-lessons-in-Some-found.field-0 h c.in_ok-lesson-in-Some-found.ensures.lesson c.if-learnt-query.true (rw c.len.ensures at c.in_ok-lessons-in-Some-found.ensures)

pub take_in-requires-clause-rising : goal.take_in-requires-clause-rising
take_in-requires-clause-rising c =
    let q = c.args.query.now in
    let s : Search = c.solve.search in
    let v : Search = record s { watches = c.propagate.new.watches; trail = c.propagate.new.trail } in
    let i = c.solve.invariant in
    let e = c.in_ok-found.ensures in
    let h = searching-grown q s v c.solve.learnt i.searching refl refl e.state e.grown in
    let k = c.len-len.ensures.sound in
    h.rising

pub solve-preserved-in-Some-found : goal.solve-preserved-in-Some-found
solve-preserved-in-Some-found c =
    let q = c.args.query.now in
    let s : Search = c.solve.search in
    let v : Search = record s { watches = c.propagate.new.watches; trail = c.propagate.new.trail } in
    let i = c.solve.invariant in
    let e = c.in_ok-found.ensures in
    let h = searching-grown q s v c.solve.learnt i.searching refl refl e.state e.grown in
    let k = c.len-len.ensures.sound in
    let w : Search = c.take_in.new.search in
    let l = c.in_ok-lesson-in-Some-found.ensures in
    let t = c.in_ok-from-in-Some-found.ensures in
    let b = i.budget in
    record {
      searching = taken-searching q v w c.solve.learnt c.in_ok-from-in-Some-found.from c.in_ok-lesson-in-Some-found.lesson.clause h l.lesson t.clauses t.state t.rising t.cut (λ j. ap (λ x. is_seen (noted x) j) t.analysis ∙ l.clear j) (ap (λ x. x.learnt) t.analysis ∙ l.empty) (ap (λ x. length x.seen.items) t.analysis ∙ l.room);
      from = t.watching.0;
      watching = t.watching.1;
      cursor = cursor-back q c.in_ok-from-in-Some-found.from c.propagate.new.trail w.trail c.solve.cursor c.back_to-cursor.result (cursor-grown q s.trail c.propagate.new.trail c.solve.cursor i.cursor e.grown) t.cut c.back_to-cursor.ensures;
      budget = omega (arith, b, c.if-learnt-query.false);
    }

pub choose-requires-clause-cursor : goal.choose-requires-clause-cursor
choose-requires-clause-cursor c =
    let q = c.args.query.now in
    let s : Search = c.solve.search in
    let v : Search = record s { watches = c.propagate.new.watches; trail = c.propagate.new.trail } in
    let i = c.solve.invariant in
    let e = c.in_ok-found.ensures in
    let h = searching-grown q s v c.solve.learnt i.searching refl refl e.state e.grown in
    let k = c.len-len.ensures.sound in
    cursor-grown q s.trail c.propagate.new.trail c.solve.cursor i.cursor e.grown

pub solve-smaller : goal.solve-smaller
solve-smaller c =
    let q = c.args.query.now in
    let s : Search = c.solve.search in
    let v : Search = record s { watches = c.propagate.new.watches; trail = c.propagate.new.trail } in
    let i = c.solve.invariant in
    let e = c.in_ok-found.ensures in
    let h = searching-grown q s v c.solve.learnt i.searching refl refl e.state e.grown in
    let k = c.len-len.ensures.sound in
    let o = c.in-Decide.ensures.choice in
    let lit = c.in-Decide.lit in
    let is = c.in_ok-decide-in-Decide.ensures in
    let up = o.0.within.1 in
    let size : length c.decide.new.self.lits ≡ length c.propagate.new.trail.lits + 1 = ap (λ (x : Assigned). length x.lits) is ∙ length_push c.propagate.new.trail.lits lit in
    let long = grown-length s.trail c.propagate.new.trail e.grown in
    let short = trail-short (decided c.propagate.new.trail lit) (decided-sound c.propagate.new.trail lit k (omega (arith, up, h.vars)) o.0.not_true o.0.not_false) in
    smaller-after ((q.budget - c.solve.learnt) * (q.vars + 2)) (q.vars + 1) (length s.trail.lits) (length c.decide.new.self.lits) (omega (arith, size, long)) (omega (arith, size, short, h.vars, length_push c.propagate.new.trail.lits lit))

pub solve-preserved : goal.solve-preserved
solve-preserved c =
    let q = c.args.query.now in
    let s : Search = c.solve.search in
    let v : Search = record s { watches = c.propagate.new.watches; trail = c.propagate.new.trail; order = c.choose.new.order } in
    let i = c.solve.invariant in
    let e = c.in_ok-found.ensures in
    let h = searching-grown q s v c.solve.learnt i.searching refl refl e.state e.grown in
    let k = c.len-len.ensures.sound in
    let o = c.in-Decide.ensures.choice in
    let lit = c.in-Decide.lit in
    let is = c.in_ok-decide-in-Decide.ensures in
    let made = decided-searching q v (record v { trail = c.decide.new.self }) c.solve.learnt lit h k (rw c.in-None.is at e.answer) o.1 (ap (λ (x : Assigned). record v { trail = x }) is) in
    let size : length c.decide.new.self.lits ≡ length c.propagate.new.trail.lits + 1 = ap (λ (x : Assigned). length x.lits) is ∙ length_push c.propagate.new.trail.lits lit in
    record {
      searching = made.0;
      from = omega (arith, size, c.len-len.ensures.len);
      watching = rw c.len-len.ensures.len made.1;
      cursor = rw is (cursor-longer q c.propagate.new.trail.lits (lit ∷ []) c.choose.new.cursor c.in-Decide.ensures.cursor);
      budget = i.budget;
    }

pub explain-requires-clause-room : goal.explain-requires-clause-room
explain-requires-clause-room c =
    let q = c.args.query.now in
    let s : Search = c.solve.search in
    let v : Search = record s { watches = c.propagate.new.watches; trail = c.propagate.new.trail } in
    let i = c.solve.invariant in
    let e = c.in_ok-found.ensures in
    let h = searching-grown q s v c.solve.learnt i.searching refl refl e.state e.grown in
    let k = c.len-len.ensures.sound in
    room-for q v c.solve.learnt h k

pub returns-in-Refuted : goal.returns-in-Refuted
returns-in-Refuted c =
    let q = c.args.query.now in
    let s : Search = c.solve.search in
    let v : Search = record s { watches = c.propagate.new.watches; trail = c.propagate.new.trail } in
    let i = c.solve.invariant in
    let e = c.in_ok-found.ensures in
    let h = searching-grown q s v c.solve.learnt i.searching refl refl e.state e.grown in
    let k = c.len-len.ensures.sound in
    core-found q v c.solve.learnt c.in-Refuted.lit c.in_ok-core-in-Refuted.core h k c.in_ok-core-in-Refuted.ensures.core c.in-Refuted.ensures.choice.0 c.in-Refuted.ensures.choice.1

pub returns-in-Full : goal.returns-in-Full
returns-in-Full c =
    let q = c.args.query.now in
    let s : Search = c.solve.search in
    let v : Search = record s { watches = c.propagate.new.watches; trail = c.propagate.new.trail } in
    let i = c.solve.invariant in
    let e = c.in_ok-found.ensures in
    let h = searching-grown q s v c.solve.learnt i.searching refl refl e.state e.grown in
    let k = c.len-len.ensures.sound in
    model-found q v c.solve.learnt c.in_ok-model-in-Full.field-0 c.requires h k (rw c.in-None.is at e.answer) c.in-Full.ensures.choice.0 c.in-Full.ensures.choice.1 c.in_ok-model-in-Full.ensures.len c.in_ok-model-in-Full.ensures.given
