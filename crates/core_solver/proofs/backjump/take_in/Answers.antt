use Rattle.std.proofs.Common.{◌≡◌, ◌+◌, ◌++◌, ◌∷◌, [], ◌∙◌, length, take, sym, arith, ap, subst}
use Rattle.std.proofs.lemmas.List.{length_push}
use Rattle.core_solver.specs.Trails.{Assigned}
use Rattle.core_solver.proofs.Taken.{back-for, lesson-taken}
use Rattle.core_solver.proofs.Watched.{at-within}
use Rattle.core_solver.proofs.backjump.take_in.Goals as goal

pub add-requires-clause-first : goal.add-requires-clause-first
add-requires-clause-first c =
    let s = c.args.search.now in
    let t = c.requires.taught in
    let b = back-for s.clauses s.watches.pairs.items s.watches.lists.items s.trail c.retreat.new.self c.args.lesson.clause c.args.lesson.lit c.second_watch-second.result c.latest-back.result t.0 c.requires.state c.len-top.ensures.sound c.requires.rising c.requires.levels t.1 c.latest-back.ensures c.second_watch-second.ensures c.in_ok-retreat.ensures in
    at-within s.watches.lists.items c.retreat.new.self.vars c.args.lesson.lit b.state.places (b.within c.args.lesson.lit b.own).1

pub add-requires-clause-second : goal.add-requires-clause-second
add-requires-clause-second c =
    let s = c.args.search.now in
    let t = c.requires.taught in
    let b = back-for s.clauses s.watches.pairs.items s.watches.lists.items s.trail c.retreat.new.self c.args.lesson.clause c.args.lesson.lit c.second_watch-second.result c.latest-back.result t.0 c.requires.state c.len-top.ensures.sound c.requires.rising c.requires.levels t.1 c.latest-back.ensures c.second_watch-second.ensures c.in_ok-retreat.ensures in
    at-within s.watches.lists.items c.retreat.new.self.vars c.second_watch-second.result b.state.places (b.within c.second_watch-second.result b.other).1

pub assign-requires-clause-within : goal.assign-requires-clause-within
assign-requires-clause-within c =
    let s = c.args.search.now in
    let t = c.requires.taught in
    let b = back-for s.clauses s.watches.pairs.items s.watches.lists.items s.trail c.retreat.new.self c.args.lesson.clause c.args.lesson.lit c.second_watch-second.result c.latest-back.result t.0 c.requires.state c.len-top.ensures.sound c.requires.rising c.requires.levels t.1 c.latest-back.ensures c.second_watch-second.ensures c.in_ok-retreat.ensures in
    (b.within c.args.lesson.lit b.own).1

pub assign-requires-clause-open : goal.assign-requires-clause-open
assign-requires-clause-open c =
    let s = c.args.search.now in
    let t = c.requires.taught in
    let b = back-for s.clauses s.watches.pairs.items s.watches.lists.items s.trail c.retreat.new.self c.args.lesson.clause c.args.lesson.lit c.second_watch-second.result c.latest-back.result t.0 c.requires.state c.len-top.ensures.sound c.requires.rising c.requires.levels t.1 c.latest-back.ensures c.second_watch-second.ensures c.in_ok-retreat.ensures in
    b.not_true

pub assign-requires-clause-not_false : goal.assign-requires-clause-not_false
assign-requires-clause-not_false c =
    let s = c.args.search.now in
    let t = c.requires.taught in
    let b = back-for s.clauses s.watches.pairs.items s.watches.lists.items s.trail c.retreat.new.self c.args.lesson.clause c.args.lesson.lit c.second_watch-second.result c.latest-back.result t.0 c.requires.state c.len-top.ensures.sound c.requires.rising c.requires.levels t.1 c.latest-back.ensures c.second_watch-second.ensures c.in_ok-retreat.ensures in
    b.not_false

pub returns-clause-state : goal.returns-clause-state
returns-clause-state c =
    let s = c.args.search.now in
    let t = c.requires.taught in
    let b = back-for s.clauses s.watches.pairs.items s.watches.lists.items s.trail c.retreat.new.self c.args.lesson.clause c.args.lesson.lit c.second_watch-second.result c.latest-back.result t.0 c.requires.state c.len-top.ensures.sound c.requires.rising c.requires.levels t.1 c.latest-back.ensures c.second_watch-second.ensures c.in_ok-retreat.ensures in
    let e = c.in_ok-add.ensures in
    let covered = rw e.pairs at e.covered in
    let grown = rw c.len-id.ensures at c.in_ok-assign.ensures in
    let taken = lesson-taken s.clauses s.watches.pairs.items s.watches.lists.items c.add.new.self.lists.items c.retreat.new.self c.assign.new.self c.args.lesson.clause c.args.lesson.lit c.second_watch-second.result b c.len-from.ensures.sound.reasons covered e.places grown in
    rw (c.in_ok-push.ensures.ok, e.pairs) taken.0

pub returns-clause-rising : goal.returns-clause-rising
returns-clause-rising c =
    let s = c.args.search.now in
    let t = c.requires.taught in
    let b = back-for s.clauses s.watches.pairs.items s.watches.lists.items s.trail c.retreat.new.self c.args.lesson.clause c.args.lesson.lit c.second_watch-second.result c.latest-back.result t.0 c.requires.state c.len-top.ensures.sound c.requires.rising c.requires.levels t.1 c.latest-back.ensures c.second_watch-second.ensures c.in_ok-retreat.ensures in
    rw c.in_ok-assign.ensures b.rising

pub returns-clause-watching : goal.returns-clause-watching
returns-clause-watching c =
    let s = c.args.search.now in
    let t = c.requires.taught in
    let b = back-for s.clauses s.watches.pairs.items s.watches.lists.items s.trail c.retreat.new.self c.args.lesson.clause c.args.lesson.lit c.second_watch-second.result c.latest-back.result t.0 c.requires.state c.len-top.ensures.sound c.requires.rising c.requires.levels t.1 c.latest-back.ensures c.second_watch-second.ensures c.in_ok-retreat.ensures in
    let e = c.in_ok-add.ensures in
    let covered = rw e.pairs at e.covered in
    let grown = rw c.len-id.ensures at c.in_ok-assign.ensures in
    let taken = lesson-taken s.clauses s.watches.pairs.items s.watches.lists.items c.add.new.self.lists.items c.retreat.new.self c.assign.new.self c.args.lesson.clause c.args.lesson.lit c.second_watch-second.result b c.len-from.ensures.sound.reasons covered e.places grown in
    let size : length c.assign.new.self.lits ≡ length c.retreat.new.self.lits + 1 = ap (λ (x : Assigned). length x.lits) c.in_ok-assign.ensures ∙ length_push c.retreat.new.self.lits c.args.lesson.lit in
    (omega (arith, size, c.len-from.ensures.len), rw (c.len-from.ensures.len, e.pairs) taken.1)

pub returns-clause-cut : goal.returns-clause-cut
returns-clause-cut c =
    let s = c.args.search.now in
    let t = c.requires.taught in
    let r = c.in_ok-retreat.ensures in
    let b = back-for s.clauses s.watches.pairs.items s.watches.lists.items s.trail c.retreat.new.self c.args.lesson.clause c.args.lesson.lit c.second_watch-second.result c.latest-back.result t.0 c.requires.state c.len-top.ensures.sound c.requires.rising c.requires.levels t.1 c.latest-back.ensures c.second_watch-second.ensures r in
    let len : c.len-from.result ≡ r.len = c.len-from.ensures.len ∙ r.size in
    rw c.in_ok-assign.ensures (record {
      last = c.args.lesson.lit;
      levels = r.levels;
      lits = ap (λ x. x ++ c.args.lesson.lit ∷ []) (subst (λ x. c.retreat.new.self.lits ≡ take x s.trail.lits) (sym len) r.lits);
      marks = r.marks;
      below = λ m i. let z = b.state.marks m i in omega (arith, z, length_push c.retreat.new.self.lits c.args.lesson.lit);
      vars = r.vars;
    })
