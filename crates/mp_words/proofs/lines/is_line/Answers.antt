use Rattle.std.proofs.Common.{◌≤◌, ℕ, List, Bool, sym, subst}
use Rattle.std.proofs.lemmas.Bool.{true≢false}
use Rattle.std.proofs.lemmas.List.{take_all}
use Rattle.mp_words.specs.Modes.{options_of}
use Rattle.mp_words.specs.Reading.{texts, Takes, AreRead}
use Rattle.mp_words.proofs.Readings.{read_more, not_line, line_of, line_parts}
use Rattle.mp_words.proofs.lines.is_line.Goals as goal

pub returns-then-not-branch : goal.returns-then-not-branch
returns-then-not-branch c =
    let t = subst (λ (b : Bool). Takes (options_of c.args.mode) c.text.result.now (texts c.loop-place.sorted.plain.items) (texts c.loop-place.sorted.names.items) (texts c.take.new.self.plain.items) (texts c.take.new.self.names.items) b)
    c.if-not-branch.true c.in_ok-take.ensures in
    (λ f. absurd (true≢false (sym f)), λ h. absurd (not_line c.args.mode c.args.words.now c.loop-place.place c.text.result.now c.text.ensures t h))

pub loop-place-preserved : goal.loop-place-preserved
loop-place-preserved c =
    let t = subst (λ (b : Bool). Takes (options_of c.args.mode) c.text.result.now (texts c.loop-place.sorted.plain.items) (texts c.loop-place.sorted.names.items) (texts c.take.new.self.plain.items) (texts c.take.new.self.names.items) b)
    c.if-not-branch.false c.in_ok-take.ensures in
    read_more (options_of c.args.mode) c.args.words.now c.loop-place.place c.text.result.now t.0 _ _ _ _ c.text.ensures t.1 t.2 t.3 t.4 c.loop-place.invariant

pub returns : goal.returns
returns c =
    let whole : AreRead (options_of c.args.mode) c.args.words.now (texts c.loop-place.sorted.plain.items) (texts c.loop-place.sorted.names.items) =
    subst (λ (x : List (List ℕ)). AreRead (options_of c.args.mode) x (texts c.loop-place.sorted.plain.items) (texts c.loop-place.sorted.names.items)) (take_all c.loop-place.place c.args.words.now (subst (λ (n : ℕ). n ≤ c.loop-place.place) c.len-place-end.ensures c.loop-place-test.false)) c.loop-place.invariant in (
      λ h. let p = c.are_line.ensures.0 h in line_of c.args.mode c.args.words.now _ _ whole p.0 p.1,
      λ h. c.are_line.ensures.1 (line_parts c.args.mode c.args.words.now _ _ whole h),
    )
