use Rattle.std.proofs.Common.{◌≡◌, ◌<◌, ◌++◌, ◌∷◌, [], List, None, Some, ap, arith, codes, false, length, rules, sym, true, ◌∙◌, ℕ}
use Rattle.std.specs.Str.{bytes_eq}
use Rattle.mp_map.specs.Reading.{clauses_in, literal_in}
use Rattle.mp_map.proofs.Gathering.{at_end, at_literal, at_none, at_zero, gathered}
use Rattle.mp_map.proofs.fields.clauses.Goals as goal

pub loop-word-preserved-in_ok-push : goal.loop-word-preserved-in_ok-push
loop-word-preserved-in_ok-push c =
    let cut : c.loop-word.words ≡ c.in-Some.word.now ∷ c.next_piece.new.self = search rules in
    let zero : bytes_eq c.in-Some.word.now (codes "0") ≡ true = search rules in
    let whole : c.push.new.self ≡ c.loop-word.made ++ c.loop-word.begun ∷ [] = search rules in
    let none : c.replace.new.dest ≡ [] = search rules in
    rw (whole, none) (sym (at_zero c.args.most c.loop-word.made c.loop-word.begun c.in-Some.word.now c.next_piece.new.self zero)
    ∙ ap (λ (v : List (List ℕ)). gathered c.loop-word.made c.loop-word.begun (clauses_in c.args.most v)) (sym cut) ∙ c.loop-word.invariant)

pub returns-in_default-literal : goal.returns-in_default-literal
returns-in_default-literal c =
    let cut : c.loop-word.words ≡ c.in-Some.word.now ∷ c.next_piece.new.self = search rules in
    let other : bytes_eq c.in-Some.word.now (codes "0") ≡ false = search rules in
    let bad : literal_in c.args.most c.in-Some.word.now ≡ None = search rules in
    sym (at_none c.args.most c.loop-word.made c.loop-word.begun c.in-Some.word.now c.next_piece.new.self other bad)
    ∙ ap (λ (v : List (List ℕ)). gathered c.loop-word.made c.loop-word.begun (clauses_in c.args.most v)) (sym cut) ∙ c.loop-word.invariant

pub loop-word-preserved : goal.loop-word-preserved
loop-word-preserved c =
    let cut : c.loop-word.words ≡ c.in-Some.word.now ∷ c.next_piece.new.self = search rules in
    let other : bytes_eq c.in-Some.word.now (codes "0") ≡ false = search rules in
    let good : literal_in c.args.most c.in-Some.word.now ≡ Some c.in-Some-literal.lit = search rules in
    let more : c.push-else-eq.new.self ≡ c.loop-word.begun ++ c.in-Some-literal.lit ∷ [] = search rules in
    rw more (sym (at_literal c.args.most c.loop-word.made c.loop-word.begun c.in-Some.word.now c.next_piece.new.self c.in-Some-literal.lit other good)
    ∙ ap (λ (v : List (List ℕ)). gathered c.loop-word.made c.loop-word.begun (clauses_in c.args.most v)) (sym cut) ∙ c.loop-word.invariant)

pub returns-then-len-gt0 : goal.returns-then-len-gt0
returns-then-len-gt0 c =
    let cut : c.loop-word.words ≡ [] = search rules in
    let some : 0 < length c.loop-word.begun = omega (arith, c.if-len-gt0.true, c.len.ensures) in
    sym (at_end c.args.most c.loop-word.made c.loop-word.begun some)
    ∙ ap (λ (v : List (List ℕ)). gathered c.loop-word.made c.loop-word.begun (clauses_in c.args.most v)) (sym cut) ∙ c.loop-word.invariant
