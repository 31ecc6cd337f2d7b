use Rattle.std.proofs.Common.{Bor, List, ℕ, refl, sym, ◌∙◌, ap}
use Rattle.std.proofs.lemmas.Bool.{true≢false}
use Rattle.mp_words.specs.Modes.{options_of}
use Rattle.mp_words.specs.Reading.{texts}
use Rattle.mp_words.proofs.Readings.{neither, takes_plain, takes_option, texts_more}
use Rattle.mp_words.proofs.lines.SortedWords.take.Goals as goal

pub returns-then-is_plain : goal.returns-then-is_plain
returns-then-is_plain c =
    takes_plain (options_of c.args.mode) c.args.word.now (texts c.args.self.now.plain.items) (texts c.args.self.now.names.items) _ _ (c.is_plain.ensures.0 c.if-is_plain.true)
    (ap (λ (x : List (Bor (List ℕ))). texts x) c.in_ok-push.ensures.items ∙ texts_more c.args.self.now.plain.items _) refl

pub returns-in_default : goal.returns-in_default
returns-in_default c = neither (options_of c.args.mode) c.args.word.now (λ p. true≢false (sym (c.is_plain.ensures.1 p) ∙ c.if-is_plain.false)) c.in_default.ensures.none

pub returns : goal.returns
returns c =
    takes_option (options_of c.args.mode) c.args.word.now c.in-Some.name.now (texts c.args.self.now.plain.items) (texts c.args.self.now.names.items) _ _ c.in-Some.ensures.some
    refl (ap (λ (x : List (Bor (List ℕ))). texts x) c.in_ok-push-2.ensures.items ∙ texts_more c.args.self.now.names.items _)
