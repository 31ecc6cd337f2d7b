use Rattle.std.proofs.Common.{◌≡◌, ◌-◌, ◌+◌, ◌∙◌, ℕ, map, ap, sym, arith}
use Rattle.mp_logic.specs.Literal.{Literal}
use Rattle.t_equiv.proofs.Heads.{replaced-same, replaced-more, image-variable, map-last}
use Rattle.t_equiv.proofs.images.add_replaced.Goals as goal

pub returns-then-root-variable : goal.returns-then-root-variable
returns-then-root-variable c =
    let own = image-variable c.args.images.now c.new.result c.image.result c.args.variable c.root.inside.variable c.new.ensures.variable c.new.ensures.sign c.image.ensures (ap (λ (l : Literal). l.variable) c.root.view_is) in
    let next : c.args.variable ≡ c.args.variable - 1 + 1 = let one = c.requires.from_one in omega arith in
    replaced-same c.args.images.now (map (λ (p : ℕ × ℕ). p.1) c.args.made.now.items) (c.args.variable - 1) c.args.variable next (own ∙ c.if-root-variable.true) c.requires.replaced

pub returns : goal.returns
returns c =
    let own = image-variable c.args.images.now c.new.result c.image.result c.args.variable c.root.inside.variable c.new.ensures.variable c.new.ensures.sign c.image.ensures (ap (λ (l : Literal). l.variable) c.root.view_is) in
    let next : c.args.variable ≡ c.args.variable - 1 + 1 = let one = c.requires.from_one in omega arith in
    let put = ap (map (λ (p : ℕ × ℕ). p.1)) c.in_ok-push.ensures.items ∙ map-last c.args.made.now.items (c.root.inside.variable, c.args.variable) in
    replaced-more c.args.images.now (map (λ (p : ℕ × ℕ). p.1) c.args.made.now.items) (map (λ (p : ℕ × ℕ). p.1) c.push.new.self.items) (c.args.variable - 1) c.args.variable next put (λ e. c.if-root-variable.false (sym own ∙ e)) c.requires.replaced
