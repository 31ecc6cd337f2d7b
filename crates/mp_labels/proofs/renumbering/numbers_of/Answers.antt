use Rattle.std.proofs.Common.{◌≡◌, ◌≤◌, ◌∙◌, ℕ, List, Contains, get_or, length, replicate, arith, ap, sym, subst}
use Rattle.std.proofs.lemmas.List.{at_drop_all, length-replicate}
use Rattle.std.proofs.lemmas.List.Elements.{Contains-get_or}
use Rattle.mp_labels.specs.Tables.{IsNumbering}
use Rattle.mp_labels.proofs.Numbers.{length_names, name_bounds, numbered, IsNumbering-numbered}
use Rattle.mp_labels.proofs.renumbering.numbers_of.Goals as goal

pub overflow_add-number : goal.overflow_add-number
overflow_add-number c =
    let h = length_names c.args.names.now 0 c.args.vars c.requires (omega arith) in
    let e = ap length c.items-name-items.ensures in
    omega (arith, h, e, c.ranges.vars.fits)

pub overflow_sub-name : goal.overflow_sub-name
overflow_sub-name c =
    let names = c.items-name-items.result.now in
    let v : ℕ = get_or names c.loop-name.name-index 0 in
    let i : Contains c.args.names.now v = subst (λ (xs : List ℕ). Contains xs v) c.items-name-items.ensures (Contains-get_or names c.loop-name.name-index 0 (omega arith)) in
    let b = name_bounds c.args.names.now 0 c.args.vars v c.requires i in
    omega (arith, b.0)

pub index_mut-requires : goal.index_mut-requires
index_mut-requires c =
    let names = c.items-name-items.result.now in
    let v : ℕ = get_or names c.loop-name.name-index 0 in
    let i : Contains c.args.names.now v = subst (λ (xs : List ℕ). Contains xs v) c.items-name-items.ensures (Contains-get_or names c.loop-name.name-index 0 (omega arith)) in
    let b = name_bounds c.args.names.now 0 c.args.vars v c.requires i in
    omega (arith, b.0, b.1, c.loop-name.invariant.len)

pub returns : goal.returns
returns c =
    let names = c.items-name-items.result.now in
    let table = c.loop-name.numbers.items in
    let blank : List ℕ = replicate c.args.vars 0 in
    let done : table ≡ numbered 0 c.args.names.now blank =
    sym (at_drop_all (λ xs. numbered c.loop-name.number xs table) names c.loop-name.name-index c.loop-name-test.false) ∙ (c.loop-name.invariant.table ∙ ap (λ xs. numbered 0 xs blank) c.items-name-items.ensures) in
    let long : c.args.vars ≤ length blank = omega (arith, length-replicate c.args.vars (let z : ℕ = 0 in z)) in
    subst (λ (t : List ℕ). IsNumbering c.args.names.now t) (sym done) (IsNumbering-numbered c.args.names.now c.args.vars blank c.requires long)
