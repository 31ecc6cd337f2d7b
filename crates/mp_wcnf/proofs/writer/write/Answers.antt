use Rattle.std.proofs.Common.{◌≡◌, ◌+◌, ◌≤◌, ◌++◌, ap, ap₂, subst, sym, ◌∙◌, map, length, arith}
use Rattle.mp_logic.specs.Formula.{Formula, IsFormula}
use Rattle.mp_text.specs.Lines.{line_text, text_of}
use Rattle.mp_text.specs.Numbers.{greatest}
use Rattle.mp_wcnf.proofs.RoundTrip.{IsSmall, round_trip}
use Rattle.mp_wcnf.proofs.Texts.{four_parts}
use Rattle.mp_wcnf.proofs.writer.write.Goals as goal
use Rattle.mp_wcnf.specs.Meaning.{Denotes}
use Rattle.mp_wcnf.specs.Writing.{offset_line, header_lines, hard_line, soft_line, top_weight}

pub returns-clause-text : goal.returns-clause-text
returns-clause-text c =
    let f : Formula = c.args.instance.now in
    let vars : c.from-vars.result ≡ f.vars = c.from-vars.ensures ∙ ap (λ (f : Formula). f.vars) c.instance.view_is in
    let hard = ap (λ (f : Formula). f.hard) c.instance.view_is in
    let soft = ap (λ (f : Formula). f.soft) c.instance.view_is in
    let top : c.top_weight-top.result ≡ top_weight f = c.top_weight-top.ensures in
    let clauses : c.count_clauses-clauses.result ≡ length f.hard + length f.soft = c.count_clauses-clauses.ensures in
    let header = ap₂ (λ v k. header_lines c.args.form v k c.top_weight-top.result) vars clauses ∙ ap (λ t. header_lines c.args.form f.vars (length f.hard + length f.soft) t) top in
    c.into_bytes.ensures
    ∙ four_parts (offset_line c.args.offset) (header_lines c.args.form f.vars (length f.hard + length f.soft) (top_weight f)) (map (hard_line c.args.form (top_weight f)) f.hard) (map soft_line f.soft)
    _ _ _ _
    (c.in_ok-write_offset.ensures ∙ ap (λ t. t ++ line_text (offset_line c.args.offset)) c.new-text.ensures)
    (c.in_ok-write_header.ensures ∙ ap (λ h. c.write_offset.new.text ++ text_of h) header)
    (c.in_ok-write_hards.ensures ∙ ap₂ (λ t h. c.write_header.new.text ++ text_of (map (hard_line c.args.form t) h)) top hard)
    (c.in_ok-write_softs.ensures ∙ ap (λ s. c.write_hards.new.text ++ text_of (map soft_line s)) soft)

pub returns-clause-denotes : goal.returns-clause-denotes
returns-clause-denotes c = λ tight.
    let f : Formula = c.args.instance.now in
    let vars : c.from-vars.result ≡ f.vars = c.from-vars.ensures ∙ ap (λ (f : Formula). f.vars) c.instance.view_is in
    let a : f.vars ≤ greatest = omega (arith, c.from-vars.type_inv, vars) in
    let b : length f.hard + length f.soft ≤ greatest = omega (arith, c.count_clauses-clauses.type_inv, c.count_clauses-clauses.ensures) in
    let d : top_weight f ≤ greatest = omega (arith, c.top_weight-top.type_inv, c.top_weight-top.ensures) in
    let small : IsSmall c.args.offset f = record { number = omega (arith, c.ranges.offset.fits); vars = a; clauses = b; top = d } in
    let is_formula : IsFormula f.vars f.hard f.soft = subst (λ (f : Formula). IsFormula f.vars f.hard f.soft) c.instance.view_is c.instance.invariant in
    subst (λ t. Denotes t f) (sym (returns-clause-text c)) (round_trip c.args.form c.args.offset f small is_formula tight)
