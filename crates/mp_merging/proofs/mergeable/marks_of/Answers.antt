use Rattle.std.proofs.Common.{◌≡◌, ◌∙◌, ◌&&◌, ℕ, List, All, get_or, take, ap, sym, subst, arith}
use Rattle.std.proofs.lemmas.List.{length-set, take_all}
use Rattle.mp_logic.specs.Literal.{IsUpTo}
use Rattle.mp_logic.specs.Keeping.{State}
use Rattle.mp_logic.specs.declared.instances.Cost.{Cost}
use Rattle.mp_clauses.specs.Places.{place_of}
use Rattle.mp_merging.specs.MergedForm.{is_cost}
use Rattle.mp_merging.specs.Tables.{is_sole, AreMarks}
use Rattle.mp_merging.proofs.Tests.{place_below}
use Rattle.mp_merging.proofs.Tabled.{marked_more, AreMarks-from}
use Rattle.mp_merging.proofs.mergeable.marks_of.Goals as goal

pub loop-cost-preserved : goal.loop-cost-preserved
loop-cost-preserved c =
    let items = c.items-cost-items.result.now in
    let cost = c.cost-item.result in
    let uses = c.in_ok-uses.uses.items in
    let marks = c.loop-cost.marks.items in
    let at : Cost = get_or items c.loop-cost.cost-index cost in
    let within = subst (λ (ps : List Cost). All (λ p. IsUpTo c.labelled.inside.vars p.lit) ps) (sym c.items-cost-items.ensures) c.labelled.invariant.costs_within in
    let up : IsUpTo c.labelled.inside.vars at.lit = within c.loop-cost.cost-index cost c.loop-cost-test.true in
    let below = place_below c.labelled.inside.vars at.lit up.1 in
    let place : c.place.result ≡ place_of at.lit = c.place.ensures ∙ ap (λ (p : Cost). place_of p.lit) c.cost-item.is in
    let sole : c.is_sole.result ≡ is_sole uses at.lit = c.is_sole.ensures ∙ (ap (λ (us : List ℕ). is_sole us cost.lit) c.deref.ensures.value ∙ ap (λ (p : Cost). is_sole uses p.lit) c.cost-item.is) in
    record {
      len = length-set marks c.place.result c.is_sole.result ∙ c.loop-cost.invariant.len;
      each = marked_more items c.loop-cost.cost-index c.place.result cost uses marks c.is_sole.result c.loop-cost-test.true place (omega (arith, below, c.in_ok-uses.ensures.long, c.loop-cost.invariant.len)) sole c.loop-cost.invariant.each;
    }

pub returns : goal.returns
returns c =
    let s : State = record { vars = c.labelled.inside.vars; hard = c.labelled.inside.hard; costs = c.labelled.inside.costs; offset = c.labelled.inside.offset } in
    let items = c.items-cost-items.result.now in
    let uses = c.in_ok-uses.uses.items in
    let all : take c.loop-cost.cost-index items ≡ s.costs = take_all c.loop-cost.cost-index items c.loop-cost-test.false ∙ c.items-cost-items.ensures in
    subst (λ (t : State). AreMarks t c.loop-cost.marks.items) c.labelled.view_is
    (AreMarks-from s uses c.loop-cost.marks.items c.in_ok-uses.ensures c.loop-cost.invariant.len (λ k. c.loop-cost.invariant.each k ∙ ap (λ (ps : List Cost). is_cost ps k && is_sole uses k) all))
