use Rattle.std.proofs.Common.{◌≡◌, ◌≤◌, ◌-◌, arith, ap, length, sym, ◌∙◌, inl, inr}
use Rattle.std.proofs.lemmas.List.{get_or_read, length-take-le}
use Rattle.core_solver.specs.Trails.{Assigned}
use Rattle.core_solver.proofs.Watched.{put}
use Rattle.core_solver.proofs.trail.Trail.retreat.Goals as goal
use Rattle.core_solver.proofs.trail.Trail.retreat.Goals.{then-retreat-test+else-index-back, else-retreat-test}

pub cut-requires : goal.cut-requires
cut-requires c =
    let within = rw (← c.self.view_is) at c.requires in
    elim c.retreat.invariant.cut [
      | inl h ↦ let e = h.1 in omega (arith, e)
      | inr h ↦ within c.retreat.len (put c.self.inside.marks.items c.retreat.len c.retreat.levels h.0 (sym h.1))
    ]

pub returns : goal.returns
returns c =
    let e = rw c.truncate.ensures.items at c.cut.ensures in
    let within = rw (← c.self.view_is) at c.requires in
    let bound : c.retreat.len ≤ length c.self.inside.lits.items =
    elim c.retreat.invariant.cut [
      | inl h ↦ let z = h.1 in omega (arith, z)
      | inr h ↦ within c.retreat.len (put c.self.inside.marks.items c.retreat.len c.retreat.levels h.0 (sym h.1))
    ] in
    let size : length c.cut.new.self.lits ≡ c.retreat.len = ap (λ (x : Assigned). length x.lits) e ∙ length-take-le c.retreat.len c.self.inside.lits.items bound in
    let ms = c.self.inside.marks.items in
    let inside = c.retreat.invariant.levels in
    rw (← c.self.view_is) (record {
      len = c.retreat.len;
      levels = c.retreat.levels;
      size = size;
      lits = ap (λ (x : Assigned). x.lits) e;
      reasons = ap (λ (x : Assigned). x.reasons) e;
      marks = ap (λ (x : Assigned). x.marks) e;
      vars = ap (λ (x : Assigned). x.vars) e;
      kept = λ some. elim c.retreat-test.branch [
        | then-retreat-test+else-index-back w ↦
            let read = get_or_read ms (c.retreat.levels - 1) w.index.result.now (omega (arith, some, inside)) w.index.ensures 0 in
            omega (arith, read, w.if-index-back.false)
        | else-retreat-test w ↦ absurd (omega (arith, some, w.retreat-test.false))
      ];
      cut = c.retreat.invariant.cut;
    })

pub offset_bounds-deref-len : goal.offset_bounds-deref-len
offset_bounds-deref-len c =
    let within = rw (← c.self.view_is) at c.requires in
    let bound : c.retreat.len ≤ length c.self.inside.lits.items =
    elim c.retreat.invariant.cut [
      | inl h ↦ let e = h.1 in omega (arith, e)
      | inr h ↦ within c.retreat.len (put c.self.inside.marks.items c.retreat.len c.retreat.levels h.0 (sym h.1))
    ] in
    omega (arith, bound)

pub slice_bounds-release-count : goal.slice_bounds-release-count
slice_bounds-release-count c =
    let within = rw (← c.self.view_is) at c.requires in
    let bound : c.retreat.len ≤ length c.self.inside.lits.items =
    elim c.retreat.invariant.cut [
      | inl h ↦ let e = h.1 in omega (arith, e)
      | inr h ↦ within c.retreat.len (put c.self.inside.marks.items c.retreat.len c.retreat.levels h.0 (sym h.1))
    ] in
    omega (arith, bound)

pub slice_bounds-release-start : goal.slice_bounds-release-start
slice_bounds-release-start c =
    let within = rw (← c.self.view_is) at c.requires in
    let bound : c.retreat.len ≤ length c.self.inside.lits.items =
    elim c.retreat.invariant.cut [
      | inl h ↦ let e = h.1 in omega (arith, e)
      | inr h ↦ within c.retreat.len (put c.self.inside.marks.items c.retreat.len c.retreat.levels h.0 (sym h.1))
    ] in
    omega (arith, bound)
