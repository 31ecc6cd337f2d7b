use Rattle.std.proofs.Common.{◌≡◌, ◌<◌, ◌^◌, ◌∙◌, ap, sym, subst, ℕ, List, length, refl, arith}
use Rattle.mp_logic.specs.Carrying.{WrittenForm}
use Rattle.mp_logic.specs.declared.instances.Repair.{Repair}
use Rattle.mp_map.specs.Entries.{repairs_of, entries_of}
use Rattle.mp_map.specs.declared.maps.Entry.{Entry}
use Rattle.mp_map.specs.declared.maps.MapFile.{MapFile}
use Rattle.mp_map.proofs.Joins.{repairs_of-entries_of}
use Rattle.mp_modes.specs.Preprocessing.{joins, map_by, way_of}
use Rattle.mp_modes.specs.Presenting.{PresentsRun}
use Rattle.mp_modes.proofs.Presented.{Ends, presents_run}
use Rattle.mp_modes.proofs.presenting.present.Goals as goal

pub returns : goal.returns
returns c =
    let s = c.args.run.now.labelled in
    let rs = c.args.run.now.repairs in
    let w = c.in_ok-written.written in
    let form = c.in_ok-written.ensures in
    let kept = way_of s rs w.repairs in
    let e : Ends c.args.merged c.args.original s rs w = record {
      few = c.requires.original;
      least = c.requires.least;
      most = c.requires.most;
      proper = c.requires.proper;
      labelled = form.labelled;
      written = form.written;
      form = form.form;
      presents = form.presents;
      total = form.total;
      inner_from = form.inner_from;
      inner_to = form.inner_to;
      all_occur = form.all_occur;
      formula = form.formula;
    } in
    let read : c.written.inside.repairs ≡ w.repairs = ap (λ (x : WrittenForm). x.repairs) c.written.view_is in
    let made_is : c.in_ok-repairs.repairs ≡ entries_of (joins c.args.version) kept =
    c.in_ok-repairs.ensures.made ∙ ap (λ (own : List Repair). entries_of (joins c.args.version) (way_of s rs own)) read in
    let size : length (repairs_of c.in_ok-repairs.repairs) ≡ length kept =
    ap (λ (es : List Entry). length (repairs_of es)) made_is ∙ ap (λ (xs : List Repair). length xs) (repairs_of-entries_of (joins c.args.version) kept) in
    let made = presents_run c.args.merged c.args.version c.args.original s rs w e (omega (arith, size, c.in_ok-repairs.ensures.few)) in
    let is : map_by c.args.version c.args.original w (entries_of (joins c.args.version) kept) ≡ c.with_map.result.map =
    ap (λ (es : List Entry). map_by c.args.version c.args.original w es) (sym made_is) ∙ sym c.with_map.ensures.map in
    let Run : MapFile → Type 0 = λ m. PresentsRun c.args.merged c.args.version c.args.original s rs w m in
    (w, sym c.with_map.ensures.taken, subst Run is made)
