use Rattle.std.proofs.Common.{◌≡◌, ◌+◌, ◌*◌, ◌/◌, ◌++◌, ◌∷◌, [], List, All, length, ap, refl, subst, sym, ◌∙◌, arith, length-append}
use Rattle.std.proofs.lemmas.Grind.{common_steps}
use Rattle.std.proofs.lemmas.List.Elements.{All-push}
use Rattle.mp_logic.specs.Labelled.{IsProper}
use Rattle.mp_logic.specs.declared.instances.Repair.{Repair}
use Rattle.mp_map.specs.Entries.{entry_of, repairs_of}
use Rattle.mp_map.specs.declared.maps.Entry.{Entry}
use Rattle.mp_map.proofs.Joins.{Fits, repairs_of-append}
use Rattle.yardstick.proofs.maps.drawn_map.Goals as goal

pub draws-preserved : goal.draws-preserved
draws-preserved c =
    let vars = 3 * (c.args.many / 12 + 1) in
    let r : Repair = c.in_ok-repair.repair in
    let front : List Entry = c.draws.repairs in
    let own : IsProper vars r = c.in_ok-repair.ensures vars (rw c.window_of-window.ensures at c.in_ok-clause.ensures) in
    let made : c.in_ok-entry_with.field-0 ≡ entry_of r = c.in_ok-entry_with.ensures in
    let stand : repairs_of (front ++ entry_of r ∷ []) ≡ repairs_of front ++ r ∷ [] = repairs_of-append front (entry_of r ∷ []) in
    rw (c.in_ok-push.ensures.ok, made) (record {
      proper = subst (All (IsProper vars)) (sym stand) (All-push (IsProper vars) (repairs_of front) r c.draws.invariant.proper own);
      fit = All-push (Fits 2) front (entry_of r) c.draws.invariant.fit refl;
      same = ap length stand ∙ omega (arith, length-append (repairs_of front) (r ∷ []), length-append front (entry_of r ∷ []), c.draws.invariant.same);
      many = grind (arith, common_steps);
    })
