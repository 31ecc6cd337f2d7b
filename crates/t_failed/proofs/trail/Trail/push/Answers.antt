use Rattle.t_failed.proofs.Trails.{same-marks, push-step}
use Rattle.t_failed.proofs.trail.Trail.push.Goals as goal

pub invariant_of-self-in_err-widen_marks : goal.invariant_of-self-in_err-widen_marks
invariant_of-self-in_err-widen_marks c = rw c.reserve.ensures.items (same-marks c.self.inside.marks.items c.widen_marks.new.marks.items c.self.inside.lits.items c.in_err-widen_marks.ensures.same c.self.invariant)

pub invariant_of-self-2 : goal.invariant_of-self-2
invariant_of-self-2 c =
    let open_now = rw (← c.self.view_is) at c.requires.open in
    let not_false = rw (← c.self.view_is) at c.requires.not_false in
    let long = rw c.place-at.ensures at c.in_ok-widen_marks.ensures.ok in
    rw (c.place-at.ensures, c.push_reserved.ensures.items, c.reserve.ensures.items) (push-step c.self.inside.marks.items c.widen_marks.new.marks.items c.self.inside.lits.items c.args.lit c.self.invariant c.in_ok-widen_marks.ensures.same long open_now not_false)
