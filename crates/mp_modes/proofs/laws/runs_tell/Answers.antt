use Rattle.mp_modes.proofs.Told.{runs_tell}
use Rattle.mp_modes.proofs.laws.runs_tell.Goals as goal

pub returns : goal.returns
returns c =
    runs_tell (record {
      settled = c.settled_loops_have_end_states.ensures;
      last_letter = c.last_letter_has_end_state.ensures;
      last_is = c.last_line_is_last.ensures;
      standing = c.settled_is_standing.ensures;
      unsettled = c.unsettled_is_standing.ensures;
      told = c.log_tells_close.ensures;
      move = c.end_states_move.ensures;
      counts = c.counts_move.ensures;
    })
