use Rattle.std.proofs.Common.{sym, subst}
use Rattle.gop_board.specs.Places.{EachAtOnePlace}
use Rattle.gop_board.proofs.Moves.{moving_keeps}
use Rattle.gop_board.proofs.core_state.core_step.Goals as goal

pub returns-in_err-move_job-in-Some-clause-places : goal.returns-in_err-move_job-in-Some-clause-places
returns-in_err-move_job-in-Some-clause-places c = subst EachAtOnePlace (sym c.in_err-move_job-in-Some.ensures.err) c.moved.ensures.places

pub returns-in_ok-move_job-in-Some-clause-places : goal.returns-in_ok-move_job-in-Some-clause-places
returns-in_ok-move_job-in-Some-clause-places c =
    subst EachAtOnePlace (sym c.in_ok-move_job-in-Some.ensures.ok)
    (moving_keeps c.args.state.now c.args.step c.in-Some.job c.moved.ensures.places (sym c.in-Some.ensures.job))
