use Rattle.std.proofs.Common.{◌+◌, ◌-◌, length, false}
use Rattle.gop_board.specs.JobCalls.{done_before}
use Rattle.gop_board.proofs.Receiving.{HasReceived}
use Rattle.gop_board.proofs.job_calls.add_receives.Given as goal

abbrev pub invariant-loop-schedule : goal.invariant-loop-schedule
invariant-loop-schedule g l =
    HasReceived l.enc l.number false (done_before l.enc (l.number - 1)) (done_before l.enc l.number) l.fn.calls.items l.calls.items l.schedule

-- the calls that are left to be put
abbrev pub decreases-loop-schedule : goal.decreases-loop-schedule
decreases-loop-schedule g l = length l.fn.calls.items + done_before l.enc l.number - length l.calls.items
