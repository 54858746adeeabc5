use Rattle.std.proofs.Common.{◌+◌, ◌-◌, length, true}
use Rattle.gop_board.specs.JobCalls.{done_before, job_plan}
use Rattle.gop_board.proofs.Receiving.{HasReceived}
use Rattle.gop_board.proofs.job_calls.add_last_receives.Given as goal

abbrev pub invariant-loop-schedule : goal.invariant-loop-schedule
invariant-loop-schedule g l =
    HasReceived l.enc l.frames true (done_before l.enc (l.frames - 1)) (length (job_plan l.enc l.frames)) l.fn.calls.items l.calls.items l.schedule

-- the calls that are left to be put
abbrev pub decreases-loop-schedule : goal.decreases-loop-schedule
decreases-loop-schedule g l = length l.fn.calls.items + length (job_plan l.enc l.frames) - length l.calls.items
