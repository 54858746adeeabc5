use Rattle.gop_board.specs.Jobs.{pictures}
use Rattle.gop_board.proofs.Sending.{HasSent}
use Rattle.gop_board.proofs.job_calls.job_calls.Given as goal

-- the frames before this number are sent
abbrev pub invariant-loop-number : goal.invariant-loop-number
invariant-loop-number g l = HasSent l.enc (pictures l.job) l.number l.calls.items l.schedule
