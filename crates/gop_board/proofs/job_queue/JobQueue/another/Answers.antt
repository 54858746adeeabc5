use Rattle.gop_board.proofs.Handed.{forks}
use Rattle.gop_board.proofs.job_queue.JobQueue.another.Goals as goal

pub another-requires-clause-rule : goal.another-requires-clause-rule
another-requires-clause-rule c = forks _ _ c.pass.invariant.live
