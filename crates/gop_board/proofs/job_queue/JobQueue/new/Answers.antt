use Rattle.gop_board.proofs.Handed.{begins}
use Rattle.gop_board.proofs.job_queue.JobQueue.new.Goals as goal

pub ruled-requires-clause-rule : goal.ruled-requires-clause-rule
ruled-requires-clause-rule c = begins
