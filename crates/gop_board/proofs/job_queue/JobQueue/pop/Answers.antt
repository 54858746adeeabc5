use Rattle.gop_board.proofs.Handed.{held, pops}
use Rattle.gop_board.proofs.job_queue.JobQueue.pop.Goals as goal

pub pop_as-found-requires-clause-rule : goal.pop_as-found-requires-clause-rule
pop_as-found-requires-clause-rule g c = (pops _ _ c.pass.invariant.live, held _ _ c.pass.invariant.live)
