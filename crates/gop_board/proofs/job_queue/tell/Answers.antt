use Rattle.gop_board.proofs.Handed.{tells}
use Rattle.gop_board.proofs.job_queue.tell.Goals as goal

pub another-requires-clause-rule : goal.another-requires-clause-rule
another-requires-clause-rule g c = tells _ _ _ c.requires.first
