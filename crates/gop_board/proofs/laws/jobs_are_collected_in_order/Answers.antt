use Rattle.gop_board.proofs.Runs.{collected_in_order}
use Rattle.gop_board.proofs.laws.jobs_are_collected_in_order.Goals as goal

pub returns : goal.returns
returns c = collected_in_order
