use Rattle.gop_board.proofs.Runs.{stand_at_one_place}
use Rattle.gop_board.proofs.laws.jobs_stand_at_one_place.Goals as goal

pub returns : goal.returns
returns c = stand_at_one_place
