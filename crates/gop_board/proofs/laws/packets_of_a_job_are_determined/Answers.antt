use Rattle.gop_board.proofs.SameJobs.{jobs-same}
use Rattle.gop_board.proofs.laws.packets_of_a_job_are_determined.Goals as goal

pub returns : goal.returns
returns g c = λ enc tables maker job first pictures one other gives answers a b.
    jobs-same enc tables (g.M.MakeSession.told maker job first) pictures one other gives answers a b
