use Rattle.gop_board.proofs.JobsAlone.{same-bytes}
use Rattle.gop_board.proofs.laws.packets_have_the_same_bytes.Goals as goal

pub returns : goal.returns
returns g c = λ enc tables maker job first pictures packets others low gives answers fit few still a b.
    same-bytes enc tables _ pictures low packets others gives answers fit few still a b
