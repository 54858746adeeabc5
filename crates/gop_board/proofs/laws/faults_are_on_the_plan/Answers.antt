use Rattle.gop_board.proofs.FaultPlans.{fault-plan}
use Rattle.gop_board.proofs.laws.faults_are_on_the_plan.Goals as goal

pub returns : goal.returns
returns g c = λ enc tables maker job first pictures command coder fit few still fault.
    fault-plan enc tables (g.M.MakeSession.told maker job first) pictures fault.before fault.after command fit few still fault.fresh fault.session
