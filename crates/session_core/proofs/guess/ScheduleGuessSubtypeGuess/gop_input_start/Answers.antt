use Rattle.std.proofs.Math.Logic.{∥∥₁_elim}
use Rattle.std.proofs.Props.{props}
use Rattle.session_core.proofs.guess.ScheduleGuessSubtypeGuess.gop_input_start.Goals as goal

pub returns : goal.returns
returns g c = ∥∥₁_elim c.args.self.now.due (Prim.hlevel props) (λ due. c.gop_input_start.ensures _ _ _ _ _ _ due.scheduled)
