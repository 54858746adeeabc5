use Rattle.std.proofs.Math.Logic.{∥∥₁_elim}
use Rattle.std.proofs.Props.{props}
use Rattle.session_core.proofs.guess.OpeningGuessSubtypeGuess.gop_input_start.Goals as goal

pub returns : goal.returns
returns c = ∥∥₁_elim c.args.self.now.opens (Prim.hlevel props) (λ opens. c.gop_input_start.ensures _ _ _ _ _ _ opens)
