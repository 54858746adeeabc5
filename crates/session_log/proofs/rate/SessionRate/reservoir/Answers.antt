use Rattle.std.proofs.Common.{◌∙◌}
use Rattle.session_log.proofs.Logs.{held_after}
use Rattle.session_log.proofs.rate.SessionRate.reservoir.Goals as goal

pub returns : goal.returns
returns c = λ enc tables passes log keeps. c.held.ensures ∙ held_after enc tables passes log c.args.self.now keeps
