use Rattle.session_log.proofs.Passing.{data_taken}
use Rattle.session_log.proofs.rate.SessionRate.take_data.Goals as goal

pub returns-clause-keeps : goal.returns-clause-keeps
returns-clause-keeps c = λ enc tables passes log keeps.
    data_taken enc tables passes log c.args.self.now c.hand_out.new.self c.args.done keeps c.hand_out.ensures.state
