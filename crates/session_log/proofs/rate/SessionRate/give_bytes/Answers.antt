use Rattle.session_log.proofs.Passing.{bytes_given}
use Rattle.session_log.proofs.rate.SessionRate.give_bytes.Goals as goal

pub returns-clause-keeps : goal.returns-clause-keeps
returns-clause-keeps c = λ enc tables passes log keeps is good.
    bytes_given enc tables passes log c.args.self.now c.take_bytes.new.self c.args.bytes.now c.take_bytes.result keeps is good c.take_bytes.ensures.others c.take_bytes.ensures.answer
