use Rattle.session_log.proofs.Logs.{kept_by, last_is_short}
use Rattle.session_log.proofs.rate.SessionRate.note.Goals as goal

pub returns-clause-keeps : goal.returns-clause-keeps
returns-clause-keeps c = λ enc tables passes log keeps is.
    kept_by enc tables passes log c.args.entry.now c.args.self.now c.take.new.self c.follow.new.self keeps is c.take.ensures.most_low c.take.ensures.most_high
    (c.take.ensures.state (last_is_short log c.args.entry.now is)) c.follow.ensures
