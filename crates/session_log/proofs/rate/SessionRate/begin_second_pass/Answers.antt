use Rattle.session_log.proofs.Passing.{second_by}
use Rattle.session_log.proofs.rate.SessionRate.begin_second_pass.Goals as goal

pub returns-clause-keeps : goal.returns-clause-keeps
returns-clause-keeps c = second_by c.go_by.result c.args.summary.now c.args.self.now c.go_by.new.self c.go_by.ensures.state
