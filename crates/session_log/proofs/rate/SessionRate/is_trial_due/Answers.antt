use Rattle.std.proofs.Common.{ap, ◌∙◌}
use Rattle.pyramid.specs.Known.{is_coding}
use Rattle.pyramid.specs.declared.command.Command.{Command}
use Rattle.session_log.proofs.Logs.{due_of_command}
use Rattle.session_log.proofs.rate.SessionRate.is_trial_due.Goals as goal

pub returns-in-Code : goal.returns-in-Code
returns-in-Code c = λ enc tables passes log keeps.
    c.needs_trial.ensures
    ∙ due_of_command enc tables passes log c.args.self.now c.args.command.now c.subtype.result keeps (ap (λ (command : Command). is_coding command) c.in-Code.is) c.subtype.ensures
