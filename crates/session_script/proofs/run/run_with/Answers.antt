use Rattle.std.proofs.Common.{sym, ◌∙◌}
use Rattle.session_script.proofs.Answered.{told_run}
use Rattle.session_script.proofs.run.run_with.Goals as goal

pub returns-clause-outcome : goal.returns-clause-outcome
returns-clause-outcome g c =
    told_run _ _ _ _ c.in-Some.task (sym c.task_of.ensures.task ∙ c.in-Some.is) c.carry_out-outcome.ensures.reads c.carry_out-outcome.ensures.later _ _ c.carry_out-outcome.ensures.cause c.carry_out-outcome.ensures.kind c.tell.ensures.told c.tell.ensures.writes
