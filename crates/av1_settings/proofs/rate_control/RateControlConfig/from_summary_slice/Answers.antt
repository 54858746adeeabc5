use Rattle.std.proofs.Common.{arith}
use Rattle.av1_settings.proofs.rate_control.RateControlConfig.from_summary_slice.Goals as goal

pub returns-in-Ok-clause-accepted : goal.returns-in-Ok-clause-accepted
returns-in-Ok-clause-accepted c s = grind (arith, c.in-Ok.ensures.accepted s, c.with_summary.ensures, c.new.ensures)

pub returns-in-Ok-clause-refused : goal.returns-in-Ok-clause-refused
returns-in-Ok-clause-refused c why = grind (arith, c.in-Ok.ensures.refused why)

pub returns-in-Err-clause-accepted : goal.returns-in-Err-clause-accepted
returns-in-Err-clause-accepted c s = grind (arith, c.in-Err.ensures.accepted s)

pub returns-in-Err-clause-refused : goal.returns-in-Err-clause-refused
returns-in-Err-clause-refused c why = grind (arith, c.in-Err.ensures.refused why)
