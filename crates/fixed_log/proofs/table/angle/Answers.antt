use Rattle.fixed_log.proofs.Angles.{entry_fits, entry_is_angle, entry_small}
use Rattle.fixed_log.proofs.table.angle.Goals as goal

pub overflow_cast-result : goal.overflow_cast-result
overflow_cast-result c = entry_fits c.min.result

pub returns-clause-value : goal.returns-clause-value
returns-clause-value c = entry_is_angle c.args.i c.min.result c.min.ensures

pub returns-clause-small : goal.returns-clause-small
returns-clause-small c = entry_small c.min.result
