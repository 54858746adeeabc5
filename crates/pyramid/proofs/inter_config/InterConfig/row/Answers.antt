use Rattle.std.proofs.Common.{arith}
use Rattle.pyramid.proofs.inter_config.InterConfig.row.Goals as goal

pub bounds-rows-index : goal.bounds-rows-index
bounds-rows-index c = omega (arith, c.requires, c.rows.ensures.count)

pub returns-clause-right : goal.returns-clause-right
returns-clause-right c = c.rows.ensures.each c.args.index _ (omega (arith, c.requires, c.rows.ensures.count))
