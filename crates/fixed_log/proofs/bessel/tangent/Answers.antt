use Rattle.fixed_log.proofs.Tangents.{tangent_small, tangent_is}
use Rattle.fixed_log.proofs.bessel.tangent.Goals as goal

pub returns-clause-value : goal.returns-clause-value
returns-clause-value c = tangent_is c.args.i

pub returns-clause-high : goal.returns-clause-high
returns-clause-high c = tangent_small c.args.i
