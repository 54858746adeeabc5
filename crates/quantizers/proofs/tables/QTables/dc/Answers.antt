use Rattle.std.proofs.Common.{arith}
use Rattle.quantizers.proofs.TableFacts.{dc_positive}
use Rattle.quantizers.proofs.tables.QTables.dc.Goals as goal

pub returns-clause-positive : goal.returns-clause-positive
returns-clause-positive c = dc_positive c.self.inside.ac c.self.inside.dc c.self.invariant c.args.i (omega arith)
