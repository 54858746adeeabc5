use Rattle.std.proofs.Common.{arith}
use Rattle.quantizers.proofs.TableFacts.{ac_positive}
use Rattle.quantizers.proofs.tables.QTables.ac.Goals as goal

pub returns-clause-positive : goal.returns-clause-positive
returns-clause-positive c = ac_positive c.self.inside.ac c.self.inside.dc c.self.invariant c.args.i (omega arith)
