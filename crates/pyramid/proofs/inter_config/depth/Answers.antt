use Rattle.pyramid.proofs.Tables.{either-table}
use Rattle.std.proofs.Common.{true, false}
use Rattle.pyramid.proofs.inter_config.depth.Goals as goal

pub returns-then-low_latency-clause-table : goal.returns-then-low_latency-clause-table
returns-then-low_latency-clause-table c = either-table true

pub returns-else-low_latency-clause-table : goal.returns-else-low_latency-clause-table
returns-else-low_latency-clause-table c = either-table false
