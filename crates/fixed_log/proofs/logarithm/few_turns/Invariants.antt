use Rattle.std.proofs.Common.{◌≡◌}
use Rattle.fixed_log.specs.Table.{turns_from}
use Rattle.fixed_log.specs.Logarithm.{log_turn}
use Rattle.fixed_log.proofs.logarithm.few_turns.Given as goal

abbrev pub invariant-loop-k : goal.invariant-loop-k
invariant-loop-k l = l.state ≡ turns_from log_turn l.first l.k l.initial.state
