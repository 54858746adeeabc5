use Rattle.std.proofs.Common.{◌≡◌}
use Rattle.fixed_log.specs.Table.{turns_from}
use Rattle.fixed_log.specs.Exponential.{doubling_turn}
use Rattle.fixed_log.proofs.exponential.value_turns.Given as goal

abbrev pub invariant-loop-k : goal.invariant-loop-k
invariant-loop-k l = l.state ≡ turns_from doubling_turn l.first l.k l.initial.state
