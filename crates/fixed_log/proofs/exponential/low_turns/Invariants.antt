use Rattle.std.proofs.Common.{◌≡◌}
use Rattle.fixed_log.specs.Table.{turns_from}
use Rattle.fixed_log.specs.Exponential.{doubling_low_turn}
use Rattle.fixed_log.proofs.exponential.low_turns.Given as goal

abbrev pub invariant-loop-k : goal.invariant-loop-k
invariant-loop-k l = l.state ≡ turns_from (doubling_low_turn l.high) l.first l.k l.initial.state
