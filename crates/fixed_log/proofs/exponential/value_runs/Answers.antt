use Rattle.fixed_log.specs.Exponential.{exp_runs}
use Rattle.fixed_log.proofs.ExponentialRanges.{small_1, small_2, small_3, small_4, small_5, runs_value, runs_left}
use Rattle.fixed_log.proofs.exponential.value_runs.Goals as goal

pub value_turns-state-requires-clause-small : goal.value_turns-state-requires-clause-small
value_turns-state-requires-clause-small c = small_1 c.args.state c.requires

pub value_turn-state-requires-clause-small : goal.value_turn-state-requires-clause-small
value_turn-state-requires-clause-small c = rw c.value_turns-state.ensures (small_2 c.args.state c.requires)

pub value_turns-state-requires-2-clause-small : goal.value_turns-state-requires-2-clause-small
value_turns-state-requires-2-clause-small c = rw (c.value_turn-state.ensures, c.value_turns-state.ensures) (small_3 c.args.state c.requires)

pub value_turn-state-requires-2-clause-small : goal.value_turn-state-requires-2-clause-small
value_turn-state-requires-2-clause-small c =
    rw (c.value_turns-state-2.ensures, c.value_turn-state.ensures, c.value_turns-state.ensures) (small_4 c.args.state c.requires)

pub value_turns-requires-clause-small : goal.value_turns-requires-clause-small
value_turns-requires-clause-small c =
    rw (c.value_turn-state-2.ensures, c.value_turns-state-2.ensures, c.value_turn-state.ensures, c.value_turns-state.ensures) (small_5 c.args.state c.requires)

pub returns-clause-state : goal.returns-clause-state
unfolding exp_runs
returns-clause-state c =
    rw (c.value_turns.ensures, c.value_turn-state-2.ensures, c.value_turns-state-2.ensures, c.value_turn-state.ensures, c.value_turns-state.ensures)

pub returns-clause-value : goal.returns-clause-value
returns-clause-value c =
    rw (c.value_turns.ensures, c.value_turn-state-2.ensures, c.value_turns-state-2.ensures, c.value_turn-state.ensures, c.value_turns-state.ensures) (runs_value c.args.state c.requires)

pub returns-clause-left : goal.returns-clause-left
returns-clause-left c =
    rw (c.value_turns.ensures, c.value_turn-state-2.ensures, c.value_turns-state-2.ensures, c.value_turn-state.ensures, c.value_turns-state.ensures) (runs_left c.args.state c.requires)
