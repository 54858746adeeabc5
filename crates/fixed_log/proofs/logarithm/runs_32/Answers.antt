use Rattle.fixed_log.specs.Logarithm.{log32_runs}
use Rattle.fixed_log.proofs.LogarithmRanges.{fit_1, fit_2, fit_short, within_short}
use Rattle.fixed_log.proofs.logarithm.runs_32.Goals as goal

pub turns-state-requires-clause-fit : goal.turns-state-requires-clause-fit
turns-state-requires-clause-fit c = fit_1 c.args.state c.requires

pub turns-state-requires-2-clause-fit : goal.turns-state-requires-2-clause-fit
turns-state-requires-2-clause-fit c = rw c.turns-state.ensures (fit_2 c.args.state c.requires)

pub turns-requires-clause-fit : goal.turns-requires-clause-fit
turns-requires-clause-fit c = rw (c.turns-state-2.ensures, c.turns-state.ensures) (fit_short c.args.state c.requires)

pub returns-clause-state : goal.returns-clause-state
unfolding log32_runs
returns-clause-state c = rw (c.turns.ensures, c.turns-state-2.ensures, c.turns-state.ensures)

pub returns-clause-low : goal.returns-clause-low
returns-clause-low c = rw (c.turns.ensures, c.turns-state-2.ensures, c.turns-state.ensures) (within_short c.args.state c.requires).0

pub returns-clause-high : goal.returns-clause-high
returns-clause-high c = rw (c.turns.ensures, c.turns-state-2.ensures, c.turns-state.ensures) (within_short c.args.state c.requires).1
