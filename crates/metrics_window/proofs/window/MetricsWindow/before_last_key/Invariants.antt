use Rattle.std.proofs.Common.{◌≡◌, ◌≤◌, ◌++◌, take, drop}
use Rattle.metrics_window.specs.Tallies.{tally_of}
use Rattle.metrics_window.proofs.window.MetricsWindow.before_last_key.Given as goal

abbrev pub invariant-loop-i : goal.invariant-loop-i
invariant-loop-i l = record {
  low : l.initial.i ≤ l.i;
  tally : l.tally ≡ tally_of (take l.initial.i l.self-inside.held.items ++ drop l.i l.self-inside.held.items);
}
