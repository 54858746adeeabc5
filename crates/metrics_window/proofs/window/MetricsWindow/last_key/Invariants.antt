use Rattle.std.proofs.Common.{◌≡◌, ◌≤◌, false, length, drop}
use Rattle.metrics_window.specs.Cut.{any_key}
use Rattle.metrics_window.proofs.window.MetricsWindow.last_key.Given as goal

abbrev pub invariant-loop-i : goal.invariant-loop-i
invariant-loop-i l = record {
  within : l.i ≤ length l.self-inside.held.items;
  none : any_key (drop l.i l.self-inside.held.items) ≡ false;
}

abbrev pub decreases-loop-i : goal.decreases-loop-i
decreases-loop-i l = l.i
