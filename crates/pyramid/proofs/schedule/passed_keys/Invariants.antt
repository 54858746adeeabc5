use Rattle.std.proofs.Common.{◌≤◌}
use Rattle.pyramid.specs.Building.{passed_keys}
use Rattle.pyramid.proofs.schedule.passed_keys.Given as goal

abbrev pub invariant-loop-i : goal.invariant-loop-i
invariant-loop-i l = l.i ≤ passed_keys l.start l.keys.items
