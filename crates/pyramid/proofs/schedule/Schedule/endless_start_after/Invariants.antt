use Rattle.std.proofs.Common.{◌≡◌, drop}
use Rattle.pyramid.specs.Plan.{key_above}
use Rattle.pyramid.proofs.schedule.Schedule.endless_start_after.Given as goal

abbrev pub invariant-loop-i : goal.invariant-loop-i
invariant-loop-i l = key_above l.limit (drop l.i l.self.keys.items) l.start ≡ key_above l.limit l.self.keys.items l.start
