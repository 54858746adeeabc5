use Rattle.std.proofs.Common.{◌≡◌, ℕ, ◌≤◌, List}
use Rattle.pyramid.specs.Building.{AreKeysFrom, Builds, steps_left}
use Rattle.pyramid.proofs.schedule.Schedule.build.Given as goal

abbrev pub invariant-loop-self : goal.invariant-loop-self
invariant-loop-self l = record {
  cfg : l.self.cfg ≡ l.initial.self.cfg;
  interval : l.self.interval ≡ l.initial.self.interval;
  built : (keys : List ℕ) → AreKeysFrom l.initial.self.spot.start l.initial.self.keys.items keys → Builds l.initial.self.cfg l.initial.self.interval l.frames l.flushed keys l.initial.self.spot l.self.spot l.initial.self.places.items l.self.places.items;
  keys : l.self.keys.items ≡ l.initial.self.keys.items;
  later : l.initial.self.spot.start ≤ l.self.spot.start;
}

abbrev pub decreases-loop-self : goal.decreases-loop-self
decreases-loop-self l = steps_left l.frames l.self.spot
