use Rattle.std.proofs.Common.{◌≡◌}
use Rattle.pyramid.specs.Building.{AreKeysFrom}
use Rattle.pyramid.proofs.schedule.Schedule.drop_keys.Given as goal

abbrev pub invariant-loop-self : goal.invariant-loop-self
invariant-loop-self l = record {
  cfg : l.self.cfg ≡ l.initial.self.cfg;
  interval : l.self.interval ≡ l.initial.self.interval;
  spot : l.self.spot ≡ l.initial.self.spot;
  places : l.self.places.items ≡ l.initial.self.places.items;
  keys : AreKeysFrom l.from l.self.keys.items l.initial.self.keys.items;
}

abbrev pub decreases-loop-self : goal.decreases-loop-self
decreases-loop-self l = l.self.passed
