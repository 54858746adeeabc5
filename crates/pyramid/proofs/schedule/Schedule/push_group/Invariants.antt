use Rattle.std.proofs.Common.{◌≡◌, ◌-◌, ◌++◌, map, take}
use Rattle.pyramid.specs.Places.{places_from, row_place}
use Rattle.pyramid.proofs.schedule.Schedule.push_group.Given as goal

abbrev pub invariant-loop-row : goal.invariant-loop-row
invariant-loop-row l = record {
  cfg : l.self.cfg ≡ l.initial.self.cfg;
  interval : l.self.interval ≡ l.initial.self.interval;
  spot : l.self.spot ≡ l.initial.self.spot;
  keys : l.self.keys.items ≡ l.initial.self.keys.items;
  places : l.self.places.items ≡ places_from 0 (l.initial.self.places.items ++ map (row_place l.cfg l.start (l.next - l.start) l.number) (take l.row-index l.row-items));
}
