use Rattle.std.proofs.Common.{◌+◌, ◌*◌, ◌^◌}
use Rattle.pyramid.specs.Guess.{whole_walk}
use Rattle.pyramid.specs.WalkBounds.{IsBelow}
use Rattle.pyramid.proofs.GuessSteps.{LeadsOn}
use Rattle.pyramid.proofs.schedule.Schedule.whole_walk.Given as goal

abbrev pub invariant-loop : goal.invariant-loop
invariant-loop l = record {
  leads : LeadsOn l.self.cfg l.self.interval l.self.keys.items l.self.places.items l.wanted (whole_walk l.self.cfg l.self.interval l.self.keys.items l.self.places.items l.wanted) l.end l.counter l.walk;
  below : IsBelow (2 ^ 41 + 20 * l.counter) l.walk;
}
