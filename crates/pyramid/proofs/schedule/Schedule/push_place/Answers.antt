use Rattle.std.proofs.Common.{arith}
use Rattle.pyramid.proofs.PlacedLists.{coding-few}
use Rattle.pyramid.proofs.schedule.Schedule.push_place.Goals as goal

pub overflow_add-self : goal.overflow_add-self
overflow_add-self c =
    let s = c.args.self.now in
    omega (arith, s.counted, coding-few s.places.items, s.places.ok.0, s.places.small)
