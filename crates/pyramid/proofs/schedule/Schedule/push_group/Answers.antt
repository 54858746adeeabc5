use Rattle.std.proofs.Common.{ℕ, ◌-◌, List, ◌∙◌}
use Rattle.pyramid.specs.Places.{row_place}
use Rattle.pyramid.proofs.PlacedLists.{from-row}
use Rattle.pyramid.proofs.schedule.Schedule.push_group.Goals as goal

pub loop-row-preserved : goal.loop-row-preserved
loop-row-preserved c =
    let s = c.args.self.now in
    let e = c.in_ok-push_place.ensures in
    let i = c.loop-row.invariant in
    record {
      cfg = e.cfg ∙ i.cfg;
      interval = e.interval ∙ i.interval;
      spot = e.spot ∙ i.spot;
      keys = ◌∙◌ {A = List ℕ} e.keys i.keys;
      places = from-row (row_place s.cfg s.spot.start (c.args.next - s.spot.start) s.spot.number) c.rows-row-items.result.now c.loop-row.row-index _ c.row_place.result
          s.places.items c.loop-row.self.places.items c.push_place.new.self.places.items c.loop-row-test.true c.row_place.ensures.value i.places e.places;
    }
