use Rattle.std.proofs.Common.{List, sym, ap, ◌∙◌, drop, subst₂, arith}
use Rattle.std.specs.List.{list_all}
use Rattle.pyramid.specs.declared.place.Place.{Place}
use Rattle.pyramid.specs.declared.spot.Spot.{Spot}
use Rattle.pyramid.specs.Building.{AreKeysFrom, begins_with_command, is_near, kept_from}
use Rattle.pyramid.proofs.KeptKeys.{near-from, near-drop}
use Rattle.pyramid.proofs.PlacedLists.{from-ready}
use Rattle.pyramid.proofs.ScheduleSteps.{advanced-is, stayed-is}
use Rattle.pyramid.proofs.schedule.Schedule.advance.Goals as goal

pub invariant_of-self : goal.invariant_of-self
invariant_of-self c =
    let s = c.args.self.now in
    let e = c.drop_first-less.ensures in
    record {
      table = s.table;
      some = s.some;
      start = s.start;
      number = s.number;
      passing = s.passing;
      near = ap (list_all is_near) e.items ∙ near-from 0 (drop 1 s.places.items) (near-drop s.places.items s.near);
      counted = omega (arith, s.counted, e.count);
      ready = ap begins_with_command e.items ∙ from-ready 0 (drop 1 s.places.items);
    }

pub returns-clause-known : goal.returns-clause-known
returns-clause-known c =
    let s = c.args.self.now in
    let new = c.drop_keys.new.self in
    let e = c.drop_keys.ensures in
    advanced-is s new e.cfg e.interval e.spot
    (subst₂ (λ (ps : List Place) (spot : Spot). AreKeysFrom (kept_from ps spot.start) new.keys.items s.keys.items) (sym e.places) (sym e.spot) e.keys)
    (◌∙◌ {A = List Place} e.places c.drop_first-less.ensures.items)

pub returns-clause-none : goal.returns-clause-none
returns-clause-none c =
    let s = c.args.self.now in
    let new = c.drop_keys.new.self in
    let e = c.drop_keys.ensures in
    stayed-is s new e.cfg e.interval e.spot
    (subst₂ (λ (ps : List Place) (spot : Spot). AreKeysFrom (kept_from ps spot.start) new.keys.items s.keys.items) (sym e.places) (sym e.spot) e.keys)
    (◌∙◌ {A = List Place} e.places c.drop_first-less.ensures.items)
