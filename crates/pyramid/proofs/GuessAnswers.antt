-- A schedule's guess is that over the known places and all keys.
use Rattle.std.proofs.Common.{◌≡◌, ℕ, ◌<◌, ◌≤◌, Bool, List, [], ◌∷◌, length as size, drop, length-drop, ap, ap₂, ◌∙◌, subst, arith}
use Rattle.pyramid.specs.declared.place.Place.{Place}
use Rattle.pyramid.specs.declared.schedule.Schedule.{Schedule}
use Rattle.pyramid.specs.Building.{kept_from}
use Rattle.pyramid.specs.Guess.{first_place, whole_walk, places_ahead}
use Rattle.pyramid.specs.Numbers.{Numbers}
use Rattle.pyramid.specs.Places.{commands_at, settled_commands}
use Rattle.pyramid.specs.Schedules.{IsSchedule}
use Rattle.pyramid.proofs.GuessKeys.{same-whole_walk}
use Rattle.pyramid.proofs.KeptKeys.{kept-opening, kept-rise}
use Rattle.pyramid.proofs.ScheduleSteps.{held-rise}

module _ (s : Schedule) (numbers : Numbers) (interval frames : ℕ) (flushed : Bool) (keys : List ℕ) (commands wanted : ℕ) (is : IsSchedule numbers interval frames flushed keys commands s) where
  same-walk : kept_from s.places.items s.spot.start ≤ (first_place s.places.items).start →
      whole_walk s.cfg s.interval s.keys.items s.places.items wanted ≡ whole_walk numbers interval keys (places_ahead numbers interval frames flushed keys commands) wanted
  same-walk first =
      let some : 1 ≤ interval = subst (λ (v : ℕ). 1 ≤ v) is.has_interval s.some in
      let rise = held-rise numbers interval frames flushed keys commands s some is.built in
      let from = kept_from s.places.items s.spot.start in
      ap₂ (λ (n : Numbers) (v : ℕ). whole_walk n v s.keys.items s.places.items wanted) is.has_numbers is.has_interval
      ∙ same-whole_walk numbers interval from s.keys.items keys s.places.items s.spot.start is.built.keys_left (kept-rise 0 s.places.items s.spot.start rise) wanted first
      ∙ ap (λ (ps : List Place). whole_walk numbers interval keys ps wanted) is.places

  pub known-walk : commands < size (settled_commands numbers interval frames flushed keys) →
      whole_walk s.cfg s.interval s.keys.items s.places.items wanted ≡ whole_walk numbers interval keys (places_ahead numbers interval frames flushed keys commands) wanted
  known-walk there = same-walk (by s.places.items is.commands_are)
    where
      by : (places : List Place) → commands_at places ≡ drop commands (settled_commands numbers interval frames flushed keys) → kept_from places s.spot.start ≤ (first_place places).start
      by [] are = absurd (omega (arith, there, ap size are, length-drop commands (settled_commands numbers interval frames flushed keys)))
      by (place ∷ places) are = omega arith

pub opening-walk : (s : Schedule) (numbers : Numbers) (interval frames : ℕ) (flushed : Bool) (keys : List ℕ) (wanted : ℕ) (is : IsSchedule numbers interval frames flushed keys 0 s) →
    whole_walk s.cfg s.interval s.keys.items s.places.items wanted ≡ whole_walk numbers interval keys (places_ahead numbers interval frames flushed keys 0) wanted
opening-walk s numbers interval frames flushed keys wanted is =
    let all = kept-opening numbers interval frames flushed keys is.built.units s.spot is.built.walk in
    let none : kept_from s.places.items s.spot.start ≡ 0 = ap (λ (ps : List Place). kept_from ps s.spot.start) is.built.places ∙ all in
    same-walk s numbers interval frames flushed keys 0 wanted is (omega (arith, none))
