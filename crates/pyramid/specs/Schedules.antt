-- A schedule against the known places of a session.
use Rattle.std.specs.Prelude.{◌≡◌, ℕ, ◌≤◌, Bool, false, List, length, drop}
use Rattle.std.specs.List.{count_by}
use Rattle.pyramid.specs.declared.schedule.Schedule.{Schedule}
use Rattle.pyramid.specs.Building.{opening_spot, due_to, kept_from, next_of, Walk, AreKeysFrom}
use Rattle.pyramid.specs.Known.{is_coding}
use Rattle.pyramid.specs.Numbers.{Numbers}
use Rattle.pyramid.specs.Places.{PlacedUnit, commands_at, places_from, places_of, settled_places, settled_commands}

-- what building on rests on: each known unit was built, and none other
pub record IsBuilt (numbers : Numbers) (interval frames : ℕ) (flushed : Bool) (keys : List ℕ)
    (commands : ℕ) (schedule : Schedule) : Type 0 where
  pub units : List PlacedUnit
  pub walk : Walk numbers interval frames flushed keys opening_spot units schedule.spot
  pub ended : let next = next_of interval frames keys schedule.spot in
      due_to numbers frames flushed next schedule.spot ≡ false
  pub places : schedule.places.items ≡ places_from commands (places_of units)
  pub within : commands ≤ length (commands_at (places_of units))
  pub keys_left : AreKeysFrom (kept_from schedule.places.items schedule.spot.start)
      schedule.keys.items keys

-- a schedule where `frames` are accepted, `keys` are decided and `commands` were coded: it holds the known places from that
-- of the next command on, and the count of the frames that they code
pub record IsSchedule (numbers : Numbers) (interval frames : ℕ) (flushed : Bool) (keys : List ℕ)
    (commands : ℕ) (schedule : Schedule) : Type 0 where
  pub has_numbers : schedule.cfg ≡ numbers
  pub has_interval : schedule.interval ≡ interval
  -- no more commands were coded than are known
  pub within : commands ≤ length (settled_commands numbers interval frames flushed keys)
  -- the places that are held, each with its GOP's start and its number in the GOP
  pub places : schedule.places.items
      ≡ places_from commands (settled_places numbers interval frames flushed keys)
  -- their commands are the known ones from the next on
  pub commands_are : commands_at schedule.places.items
      ≡ drop commands (settled_commands numbers interval frames flushed keys)
  -- how many of these code a frame
  pub coded : schedule.coded
      ≡ count_by is_coding (drop commands (settled_commands numbers interval frames flushed keys))
  pub built : IsBuilt numbers interval frames flushed keys commands schedule

-- the input of the last key that was built
abbrev pub built_start : Schedule → ℕ
built_start schedule = schedule.spot.start
