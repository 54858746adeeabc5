-- How the places of a plan are built, unit after unit, each once.
use Rattle.std.specs.Prelude.{◌≡◌, ℕ, ◌+◌, ◌-◌, ◌*◌, ◌^◌, ◌≤◌, Bool, true, false, ◌||◌, ◌&&◌, nat_lt, nat_le, if◌then◌else◌, IsTrue, List, [], ◌∷◌, ◌++◌, Option, Some, None, is_some}
use Rattle.std.specs.List.{count_by, prefix_len}
use Rattle.pyramid.specs.declared.command.Command.{Command}
use Rattle.pyramid.specs.declared.command.Command.TheVariants.{Code, Show}
use Rattle.pyramid.specs.declared.place.Place.{Place}
use Rattle.pyramid.specs.declared.spot.Spot.{Spot}
use Rattle.pyramid.specs.Gop.{group_count}
use Rattle.pyramid.specs.Known.{group_needs, is_coding}
use Rattle.pyramid.specs.Numbers.{Numbers, ahead}
use Rattle.pyramid.specs.Places.{PlacedUnit, placed_group, placed_key, placed_first, commands_at, places_from, places_of}
use Rattle.pyramid.specs.Plan.{key_above, start_after}

-- before the first key
abbrev pub opening_spot : Spot
opening_spot = record { begun = false; start = 0; number = 0 }

-- whether the GOP up to `next` has a group at the spot
abbrev pub group_left : Numbers → ℕ → Spot → Bool
group_left numbers next spot = nat_lt spot.number (group_count numbers (next - spot.start))

-- whether the plan has a unit at the spot, where the next GOP starts at `next`
abbrev pub unit_left : Numbers → ℕ → ℕ → Spot → Bool
unit_left numbers frames next spot =
    if spot.begun
    then nat_lt spot.start frames && (group_left numbers next spot || nat_lt next frames)
    else nat_lt 0 frames

-- how many accepted frames the unit at the spot needs to have more than
abbrev pub needs_at : Numbers → Spot → ℕ
needs_at numbers spot =
    if spot.begun then group_needs numbers spot.start spot.number else ahead numbers

-- the unit at the spot: the first key, a group, or the key behind the GOP's groups
abbrev pub unit_to : Numbers → ℕ → Spot → PlacedUnit
unit_to numbers next spot =
    if spot.begun
    then if group_left numbers next spot
    then placed_group numbers spot.start (next - spot.start) spot.number
    else placed_key numbers spot.start spot.number next
    else placed_first numbers

-- the spot behind it
abbrev pub spot_to : Numbers → ℕ → Spot → Spot
spot_to numbers next spot =
    if spot.begun
    then if group_left numbers next spot
    then record { begun = true; start = spot.start; number = spot.number + 1 }
    else record { begun = true; start = next; number = 0 }
    else record { begun = true; start = spot.start; number = spot.number }

-- whether the unit at the spot is there and is known
abbrev pub due_to : Numbers → ℕ → Bool → ℕ → Spot → Bool
due_to numbers frames flushed next spot =
    unit_left numbers frames next spot && (flushed || nat_lt (needs_at numbers spot) frames)

abbrev pub next_of : ℕ → ℕ → List ℕ → Spot → ℕ
next_of interval frames keys spot = start_after interval frames keys spot.start

-- from one spot to another these units are built, each when it is known
abbrev pub Walk :
    Numbers → ℕ → ℕ → Bool → List ℕ → Spot → List PlacedUnit → Spot → Type 0
Walk numbers interval frames flushed keys spot [] to = spot ≡ to
Walk numbers interval frames flushed keys spot (unit ∷ units) to =
    let next = next_of interval frames keys spot in
    IsTrue (due_to numbers frames flushed next spot)
    × (unit ≡ unit_to numbers next spot)
    × Walk numbers interval frames flushed keys (spot_to numbers next spot) units to

-- of all keys these are the ones above `start`, as far as they matter
abbrev pub AreKeysFrom : ℕ → List ℕ → List ℕ → Type 0
AreKeysFrom start left keys =
    (frames later : ℕ) → start ≤ later →
    key_above frames left later ≡ key_above frames keys later

-- units are built from one spot to another, and their places put behind those before; those that are cut don't stay first
pub record Builds (numbers : Numbers) (interval frames : ℕ) (flushed : Bool) (keys : List ℕ)
    (from to : Spot) (before after : List Place) : Type 0 where
  pub units : List PlacedUnit
  pub walk : Walk numbers interval frames flushed keys from units to
  pub places : after ≡ places_from 0 (before ++ places_of units)

-- how many keys, from the first on, aren't above a start
abbrev pub passed_keys : ℕ → List ℕ → ℕ
passed_keys start keys = prefix_len (λ key. nat_le key start) keys

-- the start of the first place's GOP, and where no place is held that of the last key that was built
abbrev pub kept_from : List Place → ℕ → ℕ
kept_from [] start = start
kept_from (place ∷ places) start = place.start

-- the input of a command's frame
abbrev pub frame_of : Option Command → ℕ
frame_of (Some (Code frame kind refs refresh shown)) = frame
frame_of (Some (Show slot)) = 0
frame_of None = 0

-- whether a place's numbers are small
abbrev pub is_near : Place → Bool
is_near place =
    nat_le place.start (2 ^ 31) && nat_le place.number (2 ^ 40) && nat_le (frame_of place.command) (2 ^ 31)

-- whether the first place, if there is one, has a command
abbrev pub begins_with_command : List Place → Bool
begins_with_command [] = true
begins_with_command (place ∷ places) = is_some place.command

-- how many of these places code a frame
abbrev pub coding_count : List Place → ℕ
coding_count places = count_by is_coding (commands_at places)

-- a number that falls with each unit that is built
abbrev pub steps_left : ℕ → Spot → ℕ
steps_left frames spot =
    2 ^ 32 * (frames - spot.start) - spot.number + (if spot.begun then 0 else 1)
