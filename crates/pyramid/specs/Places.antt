-- The places of a plan, in order. A GOP has one place for its key, and one for each row of each of its groups; the rows
-- that are cut count too.
use Rattle.std.specs.Prelude.{ℕ, ◌+◌, ◌-◌, ◌*◌, Bool, ◌||◌, ◌==◌, nat_lt, if◌then◌else◌, List, [], ◌∷◌, ◌++◌, map, take_while, Some, None}
use Rattle.std.specs.List.{flat_map, range_with_len}
use Rattle.std.specs.Option.{option_to_list}
use Rattle.std.proofs.Common.{zero, suc}
use Rattle.pyramid.specs.declared.command.Command.{Command}
use Rattle.pyramid.specs.declared.place.Place.{Place}
use Rattle.pyramid.specs.declared.place.PlaceRow.{PlaceRow}
use Rattle.pyramid.specs.declared.rows.Row.{Row}
use Rattle.pyramid.specs.Gop.{group_count}
use Rattle.pyramid.specs.Known.{group_needs, known}
use Rattle.pyramid.specs.Numbers.{Numbers, group_places, ahead}
use Rattle.pyramid.specs.Plan.{start_after, starts, plan}
use Rattle.pyramid.specs.Positions.{row_position, index_of, position_of}
use Rattle.pyramid.specs.RowCommand.{command_of, key_of}
use Rattle.pyramid.specs.Rows.{rows, row_at}

-- the row of the place table for a place of a GOP behind its key
abbrev pub place_row : Numbers → ℕ → PlaceRow
place_row numbers place =
    let row = row_at numbers.depth (index_of numbers place) in
    record {
      position = position_of numbers place (index_of numbers place);
      level = row.level;
      shown = row.shown;
      show_existing = row.existing;
    }

abbrev pub key_place : ℕ → Place
key_place start = record { start = start; number = 0; command = Some (key_of start) }

-- the place of a row of group `number`, in the GOP of `length` inputs from `start`: it has a command unless it is cut
abbrev pub row_place : Numbers → ℕ → ℕ → ℕ → Row → Place
row_place numbers start length number row = record {
  start = start;
  number = group_places numbers * number + row.index + 1;
  command =
      if nat_lt (row_position numbers number row) length
      then Some (command_of numbers start number row)
      else None;
}

-- the commands of places
abbrev pub commands_at : List Place → List Command
commands_at places = flat_map (λ place. option_to_list place.command) places

-- the places from that of command `count` on, counted from 0
abbrev pub places_from : ℕ → List Place → List Place
places_from count [] = []
places_from count (place ∷ places) = elim place.command [
  | None ↦ places_from count places
  | Some command ↦ elim count [ zero ↦ place ∷ places | suc rest ↦ places_from rest places ]
]

-- places that become known together, once more than `needs` frames are accepted
pub record PlacedUnit : Type 0 where
  pub needs : ℕ
  pub places : List Place

abbrev pub placed_group : Numbers → ℕ → ℕ → ℕ → PlacedUnit
placed_group numbers start length number = record {
  needs = group_needs numbers start number;
  places = map (row_place numbers start length number) (rows numbers.depth);
}

-- the key behind a GOP of `count` groups
abbrev pub placed_key : Numbers → ℕ → ℕ → ℕ → PlacedUnit
placed_key numbers start count next =
    record { needs = group_needs numbers start count; places = key_place next ∷ [] }

abbrev pub placed_first : Numbers → PlacedUnit
placed_first numbers = record { needs = ahead numbers; places = key_place 0 ∷ [] }

-- the groups of the GOP from `start`, and the key behind it
abbrev pub placed_after : Numbers → ℕ → ℕ → List ℕ → ℕ → List PlacedUnit
placed_after numbers interval frames keys start =
    let next = start_after interval frames keys start in
    let count = group_count numbers (next - start) in
    map (placed_group numbers start (next - start)) (range_with_len 0 count)
    ++ (if nat_lt next frames then placed_key numbers start count next ∷ [] else [])

-- the units of a plan, in order
abbrev pub placed_units : Numbers → ℕ → ℕ → List ℕ → List PlacedUnit
placed_units numbers interval frames keys =
    if frames == 0
    then []
    else placed_first numbers
    ∷ flat_map (placed_after numbers interval frames keys) (starts interval frames keys)

abbrev pub places_of : List PlacedUnit → List Place
places_of units = flat_map (λ unit. unit.places) units

-- the places that are known where `frames` are accepted; all of them once no more come
abbrev pub settled_places : Numbers → ℕ → ℕ → Bool → List ℕ → List Place
settled_places numbers interval frames flushed keys =
    let is_settled : PlacedUnit → Bool = λ unit. flushed || nat_lt unit.needs frames in
    places_of (take_while is_settled (placed_units numbers interval frames keys))

-- the known commands, which are those of the known places
abbrev pub settled_commands : Numbers → ℕ → ℕ → Bool → List ℕ → List Command
settled_commands numbers interval frames flushed keys =
    if flushed then plan numbers interval frames keys else known numbers interval frames keys
