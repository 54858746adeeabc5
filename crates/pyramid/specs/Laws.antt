-- The laws of GOPs and plans. Each holds at every depth that has a table, and is the contract of a function in `laws`.
--
-- `gop` and `plan` are the definitions that the contract of the call `plan` cites. The display machine has eight slots,
-- each empty or holding the number of a frame.
use Rattle.std.specs.Prelude.{ℕ, Bool, not, is_some, ◌≡◌, ◌+◌, ◌-◌, ◌/◌, ◌<◌, ◌≤◌, ◌&&◌, IsTrue, if◌then◌else◌, List, ◌∷◌, ◌++◌, length, map, take, Some}
use Rattle.std.specs.List.{list_any, flat_map, slice_get}
use Rattle.av1_settings.specs.declared.encoder.EncoderConfig.{EncoderConfig}
use Rattle.av1_settings.specs.declared.frame_type.FrameType.{FrameType}
use Rattle.av1_settings.specs.declared.frame_type.FrameType.TheVariants.{KEY}
use Rattle.pyramid.specs.declared.command.Command.{Command}
use Rattle.pyramid.specs.declared.command.Command.TheVariants.{Code, Show}
use Rattle.pyramid.specs.declared.rows.Row.{Row}
use Rattle.pyramid.specs.Begins.{Begins}
use Rattle.pyramid.specs.Display.{Slots, empty_slots, held, names_full, first_empty, first_refused, accepts, slots_after, shown, showing, hiding, codes}
use Rattle.pyramid.specs.declared.place.Place.{Place}
use Rattle.pyramid.specs.Gop.{gop}
use Rattle.pyramid.specs.Guess.{whole_walk}
use Rattle.pyramid.specs.MidGop.{AllHold, before_row}
use Rattle.pyramid.specs.Moved.{moved, plan_of_moved}
use Rattle.pyramid.specs.NamedPositions.{last_key, NamesRight, SwitchesInOrder}
use Rattle.pyramid.specs.Numbers.{Numbers, group_places}
use Rattle.pyramid.specs.Known.{AreUndecided, units, known}
use Rattle.pyramid.specs.Levels.{slot_of}
use Rattle.pyramid.specs.Positions.{row_position, position_at}
use Rattle.pyramid.specs.Places.{place_row, row_place, commands_at, settled_places, settled_commands}
use Rattle.pyramid.specs.Plan.{start_after, plan}
use Rattle.pyramid.specs.Playable.{InOrder, IsPlayable}
use Rattle.pyramid.specs.Settings.{numbers_of}
use Rattle.pyramid.specs.RowCommand.{command_of}
use Rattle.pyramid.specs.Rows.{HasTable, rows, row_at, is_row}
use Rattle.pyramid.specs.Subtypes.{subtype_of}

-- replayed from any eight slots, full or empty, a GOP names no empty slot, and shows its inputs in order, each once
abbrev pub GopReplays : Type 0
GopReplays = (numbers : Numbers) (slots : Slots) (start inputs : ℕ) →
    HasTable numbers.depth →
    length slots ≡ 8 →
    1 ≤ inputs → InOrder slots (gop numbers start inputs) start inputs

-- replayed from empty slots, a plan codes and shows its inputs, each once, and shows them in order
abbrev pub PlanIsPlayable : Type 0
PlanIsPlayable = (numbers : Numbers) (interval frames : ℕ) (keys : List ℕ) →
    HasTable numbers.depth → 1 ≤ interval → IsPlayable (plan numbers interval frames keys) frames

-- from empty slots on, whatever a slot holds was coded before
abbrev pub HeldIsCoded : Type 0
HeldIsCoded = (commands : List Command) (slot frame : ℕ) →
    held (slots_after empty_slots commands) slot ≡ Some frame →
    IsTrue (list_any (codes frame) commands)

-- a GOP is the GOP of its length from input 0, with its inputs moved; this holds at any depth
abbrev pub GopIsMoved : Type 0
GopIsMoved = (numbers : Numbers) (start inputs : ℕ) →
    gop numbers start inputs ≡ map (moved start) (gop numbers 0 inputs)

-- a plan is the join of its GOPs; this holds at any depth
abbrev pub PlanIsMoved : Type 0
PlanIsMoved = (numbers : Numbers) (interval frames : ℕ) (keys : List ℕ) →
    plan numbers interval frames keys ≡ plan_of_moved numbers interval frames keys

-- from a GOP's key on, at each moment of the GOP, every slot holds a frame of the GOP, whatever it held before; this
-- holds at any depth
abbrev pub SlotsAreOfTheGop : Type 0
SlotsAreOfTheGop = (numbers : Numbers) (slots : Slots) (start inputs k : ℕ) →
    length slots ≡ 8 →
    1 ≤ inputs →
    1 ≤ k →
    AllHold (slots_after slots (take k (gop numbers start inputs))) start (start + inputs)

-- the command of row `index` of a group stands in the GOP as a show command behind those of the rows before it, and
-- its slot then holds the frame of the row's position
abbrev pub ShowsItsPosition : Numbers → Slots → ℕ → ℕ → ℕ → ℕ → Type 0
ShowsItsPosition numbers slots start inputs number index =
    let position = position_at numbers number index in
    let before = before_row numbers start inputs number index in
    let slot = slot_of numbers.depth position in
    (rest : List Command)
    × (gop numbers start inputs ≡ before ++ (Show slot ∷ rest))
    × (held (slots_after slots before) slot ≡ Some (start + position))

-- each row of a table that shows what a slot holds, where its position is below the GOP's length, does so
abbrev pub ShowCommandsShowTheirPositions : Type 0
ShowCommandsShowTheirPositions = (numbers : Numbers) (slots : Slots) (start inputs number index : ℕ) →
    HasTable numbers.depth →
    length slots ≡ 8 →
    index < length (rows numbers.depth) →
    IsTrue (row_at numbers.depth index).existing →
    position_at numbers number index < inputs →
    ShowsItsPosition numbers slots start inputs number index

-- a GOP hides at most one frame for each two inputs after its key
abbrev pub GopHides : Type 0
GopHides = (numbers : Numbers) (start inputs : ℕ) →
    HasTable numbers.depth → 1 ≤ inputs → hiding (gop numbers start inputs) ≤ (inputs - 1) / 2

-- at the moment when a plan codes a frame other than a key, its references name these positions, and their slots hold
-- the frames of these
abbrev pub ReferencesNamePositions : Type 0
ReferencesNamePositions = (numbers : Numbers) (interval frames : ℕ) (keys : List ℕ) →
    HasTable numbers.depth →
    SwitchesInOrder numbers →
    1 ≤ interval →
    (k frame : ℕ) (kind : FrameType) (refs : List ℕ) (refresh : ℕ) (visible : Bool) →
    let commands = plan numbers interval frames keys in
    let before = take k commands in
    let next = start_after interval frames keys (last_key before) in
    slice_get commands k ≡ Some (Code frame kind refs refresh visible) →
    (kind ≡ KEY → ⊥) → NamesRight numbers next before frame refs

-- settings have switch frames only without reordering, where these are only asked for with low latency
abbrev pub SettingsSwitchInOrder : Type 0
SettingsSwitchInOrder = (enc : EncoderConfig) →
    (1 ≤ enc.switch_frame_interval → IsTrue enc.low_latency) → SwitchesInOrder (numbers_of enc)

-- a command names only full slots exactly where none is the first empty one
abbrev pub FirstEmptyIsNamed : Type 0
FirstEmptyIsNamed = (slots : Slots) (command : Command) →
    names_full slots command ≡ not (is_some (first_empty slots command))

-- commands are accepted exactly where none is refused
abbrev pub FirstRefusedIsFirst : Type 0
FirstRefusedIsFirst = (slots : Slots) (commands : List Command) →
    accepts slots commands ≡ not (is_some (first_refused slots commands))

-- the subtype of a row's command is that of its level, or 4 where the row shows what a slot holds
abbrev pub SubtypesFollowLevels : Type 0
SubtypesFollowLevels = (numbers : Numbers) (start number : ℕ) (row : Row) →
    HasTable numbers.depth →
    IsTrue (is_row numbers.depth row) →
    subtype_of (command_of numbers start number row) ≡ (if row.existing then 4 else row.level + 1)

-- settings give a depth that has a table
abbrev pub SettingsHaveATable : Type 0
SettingsHaveATable = (enc : EncoderConfig) → HasTable (numbers_of enc).depth

-- each start is later than the one before, and at most the number of inputs; this holds at any depth
abbrev pub StartsRise : Type 0
StartsRise = (interval frames start : ℕ) (keys : List ℕ) →
    1 ≤ interval →
    start < frames →
    (start < start_after interval frames keys start) × (start_after interval frames keys start ≤ frames)

-- the units of a plan make the plan; this holds at any depth
abbrev pub UnitsMakeThePlan : Type 0
UnitsMakeThePlan = (numbers : Numbers) (interval frames : ℕ) (keys : List ℕ) →
    1 ≤ interval →
    flat_map (λ unit. unit.commands) (units numbers interval frames keys) ≡ plan numbers interval frames keys

-- what is known begins the plan
abbrev pub KnownBeginsThePlan : Type 0
KnownBeginsThePlan = (numbers : Numbers) (interval frames : ℕ) (keys : List ℕ) →
    1 ≤ interval → Begins (known numbers interval frames keys) (plan numbers interval frames keys)

-- what is known stays: it begins what is known once more frames are accepted, whichever of the positions that were
-- undecided are keys then
abbrev pub KnownStays : Type 0
KnownStays = (numbers : Numbers) (interval frames later : ℕ) (keys more : List ℕ) →
    HasTable numbers.depth →
    1 ≤ interval →
    frames ≤ later →
    AreUndecided numbers frames more →
    Begins (known numbers interval frames keys) (known numbers interval later (keys ++ more))

-- so it begins the plan of that moment, and of each one after
abbrev pub KnownBeginsLaterPlans : Type 0
KnownBeginsLaterPlans = (numbers : Numbers) (interval frames later : ℕ) (keys more : List ℕ) →
    HasTable numbers.depth →
    1 ≤ interval →
    frames ≤ later →
    AreUndecided numbers frames more →
    Begins (known numbers interval frames keys) (plan numbers interval later (keys ++ more))

-- the commands of the known places are the known commands
abbrev pub PlacesHaveTheCommands : Type 0
PlacesHaveTheCommands =
    (numbers : Numbers) (interval frames : ℕ) (flushed : Bool) (keys : List ℕ) →
    1 ≤ interval →
    commands_at (settled_places numbers interval frames flushed keys)
    ≡ settled_commands numbers interval frames flushed keys

-- the number of a row's place leads back to the row
abbrev pub PlacesFollowTheTable : Type 0
PlacesFollowTheTable = (numbers : Numbers) (start length number index : ℕ) →
    HasTable numbers.depth →
    index < group_places numbers →
    let row = row_at numbers.depth index in
    place_row numbers (row_place numbers start length number row).number
    ≡ record {
      position = row_position numbers number row;
      level = row.level;
      shown = row.shown;
      show_existing = row.existing;
    }

-- the walk of a guess ends because it has met the wanted temporal units, and never for want of steps
abbrev pub GuessesReachTheirUnits : Type 0
GuessesReachTheirUnits =
    (numbers : Numbers) (interval : ℕ) (keys : List ℕ) (places : List Place) (wanted : ℕ) →
    HasTable numbers.depth → (whole_walk numbers interval keys places wanted).tus ≡ wanted

-- the slots after two lists of commands, one behind the other
abbrev pub SlotsAfterBoth : Type 0
SlotsAfterBoth = (slots : Slots) (before after : List Command) →
    slots_after slots (before ++ after) ≡ slots_after (slots_after slots before) after

-- two lists of commands are accepted where the second is from the slots after the first
abbrev pub AcceptsBoth : Type 0
AcceptsBoth = (slots : Slots) (before after : List Command) →
    accepts slots (before ++ after)
    ≡ (accepts slots before && accepts (slots_after slots before) after)

-- they show what the first shows, and then what the second shows from there
abbrev pub ShownByBoth : Type 0
ShownByBoth = (slots : Slots) (before after : List Command) →
    shown slots (before ++ after) ≡ shown slots before ++ shown (slots_after slots before) after

-- how many of them show a frame
abbrev pub ShowingBoth : Type 0
ShowingBoth = (before after : List Command) →
    showing (before ++ after) ≡ showing before + showing after
