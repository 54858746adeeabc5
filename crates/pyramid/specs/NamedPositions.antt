-- The positions that a frame's references name, and what their slots hold when it is coded.
use Rattle.std.specs.Prelude.{ℕ, ◌≡◌, ◌↔◌, ◌+◌, ◌-◌, ◌*◌, ◌%◌, ◌^◌, ◌<◌, ◌⊎◌, max, Bool, true, false, ◌==◌, if◌then◌else◌, List, [], ◌∷◌, map, Some}
use Rattle.std.specs.Bool.{MatchBool}
use Rattle.std.specs.List.{AllByRecursion}
use Rattle.av1_settings.specs.declared.frame_type.FrameType.{FrameType}
use Rattle.av1_settings.specs.declared.frame_type.FrameType.TheVariants.{KEY, SWITCH}
use Rattle.pyramid.specs.declared.command.Command.{Command}
use Rattle.pyramid.specs.declared.command.Command.TheVariants.{Code, Show}
use Rattle.pyramid.specs.Display.{Slots, empty_slots, held, slots_after}
use Rattle.pyramid.specs.Levels.{level_of, slot_at, slot_of}
use Rattle.pyramid.specs.Numbers.{Numbers, group_inputs}
use Rattle.pyramid.specs.RowCommand.{distinct}

-- a slot that a frame names, for a position before its own or a later one
pub record Named : Type 0 where
  pub slot : ℕ
  pub position : ℕ
  pub later : Bool

abbrev pub named : ℕ → ℕ → Bool → Named
named slot position later = record { slot = slot; position = position; later = later }

-- those of a frame of this level at this position, in order: at level 0 the last frame of its level, and with several
-- references the one before; above it the two frames that it stands between, and the last one of its own level
abbrev pub named_positions : Numbers → ℕ → ℕ → List Named
named_positions numbers level position =
    let slot = slot_at numbers.depth level position in
    let half = 2 ^ (numbers.depth - level) in
    let last = named ((slot + 3) % 4) (position - half) false in
    let one_before = named ((slot + 2) % 4) (position - 2 * half) false in
    let before = named (slot_of numbers.depth (position - half)) (position - half) false in
    let after = named (slot_of numbers.depth (position + half)) (position + half) true in
    let own = named slot (position - 2 * half) false in
    if level == 0
    then (last ∷ (if numbers.multiref then one_before ∷ [] else []))
    else (before ∷ after ∷ own ∷ [])

abbrev pub is_key : FrameType → Bool
is_key KEY = true
is_key kind = false

-- whether a frame of this kind refreshes every slot
abbrev pub is_full : FrameType → Bool
is_full KEY = true
is_full SWITCH = true
is_full kind = false

-- the input of the last frame of such a kind that the commands code, else `so_far`
abbrev pub last_of : (FrameType → Bool) → ℕ → List Command → ℕ
last_of test so_far [] = so_far
last_of test so_far (Code frame kind refs refresh shown ∷ commands) =
    last_of test (if test kind then frame else so_far) commands
last_of test so_far (Show slot ∷ commands) = last_of test so_far commands

abbrev pub last_key : List Command → ℕ
last_key commands = last_of is_key 0 commands

abbrev pub last_full : List Command → ℕ
last_full commands = last_of is_full 0 commands

-- in the GOP from `start` to before `next`, whose last key or switch frame is `full`: the slot of an earlier position
-- holds the frame of that position or `full`, whichever is later, and the slot of a later position holds the frame of
-- that position exactly where the GOP has one
abbrev pub HoldsNamed : Slots → ℕ → ℕ → ℕ → Named → Type 0
HoldsNamed slots start full next name =
    let frame = start + name.position in
    MatchBool name.later ((held slots name.slot ≡ Some frame) ↔ (frame < next))
    (held slots name.slot ≡ Some (max frame full))

-- a frame with these references is coded after the commands before it, in the GOP whose next start is `next`
pub record NamesRight (numbers : Numbers) (next : ℕ) (before : List Command) (frame : ℕ) (refs : List ℕ) : Type 0 where
  pub refs_are : let position = frame - last_key before in
      let names = named_positions numbers (level_of numbers.depth position) position in
      refs ≡ distinct (map (λ name. name.slot) names)
  pub hold : let position = frame - last_key before in
      let names = named_positions numbers (level_of numbers.depth position) position in
      AllByRecursion (HoldsNamed (slots_after empty_slots before) (last_key before) (last_full before) next) names

-- switch frames stand only where a group has one input, and so nothing is reordered
abbrev pub SwitchesInOrder : Numbers → Type 0
SwitchesInOrder numbers = (numbers.switch_interval ≡ 0) ⊎ (group_inputs numbers ≡ 1)
