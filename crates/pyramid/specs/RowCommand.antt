-- The command of a row of a group: which slots it names and refreshes, and of which kind it is.
use Rattle.std.specs.Prelude.{ℕ, ◌+◌, ◌-◌, ◌*◌, ◌%◌, ◌^◌, true, not, ◌==◌, ◌&&◌, nat_lt, if◌then◌else◌, List, [], ◌∷◌, filter}
use Rattle.av1_settings.specs.declared.frame_type.FrameType.{FrameType}
use Rattle.av1_settings.specs.declared.frame_type.FrameType.TheVariants.{KEY, INTER, SWITCH}
use Rattle.pyramid.specs.declared.command.Command.{Command}
use Rattle.pyramid.specs.declared.command.Command.TheVariants.{Code, Show}
use Rattle.pyramid.specs.declared.rows.Row.{Row}
use Rattle.pyramid.specs.Levels.{slot_at, slot_of}
use Rattle.pyramid.specs.Numbers.{Numbers, group_places}
use Rattle.pyramid.specs.Positions.{row_position}

-- a list without its repeats, in order
abbrev pub distinct : List ℕ → List ℕ
distinct [] = []
distinct (x ∷ xs) = x ∷ filter (λ y. not (y == x)) (distinct xs)

-- the slots of the last frame of level 0 before one in this slot, and with several references of the one before
abbrev pub level_zero_refs : Numbers → ℕ → List ℕ
level_zero_refs numbers slot =
    (slot + 3) % 4 ∷ (if numbers.multiref then (slot + 2) % 4 ∷ [] else [])

-- the slots that a frame of this level at this position names: those of the last frames of level 0, or above it those
-- of the two frames that it stands between, and its own level's
abbrev pub refs_of : Numbers → ℕ → ℕ → List ℕ
refs_of numbers level position =
    let slot = slot_at numbers.depth level position in
    let half = 2 ^ (numbers.depth - level) in
    let before = slot_of numbers.depth (position - half) in
    let after = slot_of numbers.depth (position + half) in
    if level == 0 then level_zero_refs numbers slot else distinct (before ∷ after ∷ slot ∷ [])

-- a frame of level 0 is a switch frame where its place in the GOP is a multiple of the switch interval
abbrev pub kind_of : Numbers → ℕ → ℕ → FrameType
kind_of numbers level place =
    let every = numbers.switch_interval in
    if nat_lt 0 every && level == 0 && place % every == 0 then SWITCH else INTER

-- a switch frame refreshes every slot, any other frame its own
abbrev pub refresh_of : FrameType → ℕ → ℕ
refresh_of SWITCH slot = 255
refresh_of kind slot = 2 ^ slot

-- the command that codes the frame of a row of group `number`
abbrev pub code_of : Numbers → ℕ → ℕ → Row → Command
code_of numbers start number row =
    let position = row_position numbers number row in
    let kind = kind_of numbers row.level (group_places numbers * number + row.index + 1) in
    let refresh = refresh_of kind (slot_at numbers.depth row.level position) in
    Code (start + position) kind (refs_of numbers row.level position) refresh row.shown

-- the command of a row of group `number`, in the GOP whose key is input `start`
abbrev pub command_of : Numbers → ℕ → ℕ → Row → Command
command_of numbers start number row =
    let slot = slot_of numbers.depth (row_position numbers number row) in
    if row.existing then Show slot else code_of numbers start number row

-- a key frame names no slot, refreshes every one, and is shown
abbrev pub key_of : ℕ → Command
key_of start = Code start KEY [] 255 true
