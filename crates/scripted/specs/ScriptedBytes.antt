-- The bytes that the scripted coder gives.
use Rattle.std.specs.Prelude.{ℕ, ◌+◌, ◌%◌, ◌==◌, min, max, List, [], ◌∷◌, replicate, reverse, Option}
use Rattle.std.specs.List.{find}
use Rattle.std.specs.Option.{option_map, option_map_or}
use Rattle.av1_settings.specs.declared.frame_type.FrameType.{FrameType}
use Rattle.av1_settings.specs.declared.frame_type.FrameType.TheVariants.{KEY}
use Rattle.pyramid.specs.declared.command.Command.{Command}
use Rattle.pyramid.specs.declared.command.Command.TheVariants.{Code, Show}
use Rattle.scripted.specs.declared.coder.TheConstants.{KEY_BYTES, MOST_BYTES, OTHER_BYTES}

-- how many bytes a frame of this type has where no count is set for it
abbrev pub plain_count : FrameType → ℕ
plain_count KEY = KEY_BYTES
plain_count kind = OTHER_BYTES

-- the count that is set for a frame, if one is: the last of its
abbrev pub set_count : List (ℕ × ℕ) → ℕ → Option ℕ
set_count counts frame = option_map (λ count. count.1) (find (λ count. count.0 == frame) (reverse counts))

-- how many bytes a frame has: the count that is set for it, from 1 to 4096, else that of its type
abbrev pub byte_count : List (ℕ × ℕ) → ℕ → FrameType → ℕ
byte_count counts frame kind =
    option_map_or (λ count. max (min count MOST_BYTES) 1) (set_count counts frame) (plain_count kind)

-- the bytes of a command: of a frame its number modulo 256, each; of a show 1a 01 and the slot
unfoldable pub scripted_bytes : List (ℕ × ℕ) → Command → List ℕ
scripted_bytes counts (Code frame kind refs refresh shown) = replicate (byte_count counts frame kind) (frame % 256)
scripted_bytes counts (Show slot) = 0x1a ∷ 0x01 ∷ slot ∷ []

-- the command, its frame counted from this number on
abbrev pub counted_from : ℕ → Command → Command
counted_from first (Code frame kind refs refresh shown) = Code (first + frame) kind refs refresh shown
counted_from first (Show slot) = Show slot
