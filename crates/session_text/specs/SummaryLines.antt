-- What a whole session came to, in six lines.
use Rattle.std.specs.Prelude.{ℕ, ℤ, ◌-◌, Bool, true, false, List, [], ◌∷◌, ◌++◌, length, map, sum, count_by, Option, option_and_then, codes, decimal}
use Rattle.std.specs.List.{slice_get}
use Rattle.std.specs.Option.{option_map_or}
use Rattle.av1_settings.specs.declared.frame_type.FrameType.{FrameType}
use Rattle.av1_settings.specs.declared.frame_type.FrameType.TheVariants.{KEY}
use Rattle.pyramid.specs.declared.command.Command.{Command}
use Rattle.pyramid.specs.declared.command.Command.TheVariants.{Code, Show}
use Rattle.pyramid.specs.Display.{hiding}
use Rattle.session_core.specs.declared.transcript.Reply.{Reply}
use Rattle.session_core.specs.declared.transcript.Reply.TheVariants.{Sent}
use Rattle.session_core.specs.declared.transcript.Turn.{Turn}
use Rattle.session_core.specs.Sessions.{commands_of, packets_of}
use Rattle.session_text.specs.ReportLines.{reservoir_line}

-- a frame was accepted
abbrev pub is_sent : {T O : Type 0} → Reply T O → Bool
is_sent (Sent number) = true
is_sent reply = false

abbrev pub is_key_kind : FrameType → Bool
is_key_kind KEY = true
is_key_kind kind = false

-- a key frame is coded
abbrev pub is_key : Command → Bool
is_key (Code frame kind refs refresh shown) = is_key_kind kind
is_key (Show slot) = false

-- a line of a word and a number
unfoldable pub count_line : List ℕ → ℕ → List ℕ
count_line word count = word ++ (codes " " ++ (decimal count ++ 10 ∷ []))

-- the bits that the reservoir holds behind the last turn, where there is a bitrate
abbrev pub last_reservoir : {T O : Type 0} → List (Turn T O) → Option ℤ
last_reservoir turns = option_and_then (λ turn. turn.reservoir) (slice_get turns (length turns - 1))

-- their line
abbrev pub reservoir_left : {T O : Type 0} → List (Turn T O) → List ℕ
reservoir_left turns = option_map_or reservoir_line (last_reservoir turns) []

-- how many frames were accepted; how many key frames were coded, and how many commands showed nothing, trials aside; how many
-- packets were given, and how many bytes all of them have; and the reservoir
unfoldable pub summary : {T O : Type 0} → List (Turn T O) → List ℕ
summary turns =
    count_line (codes "frames") (count_by (λ turn. is_sent turn.reply) turns)
    ++ (count_line (codes "keys") (count_by is_key (commands_of turns))
    ++ (count_line (codes "hidden") (hiding (commands_of turns))
    ++ (count_line (codes "packets") (length (packets_of turns))
    ++ (count_line (codes "bytes") (sum (map (λ packet. length packet.bytes) (packets_of turns)))
    ++ reservoir_left turns))))
