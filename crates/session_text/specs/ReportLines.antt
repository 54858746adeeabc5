-- The report of a session: for each call the lines of its log, then the line of its reply, then what the options add.
use Rattle.std.specs.Prelude.{ℕ, ℤ, not, ◌==◌, ◌&&◌, if◌then◌else◌, List, [], ◌∷◌, ◌++◌, length, flat_map, codes, decimal}
use Rattle.std.specs.Fmt.{signed_decimal}
use Rattle.std.specs.Option.{option_map_or}
use Rattle.av1_settings.specs.declared.status.EncoderStatus.{EncoderStatus}
use Rattle.av1_settings.specs.declared.status.EncoderStatus.TheVariants.{NeedMoreData, EnoughData, LimitReached, Encoded, Failure, NotReady, FrameSizeMismatch, OutOfMemory}
use Rattle.hex.specs.Hex.{encode_lower}
use Rattle.pyramid.specs.declared.command.Command.TheVariants.{Code, Show}
use Rattle.session_core.specs.declared.transcript.Reply.{Reply}
use Rattle.session_core.specs.declared.transcript.Reply.TheVariants.{Sent, Flushed, Packet as GivesPacket, Status}
use Rattle.session_core.specs.declared.transcript.Turn.{Turn}
use Rattle.session_core.specs.PacketText.{packet_text}
use Rattle.session_core.specs.Turns.{luma_index}
use Rattle.session_log.specs.declared.entry.LogEntry.{LogEntry}
use Rattle.session_text.specs.declared.report.ReportOptions.{ReportOptions}
use Rattle.session_text.specs.CommandLines.{command_line}

abbrev pub status_word : EncoderStatus → List ℕ
status_word NeedMoreData = codes "need-more-data"
status_word EnoughData = codes "send enough-data"
status_word LimitReached = codes "limit-reached"
status_word Encoded = codes "encoded"
status_word Failure = codes "failure"
status_word NotReady = codes "not-ready"
status_word FrameSizeMismatch = codes "send frame-size-mismatch"
status_word OutOfMemory = codes "out-of-memory"

-- the line of a reply
unfoldable pub reply_line : {T O : Type 0} → Reply T O → List ℕ
reply_line (Sent number) = codes "sent " ++ (decimal number ++ 10 ∷ [])
reply_line Flushed = codes "flushed" ++ 10 ∷ []
reply_line (GivesPacket packet) = packet_text packet ++ 10 ∷ []
reply_line (Status status) = status_word status ++ 10 ∷ []

-- the line of a packet's bytes, two digits for each
unfoldable pub bytes_line : List ℕ → List ℕ
bytes_line bytes = codes "bytes " ++ (encode_lower bytes ++ 10 ∷ [])

-- what the options add behind a reply
abbrev pub lines_behind : {T O : Type 0} → ReportOptions → Reply T O → List ℕ
lines_behind options (GivesPacket packet) = if options.bytes then bytes_line packet.bytes else []
lines_behind options reply = []

-- the line of a frame that was only tried
unfoldable pub trial_line : ℕ → List ℕ
trial_line frame = codes "trial " ++ (decimal frame ++ 10 ∷ [])

-- the line of a luma AC index
unfoldable pub index_line : ℕ → List ℕ
index_line index = codes "q " ++ (decimal index ++ 10 ∷ [])

-- what the options add behind a coded frame
abbrev pub index_lines : ReportOptions → LogEntry → List ℕ
index_lines options entry = if options.quantizer_index then index_line (luma_index entry.quant) else []

-- the lines of an entry: a frame that was only tried, a coded frame, or a shown slot
abbrev pub entry_lines : ReportOptions → LogEntry → List ℕ
entry_lines options entry =
    elim entry.command [
      | Code frame kind refs refresh shown ↦
          if entry.trial then trial_line frame else command_line entry.command ++ index_lines options entry
      | Show slot ↦ command_line entry.command
    ]

-- the lines of what a call coded
abbrev pub log_lines : ReportOptions → List LogEntry → List ℕ
log_lines options log = flat_map (entry_lines options) log

-- the line of the bits that the reservoir holds; it may hold fewer than none
unfoldable pub reservoir_line : ℤ → List ℕ
reservoir_line bits = codes "reservoir " ++ (signed_decimal bits ++ 10 ∷ [])

-- what the options add behind a call that coded, where there is a bitrate
abbrev pub reservoir_lines : {T O : Type 0} → ReportOptions → Turn T O → List ℕ
reservoir_lines options turn =
    if options.reservoir && not (length turn.log == 0)
    then option_map_or reservoir_line turn.reservoir []
    else []

-- the lines of a call
unfoldable pub turn_lines : {T O : Type 0} → ReportOptions → Turn T O → List ℕ
turn_lines options turn =
    log_lines options turn.log
    ++ (reply_line turn.reply ++ (lines_behind options turn.reply ++ reservoir_lines options turn))

-- the report of a session's turns
abbrev pub report : {T O : Type 0} → ReportOptions → List (Turn T O) → List ℕ
report options turns = flat_map (turn_lines options) turns
