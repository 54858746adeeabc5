-- The reply table: what a session answers to each call, what it codes, and the moment after it.
use Rattle.std.specs.Prelude.{◌≡◌, ℕ, ◌+◌, ◌-◌, ◌≤◌, Bool, true, false, not, nat_lt, nat_le, ◌==◌, ◌&&◌, ◌||◌, IsTrue, MatchBool, MatchOption, if◌then◌else◌, List, [], ◌∷◌, ◌++◌, map, filter, length, take, drop, slice_set, All, Option, None, Some, pos}
use Rattle.std.specs.Option.{option_map, option_map_or, option_or}
use Rattle.std.specs.List.{flat_map, range_with_len, slice_get, slice_index_or, count_by}
use Rattle.av1_frame.specs.declared.frame.Frame.{Frame}
use Rattle.av1_frame.specs.Planes.{fits}
use Rattle.av1_settings.specs.declared.encoder.EncoderConfig.{EncoderConfig}
use Rattle.av1_settings.specs.declared.status.EncoderStatus.{EncoderStatus}
use Rattle.av1_settings.specs.declared.t35.T35.{T35}
use Rattle.av1_settings.specs.declared.status.EncoderStatus.TheVariants.{NeedMoreData, EnoughData, FrameSizeMismatch, LimitReached, Encoded}
use Rattle.pyramid.specs.declared.command.Command.{Command}
use Rattle.pyramid.specs.declared.command.Command.TheVariants.{Code, Show}
use Rattle.pyramid.specs.Settings.{numbers_of}
use Rattle.pyramid.specs.Known.{is_coding}
use Rattle.quantizers.specs.declared.parameters.QuantizerParameters.{QuantizerParameters}
use Rattle.session_log.specs.Selection.{is_trial_due}
pub use Rattle.pyramid.specs.Display.{shows as is_showing}
use Rattle.session_core.specs.declared.call.Call.{Call}
use Rattle.session_core.specs.declared.call.Call.TheVariants.{Send, Flush, Receive}
use Rattle.session_core.specs.declared.call.FrameParameters.{FrameParameters}
use Rattle.session_core.specs.declared.call.FrameTypeOverride.TheVariants.{No, Key}
use Rattle.session_core.specs.declared.packet.Packet.{Packet}
use Rattle.session_core.specs.declared.transcript.Decision.{Decision}
use Rattle.session_log.specs.declared.entry.LogEntry.{LogEntry}
use Rattle.session_core.specs.declared.transcript.Reply.{Reply}
use Rattle.session_core.specs.declared.transcript.Reply.TheVariants.{Sent, Flushed, Packet as GivesPacket, Status}
use Rattle.session_core.specs.declared.transcript.Turn.{Turn}
use Rattle.session_core.specs.Decisions.{decided_count, decisions_at}
use Rattle.session_core.specs.Moments.{Accepted, Coding, Waiting, Moment, waiting_at, is_complete, plan_at, known_at}

-- ---- sends

-- the most frames that a session accepts
abbrev pub frame_limit : ℕ
frame_limit = 2147483646

-- whether no further frame is taken: after a flush, past the limit, and a second one of a still picture
abbrev pub has_enough : {T O : Type 0} → EncoderConfig → Moment T O → Bool
has_enough enc moment =
    moment.flushed || (enc.still_picture && nat_le 1 moment.accepted) || moment.accepted == frame_limit

-- the answer to a frame: one of another size isn't taken either
abbrev pub sent_reply : {T O : Type 0} → EncoderConfig → Moment T O → Frame T → Reply T O
sent_reply enc moment picture =
    if has_enough enc moment then Status EnoughData
    else if fits picture enc.width enc.height enc.chroma_sampling then Sent moment.accepted
    else Status FrameSizeMismatch

-- whether a frame is sent as a key frame
abbrev pub asks_key : {O : Type 0} → Option (FrameParameters O) → Bool
asks_key None = false
asks_key (Some parameters) = elim parameters.frame_type_override [ No ↦ false | Key ↦ true ]

abbrev pub opaque_of : {O : Type 0} → Option (FrameParameters O) → Option O
opaque_of None = None
opaque_of (Some parameters) = parameters.opaque

abbrev pub t35_of : {O : Type 0} → Option (FrameParameters O) → List T35
t35_of None = []
t35_of (Some parameters) = parameters.t35_metadata

abbrev pub accepted_of : {T O : Type 0} → Frame T → Option (FrameParameters O) → Accepted T O
accepted_of picture parameters = record {
  picture = picture;
  forced = asks_key parameters;
  opaque = opaque_of parameters;
  t35 = t35_of parameters;
}

-- the frame is accepted where the reply says so
abbrev pub after_send : {T O : Type 0} → EncoderConfig → List Decision → Moment T O → Accepted T O → Reply T O → Moment T O
after_send enc decisions moment frame (Sent number) = record moment {
  accepted = moment.accepted + 1;
  waiting = moment.waiting ++ record { frame = frame; coded = None } ∷ [];
  decisions = decisions_at (numbers_of enc) decisions (moment.accepted + 1) moment.flushed;
}
after_send enc decisions moment frame reply = moment

-- no more frames come
abbrev pub after_flush : {T O : Type 0} → EncoderConfig → List Decision → Moment T O → Moment T O
after_flush enc decisions moment = record moment {
  flushed = true;
  decisions = decisions_at (numbers_of enc) decisions moment.accepted true;
}

-- whether the frame at a position was sent as a key frame
abbrev pub forced_at : {T O : Type 0} → Moment T O → ℕ → Bool
forced_at moment position = option_map_or (λ waiting. waiting.frame.forced) (waiting_at moment position) false

-- the decisions that a call makes, from position `from` on: each once, with its frame's mark, and a forced one is a key
pub record AreMade {T O : Type 0} (after : Moment T O) (from : ℕ) (made : List Decision) : Type 0 where
  pub positions : map (λ decision. decision.position) made ≡ range_with_len from (length made)
  pub forced : map (λ decision. decision.forced) made ≡ map (forced_at after) (range_with_len from (length made))
  pub keys : All (λ decision. IsTrue decision.forced → IsTrue decision.key) made

-- a send or a flush decides as many positions as then are to be decided, and changes no decision
pub record Decides {T O : Type 0} (enc : EncoderConfig) (before after : Moment T O) : Type 0 where
  pub kept : before.decisions ≡ take (length before.decisions) after.decisions
  pub count : length after.decisions ≡ decided_count (numbers_of enc) after.accepted after.flushed
  pub made : AreMade after (length before.decisions + 1) (drop (length before.decisions) after.decisions)

-- ---- receives

-- fewer coded frames than the lookahead asks for, and the one in hand, are known from the next command on
abbrev pub needs_more_data : {T O : Type 0} → EncoderConfig → Moment T O → Bool
needs_more_data enc moment =
    not moment.flushed
    && nat_lt (count_by is_coding (drop moment.commands (known_at enc moment))) (enc.speed_settings.rdo_lookahead_frames + 1)

-- the bytes that begin a packet: a temporal delimiter (the AV1 specification's OBU_TEMPORAL_DELIMITER)
abbrev pub delimiter : List ℕ
delimiter = 18 ∷ 0 ∷ []

-- the AC index of the luma plane
abbrev pub luma_index : Option QuantizerParameters → ℕ
luma_index quant = option_map_or (λ one. slice_index_or one.ac_qi 0 0) quant 0

-- how an entry codes its frame, if it does
abbrev pub coding_of : LogEntry → Option Coding
coding_of entry =
    elim entry.command [
      | Code frame kind refs refresh shown ↦ Some (record { kind = kind; qp = luma_index entry.quant })
      | Show slot ↦ None
    ]

-- how the frame was coded that an entry shows: now, or before
abbrev pub shown_coding : {T O : Type 0} → LogEntry → Waiting T O → Option Coding
shown_coding entry waiting = option_or (coding_of entry) waiting.coded

-- the packet of the first frame that waits: the delimiter and the bytes since the packet before, the next number, and the
-- frame's picture, opaque value, type and luma index
pub record IsNextPacket {T O : Type 0} (moment : Moment T O) (entry : LogEntry) (packet : Packet T O) : Type 0 where
  pub bytes : packet.bytes ≡ delimiter ++ moment.pending ++ entry.bytes
  pub number : packet.input_frameno ≡ moment.packets
  pub first : Waiting T O
  pub is_first : slice_get moment.waiting 0 ≡ Some first
  pub source : option_map (λ source. source.value) packet.source ≡ Some first.frame.picture
  pub opaque : packet.opaque ≡ first.frame.opaque
  pub frame_type : Some packet.frame_type ≡ option_map (λ coding. coding.kind) (shown_coding entry first)
  pub qp : Some packet.qp ≡ option_map (λ coding. coding.qp) (shown_coding entry first)

-- the reply to a receive that coded: a packet where the command shows a frame
abbrev pub IsReceived : {T O : Type 0} → Moment T O → LogEntry → Reply T O → Type 0
IsReceived {T} {O} moment entry reply =
    MatchBool (is_showing entry.command)
    ((packet : Packet T O) × (reply ≡ GivesPacket packet) × IsNextPacket moment entry packet)
    (reply ≡ Status Encoded)

-- one try of a command
pub record IsTrial (command : Command) (trials : List LogEntry) : Type 0 where
  pub trial : LogEntry
  pub one : trials ≡ trial ∷ []
  pub same : trial.command ≡ command
  pub tried : trial.trial ≡ true

-- what is tried before a command is coded: the command itself, where there is a bitrate and nothing of its subtype was coded
-- for good
abbrev pub AreTrials : {T O : Type 0} → EncoderConfig → Moment T O → Command → List LogEntry → Type 0
AreTrials enc moment command trials =
    MatchBool (is_trial_due enc moment.log command) (IsTrial command trials) (trials ≡ [])

-- a part of it from the front
abbrev pub BeginTrials : {T O : Type 0} → EncoderConfig → Moment T O → Command → List LogEntry → Type 0
BeginTrials enc moment command trials = (rest : List LogEntry) × AreTrials enc moment command (trials ++ rest)

-- a receive codes the next command of the plan
pub record CodesNext {T O : Type 0} (enc : EncoderConfig) (moment : Moment T O) (turn : Turn T O) : Type 0 where
  pub trials : List LogEntry
  pub entry : LogEntry
  pub log : turn.log ≡ trials ++ entry ∷ []
  pub command : slice_get (plan_at enc moment) moment.commands ≡ Some entry.command
  pub tried : AreTrials enc moment entry.command trials
  pub real : entry.trial ≡ false
  pub alike : All (λ trial. trial.mean_scale ≡ entry.mean_scale) trials
  pub unscaled : is_coding entry.command ≡ false → entry.mean_scale ≡ pos 0
  pub reply : IsReceived moment entry turn.reply

-- a reply with nothing coded
abbrev pub OnlyReplies : {T O : Type 0} → Turn T O → Reply T O → Type 0
OnlyReplies turn reply = (turn.reply ≡ reply) × (turn.log ≡ [])

-- why a receive codes nothing; the first row that applies
abbrev pub held_back : {T O : Type 0} → EncoderConfig → Moment T O → Option EncoderStatus
held_back enc moment =
    if moment.flushed && is_complete moment then Some LimitReached
    else if needs_more_data enc moment then Some NeedMoreData
    else None

-- each entry has bytes, as every coder gives them
abbrev pub HaveBytes : List LogEntry → Type 0
HaveBytes log = All (λ entry. 1 ≤ length entry.bytes) log

-- the entries that aren't trials
abbrev pub real_entries : List LogEntry → List LogEntry
real_entries log = filter (λ entry. not entry.trial) log

abbrev pub bytes_of : List LogEntry → List ℕ
bytes_of log = flat_map (λ entry. entry.bytes) (real_entries log)

-- the frames that wait, where the one of an index is coded
abbrev pub with_coding : {T O : Type 0} → List (Waiting T O) → ℕ → Option Coding → List (Waiting T O)
with_coding waiting index coding =
    elim (slice_get waiting index) [ None ↦ waiting | Some one ↦ slice_set waiting index (record one { coded = coding }) ]

-- the frames that wait after an entry, the first of them being frame `packets`
abbrev pub noted : {T O : Type 0} → ℕ → List (Waiting T O) → LogEntry → List (Waiting T O)
noted packets waiting entry =
    elim entry.command [
      | Code frame kind refs refresh shown ↦
          if nat_lt frame packets then waiting else with_coding waiting (frame - packets) (coding_of entry)
      | Show slot ↦ waiting
    ]

-- the frames that wait after the entries of a receive
abbrev pub noted_all : {T O : Type 0} → ℕ → List (Waiting T O) → List LogEntry → List (Waiting T O)
noted_all packets waiting [] = waiting
noted_all packets waiting (entry ∷ entries) = noted_all packets (noted packets waiting entry) entries

-- the log grows, the commands count, the coded frame has its type and its index, and a packet takes the bytes and its frame
-- with it
abbrev pub after_receive : {T O : Type 0} → Moment T O → List LogEntry → Reply T O → Moment T O
after_receive moment log (GivesPacket packet) = record moment {
  commands = moment.commands + length (real_entries log);
  packets = moment.packets + 1;
  waiting = drop 1 moment.waiting;
  pending = [];
  log = moment.log ++ log;
}
after_receive moment log reply = record moment {
  commands = moment.commands + length (real_entries log);
  waiting = noted_all moment.packets moment.waiting (real_entries log);
  pending = moment.pending ++ bytes_of log;
  log = moment.log ++ log;
}

-- ---- any call

-- the moment after a call; the decisions are the first so many of the session's
abbrev pub after_turn : {T O : Type 0} → EncoderConfig → List Decision → Moment T O → Call T O → Turn T O → Moment T O
after_turn enc decisions moment (Send frame parameters) turn =
    after_send enc decisions moment (accepted_of frame.value parameters) turn.reply
after_turn enc decisions moment Flush turn = after_flush enc decisions moment
after_turn enc decisions moment Receive turn = after_receive moment turn.log turn.reply

-- the reply and the log of a call, at a moment; the first row that applies
abbrev pub IsTurn : {T O : Type 0} → EncoderConfig → List Decision → Moment T O → Call T O → Turn T O → Type 0
IsTurn enc decisions moment (Send frame parameters) turn =
    OnlyReplies turn (sent_reply enc moment frame.value)
    × Decides enc moment (after_turn enc decisions moment (Send frame parameters) turn)
IsTurn enc decisions moment Flush turn =
    OnlyReplies turn Flushed × Decides enc moment (after_turn enc decisions moment Flush turn)
IsTurn enc decisions moment Receive turn =
    MatchOption (held_back enc moment) (CodesNext enc moment turn) (λ status. OnlyReplies turn (Status status))
