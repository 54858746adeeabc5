-- What a whole session promises.
use Rattle.std.specs.Prelude.{◌≡◌, ℕ, ◌+◌, ◌-◌, ◌/◌, ◌≤◌, ◌⊎◌, Bool, true, false, ◌==◌, IsTrue, if◌then◌else◌, List, [], ◌∷◌, ◌++◌, map, length, take, drop, All, Option, Some}
use Rattle.std.specs.Option.{option_map, option_map_or, option_to_list}
use Rattle.std.specs.List.{find, flat_map, range_with_len, slice_get, count_by}
use Rattle.coding_base.specs.Runs.{Runs, after_calls}
use Rattle.av1_frame.specs.declared.frame.Frame.{Frame}
use Rattle.av1_settings.specs.declared.encoder.EncoderConfig.{EncoderConfig}
use Rattle.av1_settings.specs.declared.frame_type.FrameType.{FrameType}
use Rattle.av1_settings.specs.declared.frame_type.FrameType.TheVariants.{KEY}
use Rattle.pyramid.specs.declared.command.Command.{Command}
use Rattle.pyramid.specs.declared.command.Command.TheVariants.{Code, Show}
use Rattle.quantizers.specs.Tables.{Tables}
use Rattle.pyramid.specs.Display.{Slots, codes, empty_slots, held, slots_after_one, accepts, shown}
use Rattle.session_core.specs.declared.call.Call.{Call}
use Rattle.session_core.specs.declared.call.Call.TheVariants.{Send, Receive}
use Rattle.session_core.specs.declared.packet.Packet.{Packet}
use Rattle.session_core.specs.declared.transcript.Decision.{Decision}
use Rattle.session_log.specs.Passes.{no_passes}
use Rattle.session_log.specs.declared.entry.LogEntry.{LogEntry}
use Rattle.session_core.specs.declared.transcript.Reply.{Reply}
use Rattle.session_core.specs.declared.transcript.Reply.TheVariants.{Sent}
use Rattle.session_core.specs.declared.transcript.Transcript.{Transcript}
use Rattle.session_core.specs.declared.transcript.Turn.{Turn}
use Rattle.session_core.specs.Moments.{Accepted, Moment, opening, plan_at}
use Rattle.session_core.specs.Questions.{IsAsked}
use Rattle.session_core.specs.Taken.{IsTaken, job_of, packet_of}
use Rattle.session_core.specs.Told.{Handed, ToShow, AreBeforeFault, Heard}
use Rattle.session_core.specs.Quantisers.{IsQuantised}
use Rattle.session_core.specs.Scales.{AreScaled, frames_of, scales_of}
use Rattle.session_core.specs.Turns.{IsTurn, after_turn, accepted_of, luma_index, real_entries, is_showing, delimiter}

-- ---- a list of calls and its turns

-- one turn for each call, each as the reply table says at its moment
abbrev pub AreTurns : {T O : Type 0} → EncoderConfig → List Decision → List (Call T O) → List (Turn T O) → Type 0
AreTurns enc decisions calls turns = Runs (IsTurn enc decisions) (after_turn enc decisions) opening calls turns

-- the quantisers of each turn are those that are selected at its moment, in one pass
abbrev pub AreQuantised : {T O : Type 0} → EncoderConfig → Tables → List Decision → List (Call T O) → List (Turn T O) → Type 0
AreQuantised enc tables decisions calls turns =
    Runs (λ moment call turn. IsQuantised enc tables no_passes moment turn) (after_turn enc decisions) opening calls turns

-- the moment after all of them
abbrev pub moment_after : {T O : Type 0} → EncoderConfig → List Decision → List (Call T O) → List (Turn T O) → Moment T O
moment_after enc decisions calls turns = after_calls (after_turn enc decisions) opening calls turns

-- the moment after the first `count` of them
abbrev pub moment_at : {T O : Type 0} → EncoderConfig → List Decision → List (Call T O) → List (Turn T O) → ℕ → Moment T O
moment_at enc decisions calls turns count = moment_after enc decisions (take count calls) (take count turns)

-- the frame that a call sends, where the reply accepts it
abbrev pub accepted_by : {T O : Type 0} → Call T O → Reply T O → List (Accepted T O)
accepted_by (Send frame parameters) (Sent number) = accepted_of frame.value parameters ∷ []
accepted_by call reply = []

-- the frames accepted, in order
abbrev pub accepted_in : {T O : Type 0} → List (Call T O) → List (Turn T O) → List (Accepted T O)
accepted_in [] turns = []
accepted_in (call ∷ calls) [] = []
accepted_in (call ∷ calls) (turn ∷ turns) = accepted_by call turn.reply ++ accepted_in calls turns

-- the entries of all turns
abbrev pub entries_of : {T O : Type 0} → List (Turn T O) → List LogEntry
entries_of turns = flat_map (λ turn. turn.log) turns

-- what was coded for good, in order
abbrev pub commands_of : {T O : Type 0} → List (Turn T O) → List Command
commands_of turns = map (λ entry. entry.command) (real_entries (entries_of turns))

-- the packets given, in order
abbrev pub packets_of : {T O : Type 0} → List (Turn T O) → List (Packet T O)
packets_of turns = flat_map (λ turn. packet_of turn.reply) turns

-- the picture of a frame that was sent
abbrev pub picture_sent : {T O : Type 0} → List (Accepted T O) → ℕ → Option (Frame T)
picture_sent sent number = option_map (λ accepted. accepted.picture) (slice_get sent number)

-- ---- the key decisions

-- the decided positions from 1 on, each once; each with the mark of the frame sent under it, and a key where it is forced
pub record AreKeyDecisions {T O : Type 0} (sent : List (Accepted T O)) (decisions : List Decision) : Type 0 where
  pub positions : map (λ decision. decision.position) decisions ≡ range_with_len 1 (length decisions)
  pub forced : map (λ decision. decision.forced) decisions
      ≡ map (λ position. option_map_or (λ accepted. accepted.forced) (slice_get sent position) false) (range_with_len 1 (length decisions))
  pub keys : All (λ decision. IsTrue decision.forced → IsTrue decision.key) decisions

-- ---- what the coder is handed

-- for an entry: to code, the frame sent under its number; to show, the number of the frame that the slot holds
abbrev pub handed_of : {T O : Type 0} → List (Accepted T O) → Slots → LogEntry → List (Handed T)
handed_of sent slots entry =
    elim entry.command [
      | Code frame kind refs refresh shown ↦
          option_to_list (option_map (job_of entry) (slice_get sent frame))
      | Show slot ↦
          option_to_list (option_map (λ frame. ToShow (record { slot = slot; frame = frame })) (held slots slot))
    ]

-- the slots move with the entries that aren't trials
abbrev pub handed_entries : {T O : Type 0} → List (Accepted T O) → Slots → List LogEntry → List (Handed T)
handed_entries sent slots [] = []
handed_entries sent slots (entry ∷ entries) =
    handed_of sent slots entry
    ++ handed_entries sent (if entry.trial then slots else slots_after_one slots entry.command) entries

-- ---- the headline

-- the list begins with the other
abbrev pub IsPrefix : {A : Type 0} → List A → List A → Type 0
IsPrefix {A} start whole = (rest : List A) × (whole ≡ start ++ rest)

-- played from empty slots, no empty slot is named, and the frames from 0 on are shown, one a packet
pub record Replays (commands : List Command) (packets accepted : ℕ) : Type 0 where
  pub accepted_by : IsTrue (accepts empty_slots commands)
  pub shows : shown empty_slots commands ≡ range_with_len 0 packets
  pub within : packets ≤ accepted

-- the bytes of the packets: the delimiter, and the bytes of the entries since the last one that showed a frame
abbrev pub packet_bytes : List ℕ → List LogEntry → List (List ℕ)
packet_bytes pending [] = []
packet_bytes pending (entry ∷ entries) =
    if is_showing entry.command
    then (delimiter ++ pending ++ entry.bytes) ∷ packet_bytes [] entries
    else packet_bytes (pending ++ entry.bytes) entries

-- the type with which a frame was coded, among these commands
abbrev pub coded_kind : List Command → ℕ → FrameType
coded_kind [] number = KEY
coded_kind (Code frame kind refs refresh shown ∷ commands) number =
    if frame == number then kind else coded_kind commands number
coded_kind (Show slot ∷ commands) number = coded_kind commands number

-- the luma index with which a frame was coded, among these entries
abbrev pub coded_qp : List LogEntry → ℕ → ℕ
coded_qp entries number =
    option_map_or (λ entry. luma_index entry.quant) (find (λ entry. codes number entry.command) entries) 0

-- the packets: their bytes, their numbers from 0, the frames sent under these with their opaque values, and the types and
-- luma indices they were coded with
pub record ArePackets {T O : Type 0} (sent : List (Accepted T O)) (entries : List LogEntry) (packets : List (Packet T O)) : Type 0 where
  pub bytes : map (λ packet. packet.bytes) packets ≡ packet_bytes [] entries
  pub numbers : map (λ packet. packet.input_frameno) packets ≡ range_with_len 0 (length packets)
  pub types : map (λ packet. packet.frame_type) packets
      ≡ map (coded_kind (map (λ entry. entry.command) entries)) (range_with_len 0 (length packets))
  pub qps : map (λ packet. packet.qp) packets ≡ map (coded_qp entries) (range_with_len 0 (length packets))
  pub sources : map (λ packet. option_map (λ source. source.value) packet.source) packets
      ≡ map (λ accepted. Some accepted.picture) (take (length packets) sent)
  pub opaques : map (λ packet. packet.opaque) packets ≡ map (λ accepted. accepted.opaque) (take (length packets) sent)

abbrev pub is_receive : {T O : Type 0} → Call T O → Bool
is_receive Receive = true
is_receive call = false

-- the headline, of the turns of a list of calls
pub record Headline {T O : Type 0} (enc : EncoderConfig) (decisions : List Decision) (calls : List (Call T O)) (turns : List (Turn T O)) : Type 0 where
  -- the list was carried out to its end
  pub turn_for_each : length turns ≡ length calls
  -- at every moment the commands begin the plan of that moment
  pub on_plan : (i : ℕ) → i ≤ length turns → IsPrefix (commands_of (take i turns)) (plan_at enc (moment_at enc decisions calls turns i))
  -- at every moment they replay
  pub replays : (i : ℕ) → i ≤ length turns →
      Replays (commands_of (take i turns)) (length (packets_of (take i turns))) (moment_at enc decisions calls turns i).accepted
  -- the packets
  pub packets : ArePackets (accepted_in calls turns) (real_entries (entries_of turns)) (packets_of turns)
  -- once no more frames come, n + n/2 receives complete the n packets
  pub completes : (i j : ℕ) → i ≤ j → j ≤ length turns → IsTrue (moment_at enc decisions calls turns i).flushed →
      (moment_at enc decisions calls turns i).accepted + (moment_at enc decisions calls turns i).accepted / 2
      ≤ count_by is_receive (take (j - i) (drop i calls)) →
      length (packets_of (take j turns)) ≡ (moment_at enc decisions calls turns j).accepted

-- ---- the whole

-- a session's run but for its quantisers: its calls, its transcript, and what those outside told before and after
pub record IsPlayed {T O : Type 0} (enc : EncoderConfig) (calls : List (Call T O)) (transcript : Transcript T O) (before after : Heard T) : Type 0 where
  -- the reply table
  pub turns : AreTurns enc transcript.decisions calls transcript.turns
  -- the transcript gives the decisions made by its end, and no more
  pub decided : transcript.decisions ≡ (moment_after enc transcript.decisions calls transcript.turns).decisions
  pub keys : AreKeyDecisions (accepted_in calls transcript.turns) transcript.decisions
  -- they are the detector's answers, but for the frames sent as key frames
  pub asked : IsAsked enc (accepted_in calls transcript.turns) transcript.decisions before after
  pub headline : Headline enc transcript.decisions calls transcript.turns
  -- mean scales were asked for the frames sent under the numbers that were coded for good, in their order
  pub scaled : AreScaled (frames_of (picture_sent (accepted_in calls transcript.turns)) (entries_of transcript.turns))
      (scales_of (entries_of transcript.turns)) before.scales after.scales
  -- the coder took the commands, played from empty slots, with the frames sent under their numbers
  pub taken : IsTaken
      (handed_entries (accepted_in calls transcript.turns) empty_slots (entries_of transcript.turns))
      (entries_of transcript.turns) (packets_of transcript.turns) before.coder after.coder
  -- they come before its first failing call
  pub unreached : AreBeforeFault before.coder.fails_after (length (entries_of transcript.turns))

-- a session's run in one pass
pub record IsSessionRun {T O : Type 0} (enc : EncoderConfig) (tables : Tables) (calls : List (Call T O)) (transcript : Transcript T O) (before after : Heard T) : Type 0 where
  pub played : IsPlayed enc calls transcript before after
  -- each turn's quantisers are those selected at its moment, and its reservoir the ledger
  pub quantised : AreQuantised enc tables transcript.decisions calls transcript.turns

-- ---- schedules

-- two runs accepted the same frames with the same parameters, and made the same decisions
pub record IsSameInput {T O : Type 0} (calls : List (Call T O)) (transcript : Transcript T O) (others : List (Call T O)) (other : Transcript T O) : Type 0 where
  pub frames : accepted_in others other.turns ≡ accepted_in calls transcript.turns
  pub decisions : other.decisions ≡ transcript.decisions

-- of two such runs, whatever their calls in between, their tables and passes, flushed or not, the commands of the one begin
-- those of the other
abbrev pub KeepsSchedule : {T O : Type 0} → EncoderConfig → List (Call T O) → Transcript T O → Type 0
KeepsSchedule {T} {O} enc calls transcript =
    (others : List (Call T O)) (other : Transcript T O) (before after : Heard T) →
    IsPlayed enc others other before after → IsSameInput calls transcript others other →
    IsPrefix (commands_of transcript.turns) (commands_of other.turns) ⊎ IsPrefix (commands_of other.turns) (commands_of transcript.turns)
