-- The state of a session as a moment, and what each step of it knows and leaves.
use Rattle.std.specs.Prelude.{◌≡◌, ⊤, if◌then◌else◌, ℕ, ◌+◌, ◌*◌, ◌≤◌, ◌<◌, Bool, false, List, [], ◌∷◌, ◌++◌, map, length, All, IsSome, Option, Some, None, ℤ, pos}
use Rattle.std.specs.Option.{option_map, option_and_then}
use Rattle.std.specs.List.{flat_map, range_with_len, slice_get}
use Rattle.coding_base.specs.Faults.{Rose}
use Rattle.av1_settings.specs.declared.encoder.EncoderConfig.{EncoderConfig}
use Rattle.av1_settings.specs.declared.speed.SceneDetectionSpeed.{SceneDetectionSpeed}
use Rattle.pyramid.specs.declared.command.Command.{Command}
use Rattle.pyramid.specs.declared.command.Command.TheVariants.{Code, Show}
use Rattle.pyramid.specs.declared.schedule.Schedule.{Schedule}
use Rattle.av1_settings.specs.Settings.{interval_of}
use Rattle.pyramid.specs.Known.{is_coding}
use Rattle.pyramid.specs.Numbers.{Numbers, ahead}
use Rattle.pyramid.specs.Places.{settled_commands}
use Rattle.pyramid.specs.Schedules.{IsSchedule}
use Rattle.pyramid.specs.Settings.{numbers_of}
use Rattle.quantizers.specs.Tables.{Tables}
use Rattle.session_log.specs.Passes.{Passes, passes_after, passes_of}
use Rattle.session_log.specs.declared.entry.LogEntry.{LogEntry}
use Rattle.session_log.specs.Keeps.{IsCodedForGood, IsSized, Keeps, RateKept}
use Rattle.session_log.specs.Selection.{reservoir_after}
use Rattle.session_core.specs.declared.coded.Coded.{Coded}
use Rattle.session_core.specs.declared.fault.SessionFault.{SessionFault}
use Rattle.session_core.specs.declared.fault.SessionFault.TheVariants.{Coder, OutOfMemory, PassData}
use Rattle.session_core.specs.declared.waiting.Coding.{Coding as CodedAs}
use Rattle.session_core.specs.declared.waiting.WaitingFrame.{WaitingFrame}
use Rattle.session_core.specs.declared.state.SessionState.{SessionState}
use Rattle.session_core.specs.declared.transcript.Decision.{Decision}
use Rattle.session_core.specs.declared.transcript.Reply.{Reply}
use Rattle.session_core.specs.declared.transcript.Turn.{Turn}
use Rattle.session_core.specs.Decisions.{decided_count, key_positions, keys_of}
use Rattle.session_core.specs.Moments.{Coding, Waiting, Moment, known_at, plan_at}
use Rattle.session_core.specs.Questions.{AreAnswered, frames_from, last_key, question}
use Rattle.session_core.specs.Quantisers.{AreSelected, quantisers_at}
use Rattle.session_core.specs.Taken.{IsTaken, handed_at, packet_of}
use Rattle.session_core.specs.Told.{Asked, CoderTold, Counts, Gave, Told, FailsBehind, Grew, IsAhead}
use Rattle.session_core.specs.Turns.{AreMade, AreTrials, IsReceived, frame_limit, held_back, is_showing}

abbrev pub coding_value : CodedAs → Coding
coding_value coding = record { kind = coding.kind; qp = coding.qp }

abbrev pub waiting_of : {T O : Type 0} → WaitingFrame T O → Waiting T O
waiting_of one = record {
  frame = record {
    picture = one.picture.value;
    forced = one.forced;
    opaque = one.opaque;
    t35 = one.t35.value;
  };
  coded = option_map coding_value one.coding;
}

abbrev pub moment_of : {T O : Type 0} → SessionState T O → Moment T O
moment_of state = record {
  accepted = state.accepted;
  flushed = state.flushed;
  commands = state.commands;
  packets = state.packets;
  decisions = state.decisions.items;
  waiting = map waiting_of state.waiting.items;
  pending = state.pending.items;
  log = map (λ pair. pair.0) state.log.items;
}

-- the last key kept is the greatest that is decided
abbrev pub KeepsLastKey : {T O : Type 0} → SessionState T O → Type 0
KeepsLastKey state =
    state.last_key ≡ last_key state.decisions.items (length state.decisions.items + 1)

-- a schedule is that of a moment: the moment's known places from that of the next command on
abbrev pub IsScheduled : {T O : Type 0} → EncoderConfig → Moment T O → Schedule → Type 0
IsScheduled enc moment schedule =
    IsSchedule (numbers_of enc) (interval_of enc.max_key_frame_interval) moment.accepted moment.flushed
    (keys_of moment.accepted moment.decisions) moment.commands schedule

-- what the passes of a session hand on
abbrev pub passes_at : {T O : Type 0} → SessionState T O → Passes
passes_at state = passes_of state.rate.state

-- rate control is that of a moment's log, in which a command has two entries at most, the last of them for good
pub record IsRated {T O : Type 0} (enc : EncoderConfig) (moment : Moment T O) (rate : RateKept) : Type 0 where
  pub keeps : Keeps enc rate.tables (passes_of rate.state) moment.log rate
  pub few : length moment.log ≤ moment.commands * 2
  pub sized : All IsSized moment.log
  pub good : IsCodedForGood moment.log

-- what a state keeps beside its moment: the last key, the schedule, and the rate control
unfoldable pub IsKept : {T O : Type 0} → EncoderConfig → SessionState T O → Type 0
IsKept enc state =
    KeepsLastKey state × IsScheduled enc (moment_of state) state.schedule × IsRated enc (moment_of state) state.rate

-- the schedule is that of the moment, and its next command is known
pub record IsDue {T O : Type 0} (enc : EncoderConfig) (moment : Moment T O) (schedule : Schedule) : Type 0 where
  pub scheduled : IsScheduled enc moment schedule
  pub known : moment.commands < length (settled_commands (numbers_of enc) (interval_of enc.max_key_frame_interval) moment.accepted
      moment.flushed (keys_of moment.accepted moment.decisions))

-- a schedule takes in keys of positions from `from` on, none of which was decided with its frames
abbrev pub TakesKeys : ℕ → List ℕ → Schedule → Schedule → Type 0
TakesKeys from new before after =
    (numbers : Numbers) (interval frames : ℕ) (keys : List ℕ) (commands : ℕ) →
    frames ≤ from + ahead numbers →
    IsSchedule numbers interval frames false keys commands before →
    IsSchedule numbers interval frames false (keys ++ new) commands after

-- the decisions are those of the positions from 1 on, in order
abbrev pub AreInOrder : List Decision → Type 0
AreInOrder decisions = map (λ decision. decision.position) decisions ≡ range_with_len 1 (length decisions)

-- the positions up to `last` that weren't decided are decided now, and nothing else changed; of each the detector was asked
-- whose frame wasn't sent as a key frame
pub record Decided {T O : Type 0} (mode : SceneDetectionSpeed) (before after : SessionState T O) (told told_after : Option (List (Asked T))) (answers : Option (ℕ → Bool)) (last : ℕ) : Type 0 where
  pub others : after
      ≡ record before { decisions = after.decisions; last_key = after.last_key; schedule = after.schedule }
  pub made : List Decision
  pub decisions : after.decisions.items ≡ before.decisions.items ++ made
  pub count : length after.decisions.items ≡ last
  pub are : AreMade (moment_of before) (length before.decisions.items + 1) made
  pub last_key : KeepsLastKey after
  pub schedule : TakesKeys (length before.decisions.items + 1) (key_positions made) before.schedule after.schedule
  pub grew : Grew told told_after (flat_map (question mode (frames_from (moment_of before)) after.decisions.items) made)
  pub ahead : AreAnswered answers made

-- a coder can be given a command: the frame that it codes waits, or the first frame that waits is coded
abbrev pub CanCode : {T O : Type 0} → Moment T O → Command → Type 0
CanCode moment (Code frame kind refs refresh shown) = (moment.packets ≤ frame) × (frame < moment.accepted)
CanCode moment (Show slot) = IsSome (option_and_then (λ waiting. waiting.coded) (slice_get moment.waiting 0))

-- what a call needs of the moment
pub record IsReady {T O : Type 0} (enc : EncoderConfig) (moment : Moment T O) : Type 0 where
  pub few : moment.accepted ≤ frame_limit
  pub waits : moment.packets + length moment.waiting ≡ moment.accepted
  pub decided : length moment.decisions ≡ decided_count (numbers_of enc) moment.accepted moment.flushed
  pub in_order : AreInOrder moment.decisions
  -- the lookahead keeps the frame before the next undecided position
  pub late : moment.flushed ≡ false → moment.packets ≤ length moment.decisions
  -- where a receive is to code, the next command is known, and can be coded
  pub there : held_back enc moment ≡ None → moment.commands < length (known_at enc moment)
  pub next : (command : Command) → slice_get (plan_at enc moment) moment.commands ≡ Some command → CanCode moment command

-- a call of the coder failed: its count rose and it told nothing, or memory ran out
abbrev pub FailsCoding : {T : Type 0} → ℕ → CoderTold T → CoderTold T → SessionFault → Type 0
FailsCoding commands told now (Coder number) =
    (number ≡ commands) × Grew told.calls now.calls [] × FailsBehind told.fails_after 0 × Rose told.faults now.faults
FailsCoding commands told now OutOfMemory = ⊤
FailsCoding commands told now (PassData refusal) = ⊥

-- what the coder gave for an entry
abbrev pub gave_of : {T : Type 0} → Coded T → Gave T
gave_of coded = record {
  bytes = coded.entry.bytes;
  rec = option_map (λ rec. rec.value) coded.rec;
  stats = coded.stats;
}

-- what it tells of that
abbrev pub told_at : {T O : Type 0} → Moment T O → Coded T → List (Told T)
told_at moment coded = map (λ job. record { handed = job; gave = gave_of coded }) (handed_at moment coded.entry)

-- the coder gave this for an entry at a moment
pub record IsCoded {T O : Type 0} (moment : Moment T O) (told now : CoderTold T) (coded : Coded T) : Type 0 where
  pub calls : Grew told.calls now.calls (told_at moment coded)
  pub ahead : All (λ job. IsAhead told job (gave_of coded)) (handed_at moment coded.entry)
  pub counted : Counts told.fails_after now.fails_after 1
  pub sized : IsSized coded.entry

-- rate control behind the entries of a receive so far
pub record IsRatedBehind {T O : Type 0} (enc : EncoderConfig) (tables : Tables) (moment : Moment T O) (entries : List LogEntry) (rate : RateKept) : Type 0 where
  pub keeps : Keeps enc tables (passes_of rate.state) (moment.log ++ entries) rate
  pub few : length moment.log ≤ moment.commands * 2
  pub sized : All IsSized (moment.log ++ entries)

-- these are the tries of a command, and the coder took them
pub record IsTried {T O : Type 0} (enc : EncoderConfig) (tables : Tables) (passes : Passes) (moment : Moment T O) (command : Command) (scale : ℤ) (trials : List LogEntry) (told now : CoderTold T) : Type 0 where
  pub tried : AreTrials enc moment command trials
  pub selected : AreSelected enc tables passes moment moment.log trials
  pub alike : All (λ trial. trial.mean_scale ≡ scale) trials
  pub taken : IsTaken {T = T} {O = O} (flat_map (handed_at moment) trials) trials [] told now
  pub counted : Counts told.fails_after now.fails_after (length trials)

-- a command is coded for good behind its tries, where the passes hand on `tried`, and answered; then they hand on `passes`
pub record IsCodedTurn {T O : Type 0} (enc : EncoderConfig) (tables : Tables) (tried passes : Passes) (moment : Moment T O) (command : Command) (scale : ℤ) (trials : List LogEntry) (turn : Turn T O) (told now : CoderTold T) : Type 0 where
  pub entry : LogEntry
  pub log : turn.log ≡ trials ++ entry ∷ []
  pub command_of : entry.command ≡ command
  pub real : entry.trial ≡ false
  pub scale_of : entry.mean_scale ≡ (if is_coding command then scale else pos 0)
  pub quant : entry.quant ≡ quantisers_at enc tables tried moment (moment.log ++ trials) entry
  pub moved : passes ≡ passes_after enc tried (moment.log ++ trials) entry
  pub reply : IsReceived moment entry turn.reply
  pub reservoir : turn.reservoir ≡ reservoir_after enc passes (moment.log ++ turn.log)
  pub taken : IsTaken (handed_at moment entry) (entry ∷ []) (packet_of turn.reply) told now
  pub counted : Counts told.fails_after now.fails_after 1

-- a schedule moves on to the command behind the next one
abbrev pub IsAdvanced : Schedule → Schedule → Type 0
IsAdvanced before after =
    (numbers : Numbers) (interval frames : ℕ) (flushed : Bool) (keys : List ℕ) (commands : ℕ) →
    commands < length (settled_commands numbers interval frames flushed keys) →
    IsSchedule numbers interval frames flushed keys commands before →
    IsSchedule numbers interval frames flushed keys (commands + 1) after

-- the packet of a reply has the coder's picture and counts
pub record Carries {T O : Type 0} (coded : Coded T) (reply : Reply T O) : Type 0 where
  pub recs : map (λ packet. option_map (λ rec. rec.value) packet.rec) (packet_of reply)
      ≡ (if is_showing coded.entry.command then (gave_of coded).rec ∷ [] else [])
  pub stats : map (λ packet. packet.enc_stats) (packet_of reply)
      ≡ (if is_showing coded.entry.command then coded.stats ∷ [] else [])
