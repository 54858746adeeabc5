-- What contracts see of a context, and what one call of it does.
use Rattle.std.specs.Prelude.{◌≡◌, ℕ, ◌⊎◌, ⊤, MatchBool, MatchOption, Option, None, Some, Result, Ok, Err, IsOk}
use Rattle.av1_frame.specs.declared.frame.Frame.{Frame}
use Rattle.av1_settings.specs.declared.encoder.EncoderConfig.{EncoderConfig}
use Rattle.av1_settings.specs.declared.status.EncoderStatus.{EncoderStatus}
use Rattle.av1_settings.specs.declared.status.EncoderStatus.TheVariants.{Failure, NotReady, OutOfMemory as NoMemory}
use Rattle.session_core.specs.declared.call.Call.{Call}
use Rattle.session_core.specs.declared.call.Call.TheVariants.{Send, Flush}
use Rattle.session_core.specs.declared.call.FrameParameters.{FrameParameters}
use Rattle.session_core.specs.declared.fault.SessionFault.{SessionFault}
use Rattle.session_core.specs.declared.fault.SessionFault.TheVariants.{Coder, OutOfMemory, PassData}
use Rattle.session_core.specs.declared.packet.Packet.{Packet}
use Rattle.session_core.specs.declared.transcript.Reply.{Reply}
use Rattle.session_core.specs.declared.transcript.Reply.TheVariants.{Sent, Flushed, Packet as GivesPacket, Status}
use Rattle.session_core.specs.declared.transcript.Turn.{Turn}
use Rattle.quantizers.specs.Tables.{Tables}
use Rattle.session_log.specs.Passes.{Passes}
use Rattle.session_core.specs.Moments.{Moment, opening}
use Rattle.session_core.specs.PassTurns.{PassMoment, awaits_data}
use Rattle.session_core.specs.Quantisers.{passes_behind}
use Rattle.session_core.specs.Steps.{Fails, IsStep, Unused, WhereRefused}
use Rattle.session_core.specs.Told.{Heard, IsLater}

-- the settings, the quantiser tables, the session's moment, what its passes hand on, the cause of the first call that failed,
-- if one did, and those outside it
pub record Session (T O D S C : Type 0) : Type 0 where
  pub enc : EncoderConfig
  pub tables : Tables
  pub moment : Moment T O
  pub passes : Passes
  pub failure : Option SessionFault
  pub detector : D
  pub scales : S
  pub coder : C

abbrev pub at_of : {T O D S C : Type 0} → Session T O D S C → PassMoment T O
at_of session = record { moment = session.moment; passes = session.passes }

-- a session that hasn't begun, with these tables and passes, and with this detector, these mean scales and this coder
abbrev pub fresh : {T O D S C : Type 0} → EncoderConfig → Tables → Passes → D → S → C → Session T O D S C
fresh enc tables passes detector scales coder = record {
  enc = enc;
  tables = tables;
  moment = opening;
  passes = passes;
  failure = None;
  detector = detector;
  scales = scales;
  coder = coder;
}

-- what a send or a flush answers: the status of its reply, or only that it is done
abbrev pub GivesDone : {T O A : Type 0} → Reply T O → Result A EncoderStatus → Type 0
GivesDone (Status status) result = result ≡ Err status
GivesDone reply result = IsOk result

-- what a receive answers: the packet of its reply, or the status
abbrev pub GivesReceived : {T O : Type 0} → Reply T O → Result (Packet T O) EncoderStatus → Type 0
GivesReceived (GivesPacket packet) result = result ≡ Ok packet
GivesReceived (Status status) result = result ≡ Err status
GivesReceived reply result = ⊥

-- a reply to a receive
abbrev pub IsReceiveReply : {T O : Type 0} → Reply T O → Type 0
IsReceiveReply (Sent number) = ⊥
IsReceiveReply Flushed = ⊥
IsReceiveReply reply = ⊤

-- what a call answers in between: its reply
abbrev pub GivesReply : {T O : Type 0} → Reply T O → Result (Reply T O) EncoderStatus → Type 0
GivesReply reply result = result ≡ Ok reply

-- the status of a call that failed
abbrev pub status_of : SessionFault → EncoderStatus
status_of (Coder command) = Failure
status_of OutOfMemory = NoMemory
status_of (PassData refusal) = Failure

-- a call that was answered as the reply table says; one that is refused changes nothing
pub record IsAnswered {T O D S C A : Type 0} (Gives : Reply T O → Result A EncoderStatus → Type 0) (call : Call T O) (before after : Session T O D S C) (told now : Heard T) (result : Result A EncoderStatus) : Type 0 where
  pub turn : Turn T O
  pub step : IsStep before.enc before.tables before.passes call turn before.moment after.moment told now
  pub passes : after.passes ≡ passes_behind before.enc before.passes before.moment.log turn.log
  pub reply : Gives turn.reply result
  pub settings : after.enc ≡ before.enc
  pub tables : after.tables ≡ before.tables
  pub unfailed : after.failure ≡ None
  pub refused : WhereRefused turn.reply (after ≡ before)
  pub unused : Unused call (after.detector ≡ before.detector) ((after.coder ≡ before.coder) × (after.scales ≡ before.scales))
  pub later : IsLater told now

-- a call that failed, and the session with it: its cause is kept. A fault of the coder leaves the moment as it was; where
-- memory ran out the moment after is left open
pub record IsFailed {T O D S C A : Type 0} (call : Call T O) (before after : Session T O D S C) (told now : Heard T) (result : Result A EncoderStatus) : Type 0 where
  pub fault : SessionFault
  pub fails : Fails before.enc before.tables before.passes call before.moment told now fault
  pub status : result ≡ Err (status_of fault)
  pub settings : after.enc ≡ before.enc
  pub tables : after.tables ≡ before.tables
  pub kept : after.failure ≡ Some fault
  pub stays : (number : ℕ) → fault ≡ Coder number → after.moment ≡ before.moment
  pub unused : Unused call (after.detector ≡ before.detector) ((after.coder ≡ before.coder) × (after.scales ≡ before.scales))
  pub later : IsLater told now

-- a receive that waits for pass data, and nothing changes
abbrev pub Waits : {T O D S C A : Type 0} → (Reply T O → Result A EncoderStatus → Type 0) → Session T O D S C → Session T O D S C → Result A EncoderStatus → Type 0
Waits Gives before after result = Gives (Status NotReady) result × (after ≡ before)

-- any call: in a session that has failed it fails, and nothing changes
abbrev pub IsCall : {T O D S C A : Type 0} → (Reply T O → Result A EncoderStatus → Type 0) → Call T O → Session T O D S C → Session T O D S C → Heard T → Heard T → Result A EncoderStatus → Type 0
IsCall Gives call before after told now result =
    MatchOption before.failure
    (MatchBool (awaits_data before.enc (at_of before) call)
    (Waits Gives before after result)
    (IsAnswered Gives call before after told now result ⊎ IsFailed call before after told now result))
    (λ fault. (result ≡ Err Failure) × (after ≡ before))

-- a call sends this picture with these parameters, or flushes where there is none
abbrev pub Asks : {T O : Type 0} → Option (Frame T) → Option (FrameParameters O) → Call T O → Type 0
Asks None parameters call = call ≡ Flush
Asks (Some picture) parameters (Send frame given) = (frame.value ≡ picture) × (given ≡ parameters)
Asks (Some picture) parameters call = ⊥

-- memory ran out in a send, and the session failed
pub record RunsOut {T O D S C A : Type 0} (before after : Session T O D S C) (told now : Heard T) (result : Result A EncoderStatus) : Type 0 where
  pub status : result ≡ Err NoMemory
  pub settings : after.enc ≡ before.enc
  pub tables : after.tables ≡ before.tables
  pub kept : after.failure ≡ Some OutOfMemory
  pub unused : (after.coder ≡ before.coder) × (after.scales ≡ before.scales)
  pub later : IsLater told now

-- a send of this picture with these parameters, or a flush where there is none
abbrev pub IsSend : {T O D S C A : Type 0} → Option (Frame T) → Option (FrameParameters O) → Session T O D S C → Session T O D S C → Heard T → Heard T → Result A EncoderStatus → Type 0
IsSend {T} {O} picture parameters before after told now result =
    MatchOption before.failure
    (((call : Call T O) × Asks picture parameters call × IsAnswered GivesDone call before after told now result)
    ⊎ RunsOut before after told now result)
    (λ fault. (result ≡ Err Failure) × (after ≡ before))
