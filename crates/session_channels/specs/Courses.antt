-- A stretch of a worker's course: the acts that were done, whole or up to a fault, and what its queues had of them.
use Rattle.arrayvec.specs.ArrayVec.{ArrayVec}
use Rattle.std.specs.Prelude.{◌≡◌, ◌⊎◌, ℕ, ℤ, pos, Bool, true, List, [], ◌∷◌, ◌++◌, map, length, Option, Some, None, Result, Ok, Err, MatchResult}
use Rattle.std.specs.Int.{int_min}
use Rattle.std.specs.Option.{option_map}
use Rattle.coding_base.specs.Faults.{Rose}
use Rattle.av1_settings.specs.declared.status.EncoderStatus.{EncoderStatus}
use Rattle.av1_settings.specs.declared.status.EncoderStatus.TheVariants.{Failure}
use Rattle.pass_data.specs.declared.error.PassDataError.{PassDataError}
use Rattle.pass_data.specs.declared.given.Header.{Header}
use Rattle.pass_data.specs.declared.rc_data.RcData.{RcData}
use Rattle.pass_data.specs.declared.rc_data.RcData.TheVariants.{Frame as OfFrame, Summary as OfSummary}
use Rattle.session_core.specs.declared.call.Call.TheVariants.{Receive}
use Rattle.session_core.specs.declared.fault.SessionFault.TheVariants.{Coder as CoderFailed, PassData as DataRefused}
use Rattle.session_core.specs.declared.packet.Packet.{Packet}
use Rattle.session_core.specs.declared.transcript.Reply.TheVariants.{Status}
use Rattle.session_core.specs.Contexts.{GivesReceived, IsCall, Session, at_of}
use Rattle.session_core.specs.PassCalls.{IsGiven, IsTakeCall}
use Rattle.session_core.specs.PassTurns.{awaits_data}
use Rattle.session_core.specs.Turns.{real_entries, sent_reply}
use Rattle.session_channels.specs.declared.fault.ChannelFault.{ChannelFault}
use Rattle.session_channels.specs.declared.fault.ChannelFault.TheVariants.{Coder, FrameRefused, PassData, PassDataMissing, PassDataKind, PassDataEnded, PacketsClosed, OutOfMemory}
use Rattle.session_channels.specs.Acts.{Act, AreActs, Ears, Hand, Holds, IsCoding, IsFeeding, IsWanting, Owes, Point, data_in, frames_in, hears, metrics_in, packets_in, received}
use Rattle.session_channels.specs.Ends.{FrameMessage}
use Rattle.session_channels.specs.Queues.{IsTurn, Queue}

-- ---- what a stretch owes to one queue

-- these messages were put behind the others, where the contents are told
pub record PutsAll {Q M : Type 0} (contents : Q → Option (List M)) (queue : Q → Queue) (before now : Q) (messages : List M) : Type 0 where
  pub put : contents now ≡ option_map (λ held. held ++ messages) (contents before)
  pub turn : IsTurn (queue before) (queue now)

-- these messages were taken from the front
pub record TakesAll {Q M : Type 0} (contents : Q → Option (List M)) (queue : Q → Queue) (before now : Q) (messages : List M) : Type 0 where
  pub taken : contents before ≡ option_map (λ held. messages ++ held) (contents now)
  pub turn : IsTurn (queue before) (queue now)

-- a queue of packets has them as its messages
abbrev pub PutsPackets : {Q P : Type 0} → (Q → Option (List (Result P ChannelFault))) → (Q → Queue) → Q → Q → List P → Type 0
PutsPackets contents queue before now packets = PutsAll contents queue before now (map Ok packets)

-- nothing was put or taken
abbrev pub IsNothing : {M : Type 0} → List M → Type 0
IsNothing messages = messages ≡ []

-- its count of closed answers rose, and its count of answers for want of memory
abbrev pub SaidClosed : Queue → Queue → Type 0
SaidClosed before now = Rose before.counts.closed now.counts.closed

abbrev pub SaidNoMemory : Queue → Queue → Type 0
SaidNoMemory before now = Rose before.counts.out_of_memory now.counts.out_of_memory

-- why one message wasn't put into a queue that isn't limited
abbrev pub IsPutFault : Queue → Queue → ChannelFault → Type 0
IsPutFault before now PacketsClosed = SaidClosed before now
IsPutFault before now OutOfMemory = SaidNoMemory before now
IsPutFault before now fault = ⊥

-- ---- what it owes to all of them

-- how the queues stand to the frames and metrics taken and the packets and pass data put; whether the queue of pass data said that
-- it is closed; and whether one of those did that are put into
pub record Turns (T O : Type 0) : Type 1 where
  pub frames : List (FrameMessage T O) → Type 0
  pub packets : List (Packet T O) → Type 0
  pub metrics : List RcData → Type 0
  pub handed : List RcData → Type 0
  pub missing : Type 0
  pub severed : Type 0

-- nothing was put or taken
abbrev pub untouched : {T O : Type 0} → Turns T O
untouched = record {
  frames = IsNothing;
  packets = IsNothing;
  metrics = IsNothing;
  handed = IsNothing;
  missing = ⊥;
  severed = ⊥;
}

-- acts from one point to another
pub record Went {T O D S C : Type 0} (ears : Ears T D S C) (handing : Bool) (turns : Turns T O) (before after : Point T O D S C) : Type 0 where
  pub acts : List (Act T O)
  pub run : AreActs ears handing acts before after
  pub frames : turns.frames (frames_in acts)
  pub packets : turns.packets (packets_in acts)
  pub metrics : turns.metrics (metrics_in acts)
  pub handed : turns.handed (data_in acts)

-- ---- why it ends early; `last` is where the last whole act led to, `now` the session as it was left

-- the coder failed in the receive that was due
pub record CoderFails {T O D S C : Type 0} (ears : Ears T D S C) (last : Point T O D S C) (now : Session T O D S C) (command : ℕ) : Type 0 where
  pub due : IsCoding last
  pub call : IsCall GivesReceived Receive last.session now (hears ears last.session) (hears ears now) (Err Failure)
  pub kept : now.failure ≡ Some (CoderFailed command)
  pub real : command ≡ length (real_entries last.session.moment.log)
  pub rose : Rose (ears.coder last.session.coder).faults (ears.coder now.coder).faults

-- the frame that is held was due to be sent, and the session refuses it
pub record RefusesFrame {T O D S C : Type 0} (last : Point T O D S C) (now : Session T O D S C) (status : EncoderStatus) : Type 0 where
  pub message : FrameMessage T O
  pub holds : last.hand ≡ Holds message
  pub due : IsWanting last.session
  pub refused : sent_reply last.session.enc last.session.moment (message.0).value ≡ Status status
  pub same : now ≡ last.session

-- metrics were needed, and the session refuses those taken
pub record RefusesMetrics {T O D S C : Type 0} (last : Point T O D S C) (now : Session T O D S C) (taken : List RcData) (refusal : PassDataError) : Type 0 where
  pub due : IsFeeding last
  pub message : ArrayVec ℕ
  pub taken_is : taken ≡ OfFrame message ∷ []
  pub call : IsGiven message.items last.session now (Err Failure)
  pub kept : now.failure ≡ Some (DataRefused refusal)

-- metrics were needed, and a summary was taken
pub record TakesSummary {T O D S C : Type 0} (last : Point T O D S C) (now : Session T O D S C) (taken : List RcData) : Type 0 where
  pub due : IsFeeding last
  pub message : ArrayVec ℕ
  pub taken_is : taken ≡ OfSummary message ∷ []
  pub same : now ≡ last.session

-- metrics were needed, and the queue of pass data said that it is closed
pub record LacksMetrics {T O D S C : Type 0} (missing : Type 0) (last : Point T O D S C) (now : Session T O D S C) : Type 0 where
  pub due : IsFeeding last
  pub closed : missing
  pub same : now ≡ last.session

-- how many commands have pass data: as many as the summary counts; without one, as many as a summary can count
abbrev pub total_of : Option Header → ℤ
total_of None = pos 2147483647
total_of (Some header) = header.total

-- the receive that was due answers NotReady, behind that many commands
pub record RunsDry {T O D S C : Type 0} (last : Point T O D S C) (now : Session T O D S C) (total : ℤ) : Type 0 where
  pub due : IsCoding last
  pub waits : awaits_data last.session.enc (at_of last.session) Receive ≡ true
  pub counted : int_min (pos last.session.moment.commands) (pos 2147483647) ≡ total
  pub kept : total_of last.session.passes.given.header ≡ total
  pub behind : pos last.session.moment.commands ≡ total
  pub same : now ≡ last.session

-- what was to be put: the packet of the receive that was due
pub record HasPacket {T O D S C : Type 0} (ears : Ears T D S C) (last : Point T O D S C) (now : Session T O D S C) : Type 0 where
  pub due : IsCoding last
  pub packet : Packet T O
  pub call : IsCall GivesReceived Receive last.session now (hears ears last.session) (hears ears now) (received (Some packet))

-- or the pass data that was owed
pub record HasData {T O D S C : Type 0} (last : Point T O D S C) (now : Session T O D S C) : Type 0 where
  pub hand : Hand T O
  pub owes : last.hand ≡ Owes hand
  pub message : RcData
  pub call : IsTakeCall last.session now (Some message)

-- a message was to be put, and the queue said that it is closed
pub record IsSevered {T O D S C : Type 0} (ears : Ears T D S C) (severed : Type 0) (last : Point T O D S C) (now : Session T O D S C) : Type 0 where
  pub closed : severed
  pub due : HasPacket ears last now ⊎ HasData last now

-- the cause of a fault; `taken` is a message of pass data that was taken and not given
abbrev pub IsCause : {T O D S C : Type 0} → Ears T D S C → Type 0 → Type 0 → Point T O D S C → Session T O D S C → List RcData → ChannelFault → Type 0
IsCause ears missing severed last now taken (Coder command) = IsNothing taken × CoderFails ears last now command
IsCause ears missing severed last now taken (FrameRefused status) = IsNothing taken × RefusesFrame last now status
IsCause ears missing severed last now taken (PassData refusal) = RefusesMetrics last now taken refusal
IsCause ears missing severed last now taken PassDataKind = TakesSummary last now taken
IsCause ears missing severed last now taken PassDataMissing = IsNothing taken × LacksMetrics missing last now
IsCause ears missing severed last now taken (PassDataEnded total) = IsNothing taken × RunsDry last now total
IsCause ears missing severed last now taken PacketsClosed = IsNothing taken × IsSevered ears severed last now
IsCause ears missing severed last now taken OutOfMemory = IsNothing taken

-- acts up to a fault
pub record Stopped {T O D S C : Type 0} (ears : Ears T D S C) (handing : Bool) (turns : Turns T O) (before : Point T O D S C) (now : Session T O D S C) (fault : ChannelFault) : Type 0 where
  pub acts : List (Act T O)
  pub last : Point T O D S C
  pub run : AreActs ears handing acts before last
  pub taken : List RcData
  pub cause : IsCause ears turns.missing turns.severed last now taken fault
  pub frames : turns.frames (frames_in acts)
  pub packets : turns.packets (packets_in acts)
  pub metrics : turns.metrics (metrics_in acts ++ taken)
  pub handed : turns.handed (data_in acts)

-- a stretch from a point, which leads to another where there is no fault
abbrev pub Drove : {T O D S C A : Type 0} → Ears T D S C → Bool → Turns T O → Point T O D S C → Point T O D S C → Result A ChannelFault → Type 0
Drove ears handing turns before after result =
    MatchResult result
    (λ _. Went ears handing turns before after)
    (λ fault. Stopped ears handing turns before after.session fault)
