-- What a worker does between its queues: its acts, when each is due, and what each is to its session and to its queues. Of the
-- session this says nothing of its own: an act is a call of the session, by what that call means.
use Rattle.arrayvec.specs.ArrayVec.{ArrayVec}
use Rattle.std.specs.Prelude.{◌≡◌, ℕ, ◌≤◌, ⊤, Bool, if◌then◌else◌, IsTrue, List, [], ◌∷◌, Option, Some, None, Result, Ok, Err}
use Rattle.std.specs.List.{flat_map}
use Rattle.std.specs.Option.{option_to_list}
use Rattle.av1_settings.specs.declared.status.EncoderStatus.{EncoderStatus}
use Rattle.av1_settings.specs.declared.status.EncoderStatus.TheVariants.{Encoded}
use Rattle.pass_data.specs.declared.rc_data.RcData.{RcData}
use Rattle.pass_data.specs.declared.rc_data.RcData.TheVariants.{Frame as OfFrame}
use Rattle.session_core.specs.declared.call.Call.TheVariants.{Flush, Receive}
use Rattle.session_core.specs.declared.packet.Packet.{Packet}
use Rattle.session_core.specs.Contexts.{GivesDone, GivesReceived, IsCall, IsSend, Session}
use Rattle.session_core.specs.PassCalls.{IsGiven, IsTakeCall, required_of}
use Rattle.session_core.specs.PassTurns.{is_done}
use Rattle.session_core.specs.Told.{CoderTold, DetectorTold, Heard, ScalesTold, heard}
use Rattle.session_core.specs.Turns.{held_back, needs_more_data}
use Rattle.session_channels.specs.Ends.{FrameMessage}

-- what a worker holds between two acts: no frame; a frame that was taken and isn't sent yet; none, since no more come, and the
-- session is flushed; nothing any more, since all is coded; or one of these, while pass data has to be handed on first
pub data Hand (T O : Type 0) : Type 0 where
  Empty : Hand T O
  Holds : FrameMessage T O → Hand T O
  Over : Hand T O
  Done : Hand T O
  Owes : Hand T O → Hand T O

-- what a worker does: it takes a frame; sends it; gives the session a frame's metrics; has it code a command, which gives a packet or
-- none; hands on its pass data, if it has any; flushes it, since the queue of frames is closed; and stops, since all is coded
pub data Act (T O : Type 0) : Type 0 where
  TakesFrame : FrameMessage T O → Act T O
  SendsFrame : FrameMessage T O → Act T O
  Gives : ArrayVec ℕ → Act T O
  Receives : Option (Packet T O) → Act T O
  HandsOn : Option RcData → Act T O
  Flushes : Act T O
  Stops : Act T O

-- a worker between two acts: what it holds, and its session
pub record Point (T O D S C : Type 0) : Type 0 where
  pub hand : Hand T O
  pub session : Session T O D S C

-- how a session's coder, detector and mean scales are heard
pub record Ears (T D S C : Type 0) : Type 0 where
  pub coder : C → CoderTold T
  pub detector : D → DetectorTold T
  pub scales : S → ScalesTold T

abbrev pub hears : {T O D S C : Type 0} → Ears T D S C → Session T O D S C → Heard T
hears ears session = heard (ears.coder session.coder) (ears.detector session.detector) (ears.scales session.scales)

-- ---- what is held after an act

-- where pass data is handed on, it is owed behind each command, and at the end
abbrev pub owing : {T O : Type 0} → Bool → Hand T O → Hand T O
owing handing hand = if handing then Owes hand else hand

abbrev pub paid : {T O : Type 0} → Hand T O → Hand T O
paid (Owes hand) = hand
paid hand = hand

abbrev pub hand_after : {T O : Type 0} → Bool → Act T O → Hand T O → Hand T O
hand_after handing (TakesFrame message) hand = Holds message
hand_after handing (SendsFrame message) hand = Empty
hand_after handing (Gives metrics) hand = hand
hand_after handing (Receives packet) hand = owing handing hand
hand_after handing (HandsOn message) hand = paid hand
hand_after handing Flushes hand = Over
hand_after handing Stops hand = owing handing Done

-- ---- when an act is due

-- commands are coded while a frame is held, and at the end
abbrev pub IsOpen : {T O : Type 0} → Hand T O → Type 0
IsOpen (Holds message) = ⊤
IsOpen Over = ⊤
IsOpen hand = ⊥

-- a command can be coded, but metrics are needed first
pub record IsFeeding {T O D S C : Type 0} (at : Point T O D S C) : Type 0 where
  pub coding : IsOpen at.hand
  pub known : held_back at.session.enc at.session.moment ≡ None
  pub needed : 1 ≤ required_of at.session

-- a command can be coded, and no metrics are needed
pub record IsCoding {T O D S C : Type 0} (at : Point T O D S C) : Type 0 where
  pub coding : IsOpen at.hand
  pub known : held_back at.session.enc at.session.moment ≡ None
  pub fed : required_of at.session ≡ 0

-- further frames have to be known before the next command
abbrev pub IsWanting : {T O D S C : Type 0} → Session T O D S C → Type 0
IsWanting session = IsTrue (needs_more_data session.enc session.moment)

-- a frame is taken first, or the session flushed where none comes; the frame is sent once it is needed; what is known is coded
-- before; and all stops once every packet was given
abbrev pub IsDueWith : {T O D S C : Type 0} → Act T O → Hand T O → Session T O D S C → Type 0
IsDueWith (TakesFrame message) Empty session = ⊤
IsDueWith Flushes Empty session = ⊤
IsDueWith (SendsFrame message) (Holds held) session = (message ≡ held) × IsWanting session
IsDueWith (Gives metrics) hand session = IsFeeding (record { hand = hand; session = session })
IsDueWith (Receives packet) hand session = IsCoding (record { hand = hand; session = session })
IsDueWith (HandsOn message) (Owes hand) session = ⊤
IsDueWith Stops Over session = IsTrue (is_done session.moment)
IsDueWith act hand session = ⊥

-- ---- what an act does to the session

abbrev pub all_well : Result (Unit {0}) EncoderStatus
all_well = Ok tt

abbrev pub received : {T O : Type 0} → Option (Packet T O) → Result (Packet T O) EncoderStatus
received (Some packet) = Ok packet
received None = Err Encoded

abbrev pub Does : {T O D S C : Type 0} → Ears T D S C → Act T O → Session T O D S C → Session T O D S C → Type 0
Does ears (TakesFrame message) before after = after ≡ before
Does ears (SendsFrame message) before after =
    IsSend (Some (message.0).value) message.1 before after (hears ears before) (hears ears after) all_well
Does ears (Gives metrics) before after = IsGiven metrics.items before after all_well
Does ears (Receives packet) before after =
    IsCall GivesReceived Receive before after (hears ears before) (hears ears after) (received packet)
Does ears (HandsOn message) before after = IsTakeCall before after message
Does ears Flushes before after =
    IsCall GivesDone Flush before after (hears ears before) (hears ears after) all_well
Does ears Stops before after = after ≡ before

-- ---- acts one after another

pub record IsAct {T O D S C : Type 0} (ears : Ears T D S C) (handing : Bool) (act : Act T O) (before after : Point T O D S C) : Type 0 where
  pub due : IsDueWith act before.hand before.session
  pub does : Does ears act before.session after.session
  pub held : after.hand ≡ hand_after handing act before.hand

abbrev pub AreActs : {T O D S C : Type 0} → Ears T D S C → Bool → List (Act T O) → Point T O D S C → Point T O D S C → Type 0
AreActs ears handing [] before after = after ≡ before
AreActs {T} {O} {D} {S} {C} ears handing (act ∷ acts) before after =
    (next : Point T O D S C) × IsAct ears handing act before next × AreActs ears handing acts next after

-- ---- what acts are to the queues

abbrev pub frame_taken : {T O : Type 0} → Act T O → List (FrameMessage T O)
frame_taken (TakesFrame message) = message ∷ []
frame_taken act = []

abbrev pub packet_given : {T O : Type 0} → Act T O → List (Packet T O)
packet_given (Receives packet) = option_to_list packet
packet_given act = []

abbrev pub metrics_taken : {T O : Type 0} → Act T O → List RcData
metrics_taken (Gives metrics) = OfFrame metrics ∷ []
metrics_taken act = []

abbrev pub data_handed : {T O : Type 0} → Act T O → List RcData
data_handed (HandsOn message) = option_to_list message
data_handed act = []

-- the frames taken, in order
abbrev pub frames_in : {T O : Type 0} → List (Act T O) → List (FrameMessage T O)
frames_in acts = flat_map frame_taken acts

-- the packets given
abbrev pub packets_in : {T O : Type 0} → List (Act T O) → List (Packet T O)
packets_in acts = flat_map packet_given acts

-- the frames' metrics taken, each as a message
abbrev pub metrics_in : {T O : Type 0} → List (Act T O) → List RcData
metrics_in acts = flat_map metrics_taken acts

-- the pass data handed on
abbrev pub data_in : {T O : Type 0} → List (Act T O) → List RcData
data_in acts = flat_map data_handed acts
