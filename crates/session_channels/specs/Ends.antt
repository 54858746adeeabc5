-- What contracts see of the ends of a channel, and what each of their calls makes of a turn of its queue. `puts`, `takes` and
-- `closes` stand for what the queue's own calls mean (`Puts`, `Takes`, `Closes` of Queues).
use Rattle.std.specs.Prelude.{◌≡◌, ℕ, ◌+◌, ◌==◌, ◌⊎◌, Bool, MatchBool, MatchOption, Option, Some, None, Result, Ok, Err, IsOk}
use Rattle.std.specs.declared.alloc.Global.{Global}
use Rattle.std.specs.declared.sync.Arc.{Arc}
use Rattle.av1_frame.specs.declared.frame.Frame.{Frame}
use Rattle.av1_settings.specs.declared.encoder.EncoderConfig.{EncoderConfig}
use Rattle.session_core.specs.declared.call.FrameParameters.{FrameParameters}
use Rattle.session_channels.specs.declared.errors.PutError.{PutError}
use Rattle.session_channels.specs.declared.errors.PutError.TheVariants.{Full, Closed, OutOfMemory}
use Rattle.session_channels.specs.declared.errors.RecvError.{RecvError}
use Rattle.session_channels.specs.declared.errors.RecvError.TheVariants.{Closed as Over, Worker}
use Rattle.session_channels.specs.declared.errors.SendError.{SendError}
use Rattle.session_channels.specs.declared.errors.SendError.TheVariants.{Refused, OutOfMemory as NoRoom}
use Rattle.session_channels.specs.declared.errors.TakeError.{TakeError}
use Rattle.session_channels.specs.declared.errors.TakeError.TheVariants.{Empty, Closed as Ended}
use Rattle.session_channels.specs.declared.errors.TryRecvError.{TryRecvError}
use Rattle.session_channels.specs.declared.errors.TryRecvError.TheVariants.{Empty as Nothing, Disconnected as Severed, Worker as WorkerEnded}
use Rattle.session_channels.specs.declared.errors.TrySendError.{TrySendError}
use Rattle.session_channels.specs.declared.errors.TrySendError.TheVariants.{Full as Crowded, Disconnected, OutOfMemory as NoMemory}
use Rattle.session_channels.specs.declared.fault.ChannelFault.{ChannelFault}

-- a sender: its queue, how many messages it may send, and how many it has sent
pub record Sender (Q : Type 0) : Type 0 where
  pub queue : Q
  pub limit : ℕ
  pub sent : ℕ

abbrev pub new_sender : {Q : Type 0} → Q → ℕ → Sender Q
new_sender queue limit = record { queue = queue; limit = limit; sent = 0 }

abbrev pub is_at_limit : {Q : Type 0} → Sender Q → Bool
is_at_limit sender = sender.sent == sender.limit

-- how many messages were sent after this answer
abbrev pub sent_after : {A E : Type 0} → Result A E → ℕ → ℕ
sent_after (Ok done) sent = sent + 1
sent_after (Err error) sent = sent

-- what a put through a sender means. At the limit its message is refused as by a full queue, without a turn, and nothing
-- changes; else it is one put of the queue
abbrev pub IsSenderPut : {Q M : Type 0} → (Q → M → Result (Unit {0}) (PutError M) → Q → Type 0) → Sender Q → M → Result (Unit {0}) (PutError M) → Sender Q → Type 0
IsSenderPut puts before message answer now =
    MatchBool (is_at_limit before)
    ((answer ≡ Err (Full message)) × (now ≡ before))
    (puts before.queue message answer now.queue × (now.limit ≡ before.limit) × (now.sent ≡ sent_after answer before.sent))

-- what `try_send` answers where the put was answered so; `told` is the message as the sender's caller gave it
abbrev pub try_send_result : {A M N : Type 0} → (M → N) → Result A (PutError M) → Result A (TrySendError N)
try_send_result told (Ok done) = Ok done
try_send_result told (Err (Full message)) = Err (Crowded (told message))
try_send_result told (Err (Closed message)) = Err (Disconnected (told message))
try_send_result told (Err (OutOfMemory message)) = Err NoMemory

-- what `send` answers where the put was answered so
abbrev pub send_result : {A M N : Type 0} → (M → N) → Result A (PutError M) → Result A (SendError N)
send_result told (Ok done) = Ok done
send_result told (Err (Full message)) = Err (Refused (told message))
send_result told (Err (Closed message)) = Err (Refused (told message))
send_result told (Err (OutOfMemory message)) = Err NoRoom

-- a message sent through a sender of pass data: one put, whose answer is told as the call's
abbrev pub IsDataSend : {Q M E : Type 0} → (Q → M → Result (Unit {0}) (PutError M) → Q → Type 0) → (Result (Unit {0}) (PutError M) → Result (Unit {0}) E) → Sender Q → M → Result (Unit {0}) E → Sender Q → Type 0
IsDataSend {M = M} puts told before message result now =
    (answer : Result (Unit {0}) (PutError M)) × IsSenderPut puts before message answer now × (result ≡ told answer)

-- a sender of frames: settings, and what every sender has
pub record FrameEnd (Q : Type 0) : Type 0 where
  pub enc : EncoderConfig
  pub sender : Sender Q

-- a frame in its queue, and as its caller gave it
abbrev pub FrameMessage : Type 0 → Type 0 → Type 0
FrameMessage T O = Arc (Frame T) Global × Option (FrameParameters O)

abbrev pub Input : Type 0 → Type 0 → Type 0
Input T O = Option (Arc (Frame T) Global) × Option (FrameParameters O)

abbrev pub as_input : {T O : Type 0} → FrameMessage T O → Input T O
as_input message = (Some message.0, message.1)

-- a frame with these parameters is put
pub record PutsFrame {Q T O E : Type 0} (puts : Q → FrameMessage T O → Result (Unit {0}) (PutError (FrameMessage T O)) → Q → Type 0) (told : Result (Unit {0}) (PutError (FrameMessage T O)) → Result (Unit {0}) E) (before : Sender Q) (frame : Frame T) (parameters : Option (FrameParameters O)) (result : Result (Unit {0}) E) (now : Sender Q) : Type 0 where
  pub message : FrameMessage T O
  pub frame_is : (message.0).value ≡ frame
  pub parameters_are : message.1 ≡ parameters
  pub sends : IsDataSend puts told before message result now

-- a value without a frame closes the queue, at the limit too, and nothing is put
pub record ClosesQueue {Q A E : Type 0} (closes : Q → Q → Type 0) (before : Sender Q) (result : Result A E) (now : Sender Q) : Type 0 where
  pub turn : closes before.queue now.queue
  pub limit : now.limit ≡ before.limit
  pub sent : now.sent ≡ before.sent
  pub done : IsOk result

-- a frame is sent, or the queue closed where there is none. Where no memory was left to share the frame, nothing changed
abbrev pub IsFrameSend : {Q T O E : Type 0} → (Q → FrameMessage T O → Result (Unit {0}) (PutError (FrameMessage T O)) → Q → Type 0) → (Q → Q → Type 0) → (Result (Unit {0}) (PutError (FrameMessage T O)) → Result (Unit {0}) E) → E → Sender Q → Option (Frame T) → Option (FrameParameters O) → Result (Unit {0}) E → Sender Q → Type 0
IsFrameSend puts closes told no_memory before picture parameters result now =
    MatchOption picture
    (ClosesQueue closes before result now)
    (λ frame. PutsFrame puts told before frame parameters result now)
    ⊎ ((result ≡ Err no_memory) × (now ≡ before))

-- a receiver of packets: settings, and its queue
pub record PacketEnd (Q : Type 0) : Type 0 where
  pub enc : EncoderConfig
  pub queue : Q

-- what `try_recv` and `recv` of a receiver of packets mean: one take of the queue; a worker's fault is a message
abbrev pub IsPacketTryRecv : {Q P : Type 0} → (Q → Result (Result P ChannelFault) TakeError → Q → Type 0) → Q → Result P TryRecvError → Q → Type 0
IsPacketTryRecv takes before (Ok packet) now = takes before (Ok (Ok packet)) now
IsPacketTryRecv takes before (Err (WorkerEnded fault)) now = takes before (Ok (Err fault)) now
IsPacketTryRecv takes before (Err Nothing) now = takes before (Err Empty) now
IsPacketTryRecv takes before (Err Severed) now = takes before (Err Ended) now

abbrev pub IsPacketRecv : {Q P : Type 0} → (Q → Result (Result P ChannelFault) TakeError → Q → Type 0) → Q → Result P RecvError → Q → Type 0
IsPacketRecv takes before (Ok packet) now = takes before (Ok (Ok packet)) now
IsPacketRecv takes before (Err (Worker fault)) now = takes before (Ok (Err fault)) now
IsPacketRecv takes before (Err Over) now = takes before (Err Ended) now

-- the same of a receiver of pass data, which tells of no fault
abbrev pub IsDataTryRecv : {Q M : Type 0} → (Q → Result M TakeError → Q → Type 0) → Q → Result M TryRecvError → Q → Type 0
IsDataTryRecv takes before (Ok message) now = takes before (Ok message) now
IsDataTryRecv takes before (Err (WorkerEnded fault)) now = ⊥
IsDataTryRecv takes before (Err Nothing) now = takes before (Err Empty) now
IsDataTryRecv takes before (Err Severed) now = takes before (Err Ended) now

abbrev pub IsDataRecv : {Q M : Type 0} → (Q → Result M TakeError → Q → Type 0) → Q → Result M RecvError → Q → Type 0
IsDataRecv takes before (Ok message) now = takes before (Ok message) now
IsDataRecv takes before (Err (Worker fault)) now = ⊥
IsDataRecv takes before (Err Over) now = takes before (Err Ended) now

-- a receiver of pass data: its queue
pub record DataEnd (Q : Type 0) : Type 0 where
  pub queue : Q

-- what the next of the messages received is, `ended` being the error that ended them: after one, nothing comes and nothing
-- changes; else it is one `recv`, whose error ends them
abbrev pub IsNext : {E M : Type 0} → (E → Result M RecvError → E → Type 0) → E → Option RecvError → Option M → E → Option RecvError → Type 0
IsNext gives before (Some error) item now ended = (item ≡ None) × (now ≡ before) × (ended ≡ Some error)
IsNext gives before None (Some message) now ended = gives before (Ok message) now × (ended ≡ None)
IsNext gives before None None now ended = (error : RecvError) × gives before (Err error) now × (ended ≡ Some error)
