-- How a run ends that takes frames from a queue, codes their jobs and puts the packets into another queue.
use Rattle.std.specs.Prelude.{◌≡◌, ℕ, ⊤, Bool, true, false, ◌⊎◌, List, [], take, slice_get, Option, None, Some, Result, Ok, Err, IsOk}
use Rattle.av1_frame.specs.declared.frame.Frame.{Frame}
use Rattle.av1_settings.specs.declared.encoder.EncoderConfig.{EncoderConfig}
use Rattle.av1_settings.specs.declared.status.EncoderStatus.{EncoderStatus}
use Rattle.quantizers.specs.Tables.{Tables}
use Rattle.session_core.specs.declared.packet.Packet.{Packet}
use Rattle.session_core.specs.Sessions.{IsPrefix}
use Rattle.session_core.specs.Told.{CoderTold, DetectorTold}
use Rattle.session_channels.specs.declared.fault.ChannelFault.{ChannelFault}
use Rattle.session_channels.specs.declared.fault.ChannelFault.TheVariants.{Coder, FrameRefused, PassData, PassDataMissing, PassDataKind, PassDataEnded, PacketsClosed, OutOfMemory}
use Rattle.session_channels.specs.Ends.{FrameMessage}
use Rattle.session_channels.specs.Queues.{Queue}
use Rattle.gop_board.specs.declared.gathered.Gathered.{Gathered}
use Rattle.gop_board.specs.declared.gathered.JobFault.{JobFault}
use Rattle.gop_board.specs.declared.job.Job.{Job}
use Rattle.gop_board.specs.Encoding.{IsLeastFault, IsWhole, JoinsPackets}
use Rattle.gop_board.specs.Gathering.{IsGathered}
use Rattle.gop_board.specs.Jobs.{IsSplit, pictures}
use Rattle.gop_board.specs.JobSessions.{MetFault}
use Rattle.gop_board.specs.Makers.{MakerTold}
use Rattle.gop_channel.specs.declared.gop_end.GopEnd.{GopEnd}
use Rattle.gop_channel.specs.Messages.{EndsBy, EndsByFault}
use Rattle.gop_channel.specs.Taking.{Took}

-- what jobs are coded with: settings and tables, what the maker tells ahead, what a coder tells, and what the detector told before
-- and after it was asked
pub record Coding (T C : Type 0) : Type 0 where
  pub enc : EncoderConfig
  pub tables : Tables
  pub ahead : ℕ → ℕ → MakerTold T
  pub told : C → CoderTold T
  pub before : DetectorTold T
  pub after : DetectorTold T

-- the jobs of these frames, and what they gave
pub record AreCoded {T C : Type 0} (coding : Coding T C) (frames : List (Frame T)) (gathered : Gathered T C) : Type 0 where
  pub jobs : List (Job T)
  pub split : IsSplit coding.enc frames jobs coding.before coding.after
  pub gave : IsGathered coding.enc coding.tables coding.ahead coding.told jobs gathered

-- these packets are those of the jobs of the frames, in order, up to the first job that failed
pub record AreUpToFault {T C : Type 0} (coding : Coding T C) (frames : List (Frame T)) (packets : List (Packet T ⊤)) : Type 0 where
  pub gathered : Gathered T C
  pub coded : AreCoded coding frames gathered
  pub packets_are : packets ≡ gathered.packets

-- they are the first of those
abbrev pub BeginUpToFault : {T C : Type 0} → Coding T C → List (Frame T) → List (Packet T ⊤) → Type 0
BeginUpToFault {T} coding frames packets = (all : List (Packet T ⊤)) × AreUpToFault coding frames all × IsPrefix packets all

-- they are those of all jobs before the least one that failed, which met this fault
pub record AreBeforeFault {T C : Type 0} (coding : Coding T C) (frames : List (Frame T)) (command : ℕ) (coder : C) (packets : List (Packet T ⊤)) : Type 0 where
  pub jobs : List (Job T)
  pub split : IsSplit coding.enc frames jobs coding.before coding.after
  pub number : ℕ
  pub fault : IsLeastFault coding.enc coding.tables coding.ahead coding.told jobs number command coder
  pub joins : JoinsPackets coding.enc coding.tables coding.ahead (take number jobs) packets

-- what stands behind a fault and the coder kept with it, where a frame was refused so, or none, and these packets were put.
-- `closed` says that the queue of packets was found closed
abbrev pub IsFault : {T C : Type 0} → Coding T C → List (Frame T) → Option EncoderStatus → Type 0 → List (Packet T ⊤) → ChannelFault → Option C → Type 0
IsFault {T} {C} coding frames refused closed packets (Coder command) kept =
    (coder : C) × (kept ≡ Some coder) × (refused ≡ None) × AreBeforeFault coding frames command coder packets
IsFault coding frames refused closed packets (FrameRefused status) kept =
    (kept ≡ None) × (refused ≡ Some status)
    × (AreUpToFault coding frames packets ⊎ (closed × BeginUpToFault coding frames packets))
IsFault coding frames refused closed packets PacketsClosed kept =
    (kept ≡ None) × (refused ≡ None) × closed × BeginUpToFault coding frames packets
IsFault coding frames refused closed packets OutOfMemory kept =
    (kept ≡ None) × ((packets ≡ []) ⊎ BeginUpToFault coding frames packets)
IsFault coding frames refused closed packets (PassData refusal) kept = ⊥
IsFault coding frames refused closed packets PassDataMissing kept = ⊥
IsFault coding frames refused closed packets PassDataKind kept = ⊥
IsFault coding frames refused closed packets (PassDataEnded total) kept = ⊥

-- what stands behind an end. `ended` says that the queue of frames was found closed
abbrev pub IsOutcome : {T C : Type 0} → Coding T C → List (Frame T) → Option EncoderStatus → Type 0 → Type 0 → List (Packet T ⊤) →
    Result (Unit {0}) (GopEnd C) → Type 0
IsOutcome coding frames refused ended closed packets (Ok done) =
    ended × (refused ≡ None) × IsWhole coding.enc coding.tables coding.ahead frames coding.before coding.after packets
IsOutcome coding frames refused ended closed packets (Err end) = IsFault coding frames refused closed packets end.fault end.coder

-- an end without a coder
abbrev pub ends_by : {C : Type 0} → ChannelFault → Result (Unit {0}) (GopEnd C)
ends_by fault = Err (record { fault = fault; coder = None })

-- no job of these frames meets a fault
abbrev pub NoneFaults : {T C : Type 0} → Coding T C → List (Frame T) → Type 0
NoneFaults {T} coding frames =
    (jobs : List (Job T)) (place : ℕ) (job : Job T) (command : ℕ) (coder : CoderTold T) →
    IsSplit coding.enc frames jobs coding.before coding.after → slice_get jobs place ≡ Some job →
    MetFault coding.enc coding.tables (coding.ahead job.number job.first) (pictures job) command coder → ⊥

-- frames were taken, their jobs coded, and packets put; `takes` and `puts` say what it means to take these messages and to put
-- these packets
pub record Drives {T C : Type 0} (coding : Coding T C) (takes : List (FrameMessage T ⊤) → Type 0) (puts : List (Packet T ⊤) → Type 0)
    (ended closed : Type 0) (result : Result (Unit {0}) (GopEnd C)) : Type 0 where
  pub frames : List (Frame T)
  pub refused : Option EncoderStatus
  pub took : Took coding.enc takes frames refused
  pub packets : List (Packet T ⊤)
  pub puts_them : puts packets
  pub outcome : IsOutcome coding frames refused ended closed packets result
  -- a frame that is refused is told, unless memory runs out
  pub exactly : (status : EncoderStatus) → refused ≡ Some status → (result ≡ ends_by (FrameRefused status)) ⊎ (result ≡ ends_by OutOfMemory)
  -- where no frame is refused, no job meets a fault and the queue of packets isn't found closed, only memory can run out
  pub complete : refused ≡ None → NoneFaults coding frames → (closed → ⊥) → IsOk result ⊎ (result ≡ ends_by OutOfMemory)

-- the packets are put, and behind them the fault that ends the run, if one does
abbrev pub PutsEnd : {Q T C : Type 0} → (Q → Option (List (Result (Packet T ⊤) ChannelFault))) → (Q → Queue) → Q → Q →
    Result (Unit {0}) (GopEnd C) → List (Packet T ⊤) → Type 0
PutsEnd contents queue before now (Ok done) packets = EndsBy contents queue before now packets
PutsEnd contents queue before now (Err end) packets = EndsByFault contents queue end.fault before now packets

-- how a run ends whose packets were all put or not, where a frame was refused so and a coder failed so
abbrev pub end_of : {C : Type 0} → Bool → Option EncoderStatus → Option (JobFault C) → Result (Unit {0}) (GopEnd C)
end_of all (Some status) fault = ends_by (FrameRefused status)
end_of false None fault = ends_by PacketsClosed
end_of true None None = Ok tt
end_of true None (Some fault) = Err (record { fault = Coder fault.command; coder = Some fault.coder })
