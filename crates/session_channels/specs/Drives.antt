-- The whole of a worker's course, from a session that hasn't begun to the closed queues.
--
-- Each record tells of one run of acts. Of all that comes from the session's answers both directions are read from it: on Ok every
-- frame taken was accepted, all metrics taken were frames' and were accepted, and no receive waited; on a fault the same holds
-- of all acts before, and the cause says where the last one ended. So where a frame is refused, say, no other record can hold.
use Rattle.arrayvec.specs.ArrayVec.{ArrayVec}
use Rattle.std.specs.Prelude.{◌≡◌, ◌⊎◌, ℕ, ◌<◌, ⊤, Bool, true, List, [], ◌∷◌, ◌++◌, All, map, length, Option, Some, None, is_some, IfSome, Result, Ok, Err, MatchResult}
use Rattle.std.proofs.Common.{inl, inr}
use Rattle.std.specs.Borrow.{MutBor}
use Rattle.std.specs.Option.{option_map}
use Rattle.coding_base.specs.Faults.{Rose}
use Rattle.av1_settings.specs.declared.config.Config.{Config}
use Rattle.av1_settings.specs.declared.level.LevelTables.{LevelTables}
use Rattle.av1_settings.specs.Checks.{pixel_refusal}
use Rattle.pass_data.specs.declared.rc_data.RcData.{RcData}
use Rattle.pass_data.specs.declared.rc_data.RcData.TheVariants.{Frame as OfFrame, Summary as OfSummary}
use Rattle.session_core.specs.declared.packet.Packet.{Packet}
use Rattle.session_core.specs.Contexts.{Session, fresh}
use Rattle.session_core.specs.PassTurns.{passes_begun}
use Rattle.session_channels.specs.declared.fault.ChannelFault.{ChannelFault}
use Rattle.session_channels.specs.declared.fault.ChannelFault.TheVariants.{Coder}
use Rattle.session_channels.specs.Acts.{Done, Ears, Empty, data_in, frames_in, packets_in}
use Rattle.session_channels.specs.Courses.{SaidClosed, SaidNoMemory, Stopped, Turns, Went}
use Rattle.session_channels.specs.Queues.{NoneFell, Queue, next_count}

-- a session that hasn't begun, of a valid configuration, which has a summary where `second`, and asks for pass data where `first`
pub record IsNew {T O D S C : Type 0} (session : Session T O D S C) (second first : Bool) : Type 0 where
  pub bits : ℕ
  pub levels : LevelTables
  pub config : Config
  pub valid : pixel_refusal bits levels config ≡ None
  pub opens : session ≡ fresh config.enc session.tables
      (passes_begun config.enc session.tables config.rate_control) session.detector session.scales session.coder
  pub summary : is_some config.rate_control.summary ≡ second
  pub emits : config.rate_control.emit_data ≡ first
  -- as every summary has
  pub counts : IfSome config.rate_control.summary (λ one. length one.nframes ≡ 5)

-- ---- queues that are closed at the end

-- these messages were put, and the queue closed once, as the last call on it
pub record PutsAndCloses {Q M : Type 0} (contents : Q → Option (List M)) (queue : Q → Queue) (before now : Q) (messages : List M) : Type 0 where
  pub put : contents now ≡ option_map (λ held. held ++ messages) (contents before)
  pub capacity : (queue now).capacity ≡ (queue before).capacity
  pub later : NoneFell (queue before).counts (queue now).counts
  pub closed_once : (queue now).closes ≡ next_count (queue before).closes
  pub counts_at_close : (queue now).at_close ≡ (queue now).counts

-- the packets were put, and nothing else
abbrev pub EndsBy : {Q P : Type 0} → (Q → Option (List (Result P ChannelFault))) → (Q → Queue) → Q → Q → List P → Type 0
EndsBy contents queue before now packets = PutsAndCloses contents queue before now (map Ok packets)

-- the packets were put, and then the fault; or nothing then, where the queue was closed or had no memory
abbrev pub EndsByFault : {Q P : Type 0} → (Q → Option (List (Result P ChannelFault))) → (Q → Queue) → ChannelFault → Q → Q → List P → Type 0
EndsByFault contents queue fault before now packets =
    PutsAndCloses contents queue before now (map Ok packets ++ Err fault ∷ [])
    ⊎ (PutsAndCloses contents queue before now (map Ok packets)
    × (SaidClosed (queue before) (queue now) ⊎ SaidNoMemory (queue before) (queue now)))

-- ---- queues that may not be given

-- what holds of a queue that was lent, before and after; `Else` where none was
abbrev pub OfGiven : {Q : Type 0} → Option (MutBor Q) → Unit {0} ⊎ ((MutBor Q × Unit {0}) ⊎ ⊥) → (Q → Q → Type 0) → Type 0 → Type 0
OfGiven (Some end) (inr (inl left)) Is Else = Is end.now left.0.now
OfGiven (Some end) left Is Else = ⊥
OfGiven None left Is Else = Else

-- ---- the whole

abbrev pub IsOfFrame : RcData → Type 0
IsOfFrame (OfFrame message) = ⊤
IsOfFrame (OfSummary message) = ⊥

-- a message of each command, and the summary
pub record AreHandedOn (commands : ℕ) (messages : List RcData) : Type 0 where
  pub metrics : List RcData
  pub summary : ArrayVec ℕ
  pub are : messages ≡ metrics ++ OfSummary summary ∷ []
  pub of_frames : All IsOfFrame metrics
  pub one_each : length metrics ≡ commands

-- all frames are taken, and all is coded
pub record Finished {T O D S C : Type 0} (ears : Ears T D S C) (handing : Bool) (turns : Turns T O) (ended : Type 0) (before after : Session T O D S C) : Type 0 where
  pub went : Went ears handing turns (record { hand = Empty; session = before }) (record { hand = Done; session = after })
  pub frames_ended : ended
  pub flushed : after.moment.flushed ≡ true
  pub packet_each : length (packets_in went.acts) ≡ length (frames_in went.acts)
  pub handed_on : handing ≡ true → after.moment.commands < 2147483647 → AreHandedOn after.moment.commands (data_in went.acts)

-- where the coder failed, its count of faults rose in this course
abbrev pub HasCoderRisen : {T O D S C : Type 0} → Ears T D S C → Session T O D S C → Session T O D S C → ChannelFault → Type 0
HasCoderRisen ears before after (Coder command) = Rose (ears.coder before.coder).faults (ears.coder after.coder).faults
HasCoderRisen ears before after fault = ⊤

pub record Faulted {T O D S C : Type 0} (ears : Ears T D S C) (handing : Bool) (turns : Turns T O) (before after : Session T O D S C) (fault : ChannelFault) : Type 0 where
  pub stopped : Stopped ears handing turns (record { hand = Empty; session = before }) after fault
  pub risen : HasCoderRisen ears before after fault

-- all of it; `ends_by` says how the queue of packets is left after a fault
abbrev pub Drives : {T O D S C A : Type 0} → Ears T D S C → Bool → Turns T O → (ChannelFault → List (Packet T O) → Type 0) → Type 0 → Session T O D S C → Session T O D S C → Result A ChannelFault → Type 0
Drives ears handing turns ends_by ended before after result =
    MatchResult result
    (λ _. Finished ears handing turns ended before after)
    (λ fault. Faulted ears handing (record turns { packets = ends_by fault }) before after fault)
