-- Which results are a job's: those of a session of the job's calls, with the coder and the mean scales that a maker made
-- for it, and without scene detection.
use Rattle.std.specs.Prelude.{◌≡◌, ⊤, ℕ, ◌<◌, false, List, Some, None}
use Rattle.av1_frame.specs.declared.frame.Frame.{Frame}
use Rattle.av1_settings.specs.declared.encoder.EncoderConfig.{EncoderConfig}
use Rattle.quantizers.specs.Tables.{Tables}
use Rattle.session_core.specs.declared.call.Call.{Call}
use Rattle.session_core.specs.declared.packet.Packet.{Packet}
use Rattle.session_core.specs.declared.transcript.Transcript.{Transcript}
use Rattle.session_core.specs.Answers.{FailsAt}
use Rattle.session_core.specs.Moments.{opening}
use Rattle.session_core.specs.Sessions.{IsSessionRun, moment_after, packets_of}
use Rattle.session_core.specs.Steps.{AreSteps}
use Rattle.session_core.specs.Told.{CoderTold, DetectorTold, Heard}
use Rattle.gop_board.specs.declared.job.Job.{Job}
use Rattle.gop_board.specs.declared.job_result.JobResult.{JobResult}
use Rattle.gop_board.specs.declared.job_result.JobResult.TheVariants.{Packets, Fault, OutOfMemory}
use Rattle.gop_board.specs.JobCalls.{AreJobCalls, job_settings}
use Rattle.gop_board.specs.Jobs.{pictures}
use Rattle.gop_board.specs.Makers.{IsMadeCoder, IsMadeScales, MakerTold}

-- what a detector tells that finds no scene change
abbrev pub finds_nothing : {T : Type 0} → DetectorTold T
finds_nothing = record { questions = None; answers = Some (λ _. false) }

-- what those outside a job's session tell before its first call: a coder and mean scales as they were made
pub record IsFresh {T : Type 0} (ahead : MakerTold T) (before : Heard T) : Type 0 where
  pub coder : IsMadeCoder ahead before.coder
  pub scales : IsMadeScales ahead before.scales
  pub detector : before.detector ≡ finds_nothing

-- the packets are those of a run of the job's session
pub record AreSessionPackets {T : Type 0} (enc : EncoderConfig) (tables : Tables) (pictures : List (Frame T))
    (before after : Heard T) (packets : List (Packet T ⊤)) : Type 0 where
  pub calls : List (Call T ⊤)
  pub calls_are : AreJobCalls enc pictures calls
  pub transcript : Transcript T ⊤
  pub run : IsSessionRun (job_settings enc) tables calls transcript before after
  -- each of its turns is a step
  pub steps : AreSteps (job_settings enc) tables calls transcript.turns opening
      (moment_after (job_settings enc) transcript.decisions calls transcript.turns) before after
  pub packets_are : packets ≡ packets_of transcript.turns

-- the coder failed in the job's session, behind so many commands; its count of faults isn't 0 any more
pub record IsSessionFault {T : Type 0} (enc : EncoderConfig) (tables : Tables) (pictures : List (Frame T))
    (before after : Heard T) (command : ℕ) : Type 0 where
  pub calls : List (Call T ⊤)
  pub calls_are : AreJobCalls enc pictures calls
  pub fails : FailsAt (job_settings enc) tables calls before after command
  pub counted : 0 < after.coder.faults

-- a session gave the packets
pub record GavePackets {T : Type 0} (enc : EncoderConfig) (tables : Tables) (ahead : MakerTold T)
    (pictures : List (Frame T)) (packets : List (Packet T ⊤)) : Type 0 where
  pub before : Heard T
  pub after : Heard T
  pub fresh : IsFresh ahead before
  pub session : AreSessionPackets enc tables pictures before after packets

-- a session met the fault, and left a coder that tells this
pub record MetFault {T : Type 0} (enc : EncoderConfig) (tables : Tables) (ahead : MakerTold T)
    (pictures : List (Frame T)) (command : ℕ) (coder : CoderTold T) : Type 0 where
  pub before : Heard T
  pub after : Heard T
  pub fresh : IsFresh ahead before
  pub session : IsSessionFault enc tables pictures before after command
  pub left : coder ≡ after.coder

-- a result is the job's, where the maker tells `ahead` of each job's number and first position, and `told` is what a coder
-- tells. Want of memory is every job's.
abbrev pub IsSession : {T C : Type 0} → EncoderConfig → Tables → (ℕ → ℕ → MakerTold T) → (C → CoderTold T) →
    Job T → JobResult T C → Type 0
IsSession enc tables ahead told job (Packets packets) =
    GavePackets enc tables (ahead job.number job.first) (pictures job) packets
IsSession enc tables ahead told job (Fault command coder) =
    MetFault enc tables (ahead job.number job.first) (pictures job) command (told coder)
IsSession enc tables ahead told job OutOfMemory = ⊤
