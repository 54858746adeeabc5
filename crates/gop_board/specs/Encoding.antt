-- Frames coded as jobs side by side: the packets of all jobs, or the fault of the least job that has one.
use Rattle.std.specs.Prelude.{◌≡◌, ℕ, ◌<◌, ◌≤◌, ⊤, IsSome, List, flat_map, slice_get, Option, None, Some}
use Rattle.std.specs.List.{AllZip}
use Rattle.av1_frame.specs.declared.frame.Frame.{Frame}
use Rattle.av1_settings.specs.declared.encoder.EncoderConfig.{EncoderConfig}
use Rattle.av1_settings.specs.declared.invalid.InvalidConfig.{InvalidConfig}
use Rattle.quantizers.specs.Tables.{Tables}
use Rattle.session_core.specs.declared.packet.Packet.{Packet}
use Rattle.session_core.specs.Told.{CoderTold, DetectorTold}
use Rattle.gop_board.specs.declared.encode.GopError.{GopError}
use Rattle.gop_board.specs.declared.encode.GopError.TheVariants.{Invalid, CoderFault, OutOfMemory as NoMemory}
use Rattle.gop_board.specs.declared.job.Job.{Job}
use Rattle.gop_board.specs.declared.job_result.JobResult.{JobResult}
use Rattle.gop_board.specs.declared.job_result.JobResult.TheVariants.{Packets, Fault, OutOfMemory}
use Rattle.gop_board.specs.Jobs.{IsSplit, pictures}
use Rattle.gop_board.specs.JobSessions.{GavePackets, IsSession, MetFault}
use Rattle.gop_board.specs.Makers.{MakerTold}
use Rattle.gop_board.specs.Packets.{numbered}

-- the packets of a session of each of these jobs, in the order of the jobs, numbered anew
pub record JoinsPackets {T : Type 0} (enc : EncoderConfig) (tables : Tables) (ahead : ℕ → ℕ → MakerTold T)
    (jobs : List (Job T)) (packets : List (Packet T ⊤)) : Type 0 where
  pub parts : List (List (Packet T ⊤))
  pub each : AllZip (λ job part. GavePackets enc tables (ahead job.number job.first) (pictures job) part) jobs parts
  pub joined : packets ≡ numbered (flat_map (λ part. part) parts)

-- the maker tells the first failing call of each coder, or that none fails
abbrev pub TellsFails : {T : Type 0} → (ℕ → ℕ → MakerTold T) → Type 0
TellsFails ahead = (job first : ℕ) → IsSome (ahead job first).fails_after

-- each of these jobs has its result. The job that stands at `place` met this fault, all before it gave packets, and none ran out
-- of memory
pub record IsLeastFault {T C : Type 0} (enc : EncoderConfig) (tables : Tables) (ahead : ℕ → ℕ → MakerTold T)
    (told : C → CoderTold T) (jobs : List (Job T)) (place command : ℕ) (coder : C) : Type 0 where
  pub results : List (JobResult T C)
  pub each : AllZip (IsSession enc tables ahead told) jobs results
  pub fault : slice_get results place ≡ Some (Fault command coder)
  pub least : (before : ℕ) → before < place →
      (packets : List (Packet T ⊤)) × (slice_get results before ≡ Some (Packets packets))
  pub memory : (at : ℕ) → slice_get results at ≡ Some OutOfMemory → ⊥
  -- where the first failing calls are told, a fault belongs to no job before it, and to it none behind another number of commands
  pub told_least : TellsFails ahead → (at : ℕ) (job : Job T) (other : ℕ) (other_coder : CoderTold T) → slice_get jobs at ≡ Some job →
      MetFault enc tables (ahead job.number job.first) (pictures job) other other_coder →
      (place ≤ at) × (at ≡ place → other ≡ command)

-- the packets of all jobs that these frames are split into
pub record IsWhole {T : Type 0} (enc : EncoderConfig) (tables : Tables) (ahead : ℕ → ℕ → MakerTold T)
    (frames : List (Frame T)) (before after : DetectorTold T) (packets : List (Packet T ⊤)) : Type 0 where
  pub jobs : List (Job T)
  pub split : IsSplit enc frames jobs before after
  pub joins : JoinsPackets enc tables ahead jobs packets

-- the fault of one of them
pub record IsJobFault {T C : Type 0} (enc : EncoderConfig) (tables : Tables) (ahead : ℕ → ℕ → MakerTold T)
    (told : C → CoderTold T) (frames : List (Frame T)) (before after : DetectorTold T) (number command : ℕ) (coder : C) : Type 0 where
  pub jobs : List (Job T)
  pub split : IsSplit enc frames jobs before after
  pub fault : IsLeastFault enc tables ahead told jobs number command coder

-- why frames weren't coded, where the configuration has this refusal; want of memory has no cause that is told
abbrev pub IsCause : {T C : Type 0} → Option InvalidConfig → EncoderConfig → Tables → (ℕ → ℕ → MakerTold T) → (C → CoderTold T) →
    List (Frame T) → DetectorTold T → DetectorTold T → GopError C → Type 0
IsCause refusal enc tables ahead told frames before after (Invalid invalid) = refusal ≡ Some invalid
IsCause refusal enc tables ahead told frames before after (CoderFault job command coder) =
    IsJobFault enc tables ahead told frames before after job command coder
IsCause refusal enc tables ahead told frames before after NoMemory = ⊤

-- the same, of jobs
abbrev pub IsJobsCause : {T C : Type 0} → EncoderConfig → Tables → (ℕ → ℕ → MakerTold T) → (C → CoderTold T) →
    List (Job T) → GopError C → Type 0
IsJobsCause enc tables ahead told jobs (Invalid invalid) = ⊥
IsJobsCause enc tables ahead told jobs (CoderFault job command coder) =
    IsLeastFault enc tables ahead told jobs job command coder
IsJobsCause enc tables ahead told jobs NoMemory = ⊤

-- the maker tells that no coder fails which it makes
abbrev pub NoneFails : {T : Type 0} → (ℕ → ℕ → MakerTold T) → Type 0
NoneFails ahead = (job first : ℕ) → (ahead job first).fails_after ≡ Some None
