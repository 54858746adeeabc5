-- What is gathered from results, in the order of the jobs.
use Rattle.std.specs.Prelude.{◌≡◌, ℕ, ◌+◌, ◌++◌, List, [], ◌∷◌, length, is_none, if◌then◌else◌, slice_get, Option, None, Some}
use Rattle.std.specs.List.{AllZip}
use Rattle.av1_settings.specs.declared.encoder.EncoderConfig.{EncoderConfig}
use Rattle.quantizers.specs.Tables.{Tables}
use Rattle.session_core.specs.Told.{CoderTold}
use Rattle.gop_board.specs.declared.gathered.Gathered.{Gathered}
use Rattle.gop_board.specs.declared.gathered.JobFault.{JobFault}
use Rattle.gop_board.specs.declared.job.Job.{Job}
use Rattle.gop_board.specs.declared.job_result.JobResult.{JobResult}
use Rattle.gop_board.specs.declared.job_result.JobResult.TheVariants.{Packets, Fault, OutOfMemory}
use Rattle.gop_board.specs.JobSessions.{IsSession}
use Rattle.gop_board.specs.Makers.{MakerTold}
use Rattle.gop_board.specs.Packets.{numbered, numbered_from, packets_before_fault}

-- the first fault of results, the first of which is the job's of this number
abbrev pub first_fault : {T C : Type 0} → ℕ → List (JobResult T C) → Option (JobFault C)
first_fault number [] = None
first_fault number (Packets packets ∷ results) = first_fault (number + 1) results
first_fault number (Fault command coder ∷ results) = Some (record { job = number; command = command; coder = coder })
first_fault number (OutOfMemory ∷ results) = first_fault (number + 1) results

-- each of these jobs has its result, and none ran out of memory: the packets up to the first fault, and that fault
pub record IsGathered {T C : Type 0} (enc : EncoderConfig) (tables : Tables) (ahead : ℕ → ℕ → MakerTold T)
    (told : C → CoderTold T) (jobs : List (Job T)) (gathered : Gathered T C) : Type 0 where
  pub results : List (JobResult T C)
  pub each : AllZip (IsSession enc tables ahead told) jobs results
  pub memory : (place : ℕ) → slice_get results place ≡ Some OutOfMemory → ⊥
  pub packets : gathered.packets ≡ numbered (packets_before_fault results)
  pub fault : gathered.fault ≡ first_fault 0 results

-- with the result of the job of this number; behind a fault nothing is added, and want of memory ends it all
abbrev pub IsWithResult : {T C : Type 0} → ℕ → JobResult T C → Gathered T C → Gathered T C → Type 0
IsWithResult number (Packets packets) before after =
    after ≡ (if is_none before.fault
    then record before { packets = before.packets ++ numbered_from (length before.packets) packets }
    else before)
IsWithResult number (Fault command coder) before after =
    after ≡ (if is_none before.fault
    then record before { fault = Some (record { job = number; command = command; coder = coder }) }
    else before)
IsWithResult number OutOfMemory before after = ⊥
