-- What a worker does: the numbers that its pass is given, and the entries of a row that it sets for them.
use Rattle.std.specs.Prelude.{◌≡◌, ℕ, ◌≤◌, ◌<◌, ◌⊎◌, ⊤, false, List, length, drop, slice_get, All, Contains, IsTrue, Option, None, Some}
use Rattle.std.specs.declared.alloc.Global.{Global}
use Rattle.std.specs.declared.sync.Arc.{Arc}
use Rattle.av1_frame.specs.declared.frame.Frame.{Frame}
use Rattle.av1_frame.specs.Planes.{fits}
use Rattle.av1_settings.specs.declared.encoder.EncoderConfig.{EncoderConfig}
use Rattle.av1_settings.specs.declared.invalid.InvalidConfig.{InvalidConfig}
use Rattle.quantizers.specs.Tables.{Tables}
use Rattle.session_core.specs.Told.{CoderTold}
use Rattle.session_core.specs.Turns.{frame_limit}
use Rattle.gop_board.specs.declared.job.Job.{Job}
use Rattle.gop_board.specs.declared.job_result.JobResult.{JobResult}
use Rattle.gop_board.specs.Handing.{Passing, Queue}
use Rattle.gop_board.specs.JobSessions.{IsSession}
use Rattle.gop_board.specs.Makers.{MakerTold}
use Rattle.gop_board.specs.Rows.{Row, entry_at, is_absent}

-- ---- jobs and their results

-- frames that a session takes: each fits the settings, and they are no more than it accepts
pub record AreFitting {T : Type 0} (enc : EncoderConfig) (frames : List (Arc (Frame T) Global)) : Type 0 where
  pub fit : All (λ frame. IsTrue (fits frame.value enc.width enc.height enc.chroma_sampling)) frames
  pub few : length frames ≤ frame_limit

-- this holds of each job and its place
abbrev pub EachJob : {T : Type 0} → (ℕ → Job T → Type 0) → List (Job T) → Type 0
EachJob {T} Holds jobs = (place : ℕ) (job : Job T) → slice_get jobs place ≡ Some job → Holds place job

-- a result of a session of the job that stands at this place
abbrev pub IsResultOf : {T C : Type 0} → EncoderConfig → Tables → (ℕ → ℕ → MakerTold T) → (C → CoderTold T) →
    List (Job T) → ℕ → JobResult T C → Type 0
IsResultOf {T} enc tables ahead told jobs place result =
    (job : Job T) × (slice_get jobs place ≡ Some job) × IsSession enc tables ahead told job result

-- each result that is the first for a job is the second for it too
abbrev pub EachIs : {T C : Type 0} → (ℕ → JobResult T C → Type 0) → (ℕ → JobResult T C → Type 0) → Type 0
EachIs {T} {C} First Second = (job : ℕ) (result : JobResult T C) → First job result → Second job result

-- all that a worker needs: jobs in their order that sessions take, a queue of their numbers, and a run with as many jobs, to which
-- the results of their sessions belong
pub record CanWork {T C : Type 0} (refusal : Option InvalidConfig) (enc : EncoderConfig) (tables : Tables) (ahead : ℕ → ℕ → MakerTold T)
    (told : C → CoderTold T) (jobs : List (Job T)) (queue : Queue) (count : ℕ) (belongs : ℕ → JobResult T C → Type 0) : Type 0 where
  pub valid : refusal ≡ None
  pub frames : EachJob (λ place job. AreFitting enc job.frames) jobs
  pub numbers : EachJob (λ place job. job.number ≡ place) jobs
  pub queue_of : queue.jobs ≡ length jobs
  pub run : count ≡ length jobs
  pub belonging : EachIs (IsResultOf enc tables ahead told jobs) belongs

-- ---- what a worker did

-- the numbers that a pass was given since
abbrev pub given_since : Passing → Passing → List ℕ
given_since before after = drop (length before.part.popped) after.part.popped

-- a row in which the entries of these jobs were set where they were absent, each with a result that is the job's
pub record IsFilled {T C : Type 0} (belongs : ℕ → JobResult T C → Type 0) (jobs : List ℕ) (before after : Row T C) : Type 0 where
  -- each of these jobs that the row has room for has its entry, or was collected
  pub there : (job : ℕ) → Contains jobs job → job < length before.entries → is_absent after job ≡ false
  -- the entries that were there are unchanged
  pub kept : (job : ℕ) → is_absent before job ≡ false → entry_at after job ≡ entry_at before job
  -- no other was set
  pub others : (job : ℕ) → (Contains jobs job → ⊥) → entry_at after job ≡ entry_at before job
  -- what was set is the job's
  pub its : (job : ℕ) (result : JobResult T C) → entry_at after job ≡ Some result →
      (entry_at before job ≡ Some result) ⊎ belongs job result
  -- nothing was collected
  pub collected : after.collected ≡ before.collected
  pub same_length : length after.entries ≡ length before.entries

-- the same, where the row is told; who tells goes on telling
abbrev pub Fills : {T C : Type 0} → (ℕ → JobResult T C → Type 0) → List ℕ → Option (Row T C) → Option (Row T C) → Type 0
Fills belongs jobs None after = ⊤
Fills belongs jobs (Some before) None = ⊥
Fills belongs jobs (Some before) (Some after) = IsFilled belongs jobs before after
