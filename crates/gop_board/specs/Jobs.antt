-- The jobs that a list of frames is split into, and what the detector is asked for that.
use Rattle.std.specs.Prelude.{ℕ, ◌≡◌, ◌+◌, ◌-◌, ◌<◌, Bool, nat_lt, ◌==◌, max, List, map, filter, fold, length, take, drop, flat_map, sum_by, slice_get, Some, IfSome}
use Rattle.std.specs.List.{list_any, range_with_len}
use Rattle.av1_frame.specs.declared.frame.Frame.{Frame}
use Rattle.av1_settings.specs.declared.encoder.EncoderConfig.{EncoderConfig}
use Rattle.pyramid.specs.Numbers.{ahead}
use Rattle.pyramid.specs.Settings.{numbers_of}
use Rattle.session_core.specs.Told.{Asked, DetectorTold, Grew, told_ask}
use Rattle.gop_board.specs.declared.job.Job.{Job}

-- ---- jobs

abbrev pub pictures : {T : Type 0} → Job T → List (Frame T)
pictures job = map (λ frame. frame.value) job.frames

-- how many frames jobs have
abbrev pub frames_in : {T : Type 0} → List (Job T) → ℕ
frames_in jobs = sum_by (λ job. length job.frames) jobs

-- a job at its place: it has that number, begins behind the frames of the jobs before it, and
-- has frames
pub record IsJob {T : Type 0} (jobs : List (Job T)) (place : ℕ) (job : Job T) : Type 0 where
  pub number : job.number ≡ place
  pub first : job.first ≡ frames_in (take place jobs)
  pub some : 0 < length job.frames

-- jobs that join to these frames
pub record AreJobs {T : Type 0} (frames : List (Frame T)) (jobs : List (Job T)) : Type 0 where
  pub joined : flat_map pictures jobs ≡ frames
  pub each : (place : ℕ) (job : Job T) → slice_get jobs place ≡ Some job → IsJob jobs place job

-- the positions at which jobs start
abbrev pub starts_of : {T : Type 0} → List (Job T) → List ℕ
starts_of jobs = map (λ job. job.first) jobs

-- ---- what the detector is asked

abbrev pub is_start : List ℕ → ℕ → Bool
is_start starts position = list_any (λ start. start == position) starts

-- the last start before a position
abbrev pub last_start : List ℕ → ℕ → ℕ
last_start starts position = fold max 0 (filter (λ start. nat_lt start position) starts)

-- the frames handed over for a position: those from the one before it on, at most `ahead + 1`
abbrev pub frames_near : {T : Type 0} → EncoderConfig → List (Frame T) → ℕ → List (Frame T)
frames_near enc frames position = take (ahead (numbers_of enc) + 1) (drop (position - 1) frames)

-- the question of a position, and its answer: yes where a job starts
abbrev pub question : {T : Type 0} → EncoderConfig → List (Frame T) → List ℕ → ℕ → Asked T
question enc frames starts position =
    told_ask enc.speed_settings.scene_detection_mode (frames_near enc frames position) position
    (last_start starts position) (is_start starts position)

-- one for each position but 0, in order
abbrev pub questions : {T : Type 0} → EncoderConfig → List (Frame T) → List ℕ → List (Asked T)
questions enc frames starts =
    map (question enc frames starts) (range_with_len 1 (length frames - 1))

-- ---- the whole

-- frames are split into jobs at 0 and where the detector answers yes; it is asked exactly these
-- questions
pub record IsSplit {T : Type 0} (enc : EncoderConfig) (frames : List (Frame T))
    (jobs : List (Job T)) (before after : DetectorTold T) : Type 0 where
  pub jobs_are : AreJobs frames jobs
  pub asked : Grew before.questions after.questions (questions enc frames (starts_of jobs))
  -- where the answers are told ahead, jobs start at just these
  pub told_ahead : IfSome before.answers (λ at. (position : ℕ) →
      0 < position → position < length frames → is_start (starts_of jobs) position ≡ at position)
