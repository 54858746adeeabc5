-- The schedule of a job's frames.
use Rattle.std.specs.Prelude.{ℕ, Bool, [], ◌∷◌}
use Rattle.av1_settings.specs.declared.encoder.EncoderConfig.{EncoderConfig}
use Rattle.av1_settings.specs.Settings.{interval_of}
use Rattle.pyramid.specs.declared.schedule.Schedule.{Schedule}
use Rattle.pyramid.specs.Schedules.{IsSchedule}
use Rattle.pyramid.specs.Settings.{numbers_of}

-- so many frames were sent, of which the first alone is a key, and so many commands are done
abbrev pub IsJobSchedule : EncoderConfig → ℕ → Bool → ℕ → Schedule → Type 0
IsJobSchedule enc frames flushed commands schedule =
    IsSchedule (numbers_of enc) (interval_of enc.max_key_frame_interval) frames flushed (0 ∷ []) commands schedule
