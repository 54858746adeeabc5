-- One result that a worker left.
use Rattle.std.specs.Prelude.{◌≡◌, ℕ, Option, option_map}
use Rattle.av1_settings.specs.declared.encoder.EncoderConfig.{EncoderConfig}
use Rattle.quantizers.specs.Tables.{Tables}
use Rattle.session_core.specs.Told.{CoderTold}
use Rattle.gop_board.specs.declared.job.Job.{Job}
use Rattle.gop_board.specs.declared.job_result.JobResult.{JobResult}
use Rattle.gop_board.specs.JobSessions.{IsSession}
use Rattle.gop_board.specs.Makers.{MakerTold}
use Rattle.gop_board.specs.Rows.{Row, with_absent_entry}

-- each result of a session of the job belongs to it
abbrev pub SessionsBelong : {T C : Type 0} → EncoderConfig → Tables → (ℕ → ℕ → MakerTold T) → (C → CoderTold T) →
    (ℕ → JobResult T C → Type 0) → Job T → Type 0
SessionsBelong {T} {C} enc tables ahead told belongs job =
    (result : JobResult T C) → IsSession enc tables ahead told job result → belongs job.number result

-- a result of a session of the job was left for it, where a row is told
pub record IsDeposited {T C : Type 0} (enc : EncoderConfig) (tables : Tables) (ahead : ℕ → ℕ → MakerTold T)
    (told : C → CoderTold T) (job : Job T) (before after : Option (Row T C)) : Type 0 where
  pub result : JobResult T C
  pub session : IsSession enc tables ahead told job result
  pub row : after ≡ option_map (λ row. with_absent_entry row job.number result) before
