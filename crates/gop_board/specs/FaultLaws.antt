-- What a maker determines that tells the first failing call of a job's coder.
use Rattle.std.specs.Prelude.{◌≡◌, ⊤, ℕ, List, IsSome}
use Rattle.av1_frame.specs.declared.frame.Frame.{Frame}
use Rattle.av1_settings.specs.declared.encoder.EncoderConfig.{EncoderConfig}
use Rattle.quantizers.specs.Tables.{Tables}
use Rattle.session_core.specs.declared.packet.Packet.{Packet}
use Rattle.session_core.specs.Told.{CoderTold}
use Rattle.gop_board.specs.JobSessions.{GavePackets, MetFault}
use Rattle.gop_board.specs.Makers.{MakerTold}

-- where the first failing call of the job's coder is told, or that none fails, no job both gives packets and meets a fault, and a
-- job's fault has one command
pub record FaultsAreDetermined {T M : Type 0} (told : M → ℕ → ℕ → MakerTold T) : Type 0 where
  pub apart : (enc : EncoderConfig) (tables : Tables) (maker : M) (job first : ℕ) (pictures : List (Frame T)) (packets : List (Packet T ⊤)) (command : ℕ) (coder : CoderTold T) →
      IsSome (told maker job first).fails_after → GavePackets enc tables (told maker job first) pictures packets →
      MetFault enc tables (told maker job first) pictures command coder → ⊥
  pub one : (enc : EncoderConfig) (tables : Tables) (maker : M) (job first : ℕ) (pictures : List (Frame T)) (command other : ℕ) (coder other_coder : CoderTold T) →
      IsSome (told maker job first).fails_after → MetFault enc tables (told maker job first) pictures command coder →
      MetFault enc tables (told maker job first) pictures other other_coder → command ≡ other
