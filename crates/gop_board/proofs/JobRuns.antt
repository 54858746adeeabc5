-- A job's session: its packets, its settings and its faults.
use Rattle.std.proofs.Common.{◌≡◌, ℕ, ◌<◌, inl, inr, List, [], ◌∷◌, ◌++◌, refl, sym, ap, ◌∙◌, subst, arith, append-nil, None, Some}
use Rattle.std.specs.Prelude.{⊤}
use Rattle.std.proofs.lemmas.Grind.{flat_map-append}
use Rattle.std.proofs.lemmas.Option.{none-some}
use Rattle.coding_base.specs.Faults.{Rose}
use Rattle.av1_frame.specs.declared.frame.Frame.{Frame}
use Rattle.av1_settings.specs.declared.config.Config.{Config}
use Rattle.av1_settings.specs.declared.invalid.InvalidConfig.{InvalidConfig}
use Rattle.av1_settings.specs.declared.level.LevelTables.{LevelTables}
use Rattle.av1_settings.specs.Checks.{session_refusal, session_rows, pass_rows, rows_of, size_rows, aspect_rows, structure_rows, time_rows, reservoir_rows, switch_rows, option_rows, level_rows, coding_rows, pixel_rows}
use Rattle.quantizers.specs.Tables.{Tables}
use Rattle.session_core.specs.declared.call.Call.{Call}
use Rattle.session_core.specs.declared.packet.Packet.{Packet}
use Rattle.session_core.specs.declared.transcript.Turn.{Turn}
use Rattle.session_core.specs.Answers.{FailsAt}
use Rattle.session_core.specs.Sessions.{packets_of}
use Rattle.session_core.specs.Taken.{packet_of}
use Rattle.session_core.specs.Told.{Heard}
use Rattle.gop_board.specs.JobCalls.{AreJobCalls, job_settings}
use Rattle.gop_board.specs.JobSessions.{IsSessionFault}

-- the packets with those of one turn more
pub packets-push : {T : Type 0} (turns : List (Turn T ⊤)) (turn : Turn T ⊤) → packets_of (turns ++ turn ∷ []) ≡ packets_of turns ++ packet_of turn.reply
packets-push {T} turns turn =
    flat_map-append (λ (one : Turn T ⊤). packet_of one.reply) turns (turn ∷ [])
    ∙ ap (λ (l : List (Packet T ⊤)). packets_of turns ++ l) (append-nil (packet_of turn.reply))

-- a count that rose from 0 isn't 0
pub rose-above : (before now : ℕ) → before ≡ 0 → Rose before now → 0 < now
rose-above before now none (inl rose) = omega arith
rose-above before now none (inr stands) = absurd (omega (arith, stands.0))

-- a job's settings are refused as the configuration's
pub job-refusal : (bits : ℕ) (levels : LevelTables) (config : Config) →
    session_refusal bits levels (record config { enc = job_settings config.enc }) ≡ session_refusal bits levels config
unfolding session_refusal session_rows pass_rows rows_of size_rows aspect_rows structure_rows time_rows reservoir_rows switch_rows option_rows level_rows coding_rows pixel_rows
job-refusal bits levels config = refl

pub job-valid : (bits : ℕ) (levels : LevelTables) (config settings : Config) → settings ≡ config → session_refusal bits levels config ≡ None → (v : InvalidConfig) →
    session_refusal bits levels (record settings { enc = job_settings settings.enc }) ≡ Some v → ⊥
job-valid bits levels config settings same valid v refused =
    none-some v (sym (job-refusal bits levels settings ∙ ap (session_refusal bits levels) same ∙ valid) ∙ refused)

module _ {T : Type 0} (tables : Tables) (pictures : List (Frame T)) (calls : List (Call T ⊤)) (before after : Heard T) (config settings : Config) (same : settings ≡ config)
    (are : AreJobCalls config.enc pictures calls) where
  -- the fault of a session with the job's settings is the job's
  pub fault-of : (command : ℕ) → before.coder.faults ≡ 0 → FailsAt (job_settings settings.enc) tables calls before after command →
      IsSessionFault config.enc tables pictures before after command
  fault-of command none fails = record {
    calls = calls;
    calls_are = are;
    fails = subst (λ (one : Config). FailsAt (job_settings one.enc) tables calls before after command) same fails;
    counted = rose-above _ _ none fails.stopped.rose;
  }
