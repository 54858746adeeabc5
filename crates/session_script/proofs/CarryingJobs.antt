-- From jobs with a script's configuration to what is said of the script.
use Rattle.std.proofs.Common.{◌≡◌, ℕ, false, List, None, count_by, replicate, ap, subst₂, ◌∙◌}
use Rattle.std.specs.Prelude.{⊤}
use Rattle.av1_frame.specs.declared.frame.Frame.{Frame}
use Rattle.av1_settings.specs.declared.config.Config.{Config}
use Rattle.av1_settings.specs.declared.encoder.EncoderConfig.{EncoderConfig}
use Rattle.av1_settings.specs.declared.level.LevelTables.{LevelTables}
use Rattle.av1_settings.specs.Checks.{asks_passes, session_refusal}
use Rattle.gop_board.specs.Encoding.{IsJobFault, IsWhole}
use Rattle.quantizers.specs.Tables.{Tables}
use Rattle.script_lines.specs.declared.script.Script.{Script}
use Rattle.script_lines.specs.Grammar.{IsConfig}
use Rattle.script_lines.specs.SettingLines.{encoder_of}
use Rattle.scripted.specs.declared.coder.ScriptedCoder.{ScriptedCoder}
use Rattle.scripted.specs.CoderLog.{coder_told}
use Rattle.scripted.specs.DetectorLog.{asked_first}
use Rattle.scripted.specs.NoLevels.{no_levels}
use Rattle.scripted.specs.ScriptedTables.{scripted_tables}
use Rattle.session_core.specs.declared.packet.Packet.{Packet}
use Rattle.session_core.specs.Told.{DetectorTold}
use Rattle.session_script.specs.Calls.{own_picture}
use Rattle.session_script.specs.Jobs.{JobStops, JobsCarryOut, frames_of, is_send, told_ahead}
use Rattle.session_script.proofs.ScriptConfigs.{enc_of, valid_of}

module _ (script : Script) (config : Config) (levels : LevelTables) (tables : Tables) (frames : List (Frame ℕ)) (before after : DetectorTold ℕ)
    (made : IsConfig script config) (none : session_refusal 8 levels config ≡ None) (own : levels ≡ no_levels) (same_tables : tables ≡ scripted_tables)
    (single : asks_passes config ≡ false) (sent : frames ≡ replicate (count_by is_send script.calls) (own_picture config.enc))
    (begun : before ≡ asked_first script.cuts) where
  enc : config.enc ≡ encoder_of script.settings
  enc = enc_of script config levels made none own single

  all_sent : frames ≡ frames_of script
  all_sent = sent ∙ ap (λ (enc : EncoderConfig). replicate (count_by is_send script.calls) (own_picture enc)) enc

  moved : (P : EncoderConfig → Tables → List (Frame ℕ) → DetectorTold ℕ → Type 0) → P config.enc tables frames before →
      P (encoder_of script.settings) scripted_tables (frames_of script) (asked_first script.cuts)
  moved P holds =
      subst₂ (λ (tables : Tables) (told : DetectorTold ℕ). P (encoder_of script.settings) tables (frames_of script) told) same_tables begun
      (subst₂ (λ (enc : EncoderConfig) (frames : List (Frame ℕ)). P enc tables frames before) enc all_sent holds)

  pub jobs_carry : (packets : List (Packet ℕ ⊤)) → IsWhole config.enc tables (told_ahead script) frames before after packets →
      JobsCarryOut script packets
  jobs_carry packets whole = record {
    valid = valid_of script config levels made none own single;
    asked = after;
    whole = moved (λ enc tables frames told. IsWhole enc tables (told_ahead script) frames told after packets) whole;
  }

  pub jobs_stop : (job command : ℕ) (coder : ScriptedCoder) →
      IsJobFault config.enc tables (told_ahead script) coder_told frames before after job command coder → JobStops script job command
  jobs_stop job command coder fault = record {
    valid = valid_of script config levels made none own single;
    asked = after;
    coder = coder;
    fault = moved (λ enc tables frames told. IsJobFault enc tables (told_ahead script) coder_told frames told after job command coder) fault;
  }
