-- From the run of a session with a script's configuration to what is said of the script.
use Rattle.std.proofs.Common.{◌≡◌, ℕ, false, List, map, None, subst, subst₂}
use Rattle.av1_settings.specs.declared.config.Config.{Config}
use Rattle.av1_settings.specs.declared.encoder.EncoderConfig.{EncoderConfig}
use Rattle.av1_settings.specs.declared.level.LevelTables.{LevelTables}
use Rattle.av1_settings.specs.Checks.{asks_passes, session_refusal}
use Rattle.script_lines.specs.declared.script.Script.{Script}
use Rattle.script_lines.specs.Grammar.{IsConfig}
use Rattle.script_lines.specs.SettingLines.{encoder_of}
use Rattle.quantizers.specs.Tables.{Tables}
use Rattle.scripted.specs.NoLevels.{no_levels}
use Rattle.scripted.specs.ScriptedTables.{scripted_tables}
use Rattle.session_core.specs.declared.call.Call.{Call}
use Rattle.session_core.specs.declared.transcript.Transcript.{Transcript}
use Rattle.session_core.specs.Answers.{FailsAt}
use Rattle.session_core.specs.Sessions.{IsSessionRun}
use Rattle.session_core.specs.Told.{Heard}
use Rattle.session_script.specs.Calls.{asked_by, asked_for}
use Rattle.session_script.specs.Carried.{AreCallsOf, CarriesOut, IsValidScript, StopsAt, heard_first}
use Rattle.session_script.proofs.ScriptConfigs.{enc_of, valid_of}

module _ (script : Script) (config : Config) (levels : LevelTables) (tables : Tables) (calls : List (Call ℕ ℕ)) (before after : Heard ℕ)
    (made : IsConfig script config) (none : session_refusal 8 levels config ≡ None) (own : levels ≡ no_levels) (same_tables : tables ≡ scripted_tables)
    (single : asks_passes config ≡ false) (asked : map asked_by calls ≡ map (asked_for config.enc) script.calls)
    (begun : before ≡ heard_first script) where
  enc : config.enc ≡ encoder_of script.settings
  enc = enc_of script config levels made none own single

  valid : IsValidScript script
  valid = valid_of script config levels made none own single

  all_asked : AreCallsOf script calls
  all_asked = subst (λ (enc : EncoderConfig). map asked_by calls ≡ map (asked_for enc) script.calls) enc asked

  pub carries : (transcript : Transcript ℕ ℕ) → IsSessionRun config.enc tables calls transcript before after → CarriesOut after script transcript
  carries transcript session = record {
    valid = valid;
    calls = calls;
    asked = all_asked;
    session = subst (λ (tables : Tables). IsSessionRun (encoder_of script.settings) tables calls transcript (heard_first script) after) same_tables
        (subst₂ (λ (enc : EncoderConfig) (heard : Heard ℕ). IsSessionRun enc tables calls transcript heard after) enc begun session);
  }

  pub stops : (command : ℕ) → FailsAt config.enc tables calls before after command → StopsAt after script command
  stops command fails = record {
    valid = valid;
    calls = calls;
    asked = all_asked;
    fails = subst (λ (tables : Tables). FailsAt (encoder_of script.settings) tables calls (heard_first script) after command) same_tables
        (subst₂ (λ (enc : EncoderConfig) (heard : Heard ℕ). FailsAt enc tables calls heard after command) enc begun fails);
  }
