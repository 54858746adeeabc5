-- From the run of a session in two passes with a script's configuration to what is said of the script.
use Rattle.std.proofs.Common.{◌≡◌, ℕ, Bool, true, false, if◌then◌else◌, List, map, None, Ok, refl, sym, ap, subst, subst₂}
use Rattle.std.specs.List.{flat_map}
use Rattle.av1_settings.specs.declared.config.Config.{Config}
use Rattle.av1_settings.specs.declared.encoder.EncoderConfig.{EncoderConfig}
use Rattle.av1_settings.specs.declared.level.LevelTables.{LevelTables}
use Rattle.av1_settings.specs.declared.rate_control.RateControlConfig.{RateControlConfig}
use Rattle.pass_data.specs.declared.error.PassDataError.{PassDataError}
use Rattle.pass_data.specs.Number.{number_of}
use Rattle.quantizers.specs.Tables.{Tables}
use Rattle.script_lines.specs.declared.script.Script.{Script}
use Rattle.script_lines.specs.Grammar.{IsConfig, IsRateControl, config_of}
use Rattle.script_lines.specs.SettingLines.{encoder_of}
use Rattle.scripted.specs.NoLevels.{no_levels}
use Rattle.scripted.specs.ScriptedTables.{scripted_tables}
use Rattle.session_core.specs.declared.pass_transcript.PassCall.{PassCall}
use Rattle.session_core.specs.declared.pass_transcript.PassTranscript.{PassTranscript}
use Rattle.session_core.specs.PassSessions.{IsPassSessionRun, IsRefusedAt, PassFailsAt, passes_refusal}
use Rattle.session_core.specs.Told.{Heard}
use Rattle.session_script.specs.Calls.{asked_for_passes, asked_in_passes}
use Rattle.session_text.specs.declared.report.ReportOptions.{ReportOptions}
use Rattle.session_script.specs.Carried.{heard_first, options_of}
use Rattle.session_script.specs.Causes.{HasRefusedPacket, IsCarriedOut, IsStopped, refusal_for}
use Rattle.session_script.specs.Passes.{IsValidInPasses, PassesCarryOut, PassesRefuse, PassesStopAt, asking, pass_refusal}
use Rattle.session_script.specs.declared.outcome.Account.TheVariants.{Passes}
use Rattle.session_script.specs.declared.words.Task.TheVariants.{FirstPass, SecondPass}

-- ---- a configuration that asks for pass data or not

abbrev pub changed : Bool → Config → Config
changed emits config = record config { rate_control = asking emits config.rate_control }

pub changed_of : (emits : Bool) (script : Script) (config : Config) (made : IsConfig script config) →
    changed emits config ≡ config_of script (asking emits made.0)
changed_of emits script config made = ap (changed emits) made.2

-- ---- the word of a session in two passes

pub refusal_in : (emits : Bool) (script : Script) (control : RateControlConfig) →
    refusal_for (if emits then FirstPass else SecondPass) script control ≡ pass_refusal emits script control
refusal_in true script control = refl
refusal_in false script control = refl

pub carried_in : (heard : Heard ℕ) (emits : Bool) (transcript : PassTranscript ℕ ℕ) (options : ReportOptions) (script : Script) →
    PassesCarryOut heard emits script transcript → options ≡ options_of script →
    IsCarriedOut heard (if emits then FirstPass else SecondPass) (Passes transcript options) (Ok script)
carried_in heard true transcript options script carried same = (carried, same)
carried_in heard false transcript options script carried same = (carried, same)

pub stopped_in : (heard : Heard ℕ) (emits : Bool) (command : ℕ) (script : Script) → PassesStopAt heard emits script command →
    IsStopped heard (if emits then FirstPass else SecondPass) command (Ok script)
stopped_in heard true command script stopped = stopped
stopped_in heard false command script stopped = stopped

pub refused_in : (heard : Heard ℕ) (emits : Bool) (number : ℕ) (script : Script) → PassesRefuse heard emits script number →
    HasRefusedPacket heard (if emits then FirstPass else SecondPass) number (Ok script)
refused_in heard true number script refused = refused
refused_in heard false number script refused = refused

-- ---- the session

module _ (emits : Bool) (script : Script) (control : RateControlConfig) (config : Config) (levels : LevelTables) (tables : Tables)
    (calls : List (PassCall ℕ ℕ)) (before after : Heard ℕ)
    (summary : IsRateControl script.summary control) (same : config ≡ config_of script (asking emits control))
    (none : passes_refusal 8 levels config ≡ None) (own : levels ≡ no_levels) (same_tables : tables ≡ scripted_tables)
    (asked : map asked_in_passes calls ≡ flat_map (asked_for_passes emits config.enc) script.calls)
    (begun : before ≡ heard_first script) where
  valid : IsValidInPasses emits script control calls
  valid = record {
    summary = summary;
    valid = subst₂ (λ (levels : LevelTables) (config : Config). passes_refusal 8 levels config ≡ None) own same none;
    asked = subst (λ (config : Config). map asked_in_passes calls ≡ flat_map (asked_for_passes emits config.enc) script.calls) same asked;
  }

  moved : (P : EncoderConfig → Tables → RateControlConfig → Heard ℕ → Type 0) → P config.enc tables config.rate_control before →
      P (encoder_of script.settings) scripted_tables (asking emits control) (heard_first script)
  moved P holds =
      subst₂ (λ (tables : Tables) (heard : Heard ℕ). P (encoder_of script.settings) tables (asking emits control) heard) same_tables begun
      (subst (λ (config : Config). P config.enc tables config.rate_control before) same holds)

  pub carry_out : (transcript : PassTranscript ℕ ℕ) → IsPassSessionRun config.enc tables config.rate_control calls transcript before after →
      PassesCarryOut after emits script transcript
  carry_out transcript session = record {
    control = control;
    calls = calls;
    valid = valid;
    session = moved (λ enc tables control heard. IsPassSessionRun enc tables control calls transcript heard after) session;
  }

  pub stop_at : (command : ℕ) → PassFailsAt config.enc tables config.rate_control calls before after command →
      PassesStopAt after emits script command
  stop_at command fails = record {
    control = control;
    calls = calls;
    valid = valid;
    fails = moved (λ enc tables control heard. PassFailsAt enc tables control calls heard after command) fails;
  }

  pub refuse : (refusal : PassDataError) (number : ℕ) → IsRefusedAt config.enc tables config.rate_control calls before after refusal →
      number ≡ number_of refusal → PassesRefuse after emits script number
  refuse refusal number refused named = record {
    control = control;
    calls = calls;
    valid = valid;
    refusal = refusal;
    refused = moved (λ enc tables control heard. IsRefusedAt enc tables control calls heard after refusal) refused;
    named = sym named;
  }
