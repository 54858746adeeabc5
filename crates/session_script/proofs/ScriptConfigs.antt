-- The configuration of a script that is run.
use Rattle.std.proofs.Common.{◌≡◌, ℕ, ◌↔◌, true, false, ◌||◌, IsTrue, List, Option, Some, None, is_some, Result, Err, refl, ap, subst₂, ◌∙◌, ℤ}
use Rattle.pass_stats.specs.declared.error.RateControlError.{RateControlError}
use Rattle.pass_stats.specs.declared.error.RateControlError.TheVariants.{InvalidVersion, CorruptedSummary}
use Rattle.pass_stats.specs.declared.error.Why.{Why}
use Rattle.av1_settings.specs.declared.config.Config.{Config}
use Rattle.av1_settings.specs.declared.rate_control.RateControlConfig.{RateControlConfig}
use Rattle.av1_settings.specs.declared.level.LevelTables.{LevelTables}
use Rattle.av1_settings.specs.Checks.{asks_passes, session_refusal}
use Rattle.av1_settings.specs.Defaults.{default_rate_control}
use Rattle.script_lines.specs.declared.script.Script.{Script}
use Rattle.script_lines.specs.Grammar.{IsConfig, IsRateControl, config_of}
use Rattle.script_lines.specs.SettingLines.{encoder_of}
use Rattle.scripted.specs.NoLevels.{no_levels}
use Rattle.session_script.specs.Carried.{IsValidScript}

-- an error is a refused summary
pub some_cause : (answer : Result Config RateControlError) (refusal : Option Why) (error : RateControlError) → answer ≡ Err error →
    ((why : Why) → (answer ≡ Err (CorruptedSummary why)) ↔ (refusal ≡ Some why)) → ((v : ℤ) → answer ≡ Err (InvalidVersion v) → ⊥) →
    IsTrue (is_some refusal)
some_cause answer refusal (CorruptedSummary why) is cause never = rw ((cause why).0 is)
some_cause answer refusal (InvalidVersion v) is cause never = absurd (never v is)

-- without a second pass no summary was given
no_summary : (summary : Option (List ℕ)) (rate_control : RateControlConfig) → IsRateControl summary rate_control →
    (rate_control.emit_data || is_some rate_control.summary) ≡ false → (summary ≡ None) × (rate_control ≡ default_rate_control)
no_summary None rate_control is one = (refl, is)
no_summary (Some bytes) rate_control is one =
    let given : (false || true) ≡ false = rw is.2 at one in cc

one_pass : (script : Script) (config : Config) → IsConfig script config → asks_passes config ≡ false →
    (script.summary ≡ None) × (config ≡ config_of script default_rate_control)
one_pass script config is one =
    let rate : (is.0.emit_data || is_some is.0.summary) ≡ false = rw is.2 at one in
    let plain = no_summary script.summary is.0 is.1 rate in
    (plain.0, is.2 ∙ ap (config_of script) plain.1)

module _ (script : Script) (config : Config) (levels : LevelTables)
    (made : IsConfig script config) (none : session_refusal 8 levels config ≡ None) (own : levels ≡ no_levels) (single : asks_passes config ≡ false) where
  pub enc_of : config.enc ≡ encoder_of script.settings
  enc_of = ap (λ (config : Config). config.enc) (one_pass script config made single).1

  pub valid_of : IsValidScript script
  valid_of = record {
    one_pass = (one_pass script config made single).0;
    valid = subst₂ (λ (levels : LevelTables) (config : Config). session_refusal 8 levels config ≡ None) own (one_pass script config made single).1 none;
  }
