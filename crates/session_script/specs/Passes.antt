-- What the program says of a session in two passes that it ran. It may ask for pass data, as its first pass; a script's summary
-- makes a second.
use Rattle.std.specs.Prelude.{◌≡◌, ℕ, Bool, List, flat_map, map, Option, None}
use Rattle.av1_settings.specs.declared.invalid.InvalidConfig.{InvalidConfig}
use Rattle.av1_settings.specs.declared.rate_control.RateControlConfig.{RateControlConfig}
use Rattle.pass_data.specs.declared.error.PassDataError.{PassDataError}
use Rattle.pass_data.specs.Number.{number_of}
use Rattle.script_lines.specs.declared.script.Script.{Script}
use Rattle.script_lines.specs.Grammar.{IsRateControl, config_of}
use Rattle.script_lines.specs.SettingLines.{encoder_of}
use Rattle.scripted.specs.NoLevels.{no_levels}
use Rattle.scripted.specs.ScriptedTables.{scripted_tables}
use Rattle.session_core.specs.declared.pass_transcript.PassCall.{PassCall}
use Rattle.session_core.specs.declared.pass_transcript.PassTranscript.{PassTranscript}
use Rattle.session_core.specs.PassSessions.{IsPassSessionRun, IsRefusedAt, PassFailsAt, passes_refusal}
use Rattle.session_core.specs.Told.{Heard}
use Rattle.session_script.specs.Calls.{asked_for_passes, asked_in_passes}
use Rattle.session_script.specs.Carried.{heard_first}

-- rate control, asking for pass data or not
abbrev pub asking : Bool → RateControlConfig → RateControlConfig
asking emits control = record control { emit_data = emits }

-- why the configuration of a script is refused in two passes, with this rate control
abbrev pub pass_refusal : Bool → Script → RateControlConfig → Option InvalidConfig
pass_refusal emits script control = passes_refusal 8 no_levels (config_of script (asking emits control))

-- these are the calls of a script in two passes, all plain frames being one picture
abbrev pub ArePassCallsOf : Bool → Script → List (PassCall ℕ ℕ) → Type 0
ArePassCallsOf emits script calls =
    map asked_in_passes calls ≡ flat_map (asked_for_passes emits (encoder_of script.settings)) script.calls

-- the configuration of a script isn't refused, and these are the calls and the rate control of its session
pub record IsValidInPasses (emits : Bool) (script : Script) (control : RateControlConfig) (calls : List (PassCall ℕ ℕ)) : Type 0 where
  pub summary : IsRateControl script.summary control
  pub valid : pass_refusal emits script control ≡ None
  pub asked : ArePassCallsOf emits script calls

-- a session carried out the calls of a script with its configuration, coder, detector and mean scales, which tell this
-- afterwards, and with the program's tables
pub record PassesCarryOut (heard : Heard ℕ) (emits : Bool) (script : Script) (transcript : PassTranscript ℕ ℕ) : Type 0 where
  pub control : RateControlConfig
  pub calls : List (PassCall ℕ ℕ)
  pub valid : IsValidInPasses emits script control calls
  pub session : IsPassSessionRun (encoder_of script.settings) scripted_tables (asking emits control) calls transcript (heard_first script) heard

-- a session carried them out up to the receive in which its coder failed
pub record PassesStopAt (heard : Heard ℕ) (emits : Bool) (script : Script) (command : ℕ) : Type 0 where
  pub control : RateControlConfig
  pub calls : List (PassCall ℕ ℕ)
  pub valid : IsValidInPasses emits script control calls
  pub fails : PassFailsAt (encoder_of script.settings) scripted_tables (asking emits control) calls (heard_first script) heard command

-- a session carried them out up to pass data that it refused, by the error of this number
pub record PassesRefuse (heard : Heard ℕ) (emits : Bool) (script : Script) (number : ℕ) : Type 0 where
  pub control : RateControlConfig
  pub calls : List (PassCall ℕ ℕ)
  pub valid : IsValidInPasses emits script control calls
  pub refusal : PassDataError
  pub refused : IsRefusedAt (encoder_of script.settings) scripted_tables (asking emits control) calls (heard_first script) heard refusal
  pub named : number_of refusal ≡ number
