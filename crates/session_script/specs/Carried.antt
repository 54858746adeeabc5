-- What the program says of a session in one pass that it ran: why a configuration is refused, and what a transcript is.
use Rattle.std.specs.Prelude.{◌≡◌, ℕ, Bool, true, false, List, map, Option, None}
use Rattle.std.specs.List.{list_any}
use Rattle.av1_settings.specs.declared.invalid.InvalidConfig.{InvalidConfig}
use Rattle.av1_settings.specs.declared.rate_control.RateControlConfig.{RateControlConfig}
use Rattle.av1_settings.specs.Checks.{session_refusal}
use Rattle.av1_settings.specs.Defaults.{default_rate_control}
use Rattle.script_lines.specs.declared.answer.Print.{Print}
use Rattle.script_lines.specs.declared.answer.Print.TheVariants.{Bytes as PrintBytes, QuantizerIndex, Reservoir as PrintReservoir}
use Rattle.script_lines.specs.declared.script.Script.{Script}
use Rattle.script_lines.specs.Grammar.{config_of}
use Rattle.script_lines.specs.SettingLines.{encoder_of}
use Rattle.scripted.specs.declared.coder.ScriptedCoder.{ScriptedCoder}
use Rattle.scripted.specs.declared.detector.ScriptedDetector.{ScriptedDetector}
use Rattle.scripted.specs.declared.scales.ScriptedScales.{ScriptedScales}
use Rattle.scripted.specs.CoderLog.{coder_told, told_first}
use Rattle.scripted.specs.DetectorLog.{asked_first, detector_told}
use Rattle.scripted.specs.NoLevels.{no_levels}
use Rattle.scripted.specs.ScalesLog.{scaled_first, scales_told}
use Rattle.scripted.specs.ScriptedTables.{scripted_tables}
use Rattle.session_core.specs.declared.call.Call.{Call}
use Rattle.session_core.specs.declared.transcript.Transcript.{Transcript}
use Rattle.session_core.specs.Answers.{FailsAt}
use Rattle.session_core.specs.Sessions.{IsSessionRun}
use Rattle.session_core.specs.Told.{Heard, heard}
use Rattle.session_text.specs.declared.report.ReportOptions.{ReportOptions}
use Rattle.session_script.specs.Calls.{asked_by, asked_for}

-- what the coder, the detector and the mean scales of a run tell
abbrev pub heard_of : ScriptedCoder → ScriptedDetector → ScriptedScales → Heard ℕ
heard_of coder detector scales = heard (coder_told coder) (detector_told detector) (scales_told scales)

-- what they tell before the session of a script: no call yet; the coder gives the bytes that the script sets, and its first
-- call that fails is that of the least fault number; the detector answers yes at exactly the cuts; each frame has the mean
-- scale that the script sets, else 0
abbrev pub heard_first : Script → Heard ℕ
heard_first script =
    heard (told_first script.byte_counts script.faults) (asked_first script.cuts) (scaled_first script.scales)

-- what a script has its report print besides
abbrev pub asks_bytes : Print → Bool
asks_bytes PrintBytes = true
asks_bytes print = false

abbrev pub asks_index : Print → Bool
asks_index QuantizerIndex = true
asks_index print = false

abbrev pub asks_reservoir : Print → Bool
asks_reservoir PrintReservoir = true
asks_reservoir print = false

abbrev pub options_of : Script → ReportOptions
options_of script = record {
  bytes = list_any asks_bytes script.prints;
  quantizer_index = list_any asks_index script.prints;
  reservoir = list_any asks_reservoir script.prints;
}

-- why the configuration of a script is refused, with this rate control: the program's pixels have 8 bits, and its tables
-- define no level
abbrev pub script_refusal : Script → RateControlConfig → Option InvalidConfig
script_refusal script rate_control = session_refusal 8 no_levels (config_of script rate_control)

-- a script gives no summary, and its configuration is not refused
pub record IsValidScript (script : Script) : Type 0 where
  pub one_pass : script.summary ≡ None
  pub valid : script_refusal script default_rate_control ≡ None

-- these are the calls of a script, all plain frames being one picture
abbrev pub AreCallsOf : Script → List (Call ℕ ℕ) → Type 0
AreCallsOf script calls =
    map asked_by calls ≡ map (asked_for (encoder_of script.settings)) script.calls

-- a session carried out the calls of a script with its configuration, coder, detector and mean scales, which tell this
-- afterwards, and with the program's tables
pub record CarriesOut (heard : Heard ℕ) (script : Script) (transcript : Transcript ℕ ℕ) : Type 0 where
  pub valid : IsValidScript script
  pub calls : List (Call ℕ ℕ)
  pub asked : AreCallsOf script calls
  pub session : IsSessionRun (encoder_of script.settings) scripted_tables calls transcript (heard_first script) heard

-- a session carried out the calls of a script up to the receive in which its coder failed
pub record StopsAt (heard : Heard ℕ) (script : Script) (command : ℕ) : Type 0 where
  pub valid : IsValidScript script
  pub calls : List (Call ℕ ℕ)
  pub asked : AreCallsOf script calls
  pub fails : FailsAt (encoder_of script.settings) scripted_tables calls (heard_first script) heard command
