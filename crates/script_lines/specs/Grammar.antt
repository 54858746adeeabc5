-- The grammar of scripts, by their dialect: which lines may stand behind which, and what they make.
use Rattle.std.specs.Prelude.{◌≡◌, ⊤, ℕ, ◌+◌, Bool, not, true, false, ◌==◌, ◌&&◌, nat_le, bytes_eq, slice_get, IsTrue, if◌then◌else◌, List, [], ◌∷◌, ◌++◌, ◌-◌, ◌<◌, length, replicate, take, Option, None, Some, option_and_then, Result, Ok, Err}
use Rattle.std.specs.Option.{option_map_or}
use Rattle.std.specs.List.{list_all, list_any}
use Rattle.pass_stats.specs.Summary.{Summary, first_met}
use Rattle.pass_stats.specs.declared.error.Why.{Why}
use Rattle.pass_stats.specs.declared.summary.RCSummary.{RCSummary}
use Rattle.av1_settings.specs.declared.config.Config.{Config}
use Rattle.av1_settings.specs.declared.rate_control.RateControlConfig.{RateControlConfig}
use Rattle.av1_settings.specs.Defaults.{default_config, default_rate_control, second_pass}
use Rattle.script_lines.specs.declared.answer.Answer.{Answer}
use Rattle.script_lines.specs.declared.answer.Answer.TheVariants.{Cut, ByteCount, Fault, Scale}
use Rattle.script_lines.specs.declared.dialect.Dialect.{Dialect}
use Rattle.script_lines.specs.declared.line.Action.TheVariants.{Flush, Send}
use Rattle.script_lines.specs.declared.line.Line.{Line}
use Rattle.script_lines.specs.declared.line.Line.TheVariants.{Blank, Set, Answers, Prints, Summary as SummaryLine, Calls, Gives}
use Rattle.script_lines.specs.declared.line.ScriptCall.{ScriptCall}
use Rattle.script_lines.specs.declared.line.ScriptCall.TheVariants.{Act, Give}
use Rattle.script_lines.specs.declared.script.Draft.{Draft}
use Rattle.script_lines.specs.declared.script.Script.{Script}
use Rattle.script_lines.specs.declared.script.ScriptError.{ScriptError}
use Rattle.script_lines.specs.declared.script.ScriptError.TheVariants.{BadLine, OutOfMemory}
use Rattle.script_lines.specs.declared.script.TheConstants.{MOST_CALLS}
use Rattle.script_lines.specs.Dialects.{ends_with_flush, is_still}
use Rattle.script_lines.specs.Lines.{key_of, line_in, lines_of}
use Rattle.script_lines.specs.SettingLines.{encoder_of}

-- a script without lines
abbrev pub empty_draft : Dialect → Draft
empty_draft dialect = record { dialect = dialect; script = record { settings = []; summary = None; cuts = []; byte_counts = []; faults = []; scales = []; prints = []; calls = [] }; words = [] }

-- a setting stands before the calls, and its word once; so does the summary
abbrev pub may_set : Draft → List ℕ → Bool
may_set draft word = length draft.script.calls == 0 && not (list_any (λ used. bytes_eq used word) draft.words)

abbrev pub is_flush : ScriptCall → Bool
is_flush (Act Flush) = true
is_flush call = false

-- the last of the calls is a flush
abbrev pub is_flushed : List ScriptCall → Bool
is_flushed calls = option_map_or is_flush (slice_get calls (length calls - 1)) false

-- the calls are 100,000 at most, and none stands behind the flush that ends them
abbrev pub may_call : Draft → ℕ → Bool
may_call draft count =
    nat_le (length draft.script.calls + count) MOST_CALLS
    && not (ends_with_flush draft.dialect && is_flushed draft.script.calls)

-- the flush that ends the calls is missing
abbrev pub lacks_flush : Draft → Bool
lacks_flush draft = ends_with_flush draft.dialect && not (is_flushed draft.script.calls)

-- a draft with this script, and one more word of its setting lines
abbrev pub after_word : Draft → List ℕ → Script → Draft
after_word draft word script = record draft { script = script; words = draft.words ++ word ∷ [] }

-- a script with one more answer
abbrev pub with_answer : Script → Answer → Script
with_answer script (Cut frame) = record script { cuts = script.cuts ++ frame ∷ [] }
with_answer script (ByteCount frame count) =
    record script { byte_counts = script.byte_counts ++ (frame, count) ∷ [] }
with_answer script (Fault call) = record script { faults = script.faults ++ call ∷ [] }
with_answer script (Scale frame value) =
    record script { scales = script.scales ++ (frame, value) ∷ [] }

-- the script with one more line of this key, where the line may stand behind it
abbrev pub with_line : Draft → List ℕ → Line → Option Draft
with_line draft word Blank = Some draft
with_line draft word (Set setting) =
    let script = draft.script in
    if may_set draft word
    then Some (after_word draft word (record script { settings = script.settings ++ setting ∷ [] }))
    else None
with_line draft word (Answers answer) =
    if length draft.script.calls == 0
    then Some (record draft { script = with_answer draft.script answer })
    else None
with_line draft word (Prints print) =
    let script = draft.script in
    if may_set draft word
    then Some (after_word draft word (record script { prints = script.prints ++ print ∷ [] }))
    else None
with_line draft word (SummaryLine bytes) =
    let script = draft.script in
    if may_set draft word
    then Some (after_word draft word (record script { summary = Some bytes }))
    else None
with_line draft word (Calls action count) =
    let script = draft.script in
    if may_call draft count
    then Some (record draft { script = record script { calls = script.calls ++ replicate count (Act action) } })
    else None
with_line draft word (Gives bytes) =
    let script = draft.script in
    if may_call draft 1
    then Some (record draft { script = record script { calls = script.calls ++ Give bytes ∷ [] } })
    else None

-- the same of the line's text
abbrev pub with_text : Draft → List ℕ → Option Draft
with_text draft text = option_and_then (with_line draft (key_of text)) (line_in draft.dialect text)

-- the script of a draft behind whose lines this number stands; else the number, where the flush is missing
abbrev pub script_at_end : Draft → ℕ → Result Script ℕ
script_at_end draft number = if lacks_flush draft then Err number else Ok draft.script

-- what the lines from this number on make of a script; else the number of the first that is no line, or can't stand there, or
-- that of the line behind them, where the flush is missing
abbrev pub script_after : Draft → ℕ → List (List ℕ) → Result Script ℕ
script_after draft number [] = script_at_end draft number
script_after draft number (text ∷ lines) =
    option_map_or (λ next. script_after next (number + 1) lines) (with_text draft text) (Err number)

-- the script that bytes are, or the number of the first line, from 1, that isn't in the grammar
unfoldable pub script_of : Dialect → List ℕ → Result Script ℕ
script_of dialect bytes = script_after (empty_draft dialect) 1 (lines_of bytes)

-- what an answer to bytes means that are no script
abbrev pub IsScriptError : Result Script ℕ → ScriptError → Type 0
IsScriptError script (BadLine line) = script ≡ Err line
IsScriptError script OutOfMemory = ⊤

-- ---- what the scripts of a dialect are

-- a call that any session has
abbrev pub is_act : ScriptCall → Bool
is_act (Act action) = true
is_act (Give bytes) = false

-- no call of a script gives pass data
abbrev pub GivesNothing : Script → Type 0
GivesNothing script = IsTrue (list_all is_act script.calls)

-- where GOPs are coded side by side: plain frames, then a flush, and no picture is still
pub record IsOfGops (script : Script) : Type 0 where
  pub frames : ℕ
  pub calls : script.calls ≡ replicate frames (Act Send) ++ Act Flush ∷ []
  pub few : frames < MOST_CALLS
  pub moving : list_any is_still script.settings ≡ false

-- ---- the configuration of a script

-- why the summary line is refused: the first cause for which the statistics codec refuses its bytes
abbrev pub summary_refusal : Script → Option Why
summary_refusal script = option_and_then first_met script.summary

-- what the summary line makes of rate control: nothing where there is none, else the second pass of its summary
abbrev pub IsRateControl : Option (List ℕ) → RateControlConfig → Type 0
IsRateControl None rate_control = rate_control ≡ default_rate_control
IsRateControl (Some bytes) rate_control =
    (summary : RCSummary) × Summary (take 68 bytes) summary × (rate_control ≡ second_pass summary)

-- what the setting lines make, with this rate control
abbrev pub config_of : Script → RateControlConfig → Config
config_of script rate_control =
    record default_config { enc = encoder_of script.settings; rate_control = rate_control }

-- the configuration of a script
abbrev pub IsConfig : Script → Config → Type 0
IsConfig script config =
    (rate_control : RateControlConfig) × IsRateControl script.summary rate_control
    × (config ≡ config_of script rate_control)
