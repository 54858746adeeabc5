-- The configuration of a seed's script, and its calls.
use Rattle.std.proofs.Common.{◌≡◌, ℕ, ◌∷◌, ◌++◌, [], true, replicate, None, Result, Ok, Err, IfOk, refl}
use Rattle.std.specs.List.{list_all}
use Rattle.coding_base.specs.declared.memory.OutOfMemory.{OutOfMemory}
use Rattle.av1_settings.specs.declared.level.LevelTables.{LevelTables}
use Rattle.av1_settings.specs.Checks.{session_refusal, session_rows, pass_rows, rows_of, size_rows, aspect_rows, structure_rows, time_rows, reservoir_rows, switch_rows, option_rows, level_rows, coding_rows, pixel_rows, first_failing}
use Rattle.av1_settings.specs.Defaults.{default_rate_control, with_speed_preset}
use Rattle.av1_settings.specs.Presets.{from_preset}
use Rattle.av1_settings.specs.Render.{scaled}
use Rattle.script_lines.specs.declared.line.Action.TheVariants.{Send, Flush, Receive}
use Rattle.script_lines.specs.declared.line.ScriptCall.TheVariants.{Act}
use Rattle.script_lines.specs.declared.script.Script.{Script}
use Rattle.script_lines.specs.Grammar.{GivesNothing, config_of, is_act}
use Rattle.script_lines.proofs.Acts.{all_acts, joined_acts}
use Rattle.generated_script.specs.Generated.{calls_of, script_with}

-- no check of it fails, whatever the levels are
pub script_valid : (levels : LevelTables) (frames receives seed : ℕ) →
    session_refusal 8 levels (config_of (script_with frames receives seed) default_rate_control) ≡ None
unfolding script_with session_refusal session_rows pass_rows rows_of size_rows aspect_rows structure_rows time_rows reservoir_rows switch_rows option_rows level_rows coding_rows pixel_rows first_failing with_speed_preset from_preset scaled
script_valid levels frames receives seed = refl

-- the same of a call's answer
pub answer_valid : (answer : Result Script OutOfMemory) (frames receives seed : ℕ) →
    IfOk answer (λ script. script ≡ script_with frames receives seed) →
    IfOk answer (λ script. (levels : LevelTables) → session_refusal 8 levels (config_of script default_rate_control) ≡ None)
answer_valid (Ok script) frames receives seed is = λ levels. rw is (script_valid levels frames receives seed)
answer_valid (Err error) frames receives seed is = is

calls_act : (frames receives : ℕ) → list_all is_act (calls_of frames receives) ≡ true
calls_act frames receives =
    joined_acts (replicate frames (Act Send) ++ Act Flush ∷ []) (replicate receives (Act Receive))
    (joined_acts (replicate frames (Act Send)) (Act Flush ∷ []) (all_acts frames Send) refl) (all_acts receives Receive)

script_gives_nothing : (frames receives seed : ℕ) → GivesNothing (script_with frames receives seed)
unfolding script_with
script_gives_nothing frames receives seed = calls_act frames receives

-- no pass data is given
pub answer_gives_nothing : (answer : Result Script OutOfMemory) (frames receives seed : ℕ) →
    IfOk answer (λ script. script ≡ script_with frames receives seed) → IfOk answer (λ script. GivesNothing script)
answer_gives_nothing (Ok script) frames receives seed is = rw is (script_gives_nothing frames receives seed)
answer_gives_nothing (Err error) frames receives seed is = is
