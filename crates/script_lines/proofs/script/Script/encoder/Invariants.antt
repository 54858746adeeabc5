use Rattle.std.proofs.Common.{◌≡◌, fold, take}
use Rattle.av1_settings.specs.Defaults.{with_speed_preset}
use Rattle.script_lines.specs.SettingLines.{preset_of, with_setting}
use Rattle.script_lines.proofs.script.Script.encoder.Given as goal

abbrev pub invariant-loop-setting : goal.invariant-loop-setting
invariant-loop-setting l =
    l.enc ≡ fold with_setting (with_speed_preset (preset_of l.setting-items)) (take l.setting-index l.setting-items)
