use Rattle.std.proofs.Common.{◌≡◌, drop}
use Rattle.script_lines.specs.SettingLines.{preset_of}
use Rattle.script_lines.proofs.script.Script.preset.Given as goal

abbrev pub invariant-loop-setting : goal.invariant-loop-setting
invariant-loop-setting l = preset_of (drop l.setting-index l.setting-items) ≡ preset_of l.setting-items
