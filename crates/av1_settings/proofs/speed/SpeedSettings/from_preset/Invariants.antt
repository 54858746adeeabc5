use Rattle.std.proofs.Common.{◌≡◌}
use Rattle.av1_settings.specs.Presets.{from_preset}
use Rattle.av1_settings.proofs.speed.SpeedSettings.from_preset.Given as goal

abbrev pub invariant-loop-before : goal.invariant-loop-before
invariant-loop-before l = l.settings ≡ from_preset l.before
