use Rattle.std.proofs.Common.{◌≡◌, ◌+◌, min, ◌∙◌, sym, ap, arith}
use Rattle.av1_settings.specs.Presets.{preset_change}
use Rattle.av1_settings.proofs.PresetLemmas.{next_preset, preset_zero, last_preset}
use Rattle.av1_settings.proofs.speed.SpeedSettings.from_preset.Goals as goal

pub loop-before-init : goal.loop-before-init
loop-before-init c = c.default-settings.ensures ∙ sym preset_zero

pub loop-before-preserved : goal.loop-before-preserved
loop-before-preserved c =
    c.change.ensures
    ∙ ap (preset_change (c.loop-before.before + 1)) c.loop-before.invariant
    ∙ next_preset c.loop-before.before

pub returns : goal.returns
returns c =
    let least : c.loop-before.before ≡ min c.args.speed 10 = omega arith in
    c.loop-before.invariant ∙ last_preset c.args.speed c.loop-before.before least
