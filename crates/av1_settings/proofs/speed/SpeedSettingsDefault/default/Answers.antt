use Rattle.std.proofs.Common.{refl, ap}
use Rattle.av1_settings.specs.Presets.{slowest}
use Rattle.av1_settings.proofs.speed.SpeedSettingsDefault.default.Goals as goal

pub returns : goal.returns
returns c =
    ap
    (λ range. record slowest { partition = record slowest.partition { partition_range = range } })
    (c.new.ensures refl)
