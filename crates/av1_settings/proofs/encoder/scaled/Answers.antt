use Rattle.std.proofs.Common.{◌*◌, ◌^◌, ◌-◌, min, ap, ◌∙◌}
use Rattle.av1_settings.proofs.RenderLemmas.{rounded_by_half}
use Rattle.av1_settings.specs.Render.{scaled}
use Rattle.av1_settings.proofs.encoder.scaled.Goals as goal

pub returns : goal.returns
unfolding scaled
returns c =
    c.min.ensures
    ∙ ap (λ n. min n (2 ^ 64 - 1)) (rounded_by_half (c.args.len * c.args.num) c.args.den)
