use Rattle.std.proofs.Common.{ap, ◌∙◌}
use Rattle.av1_settings.specs.Checks.{pixel_refusal}
use Rattle.session_core.proofs.context.NewContext.new_context.Goals as goal

pub returns-clause-refused : goal.returns-clause-refused
returns-clause-refused g c = λ v is. let e = c.new.ensures.refused v (ap (pixel_refusal g.T.Pixel.BITS c.args.levels.now) c.settings.ensures ∙ is) in let w = c.in_ok-inner.was in absurd (cc)
