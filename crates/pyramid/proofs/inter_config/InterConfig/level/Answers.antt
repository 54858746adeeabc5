use Rattle.std.proofs.Common.{ap, ◌∙◌}
use Rattle.pyramid.specs.Levels.{level_of}
use Rattle.pyramid.proofs.DepthFacts.{shallow, level_is}
use Rattle.pyramid.proofs.inter_config.InterConfig.level.Goals as goal

pub returns-clause-value : goal.returns-clause-value
returns-clause-value c =
    let depth = c.self.inside.depth in
    c.from.ensures
    ∙ level_is depth c.args.position c.min.result (shallow depth c.self.invariant) c.min.ensures
    ∙ ap (λ n. level_of n.depth c.args.position) c.self.view_is
