use Rattle.pyramid.proofs.DepthFacts.{half_within}
use Rattle.pyramid.proofs.inter_config.InterConfig.refs_of.Goals as goal

pub overflow_sub-position : goal.overflow_sub-position
overflow_sub-position c =
    half_within c.args.self.now.depth c.args.level c.args.position c.half-half.result c.requires.level c.if-level-eq0.false c.half-half.ensures.value
