use Rattle.pyramid.proofs.inter_config.InterConfig.new.Goals as goal

pub invariant_of-result : goal.invariant_of-result
invariant_of-result c = c.depth.ensures.table
