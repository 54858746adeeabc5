use Rattle.pyramid.proofs.PublicLaws.{subtypes_follow_levels}
use Rattle.pyramid.proofs.laws.subtypes_follow_levels.Goals as goal

pub returns : goal.returns
returns c = subtypes_follow_levels
