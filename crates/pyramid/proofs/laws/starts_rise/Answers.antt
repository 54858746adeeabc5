use Rattle.pyramid.proofs.PublicLaws.{starts_rise}
use Rattle.pyramid.proofs.laws.starts_rise.Goals as goal

pub returns : goal.returns
returns c = starts_rise
