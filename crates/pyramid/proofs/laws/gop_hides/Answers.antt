use Rattle.pyramid.proofs.PublicLaws.{gop_hides}
use Rattle.pyramid.proofs.laws.gop_hides.Goals as goal

pub returns : goal.returns
returns c = gop_hides
