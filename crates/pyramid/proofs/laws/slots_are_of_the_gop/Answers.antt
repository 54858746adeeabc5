use Rattle.pyramid.proofs.PublicLaws.{slots_are_of_the_gop}
use Rattle.pyramid.proofs.laws.slots_are_of_the_gop.Goals as goal

pub returns : goal.returns
returns c = slots_are_of_the_gop
