use Rattle.pyramid.proofs.PublicLaws.{held_is_coded}
use Rattle.pyramid.proofs.laws.held_is_coded.Goals as goal

pub returns : goal.returns
returns c = held_is_coded
