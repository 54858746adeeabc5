use Rattle.pyramid.proofs.PublicLaws.{references_name_positions}
use Rattle.pyramid.proofs.laws.references_name_positions.Goals as goal

pub returns : goal.returns
returns c = references_name_positions
