use Rattle.pyramid.proofs.PublicLaws.{guesses_reach_their_units}
use Rattle.pyramid.proofs.laws.guesses_reach_their_units.Goals as goal

pub returns : goal.returns
returns c = guesses_reach_their_units
