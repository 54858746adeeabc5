use Rattle.pyramid.proofs.PublicLaws.{show_commands_show_their_positions}
use Rattle.pyramid.proofs.laws.show_commands_show_their_positions.Goals as goal

pub returns : goal.returns
returns c = show_commands_show_their_positions
