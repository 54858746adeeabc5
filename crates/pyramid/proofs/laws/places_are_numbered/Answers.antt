use Rattle.pyramid.proofs.PublicLaws.{places_have_the_commands, places_follow_the_table}
use Rattle.pyramid.proofs.laws.places_are_numbered.Goals as goal

pub returns-clause-commands : goal.returns-clause-commands
returns-clause-commands c = places_have_the_commands

pub returns-clause-table : goal.returns-clause-table
returns-clause-table c = places_follow_the_table
