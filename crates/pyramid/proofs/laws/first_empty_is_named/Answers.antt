use Rattle.pyramid.proofs.PublicLaws.{first_empty_is_named, first_refused_is_first}
use Rattle.pyramid.proofs.laws.first_empty_is_named.Goals as goal

pub returns-clause-slot : goal.returns-clause-slot
returns-clause-slot c = first_empty_is_named

pub returns-clause-command : goal.returns-clause-command
returns-clause-command c = first_refused_is_first
