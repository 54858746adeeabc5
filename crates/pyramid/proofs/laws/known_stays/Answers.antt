use Rattle.pyramid.proofs.PublicLaws.{known_stays, known_begins_later_plans}
use Rattle.pyramid.proofs.laws.known_stays.Goals as goal

pub returns-clause-known : goal.returns-clause-known
returns-clause-known c = known_stays

pub returns-clause-planned : goal.returns-clause-planned
returns-clause-planned c = known_begins_later_plans
