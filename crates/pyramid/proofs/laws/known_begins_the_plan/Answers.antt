use Rattle.pyramid.proofs.PublicLaws.{units_make_the_plan, known_begins_the_plan}
use Rattle.pyramid.proofs.laws.known_begins_the_plan.Goals as goal

pub returns-clause-units : goal.returns-clause-units
returns-clause-units c = units_make_the_plan

pub returns-clause-known : goal.returns-clause-known
returns-clause-known c = known_begins_the_plan
