use Rattle.pyramid.proofs.PublicLaws.{gop_is_moved, plan_is_moved}
use Rattle.pyramid.proofs.laws.plan_is_closed_over_gops.Goals as goal

pub returns-clause-gop : goal.returns-clause-gop
returns-clause-gop c = gop_is_moved

pub returns-clause-plan : goal.returns-clause-plan
returns-clause-plan c = plan_is_moved
