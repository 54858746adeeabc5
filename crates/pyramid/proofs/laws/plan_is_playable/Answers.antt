use Rattle.pyramid.proofs.PublicLaws.{plan_is_playable}
use Rattle.pyramid.proofs.laws.plan_is_playable.Goals as goal

pub returns : goal.returns
returns c = plan_is_playable
