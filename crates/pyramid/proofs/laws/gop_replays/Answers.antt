use Rattle.pyramid.proofs.PublicLaws.{gop_replays}
use Rattle.pyramid.proofs.laws.gop_replays.Goals as goal

pub returns : goal.returns
returns c = gop_replays
