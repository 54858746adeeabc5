use Rattle.std.proofs.Common.{rules}
use Rattle.session_channels.proofs.Making.{ready}
use Rattle.session_channels.proofs.channel.video_channel.Goals as goal

pub new-worker-requires : goal.new-worker-requires
new-worker-requires g c = rw (c.requires.pass_in, c.requires.pass_out) (ready _ _ c.args.config.now.rate_control c.requires.new (search rules))
