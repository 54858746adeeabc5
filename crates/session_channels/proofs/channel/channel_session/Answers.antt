use Rattle.session_channels.proofs.Making.{made_new}
use Rattle.session_channels.proofs.channel.channel_session.Goals as goal

pub returns-clause-new : goal.returns-clause-new
returns-clause-new g c = made_new g.T.Pixel.BITS c.args.levels.now c.args.config.now _ _ _ _ _ c.new.ensures.made c.new.ensures.refused c.has_five_counts.ensures
