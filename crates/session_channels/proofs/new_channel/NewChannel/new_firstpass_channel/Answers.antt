use Rattle.std.proofs.Common.{Some, ap, ◌∙◌}
use Rattle.session_channels.specs.Channels.{is_first_pass}
use Rattle.session_channels.proofs.Making.{first_pass, never_refused, refused_of}
use Rattle.session_channels.proofs.new_channel.NewChannel.new_firstpass_channel.Goals as goal

pub returns-in_err-data-clause-refused : goal.returns-in_err-data-clause-refused
returns-in_err-data-clause-refused g c = never_refused c.channel_session.result c.in_ok-inner.inner _ _ c.in_ok-inner.was
    (refused_of is_first_pass c.channel_session.result c.fits_first_pass-fits.result g.T.Pixel.BITS c.args.levels.now c.settings-config.result.now _ c.fits_first_pass-fits.ensures c.settings-config.ensures c.channel_session.ensures.refused)

pub video_channel-requires-clause-pass_in : goal.video_channel-requires-clause-pass_in
video_channel-requires-clause-pass_in g c = (first_pass c.settings-config.result.now.rate_control c.fits_first_pass-fits.result c.in_ok-inner.ensures.fits c.fits_first_pass-fits.ensures).0

pub video_channel-requires-clause-pass_out : goal.video_channel-requires-clause-pass_out
video_channel-requires-clause-pass_out g c = ap Some c.in_ok-data.ensures.second ∙ (first_pass c.settings-config.result.now.rate_control c.fits_first_pass-fits.result c.in_ok-inner.ensures.fits c.fits_first_pass-fits.ensures).1

pub returns-in_err-video-clause-refused : goal.returns-in_err-video-clause-refused
returns-in_err-video-clause-refused g c = never_refused c.channel_session.result c.in_ok-inner.inner _ _ c.in_ok-inner.was
    (refused_of is_first_pass c.channel_session.result c.fits_first_pass-fits.result g.T.Pixel.BITS c.args.levels.now c.settings-config.result.now _ c.fits_first_pass-fits.ensures c.settings-config.ensures c.channel_session.ensures.refused)

pub returns-clause-refused : goal.returns-clause-refused
returns-clause-refused g c = never_refused c.channel_session.result c.in_ok-inner.inner _ _ c.in_ok-inner.was
    (refused_of is_first_pass c.channel_session.result c.fits_first_pass-fits.result g.T.Pixel.BITS c.args.levels.now c.settings-config.result.now _ c.fits_first_pass-fits.ensures c.settings-config.ensures c.channel_session.ensures.refused)
