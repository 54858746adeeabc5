use Rattle.std.proofs.Common.{Some, ap, ◌∙◌}
use Rattle.session_channels.specs.Channels.{is_both_passes}
use Rattle.session_channels.proofs.Making.{both_passes, never_refused, refused_of}
use Rattle.session_channels.proofs.new_channel.NewChannel.new_multipass_channel.Goals as goal

pub returns-in_err-data_in-clause-refused : goal.returns-in_err-data_in-clause-refused
returns-in_err-data_in-clause-refused g c = never_refused c.channel_session.result c.in_ok-inner.inner _ _ c.in_ok-inner.was
    (refused_of is_both_passes c.channel_session.result c.fits_both_passes-fits.result g.T.Pixel.BITS c.args.levels.now c.settings-config.result.now _ c.fits_both_passes-fits.ensures c.settings-config.ensures c.channel_session.ensures.refused)

pub returns-in_err-data_out-clause-refused : goal.returns-in_err-data_out-clause-refused
returns-in_err-data_out-clause-refused g c = never_refused c.channel_session.result c.in_ok-inner.inner _ _ c.in_ok-inner.was
    (refused_of is_both_passes c.channel_session.result c.fits_both_passes-fits.result g.T.Pixel.BITS c.args.levels.now c.settings-config.result.now _ c.fits_both_passes-fits.ensures c.settings-config.ensures c.channel_session.ensures.refused)

pub video_channel-requires-clause-pass_in : goal.video_channel-requires-clause-pass_in
video_channel-requires-clause-pass_in g c = ap Some c.in_ok-data_in.ensures.second ∙ (both_passes c.settings-config.result.now.rate_control c.fits_both_passes-fits.result c.in_ok-inner.ensures.fits c.fits_both_passes-fits.ensures).0

pub video_channel-requires-clause-pass_out : goal.video_channel-requires-clause-pass_out
video_channel-requires-clause-pass_out g c = ap Some c.in_ok-data_out.ensures.second ∙ (both_passes c.settings-config.result.now.rate_control c.fits_both_passes-fits.result c.in_ok-inner.ensures.fits c.fits_both_passes-fits.ensures).1

pub returns-in_err-video-clause-refused : goal.returns-in_err-video-clause-refused
returns-in_err-video-clause-refused g c = never_refused c.channel_session.result c.in_ok-inner.inner _ _ c.in_ok-inner.was
    (refused_of is_both_passes c.channel_session.result c.fits_both_passes-fits.result g.T.Pixel.BITS c.args.levels.now c.settings-config.result.now _ c.fits_both_passes-fits.ensures c.settings-config.ensures c.channel_session.ensures.refused)

pub returns-clause-refused : goal.returns-clause-refused
returns-clause-refused g c = never_refused c.channel_session.result c.in_ok-inner.inner _ _ c.in_ok-inner.was
    (refused_of is_both_passes c.channel_session.result c.fits_both_passes-fits.result g.T.Pixel.BITS c.args.levels.now c.settings-config.result.now _ c.fits_both_passes-fits.ensures c.settings-config.ensures c.channel_session.ensures.refused)
