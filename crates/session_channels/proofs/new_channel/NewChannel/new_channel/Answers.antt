use Rattle.std.proofs.Common.{◌≡◌, IfOk, subst}
use Rattle.av1_settings.specs.declared.config.Config.{Config}
use Rattle.session_core.specs.Contexts.{Session}
use Rattle.session_channels.specs.Channels.{is_one_pass, new_worker, video_ends, worker_of}
use Rattle.session_channels.proofs.Making.{never_refused, ok_or_memory, one_pass, refused_of}
use Rattle.session_channels.proofs.new_channel.NewChannel.new_channel.Goals as goal

pub video_channel-requires-clause-pass_in : goal.video_channel-requires-clause-pass_in
video_channel-requires-clause-pass_in g c = (one_pass c.settings-config.result.now.rate_control c.fits_one_pass-fits.result c.in_ok-inner.ensures.fits c.fits_one_pass-fits.ensures).0

pub video_channel-requires-clause-pass_out : goal.video_channel-requires-clause-pass_out
video_channel-requires-clause-pass_out g c = (one_pass c.settings-config.result.now.rate_control c.fits_one_pass-fits.result c.in_ok-inner.ensures.fits c.fits_one_pass-fits.ensures).1

pub returns-clause-video : goal.returns-clause-video
returns-clause-video g c =
    subst (λ (config : Config). IfOk c.video_channel.result (λ made. made.0 ≡ video_ends config)) c.settings-config.ensures c.video_channel.ensures.video

pub returns-clause-worker : goal.returns-clause-worker
returns-clause-worker g c =
    subst (λ (config : Config). IfOk c.video_channel.result (λ made. made.1 ≡ new_worker config c.args.tables.now c.args.detector c.args.scales c.args.coder)) c.settings-config.ensures
    (subst (λ (session : Session g.row.T.Denot g.row.O.Denot g.row.D.Denot g.row.S.Denot g.row.C.Denot). IfOk c.video_channel.result (λ made. made.1 ≡ worker_of session c.settings-config.result.now)) c.in_ok-inner.ensures.made
    c.video_channel.ensures.worker)

pub returns-clause-refused : goal.returns-clause-refused
returns-clause-refused g c = never_refused c.channel_session.result c.in_ok-inner.inner c.video_channel.result _ c.in_ok-inner.was
    (refused_of is_one_pass c.channel_session.result c.fits_one_pass-fits.result g.T.Pixel.BITS c.args.levels.now c.settings-config.result.now _ c.fits_one_pass-fits.ensures c.settings-config.ensures c.channel_session.ensures.refused)

pub returns-clause-complete : goal.returns-clause-complete
returns-clause-complete g c = λ _. ok_or_memory c.video_channel.result c.video_channel.ensures.memory
