use Rattle.std.proofs.Common.{◌≡◌, rules, to_z, of_z, w32}
use Rattle.session_log.proofs.Logs.{kept_from}
use Rattle.session_log.proofs.rate.SessionRate.new.Goals as goal

pub returns : goal.returns
returns c =
    let bitrate_is : to_z w32 (of_z w32 c.args.enc.now.bitrate) ≡ c.args.enc.now.bitrate = search rules in
    kept_from c.args.enc.now c.args.tables.now c.start-state.result c.settings.result c.begin.result c.requires
    (rw bitrate_is at c.begin.ensures) c.start-state.ensures c.settings.ensures.value
