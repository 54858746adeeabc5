use Rattle.std.proofs.Common.{rules, to_z, of_z, w32, w64}
use Rattle.session_log.proofs.Logs.{begun_by}
use Rattle.session_log.proofs.rate.start.Goals as goal

pub returns : goal.returns
returns c =
    begun_by c.args.enc.now c.new.result (to_z w32 c.args.enc.now.width) (to_z w32 c.args.enc.now.height)
    (to_z w64 c.args.enc.now.time_base.den) (to_z w64 c.args.enc.now.time_base.num) (to_z w32 (of_z w32 c.args.enc.now.bitrate))
    (to_z w32 c.key_frame_interval.result) c.greatest_index.result c.new.ensures (search rules) (search rules) (search rules) (search rules)
    (search rules) (search rules) c.greatest_index.ensures
