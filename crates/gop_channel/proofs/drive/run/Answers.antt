use Rattle.gop_channel.proofs.Accepting.{all-fit, few-enough}
use Rattle.gop_channel.proofs.Ending.{ended-so, out-behind-so, out-so}
use Rattle.gop_channel.proofs.Messaging.{puts-none}
use Rattle.gop_channel.proofs.drive.run.Goals as goal

pub returns-in_default-clause-drives : goal.returns-in_default-clause-drives
returns-in_default-clause-drives g c =
    out-so _ _ _ _ _ _ _ c.in_default.ensures.lacked.1 c.by.result
    (puts-none g.P.Put.contents g.P.Put.queue c.args.packets.now) c.by.ensures

pub code_frames-gathered-requires-clause-fit : goal.code_frames-gathered-requires-clause-fit
code_frames-gathered-requires-clause-fit g c κs within =
    all-fit c.args.cfg.now.enc c.in-Ok.taken.frames.items c.in-Ok.ensures.took.are_accepted

pub code_frames-gathered-requires-clause-few : goal.code_frames-gathered-requires-clause-few
code_frames-gathered-requires-clause-few g c κs within =
    few-enough c.args.cfg.now.enc c.in-Ok.taken.frames.items c.in-Ok.ensures.took.are_accepted

pub returns-in_default-gathered-clause-drives : goal.returns-in_default-gathered-clause-drives
returns-in_default-gathered-clause-drives g c =
    out-so _ _ _ _ _ _ _ c.in-Ok.ensures.took c.by-in_default-gathered.result
    (puts-none g.P.Put.contents g.P.Put.queue c.args.packets.now) c.by-in_default-gathered.ensures

pub returns-in-Ok-put_packets-clause-drives : goal.returns-in-Ok-put_packets-clause-drives
returns-in-Ok-put_packets-clause-drives g c =
    ended-so _ _ _ _ _ _ _ c.in-Ok.ensures.took c.end_of.result c.in-Ok-gathered.field-0 c.in-Ok-gathered.ensures.coded
    c.in-Ok.ensures.ended c.in-Ok-put_packets.all c.in-Ok-put_packets.ensures.put c.end_of.ensures

pub returns-in-Err-clause-drives : goal.returns-in-Err-clause-drives
returns-in-Err-clause-drives g c =
    out-behind-so _ _ _ _ _ _ _ c.in-Ok.ensures.took c.by-in-Err.result c.in-Ok-gathered.field-0 c.in-Ok-gathered.ensures.coded
    c.in-Err.ensures.lacked c.by-in-Err.ensures
