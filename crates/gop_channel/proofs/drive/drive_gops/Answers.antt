use Rattle.gop_channel.proofs.Ending.{drives-still}
use Rattle.gop_channel.proofs.Messaging.{closed-then, end-later, ends-behind}
use Rattle.gop_channel.proofs.drive.drive_gops.Goals as goal

pub returns-clause-drives : goal.returns-clause-drives
returns-clause-drives g c =
    drives-still _ _ _
    (λ said. closed-then (g.P.Put.queue c.args.packets.now) (g.P.Put.queue c.run-ended.new.packets) (g.P.Put.queue c.put_end.new.queue) said
    (end-later g.P.Put.contents g.P.Put.queue c.run-ended.new.packets c.put_end.new.queue c.run-ended.result _ c.put_end.ensures))
    _ _ _ _ c.run-ended.result
    (λ packets put. ends-behind g.P.Put.contents g.P.Put.queue c.args.packets.now c.run-ended.new.packets c.put_end.new.queue packets
    c.run-ended.result put c.put_end.ensures)
    c.run-ended.ensures.drives
