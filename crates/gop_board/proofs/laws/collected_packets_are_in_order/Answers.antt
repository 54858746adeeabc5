use Rattle.gop_board.proofs.PacketOrder.{packets_in_order}
use Rattle.gop_board.proofs.laws.collected_packets_are_in_order.Goals as goal

pub returns : goal.returns
returns g c = packets_in_order g.N.Run.jobs g.N.Run.belongs
