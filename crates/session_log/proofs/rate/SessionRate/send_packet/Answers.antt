use Rattle.session_log.proofs.Passing.{packet_given}
use Rattle.session_log.proofs.rate.SessionRate.send_packet.Goals as goal

pub returns-clause-keeps : goal.returns-clause-keeps
returns-clause-keeps c = λ enc tables passes log keeps.
    packet_given enc tables passes log c.args.self.now c.take_packet.new.self c.args.bytes.now keeps c.take_packet.ensures.0
