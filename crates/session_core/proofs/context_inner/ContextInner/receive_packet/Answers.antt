use Rattle.session_core.specs.declared.call.Call.TheVariants.{Receive}
use Rattle.session_core.specs.Contexts.{GivesReceived}
use Rattle.session_core.proofs.Calling.{call-gives, received-reply}
use Rattle.session_core.proofs.context_inner.ContextInner.receive_packet.Goals as goal

pub returns : goal.returns
returns g c = record {
  call = call-gives GivesReceived Receive c.args.self.now c.call.new.self _ _ c.call.result c.received.result c.received.ensures.reply c.received.ensures.err c.call.ensures.call;
  bytes = c.call.ensures.bytes;
}

pub received-requires : goal.received-requires
received-requires g c = received-reply c.args.self.now c.call.new.self _ _ c.call.result c.call.ensures.call
