use Rattle.std.proofs.Common.{subst}
use Rattle.session_core.specs.declared.call.Call.TheVariants.{Receive}
use Rattle.session_core.specs.Contexts.{GivesReceived, IsCall, Session}
use Rattle.session_core.specs.Told.{heard}
use Rattle.session_core.proofs.context.Context.receive_packet.Goals as goal

pub returns : goal.returns
returns g c =
    let Calls : Session g.row.T.Denot g.row.O.Denot g.row.D.Denot g.row.S.Denot g.row.C.Denot → Type 0 = λ before.
    IsCall GivesReceived Receive before c.receive_packet.new.self
    (heard (g.C.FrameCoder.told before.coder) (g.D.Detector.told before.detector) (g.S.MeanScale.told before.scales))
    (heard (g.C.FrameCoder.told c.receive_packet.new.self.coder) (g.D.Detector.told c.receive_packet.new.self.detector) (g.S.MeanScale.told c.receive_packet.new.self.scales))
    c.receive_packet.result in
    record { call = subst Calls c.self.view_is c.receive_packet.ensures.call }
