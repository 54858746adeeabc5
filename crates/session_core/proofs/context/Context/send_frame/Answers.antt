use Rattle.std.proofs.Common.{Option, subst, subst₂}
use Rattle.av1_frame.specs.declared.frame.Frame.{Frame}
use Rattle.session_core.specs.declared.call.FrameParameters.{FrameParameters}
use Rattle.session_core.specs.Contexts.{Session, IsSend}
use Rattle.session_core.specs.Told.{heard}
use Rattle.session_core.proofs.context.Context.send_frame.Goals as goal

pub returns-in-Ok : goal.returns-in-Ok
returns-in-Ok g c =
    let Sends : Option (Frame g.row.T.Denot) → Option (FrameParameters g.row.O.Denot) → Session g.row.T.Denot g.row.O.Denot g.row.D.Denot g.row.S.Denot g.row.C.Denot → Type 0 =
    λ picture parameters before. IsSend picture parameters before c.send_frame.new.self
    (heard (g.C.FrameCoder.told before.coder) (g.D.Detector.told before.detector) (g.S.MeanScale.told before.scales))
    (heard (g.C.FrameCoder.told c.send_frame.new.self.coder) (g.D.Detector.told c.send_frame.new.self.detector) (g.S.MeanScale.told c.send_frame.new.self.scales)) c.send_frame.result in
    record {
      call = subst₂ (λ picture parameters. Sends picture parameters c.args.self.now) c.in-Ok.ensures.frame c.in-Ok.ensures.parameters
          (subst (Sends _ _) c.self.view_is c.send_frame.ensures.call);
    }
