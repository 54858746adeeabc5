-- A frame that is needed is sent.
use Rattle.session_channels.proofs.Sent.{send-out, send-refused, send-went, sent-fewer, sent-flushed, sent-paid, sent-well}
use Rattle.session_channels.proofs.driving.send.Goals as goal

pub returns-in-Ok-clause-drove : goal.returns-in-Ok-clause-drove
returns-in-Ok-clause-drove g c =
    send-went (record { coder = g.C.FrameCoder.told; detector = g.D.Detector.told; scales = g.S.MeanScale.told }) c.args.handing c.args.message
    c.args.inner.now c.send_frame.new.self c.requires.wanting c.in-Ok.ensures.call

pub returns-in-Ok-clause-well : goal.returns-in-Ok-clause-well
returns-in-Ok-clause-well g c =
    sent-well _ _ _ _ _ _ c.args.handing c.args.coded c.requires.well c.in-Ok.ensures.call

pub returns-in-Ok-clause-paid : goal.returns-in-Ok-clause-paid
returns-in-Ok-clause-paid g c =
    sent-paid _ _ _ _ _ _ c.args.handing c.requires.paid c.in-Ok.ensures.call

pub returns-in-Ok-clause-flushed : goal.returns-in-Ok-clause-flushed
returns-in-Ok-clause-flushed g c = sent-flushed _ _ _ _ _ _ c.in-Ok.ensures.call

pub returns-in-Ok-clause-smaller : goal.returns-in-Ok-clause-smaller
returns-in-Ok-clause-smaller g c = sent-fewer _ _ _ _ _ _ c.requires.well.within c.in-Ok.ensures.call

pub returns-in-OutOfMemory-clause-drove : goal.returns-in-OutOfMemory-clause-drove
returns-in-OutOfMemory-clause-drove g c =
    send-out (record { coder = g.C.FrameCoder.told; detector = g.D.Detector.told; scales = g.S.MeanScale.told }) c.args.handing c.args.message
    c.args.inner.now c.send_frame.new.self c.requires.wanting

pub returns-in_default : goal.returns-in_default
returns-in_default g c = record {
  drove = send-refused (record { coder = g.C.FrameCoder.told; detector = g.D.Detector.told; scales = g.S.MeanScale.told }) c.args.handing c.args.message
      c.args.inner.now c.send_frame.new.self c.requires.wanting c.in-Err.status c.requires.well.unfailed c.in_default.not-OutOfMemory c.in-Err.ensures.call;
  well = tt;
  paid = tt;
  flushed = tt;
  smaller = tt;
}
