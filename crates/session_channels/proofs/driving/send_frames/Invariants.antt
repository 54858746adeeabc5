use Rattle.session_channels.specs.Wells.{frames_left}
use Rattle.session_channels.proofs.Parts.{IsSending}
use Rattle.session_channels.proofs.driving.send_frames.Given as goal

abbrev pub invariant-loop-message : goal.invariant-loop-message
invariant-loop-message g l =
    IsSending g.F.Take.contents g.F.Take.queue g.P.Put.contents g.P.Put.queue g.I.Take.contents g.I.Take.queue g.U.Put.contents g.U.Put.queue
    (record { coder = g.C.FrameCoder.told; detector = g.D.Detector.told; scales = g.S.MeanScale.told }) l.handing
    l.fn.frames l.frames l.fn.packets l.packets l.fn.pass_in l.pass_in l.fn.pass_out l.pass_out l.fn.inner l.inner l.count

abbrev pub decreases-loop-message : goal.decreases-loop-message
decreases-loop-message g l = frames_left l.inner
