use Rattle.session_channels.specs.Wells.{left_of}
use Rattle.session_channels.proofs.Parts.{IsCoded}
use Rattle.session_channels.proofs.coding.code_known.Given as goal

abbrev pub invariant-loop-inner : goal.invariant-loop-inner
invariant-loop-inner g l =
    IsCoded g.P.Put.contents g.P.Put.queue g.I.Take.contents g.I.Take.queue g.U.Put.contents g.U.Put.queue
    (record { coder = g.C.FrameCoder.told; detector = g.D.Detector.told; scales = g.S.MeanScale.told }) l.handing
    l.fn.packets l.packets l.fn.pass_in l.pass_in l.fn.pass_out l.pass_out l.fn.inner l.inner l.count

abbrev pub decreases-loop-inner : goal.decreases-loop-inner
decreases-loop-inner g l = left_of l.inner
