use Rattle.session_channels.specs.Wells.{room_of}
use Rattle.session_channels.proofs.Feeding.{IsFed}
use Rattle.session_channels.proofs.coding.feed.Given as goal

abbrev pub invariant-loop-pass_in : goal.invariant-loop-pass_in
invariant-loop-pass_in g l =
    IsFed g.I.Take.contents g.I.Take.queue
    (record { coder = g.C.FrameCoder.told; detector = g.D.Detector.told; scales = g.S.MeanScale.told }) l.handing
    l.coded l.fn.pass_in l.pass_in l.fn.inner l.inner

abbrev pub decreases-loop-pass_in : goal.decreases-loop-pass_in
decreases-loop-pass_in g l = room_of l.inner
