use Rattle.std.proofs.Common.{◌≡◌, map, take}
use Rattle.scripted.proofs.detector.shared.Given as goal

-- the frames so far
abbrev pub invariant-loop-frame : goal.invariant-loop-frame
invariant-loop-frame l =
    map (λ frame. frame.value) l.copy.items ≡ map (λ frame. frame.value) (take l.frame-index l.frames)
