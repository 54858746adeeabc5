use Rattle.std.proofs.Common.{map}
use Rattle.gop_board.proofs.Splitting.{IsSplitTo}
use Rattle.gop_board.proofs.split.split_gops.Given as goal

-- the frames before this position are split
abbrev pub invariant-loop-position : goal.invariant-loop-position
invariant-loop-position g l =
    IsSplitTo l.cfg.enc (map (λ frame. frame.value) l.frames.items) l.ended.items l.last l.position
    (g.D.Detector.told l.fn.detector) (g.D.Detector.told l.detector)
