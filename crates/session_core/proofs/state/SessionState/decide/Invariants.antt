use Rattle.std.proofs.Common.{◌≡◌, ◌+◌, length}
use Rattle.session_core.specs.States.{Decided}
use Rattle.session_core.specs.Told.{IsDetectorLater}
use Rattle.session_core.proofs.state.SessionState.decide.Given as goal

-- the positions before this one are decided
abbrev pub invariant-loop-position : goal.invariant-loop-position
invariant-loop-position g l =
    Decided l.mode l.fn.self l.self (g.D.Detector.told l.fn.detector).questions (g.D.Detector.told l.detector).questions (g.D.Detector.told l.fn.detector).answers
    (length l.self.decisions.items)
    × (l.position ≡ length l.self.decisions.items + 1)
    × IsDetectorLater (g.D.Detector.told l.fn.detector) (g.D.Detector.told l.detector)
    × (l.self.rate ≡ l.fn.self.rate)
