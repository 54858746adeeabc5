use Rattle.std.proofs.Common.{◌≡◌, ◌++◌}
use Rattle.session_core.specs.Told.{Heard, heard}
use Rattle.session_core.proofs.PassLoop.{PassCarried}
use Rattle.session_core.proofs.pass_session.run_pass_session.Given as goal

-- what those outside tell
abbrev pub outside : (g : goal.Over) → g.row.C.Denot → g.row.D.Denot → g.row.S.Denot → Heard g.row.T.Denot
outside g coder detector scales = heard (g.C.FrameCoder.told coder) (g.D.Detector.told detector) (g.S.MeanScale.told scales)

abbrev pub invariant-loop-call : goal.invariant-loop-call
invariant-loop-call g l =
    (goal.iterator-loop-call g).can_next l.call-iterator
    × (goal.iterator-loop-call g).is_finite l.call-iterator
    × PassCarried l.cfg.enc l.tables l.cfg.rate_control l.yielded l.turns.items l.state (outside g l.fn.coder l.fn.detector l.fn.scales) (outside g l.coder l.detector l.scales)
    × (l.yielded ++ l.call-iterator.rest.items ≡ l.fn.calls.items)
