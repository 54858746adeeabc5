use Rattle.std.proofs.Common.{◌≡◌}
use Rattle.gop_board.specs.Workers.{IsResultOf}
use Rattle.gop_board.proofs.Gathers.{IsGathering}
use Rattle.gop_board.proofs.coding.gather.Given as goal

-- the results of the jobs so far are gathered, and collected
abbrev pub invariant-loop-number : goal.invariant-loop-number
invariant-loop-number g l =
    IsGathering (IsResultOf l.cfg.enc l.tables (g.M.MakeSession.told l.maker) g.M.Coder.FrameCoder.told l.jobs) l.number l.gathered
    × (l.board.collected ≡ l.number)
