use Rattle.gop_board.specs.Workers.{IsResultOf}
use Rattle.gop_board.proofs.Filling.{IsWorking}
use Rattle.gop_board.proofs.worker.work.Given as goal

-- the pass was given numbers, and their entries are set
abbrev pub invariant-loop : goal.invariant-loop
invariant-loop g l = IsWorking
    (IsResultOf l.cfg.enc l.tables (g.M.MakeSession.told l.maker) g.M.Coder.FrameCoder.told l.jobs)
    l.initial.pass l.pass (g.B.Deposits.told l.initial.board) (g.B.Deposits.told l.board)
