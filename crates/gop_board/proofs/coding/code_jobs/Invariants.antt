use Rattle.std.proofs.Common.{length}
use Rattle.gop_board.specs.Workers.{IsResultOf}
use Rattle.gop_board.proofs.coding.code_jobs.Given as goal

-- as many jobs as there are, and to each belong the results of its sessions
abbrev pub ghosts-gather_jobs : goal.ghosts-gather_jobs
ghosts-gather_jobs g a = record {
  jobs = length a.jobs.now;
  belongs = IsResultOf a.cfg.now.enc a.tables.now (g.M.MakeSession.told a.maker.now) g.M.Coder.FrameCoder.told a.jobs.now;
}
