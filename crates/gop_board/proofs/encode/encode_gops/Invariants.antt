use Rattle.std.proofs.Common.{length}
use Rattle.gop_board.specs.Workers.{IsResultOf}
use Rattle.gop_board.proofs.encode.encode_gops.Given as goal

-- as many jobs as the frames are split into, and to each belong the results of its sessions
abbrev pub ghosts-encode_jobs : goal.ghosts-encode_jobs
ghosts-encode_jobs g a = record {
  jobs = length a.jobs.now;
  belongs = IsResultOf a.cfg.now.enc a.tables.now (g.M.MakeSession.told a.maker.now) g.M.Coder.FrameCoder.told a.jobs.now;
}
