use Rattle.std.proofs.Common.{Err, ap, refl}
use Rattle.session_core.specs.Told.{heard}
use Rattle.gop_board.specs.JobSessions.{finds_nothing}
use Rattle.gop_board.proofs.job_session.run_job.Goals as goal

pub returns-in-Err-CoderFault : goal.returns-in-Err-CoderFault
returns-in-Err-CoderFault g c = record {
  before = heard (g.M.Coder.FrameCoder.told c.in-Ok.coder) finds_nothing (g.M.Scales.MeanScale.told c.in-Ok.scales);
  after = heard (g.M.Coder.FrameCoder.told c.job_packets.new.coder) finds_nothing (g.M.Scales.MeanScale.told c.job_packets.new.scales);
  fresh = record { coder = c.in-Ok.ensures.coder; scales = c.in-Ok.ensures.scales; detector = refl };
  session = c.in-Err-CoderFault.ensures.fault c.in-Err-CoderFault.command (ap Err c.in-Err-CoderFault.field-0-is);
  left = refl;
}
