use Rattle.std.proofs.Common.{true, subst}
use Rattle.session_channels.specs.Channels.{Work}
use Rattle.session_channels.specs.Working.{IsRun}
use Rattle.session_channels.proofs.worker.Worker.run.Goals as goal

pub returns-clause-course : goal.returns-clause-course
returns-clause-course g c =
    let after : Work g.row.T.Denot g.row.O.Denot g.row.D.Denot g.row.S.Denot g.row.C.Denot = record {
      session = c.course.new.inner;
      frames = c.course.new.frames;
      packets = c.course.new.packets;
      pass_in = c.course.new.pass_in;
      pass_out = c.course.new.pass_out;
      has_run = true;
    } in
    subst (λ (before : Work g.row.T.Denot g.row.O.Denot g.row.D.Denot g.row.S.Denot g.row.C.Denot).
    IsRun (record { coder = g.C.FrameCoder.told; detector = g.D.Detector.told; scales = g.S.MeanScale.told }) before after c.course.result)
    c.self.view_is c.course.ensures
