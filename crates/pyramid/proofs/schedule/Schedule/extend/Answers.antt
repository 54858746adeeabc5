use Rattle.std.proofs.Common.{false}
use Rattle.pyramid.proofs.ScheduleSteps.{grown-is}
use Rattle.pyramid.proofs.schedule.Schedule.extend.Goals as goal

pub returns : goal.returns
returns c =
    let e = c.in_ok-build.ensures in
    record { extended = grown-is c.args.frames false c.args.self.now c.build.new.self e.cfg e.interval e.built e.keys e.ended }
