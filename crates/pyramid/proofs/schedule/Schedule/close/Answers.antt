use Rattle.std.proofs.Common.{true}
use Rattle.pyramid.proofs.ScheduleSteps.{grown-is, again-is}
use Rattle.pyramid.proofs.schedule.Schedule.close.Goals as goal

pub returns : goal.returns
returns c =
    let e = c.in_ok-build.ensures in
    let old = c.args.self.now in
    let new = c.build.new.self in
    record {
      closed = grown-is c.args.frames true old new e.cfg e.interval e.built e.keys e.ended;
      again = again-is c.args.frames old new e.cfg e.interval e.built e.keys e.ended;
    }
