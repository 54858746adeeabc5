use Rattle.session_channels.proofs.worker.course.Goals as goal

pub returns-in-Some-pass_out : goal.returns-in-Some-pass_out
returns-in-Some-pass_out g c = rw (c.in-Some.is, c.in-Some-pass_out.is) c.drive.ensures

pub returns-in-None-pass_out : goal.returns-in-None-pass_out
returns-in-None-pass_out g c = rw (c.in-Some.is, c.in-None-pass_out.is) c.drive-in-None-pass_out.ensures

pub returns-in-Some-pass_out-2 : goal.returns-in-Some-pass_out-2
returns-in-Some-pass_out-2 g c = rw (c.in-None.is, c.in-Some-pass_out-2.is) c.drive-in-Some-pass_out-2.ensures

pub returns-in-None-pass_out-2 : goal.returns-in-None-pass_out-2
returns-in-None-pass_out-2 g c = rw (c.in-None.is, c.in-None-pass_out-2.is) c.drive-in-None-pass_out-2.ensures
