use Rattle.session_channels.proofs.LawsBegun.{new-paid, new-well}
use Rattle.session_channels.proofs.LawsEnds.{run-faults, run-finishes}
use Rattle.session_channels.proofs.driving.run.Goals as goal

pub code_all-requires-clause-well : goal.code_all-requires-clause-well
code_all-requires-clause-well g c κs within = new-well c.args.inner.now c.requires.fresh.0 c.args.handing c.requires.fresh.1

pub code_all-requires-clause-paid : goal.code_all-requires-clause-paid
code_all-requires-clause-paid g c κs within = new-paid c.args.inner.now c.requires.fresh.0 c.args.handing c.requires.fresh.1

pub returns-in-Ok : goal.returns-in-Ok
returns-in-Ok g c =
    run-finishes (record { coder = g.C.FrameCoder.told; detector = g.D.Detector.told; scales = g.S.MeanScale.told }) c.args.handing
    g.F.Take.contents g.F.Take.queue g.P.Put.contents g.P.Put.queue g.I.Take.contents g.I.Take.queue g.U.Put.contents g.U.Put.queue
    c.args.frames.now c.code_all.new.frames c.args.packets.now c.code_all.new.packets c.args.pass_in.now c.code_all.new.pass_in c.args.pass_out.now c.code_all.new.pass_out
    c.args.inner.now c.code_all.new.inner
    c.requires.fresh.0 c.requires.fresh.1 c.close.new.self c.close-in-Ok.new.self
    c.close.ensures.kept c.close.ensures.closed c.close-in-Ok.ensures.kept c.close-in-Ok.ensures.closed
    c.in-Ok.ensures.ended c.in-Ok.ensures.drove

pub returns-in-Err : goal.returns-in-Err
returns-in-Err g c =
    run-faults (record { coder = g.C.FrameCoder.told; detector = g.D.Detector.told; scales = g.S.MeanScale.told }) c.args.handing
    g.F.Take.contents g.F.Take.queue g.P.Put.contents g.P.Put.queue g.I.Take.contents g.I.Take.queue g.U.Put.contents g.U.Put.queue
    c.args.frames.now c.code_all.new.frames c.args.packets.now c.code_all.new.packets c.args.pass_in.now c.code_all.new.pass_in c.args.pass_out.now c.code_all.new.pass_out
    c.args.inner.now c.code_all.new.inner
    c.in-Err.fault c.put.result c.put.new.queue c.close-in-Err.new.self c.close-in-Err-2.new.self
    (c.put.ensures.put, c.put.ensures.refused)
    c.close-in-Err.ensures.kept c.close-in-Err.ensures.closed c.close-in-Err-2.ensures.kept c.close-in-Err-2.ensures.closed
    c.in-Err.ensures.drove
