use Rattle.std.proofs.Common.{refl}
use Rattle.gop_board.proofs.Encodes.{least-of, whole-of}
use Rattle.gop_board.proofs.encode.encode_jobs.Goals as goal

pub returns-in-None-clause-joins : goal.returns-in-None-clause-joins
returns-in-None-clause-joins g c =
    whole-of c.args.cfg.now.enc c.args.tables.now (g.M.MakeSession.told c.args.maker.now) g.M.Coder.FrameCoder.told c.args.jobs.now
    _ c.in-Ok.ensures _ refl c.in-None.is

pub returns-in-Some-clause-error : goal.returns-in-Some-clause-error
returns-in-Some-clause-error g c =
    least-of c.args.cfg.now.enc c.args.tables.now (g.M.MakeSession.told c.args.maker.now) g.M.Coder.FrameCoder.told c.args.jobs.now
    _ c.in-Ok.ensures c.in-Some.fault c.in-Some.is
